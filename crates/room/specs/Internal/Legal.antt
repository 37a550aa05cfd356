-- That tickets rise can hold in one way alone.
use Rattle.std.specs.Prelude.{◌≡◌, ℕ, ◌+◌, ◌^◌, ◌<◌, ◌≤◌, List, [], ◌∷◌}
use mathlib.Core.Path.{ap}
use Rattle.std.specs.Coded.{×_prop, Unit-prop, le_prop}
use Rattle.room_model.specs.declared.call.Call.{Call}
use Rattle.room_model.specs.History.{AreRisingFrom}

-- there is one proof that a number is at most another
at_most-prop : (a b : ℕ) → IsProp (a ≤ b)
at_most-prop a b = le_prop

-- there is one proof that a number is below another
below-prop : (a b : ℕ) → IsProp (a < b)
below-prop a b = le_prop

-- there is one proof of three things of which each has one
three-prop : {A B C : Type 0} → IsProp A → IsProp B → IsProp C → (x y : A × B × C) → x ≡ y
three-prop {A} {B} {C} p q r x y =
    let both : (u v : A × (B × C)) → u ≡ v = ×_prop p (×_prop q r) in
    ap (λ (u : A × (B × C)). let w : A × B × C = (u.0, u.1.0, u.1.1) in w) (both (x.0, (x.1, x.2)) (y.0, (y.1, y.2)))

-- there is one proof that a history's tickets rise
pub AreRisingFrom-prop : (t : ℕ) (h : List (ℕ × Call)) → IsProp (AreRisingFrom t h)
AreRisingFrom-prop t [] = Unit-prop
AreRisingFrom-prop t (e ∷ es) = three-prop (at_most-prop t e.0) (below-prop e.0 (2 ^ 62)) (AreRisingFrom-prop (e.0 + 1) es)
