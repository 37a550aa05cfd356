-- The items of a list one after another, as a loop writes or tests them.
use Rattle.std.proofs.Common.{◌≡◌, ℕ, zero, suc, ◌+◌, ◌<◌, List, [], ◌∷◌, length, take, map, get_or, Bool, refl, ap, subst, add-one, arith}
use Rattle.std.specs.Prelude.{◌||◌}
use Rattle.std.specs.List.{AllByRecursion, list_any}

-- what holds of the items so far holds with one more
pub all_more : {A : Type 0} (P : A → Type 0) (xs : List A) (i : ℕ) (x : A) → i < length xs → AllByRecursion P (take i xs)
    → P (get_or xs i x) → AllByRecursion P (take (i + 1) xs)
all_more P [] i x h a k = absurd (omega arith)
all_more P (y ∷ xs) zero x h a k = (k, tt)
all_more P (y ∷ xs) (suc i) x h a k =
    rw add-one (a.0, subst (λ n. AllByRecursion P (take n xs)) (add-one i) (all_more P xs i x (omega arith) a.1 k))

-- a test of what each item is mapped to
pub list_any-map : {A B : Type 0} (test : B → Bool) (f : A → B) (xs : List A) → list_any test (map f xs) ≡ list_any (λ x. test (f x)) xs
list_any-map test f [] = refl
list_any-map test f (x ∷ xs) = ap (λ b. test (f x) || b) (list_any-map test f xs)
