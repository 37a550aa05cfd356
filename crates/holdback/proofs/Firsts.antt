-- What is taken out first is the first that is ready.
use Rattle.std.proofs.Common.{◌≡◌, ℕ, Bool, true, false, cond, Some, None, List, [], ◌∷◌, refl, ap, subst}
use Rattle.opid.specs.Clocks.{is_next}
use Rattle.opid.specs.Operations.{Operation}
use Rattle.opid.specs.Held.{first_ready, without_first_ready}
use Rattle.opid.specs.Held.{NoneReady, IsFirstReady}

pub first_ready-Some : (clock : List ℕ) (held : List Operation) (x : Operation) → first_ready clock held ≡ Some x
    → IsFirstReady clock held x (without_first_ready clock held)
first_ready-Some clock [] x h = cc
first_ready-Some clock (y ∷ held) x h = go (is_next y.site y.clock clock) refl h (first_ready-Some clock held x)
  where
    here : is_next y.site y.clock clock ≡ true → y ≡ x → IsFirstReady clock (y ∷ held) x held
    here e s = record {
      before = [];
      after = held;
      held_is = ap (λ (z : Operation). z ∷ held) s;
      passed = tt;
      ready = subst (λ (z : Operation). is_next z.site z.clock clock ≡ true) s e;
      others_are = refl;
    }

    further : is_next y.site y.clock clock ≡ false → IsFirstReady clock held x (without_first_ready clock held)
        → IsFirstReady clock (y ∷ held) x (y ∷ without_first_ready clock held)
    further e f = record {
      before = y ∷ f.before;
      after = f.after;
      held_is = ap (λ zs. y ∷ zs) f.held_is;
      passed = (e, f.passed);
      ready = f.ready;
      others_are = ap (λ zs. y ∷ zs) f.others_are;
    }

    go : (t : Bool) → is_next y.site y.clock clock ≡ t → cond t (Some y) (first_ready clock held) ≡ Some x
        → (first_ready clock held ≡ Some x → IsFirstReady clock held x (without_first_ready clock held))
        → IsFirstReady clock (y ∷ held) x (cond t held (y ∷ without_first_ready clock held))
    go true e s ih = here e (cc)
    go false e s ih = further e (ih s)

pub first_ready-None : (clock : List ℕ) (held : List Operation) → first_ready clock held ≡ None → NoneReady clock held
first_ready-None clock [] h = tt
first_ready-None clock (y ∷ held) h = go (is_next y.site y.clock clock) refl h (first_ready-None clock held)
  where
    go : (t : Bool) → is_next y.site y.clock clock ≡ t → cond t (Some y) (first_ready clock held) ≡ None
        → (first_ready clock held ≡ None → NoneReady clock held) → NoneReady clock (y ∷ held)
    go true e s ih = cc
    go false e s ih = (e, ih s)
