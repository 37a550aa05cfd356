-- The session of a number once one of the sessions joined, changed or left.
use Rattle.std.proofs.Common.{◌≡◌, ℕ, Bool, true, false, cond, Some, None, List, [], ◌∷◌, ◌++◌, refl, ap, sym, ◌∙◌, arith, nat_eq}
use Rattle.std.specs.Prelude.{option_map}
use Rattle.std.proofs.lemmas.Bool.{eqb-true, cond-true, cond-false}
use Rattle.std.proofs.lemmas.Bool.Decides.{nat_tests}
use Rattle.opid.specs.Sessions.{Session, session_with, change_session, without_session}

-- one that joined is no other session
pub joined-other : (s : ℕ) (w : Session) (ws : List Session) → nat_eq s w.number ≡ false → session_with s (ws ++ w ∷ []) ≡ session_with s ws
joined-other s w [] e = cond-false (nat_eq s w.number) (Some w) None e
joined-other s w (v ∷ ws) e = ap (cond (nat_eq s v.number) (Some v)) (joined-other s w ws e)

-- a change of one session is none of another
pub changed-other : (s t : ℕ) (f : Session → Session) (ws : List Session) → ((u : Session) → (f u).number ≡ u.number) → nat_eq s t ≡ false
    → session_with s (change_session t f ws) ≡ session_with s ws
changed-other s t f [] k e = refl
changed-other s t f (v ∷ ws) k e = by (nat_eq t v.number) refl (changed-other s t f ws k e)
  where
    by : (d : Bool) → nat_eq t v.number ≡ d → session_with s (change_session t f ws) ≡ session_with s ws
        → session_with s (cond d (f v ∷ ws) (v ∷ change_session t f ws)) ≡ cond (nat_eq s v.number) (Some v) (session_with s ws)
    by true q r =
        let same : t ≡ v.number = eqb-true t v.number q in
        let other : nat_eq s v.number ≡ false = ap (nat_eq s) (sym same) ∙ e in
        cond-false (nat_eq s (f v).number) _ _ (ap (nat_eq s) (k v) ∙ other) ∙ sym (cond-false (nat_eq s v.number) _ _ other)
    by false q r = ap (cond (nat_eq s v.number) (Some v)) r

-- one that left is no other session
pub without-other : (s t : ℕ) (ws : List Session) → nat_eq s t ≡ false → session_with s (without_session t ws) ≡ session_with s ws
without-other s t [] e = refl
without-other s t (v ∷ ws) e = by (nat_eq t v.number) refl (without-other s t ws e)
  where
    by : (d : Bool) → nat_eq t v.number ≡ d → session_with s (without_session t ws) ≡ session_with s ws
        → session_with s (cond d ws (v ∷ without_session t ws)) ≡ cond (nat_eq s v.number) (Some v) (session_with s ws)
    by true q r = let same : t ≡ v.number = eqb-true t v.number q in sym (cond-false (nat_eq s v.number) _ _ (ap (nat_eq s) (sym same) ∙ e))
    by false q r = ap (cond (nat_eq s v.number) (Some v)) r

-- two numbers are compared in either order
pub nat_eq-sym : (a b : ℕ) → nat_eq a b ≡ nat_eq b a
nat_eq-sym a b = grind (arith, nat_tests)

-- a change that keeps what each was sent
pub changed-sent : (s t : ℕ) (f : Session → Session) (ws : List Session) → ((u : Session) → (f u).number ≡ u.number)
    → ((u : Session) → (f u).sent ≡ u.sent)
    → option_map (λ u. u.sent) (session_with s (change_session t f ws)) ≡ option_map (λ u. u.sent) (session_with s ws)
changed-sent s t f [] k g = refl
changed-sent s t f (v ∷ ws) k g = by (nat_eq t v.number) (nat_eq s v.number) refl (changed-sent s t f ws k g)
  where
    by : (d b : Bool) → nat_eq s v.number ≡ b → option_map (λ u. u.sent) (session_with s (change_session t f ws))
        ≡ option_map (λ u. u.sent) (session_with s ws)
        → option_map (λ u. u.sent) (session_with s (cond d (f v ∷ ws) (v ∷ change_session t f ws)))
        ≡ option_map (λ u. u.sent) (cond b (Some v) (session_with s ws))
    by true true q r = ap (option_map (λ u. u.sent)) (cond-true (nat_eq s (f v).number) _ _ (ap (nat_eq s) (k v) ∙ q)) ∙ ap Some (g v)
    by true false q r = ap (option_map (λ u. u.sent)) (cond-false (nat_eq s (f v).number) _ _ (ap (nat_eq s) (k v) ∙ q))
    by false true q r = ap (option_map (λ u. u.sent)) (cond-true (nat_eq s v.number) _ _ q)
    by false false q r = ap (option_map (λ u. u.sent)) (cond-false (nat_eq s v.number) _ _ q) ∙ r
