-- What the calls of the map do to the sessions that its entries stand for.
use Rattle.std.proofs.Common.{◌≡◌, ℕ, ◌<◌, Bool, true, false, cond, Some, Option, List, [], ◌∷◌, ◌++◌, refl, ap, sym, ◌∙◌, arith, nat_eq}
use Rattle.std.proofs.Common.{is_some, None}
use Rattle.std.specs.Map.{lookup, set_value, remove_entry}
use Rattle.std.specs.Option.{option_map}
use Rattle.std.proofs.lemmas.Bool.{eqb-true}
use Rattle.indexmap.specs.IndexMap.{insert_entry}
use Rattle.session_outbox.specs.declared.facts.Facts.{Facts}
use Rattle.opid.specs.Sessions.{Session, HaveRisingNumbers, change_session, without_session, session_with}
use Rattle.session_outbox.specs.Internal.Kept.{session_of, sessions_of}
use Rattle.session_outbox.proofs.Numbered.{low_below, change_session-at}

pub found : (s : ℕ) (es : List (ℕ × Facts)) → option_map (λ w. session_of (s, w)) (lookup (nat_eq s) es) ≡ session_with s (sessions_of es)
found s [] = refl
found s (e ∷ es) = by (nat_eq s e.0) refl (found s es)
  where
    by : (b : Bool) → nat_eq s e.0 ≡ b → option_map (λ w. session_of (s, w)) (lookup (nat_eq s) es) ≡ session_with s (sessions_of es)
        → option_map (λ w. session_of (s, w)) (cond b (Some e.1) (lookup (nat_eq s) es))
        ≡ cond b (Some (session_of e)) (session_with s (sessions_of es))
    by true h r = ap (λ k. Some (session_of (k, e.1))) (eqb-true s e.0 h)
    by false h r = r

-- the session of a number whose entry is there
pub there : (s : ℕ) (w : Facts) (es : List (ℕ × Facts)) → Some w ≡ lookup (nat_eq s) es
    → session_with s (sessions_of es) ≡ Some (session_of (s, w))
there s w es is = sym (found s es) ∙ ap (option_map (λ (v : Facts). session_of (s, v))) (sym is)

-- no session has a number that has no entry
pub none_there : (s : ℕ) (es : List (ℕ × Facts)) → None ≡ lookup (nat_eq s) es → session_with s (sessions_of es) ≡ None
none_there s es is = sym (found s es) ∙ ap (option_map (λ (v : Facts). session_of (s, v))) (sym is)

replaced : (s : ℕ) (w : Facts) (es : List (ℕ × Facts)) → sessions_of (set_value (nat_eq s) es w)
    ≡ change_session s (λ _. session_of (s, w)) (sessions_of es)
replaced s w [] = refl
replaced s w (e ∷ es) = by (nat_eq s e.0) refl (replaced s w es)
  where
    by : (b : Bool) → nat_eq s e.0 ≡ b → sessions_of (set_value (nat_eq s) es w)
        ≡ change_session s (λ _. session_of (s, w)) (sessions_of es)
        → sessions_of (cond b ((e.0, w) ∷ es) (e ∷ set_value (nat_eq s) es w))
        ≡ cond b (session_of (s, w) ∷ sessions_of es) (session_of e ∷ change_session s (λ _. session_of (s, w)) (sessions_of es))
    by true h r = ap (λ k. session_of (k, w) ∷ sessions_of es) (sym (eqb-true s e.0 h))
    by false h r = ap (λ us. session_of e ∷ us) r

pub removed : (s : ℕ) (es : List (ℕ × Facts)) → sessions_of (remove_entry (nat_eq s) es) ≡ without_session s (sessions_of es)
removed s [] = refl
removed s (e ∷ es) = by (nat_eq s e.0) (removed s es)
  where
    by : (b : Bool) → sessions_of (remove_entry (nat_eq s) es) ≡ without_session s (sessions_of es)
        → sessions_of (cond b es (e ∷ remove_entry (nat_eq s) es))
        ≡ cond b (sessions_of es) (session_of e ∷ without_session s (sessions_of es))
    by true r = refl
    by false r = ap (λ us. session_of e ∷ us) r

-- a session is there where its number has an entry
pub is_found : (s : ℕ) (es : List (ℕ × Facts)) → is_some (lookup (nat_eq s) es) ≡ is_some (session_with s (sessions_of es))
is_found s es = by (lookup (nat_eq s) es) (found s es)
  where
    by : (o : Option Facts) → option_map (λ w. session_of (s, w)) o ≡ session_with s (sessions_of es)
        → is_some o ≡ is_some (session_with s (sessions_of es))
    by None h = ap is_some h
    by (Some w) h = ap is_some h

-- facts put in the place of the session's own change it so
pub changed : (s : ℕ) (f : Session → Session) (w v : Facts) (es fs : List (ℕ × Facts)) → fs ≡ set_value (nat_eq s) es v
    → Some w ≡ lookup (nat_eq s) es → session_of (s, v) ≡ f (session_of (s, w)) → sessions_of fs ≡ change_session s f (sessions_of es)
changed s f w v es fs e k m = ap sessions_of e ∙ replaced s v es ∙ ap (λ u. change_session s (λ _. u) (sessions_of es)) m
    ∙ change_session-at s f (session_of (s, w)) (sessions_of es) (there s w es k)

-- the next number is new, so its session goes last
pub inserted : (low next : ℕ) (w : Facts) (es : List (ℕ × Facts)) → HaveRisingNumbers low next (sessions_of es)
    → sessions_of (insert_entry nat_eq es next w) ≡ sessions_of es ++ session_of (next, w) ∷ []
inserted low next w [] h = refl
inserted low next w (e ∷ es) h = by (nat_eq next e.0) refl (inserted e.0 next w es h.1)
  where
    by : (b : Bool) → nat_eq next e.0 ≡ b → sessions_of (insert_entry nat_eq es next w) ≡ sessions_of es ++ session_of (next, w) ∷ []
        → sessions_of (cond b ((e.0, w) ∷ es) (e ∷ insert_entry nat_eq es next w))
        ≡ session_of e ∷ (sessions_of es ++ session_of (next, w) ∷ [])
    by true i r = let same : next ≡ e.0 =
        eqb-true next e.0 i in let below : e.0 < next = low_below e.0 next (sessions_of es) h.1 in absurd (omega arith)
    by false i r = ap (λ us. session_of e ∷ us) r
