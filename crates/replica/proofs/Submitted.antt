-- Operations that go behind a log one after another.
use Rattle.std.proofs.Common.{◌≡◌, ℕ, ◌+◌, ◌<◌, ◌≤◌, ◌⊎◌, inl, inr, Some, None, List, [], ◌∷◌, ◌++◌, length, drop, get_or, ap, ◌∙◌, sym}
use Rattle.std.proofs.Common.{subst, arith}
use Rattle.std.proofs.lemmas.List.{length-append, length-drop}
use Rattle.opid.specs.declared.refusal.Refusal.{Refusal}
use Rattle.opid.specs.declared.refusal.Refusal.TheVariants.{Memory}
use Rattle.opid.specs.Operations.{Operation}
use Rattle.opid.specs.Lawful.{IsLawful, MayFollow}
use Rattle.opid.proofs.Gathered.{rest_at}
use Rattle.opid.proofs.Logs.{goes_on_after}
use Rattle.opid.specs.Kinds.{IsOperation}
use Rattle.opid.specs.Delivered.{refusal_of}
use Rattle.replica.proofs.Lawfully.{accepted-may_follow}

-- ---- operations behind a log

-- the first of what may go behind a log may follow it
first_may_follow : (log : List Operation) (x : Operation) (xs : List Operation) → IsLawful (log ++ x ∷ xs) → MayFollow log x
first_may_follow log x xs l = (goes_on_after [] log (x ∷ xs) l).0

pub next_may_follow : (first log ops : List Operation) (n : ℕ) (x : Operation) → IsLawful (first ++ ops) → n < length ops
    → x ≡ get_or ops n x → log ++ drop n ops ≡ first ++ ops → MayFollow log x
next_may_follow first log ops n x l h e so_far =
    first_may_follow log x (drop (n + 1) ops) (subst IsLawful (sym so_far ∙ ap (λ xs. log ++ xs) (rest_at ops n x h e)) l)

pub next_fits : (first log ops : List Operation) (n : ℕ) → length first + length ops ≤ 131072 → n < length ops
    → log ++ drop n ops ≡ first ++ ops → length log < 131072
next_fits first log ops n b h so_far =
    let here : length log + length (drop n ops) ≡ length first + length ops =
    sym (length-append log (drop n ops)) ∙ ap length so_far ∙ length-append first ops in
    omega (arith, here, length-drop n ops, b, h)

pub next_accepted : (first log ops : List Operation) (n : ℕ) (x : Operation) → IsOperation x → IsLawful (first ++ ops)
    → length first + length ops ≤ 131072 → n < length ops → x ≡ get_or ops n x
    → log ++ drop n ops ≡ first ++ ops → refusal_of log x ≡ None
next_accepted first log ops n x o l b h e so_far =
    accepted-may_follow log x o (next_fits first log ops n b h so_far) (next_may_follow first log ops n x l h e so_far)

-- what may follow a log that isn't full is not refused
pub never_refused : (log : List Operation) (x : Operation) (e : Refusal) (reserved : ℕ) → refusal_of log x ≡ None → 0 < reserved
    → (refusal_of log x ≡ Some e) ⊎ ((e ≡ Memory) × (reserved ≡ 0) × (length log < 131072)) → ⊥
never_refused log x e reserved n r (inl h) = cc
never_refused log x e reserved n r (inr h) = omega (arith, h.1, r)
