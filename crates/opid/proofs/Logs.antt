-- Lawful logs: they go on, their beginnings are lawful, and they are sound.
use Rattle.std.proofs.Common.{◌≡◌, ℕ, ◌<◌, zero, suc, false, List, [], ◌∷◌, ◌++◌, take, sum, refl, ap, ◌∙◌, sym, subst, arith, append_assoc}
use Rattle.std.proofs.Common.{inl, inr}
use Rattle.std.specs.List.{list_any}
use Rattle.std.proofs.lemmas.Bool.{both_ways, false_from_ne_true, or_cases}
use Rattle.std.proofs.lemmas.List.Folds.{list_any-append}
use Rattle.opid.specs.declared.stamp.Stamp.{Stamp}
use Rattle.opid.specs.declared.kind.OpKind.{OpKind}
use Rattle.opid.specs.declared.kind.OpKind.TheVariants.{Ins, Del}
use Rattle.opid.specs.Stamps.{is_same}
use Rattle.opid.specs.Operations.{Operation, Insertion, stamp_of, inserted_by, insertions, has_element}
use Rattle.opid.specs.Lawful.{IsRisingAt, MayFollow, GoesOn, IsLawful, IsSound}
use Rattle.opid.proofs.Order.{is_same-eq}
use Rattle.opid.proofs.Walk.{append-nil}
use Rattle.opid.proofs.Sound.{IsSound-push}

-- a site's operation with a greater sum than all of its others has a stamp of its own
inserted-old : (x : Operation) (s : Stamp) (k : OpKind) → (s.site ≡ x.site → s.sum < sum x.clock)
    → list_any (λ z. is_same (stamp_of x) z.stamp) (inserted_by s k) ≡ false
inserted-old x s (Ins o c) r = false_from_ne_true _ (λ e. elim (or_cases (is_same (stamp_of x) s) false e) [
  | inl q ↦ (let same : stamp_of x ≡ s = is_same-eq (stamp_of x) s q in
      let sums : sum x.clock ≡ s.sum = ap (λ (t : Stamp). t.sum) same in
      let sites : x.site ≡ s.site = ap (λ (t : Stamp). t.site) same in
      omega (arith, r (sym sites), sums))
  | inr q ↦ both_ways false refl q
])
inserted-old x s (Del t) r = refl

fresh_among : (xs : List Operation) (x : Operation) → IsRisingAt xs x → has_element xs (stamp_of x) ≡ false
fresh_among [] x r = refl
fresh_among (y ∷ ys) x r = false_from_ne_true _ (λ e. elim (or_cases _ _
    (sym (list_any-append (λ (z : Insertion). is_same (stamp_of x) z.stamp) (inserted_by (stamp_of y) y.kind) (insertions ys)) ∙ e)) [
      | inl q ↦ both_ways _ (inserted-old x (stamp_of y) y.kind r.0) q
      | inr q ↦ both_ways _ (fresh_among ys x r.1) q
    ])

-- what may follow has a stamp of its own
pub fresh : (ops : List Operation) (x : Operation) → MayFollow ops x → has_element ops (stamp_of x) ≡ false
fresh ops x m = fresh_among ops x m.rising

GoesOn-push : (ops xs : List Operation) (x : Operation) → GoesOn ops xs → MayFollow (ops ++ xs) x → GoesOn ops (xs ++ x ∷ [])
GoesOn-push ops [] x g m = (subst (λ r. MayFollow r x) (append-nil ops) m, tt)
GoesOn-push ops (y ∷ ys) x g m =
    (g.0, GoesOn-push (ops ++ y ∷ []) ys x g.1 (subst (λ r. MayFollow r x) (sym (append_assoc ops (y ∷ []) ys)) m))

pub IsLawful-push : (ops : List Operation) (x : Operation) → IsLawful ops → MayFollow ops x → IsLawful (ops ++ x ∷ [])
IsLawful-push ops x = GoesOn-push [] ops x

-- what holds of no operations, and goes on with each that may follow, holds of a lawful list
by_steps : (P : List Operation → Type 0) → ((ops : List Operation) (x : Operation) → IsLawful ops → MayFollow ops x → P ops
    → P (ops ++ x ∷ []))
    → (ops xs : List Operation) → IsLawful ops → P ops → GoesOn ops xs → P (ops ++ xs)
by_steps P step ops [] l p g = subst P (sym (append-nil ops)) p
by_steps P step ops (x ∷ xs) l p g =
    subst P (append_assoc ops (x ∷ []) xs) (by_steps P step (ops ++ x ∷ []) xs (IsLawful-push ops x l g.0) (step ops x l g.0 p) g.1)

pub lawful_induction : (P : List Operation → Type 0) → P [] → ((ops : List Operation) (x : Operation) → IsLawful ops → MayFollow ops x
    → P ops → P (ops ++ x ∷ []))
    → (ops : List Operation) → IsLawful ops → P ops
lawful_induction P none step ops l = by_steps P step [] ops tt none l

-- a lawful list is sound
pub IsSound-lawful : (ops : List Operation) → IsLawful ops → IsSound ops
IsSound-lawful = lawful_induction IsSound (record { apart = tt; allowed = tt })
    (λ ops x l m h. IsSound-push ops x h (fresh ops x m) m.allowed)

GoesOn-take : (ops xs : List Operation) (n : ℕ) → GoesOn ops xs → GoesOn ops (take n xs)
GoesOn-take ops [] zero g = tt
GoesOn-take ops [] (suc n) g = tt
GoesOn-take ops (x ∷ xs) zero g = tt
GoesOn-take ops (x ∷ xs) (suc n) g = (g.0, GoesOn-take (ops ++ x ∷ []) xs n g.1)

-- the beginnings of a lawful log are lawful
pub IsLawful-take : (log : List Operation) (n : ℕ) → IsLawful log → IsLawful (take n log)
IsLawful-take log n l = GoesOn-take [] log n l

pub GoesOn-append : (ops xs ys : List Operation) → GoesOn ops xs → GoesOn (ops ++ xs) ys → GoesOn ops (xs ++ ys)
GoesOn-append ops [] ys g h = subst (λ r. GoesOn r ys) (append-nil ops) h
GoesOn-append ops (x ∷ xs) ys g h =
    (g.0, GoesOn-append (ops ++ x ∷ []) xs ys g.1 (subst (λ r. GoesOn r ys) (sym (append_assoc ops (x ∷ []) xs)) h))

pub goes_on_after : (ops xs ys : List Operation) → GoesOn ops (xs ++ ys) → GoesOn (ops ++ xs) ys
goes_on_after ops [] ys g = subst (λ r. GoesOn r ys) (sym (append-nil ops)) g
goes_on_after ops (x ∷ xs) ys g = subst (λ r. GoesOn r ys) (append_assoc ops (x ∷ []) xs) (goes_on_after (ops ++ x ∷ []) xs ys g.1)
