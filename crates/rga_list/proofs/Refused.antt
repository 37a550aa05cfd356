-- Why an insertion is refused.
use Rattle.std.proofs.Common.{◌≡◌, Bool, true, false, cond, not, Some, None, List, refl, ap, ◌∙◌}
use Rattle.std.proofs.lemmas.Bool.{cond-true, cond-false}
use Rattle.opid.specs.declared.stamp.Stamp.{Stamp}
use Rattle.opid.specs.declared.refusal.Refusal.TheVariants.{UnknownElement, NotOlder}
use Rattle.opid.specs.Stamps.{is_before}
use Rattle.rga_list.specs.Entries.{Entry, has_stamp, parent_refusal}

pub parent_refusal-unknown : (entries : List Entry) (p s : Stamp) → has_stamp entries p ≡ false
    → parent_refusal entries (Some p) s ≡ Some UnknownElement
parent_refusal-unknown entries p s h = cond-true _ _ _ (ap not h)

pub parent_refusal-younger : (entries : List Entry) (p s : Stamp) → has_stamp entries p ≡ true → is_before p s ≡ false
    → parent_refusal entries (Some p) s ≡ Some NotOlder
parent_refusal-younger entries p s h k = cond-false _ _ _ (ap not h) ∙ cond-true _ _ _ (ap not k)

pub parent_refusal-none : (entries : List Entry) (p s : Stamp) → has_stamp entries p ≡ true → is_before p s ≡ true
    → parent_refusal entries (Some p) s ≡ None
parent_refusal-none entries p s h k = cond-false _ _ _ (ap not h) ∙ cond-false _ _ _ (ap not k)

-- a parent that isn't refused is there, and older
pub accepted : (entries : List Entry) (p s : Stamp) → parent_refusal entries (Some p) s ≡ None
    → (has_stamp entries p ≡ true) × (is_before p s ≡ true)
accepted entries p s h = go (has_stamp entries p) (is_before p s) h
  where
    go : (a b : Bool) → cond (not a) (Some UnknownElement) (cond (not b) (Some NotOlder) None) ≡ None → (a ≡ true) × (b ≡ true)
    go true true e = (refl, refl)
    go true false e = cc
    go false b e = cc
