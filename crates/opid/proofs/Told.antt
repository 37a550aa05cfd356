-- No two refusals have one number or one name: each is found again by it.
use Rattle.std.proofs.Common.{◌≡◌, ℕ, Option, Some, List, [], ◌∷◌, refl, ap, ◌∙◌, sym, nat_eq}
use Rattle.std.specs.Prelude.{find, bytes_eq}
use Rattle.opid.specs.declared.refusal.Refusal.{Refusal}
use Rattle.opid.specs.declared.refusal.Refusal.TheVariants.{BadJson, BadField, UnknownKind, NoRoom, NoSession, TooManySessions, BadNumber}
use Rattle.opid.specs.declared.refusal.Refusal.TheVariants.{BadVersion, BadPlace, BadText, BadCount, Full, HistoryFull, BadSite, BadClock}
use Rattle.opid.specs.declared.refusal.Refusal.TheVariants.{OwnSite, Conflict, HoldFull, NotRising, UnknownElement, NotOlder, BadHave}
use Rattle.opid.specs.declared.refusal.Refusal.TheVariants.{BadRange, Busy, Worn, Memory, SiteUsed, BadSnapshot, TooLong}
use Rattle.opid.specs.Refusals.{number_of, name_of}

refusals : List Refusal
refusals =
    BadJson ∷ BadField ∷ UnknownKind ∷ NoRoom ∷ NoSession ∷ TooManySessions ∷ BadNumber ∷ BadVersion ∷ BadPlace ∷ BadText ∷ BadCount ∷ Full
    ∷ HistoryFull ∷ BadSite ∷ BadClock ∷ OwnSite ∷ Conflict ∷ HoldFull ∷ NotRising ∷ UnknownElement ∷ NotOlder ∷ BadHave ∷ BadRange
    ∷ Busy ∷ Worn ∷ Memory ∷ SiteUsed ∷ BadSnapshot ∷ TooLong ∷ []

with_number : ℕ → Option Refusal
with_number n = find (λ r. nat_eq (number_of r) n) refusals

with_name : List ℕ → Option Refusal
with_name name = find (λ r. bytes_eq (name_of r) name) refusals

found_by_number : (r : Refusal) → with_number (number_of r) ≡ Some r
unfolding with_number refusals
found_by_number BadJson = refl
found_by_number other = refl

found_by_name : (r : Refusal) → with_name (name_of r) ≡ Some r
unfolding with_name refusals
found_by_name BadJson = refl
found_by_name other = refl

same_found : (a b : Refusal) → Some a ≡ Some b → a ≡ b
same_found a b h = cc

pub number_of-injective : (a b : Refusal) → number_of a ≡ number_of b → a ≡ b
number_of-injective a b h = same_found a b (sym (found_by_number a) ∙ ap with_number h ∙ found_by_number b)

pub name_of-injective : (a b : Refusal) → name_of a ≡ name_of b → a ≡ b
name_of-injective a b h = same_found a b (sym (found_by_name a) ∙ ap with_name h ∙ found_by_name b)
