-- The laws of the order of stamps.
use Rattle.std.proofs.Common.{◌≡◌, true, false, eqb, Option, Some, None, refl, ap, arith, eqb-true}
use mathlib.Core.Path.{ap₂}
use Rattle.std.proofs.lemmas.Bool.{and_parts}
use Rattle.std.proofs.lemmas.Bool.Decides.{nat_tests}
use Rattle.opid.specs.declared.stamp.Stamp.{Stamp}
use Rattle.opid.specs.Stamps.{is_before, is_same, is_same_parent}

pub is_before-irrefl : (a : Stamp) → is_before a a ≡ false
is_before-irrefl a = grind (arith, nat_tests)

pub is_before-trans : (a b c : Stamp) → is_before a b ≡ true → is_before b c ≡ true → is_before a c ≡ true
is_before-trans a b c p q = grind (arith, nat_tests)

pub is_before-asym : (a b : Stamp) → is_before a b ≡ true → is_before b a ≡ false
is_before-asym a b p = grind (arith, nat_tests)

-- of two stamps that aren't the same, one is before the other
pub is_before-total : (a b : Stamp) → is_before a b ≡ false → is_same a b ≡ false → is_before b a ≡ true
is_before-total a b p q = grind (arith, nat_tests)

pub is_same-eq : (a b : Stamp) → is_same a b ≡ true → a ≡ b
is_same-eq a b h =
    let parts : (eqb a.sum b.sum ≡ true) × (eqb a.site b.site ≡ true) = and_parts (eqb a.sum b.sum) (eqb a.site b.site) h in
    let sums : a.sum ≡ b.sum = eqb-true _ _ parts.0 in
    let sites : a.site ≡ b.site = eqb-true _ _ parts.1 in
    ap₂ (λ m n. let s : Stamp = record { sum = m; site = n } in s) sums sites

pub is_same-refl : (a : Stamp) → is_same a a ≡ true
is_same-refl a = grind (arith, nat_tests)

pub is_same_parent-eq : (a b : Option Stamp) → is_same_parent a b ≡ true → a ≡ b
is_same_parent-eq None None h = refl
is_same_parent-eq None (Some b) h = cc
is_same_parent-eq (Some a) None h = cc
is_same_parent-eq (Some a) (Some b) h = ap Some (is_same-eq a b h)

pub is_same_parent-refl : (a : Option Stamp) → is_same_parent a a ≡ true
is_same_parent-refl None = refl
is_same_parent-refl (Some a) = is_same-refl a

pub is_same-sym : (a b : Stamp) → is_same a b ≡ is_same b a
is_same-sym a b = grind (arith, nat_tests)

pub is_same_parent-sym : (a b : Option Stamp) → is_same_parent a b ≡ is_same_parent b a
is_same_parent-sym None None = refl
is_same_parent-sym None (Some b) = refl
is_same_parent-sym (Some a) None = refl
is_same_parent-sym (Some a) (Some b) = is_same-sym a b

pub is_before-not_same : (a b : Stamp) → is_before a b ≡ true → is_same a b ≡ false
is_before-not_same a b h = grind (arith, nat_tests)

-- two stamps of which neither is before the other are one
pub is_before-tie : (a b : Stamp) → is_before a b ≡ false → is_before b a ≡ false → a ≡ b
is_before-tie a b p q = is_same-eq a b (grind (arith, nat_tests))
