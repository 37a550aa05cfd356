-- How many code units a character has.
use Rattle.std.proofs.Common.{◌≡◌, ℕ, Bool, true, false, cond, [], ◌∷◌, length, refl, arith}
use Rattle.std.specs.Prelude.{nat_lt}
use Rattle.std.proofs.lemmas.Bool.Decides.{nat_tests}
use Rattle.opid.specs.Units.{is_character, units_of}
use Rattle.versions.specs.Internal.Joined.{is_wide}

-- it has two units where it is wide, else one
pub width : (ch : ℕ) → length (units_of ch) ≡ cond (is_wide ch) 2 1
width ch = go _ _ (is_character ch) (nat_lt ch 0x10000) (is_wide ch) refl refl refl
  where
    go : (a b : ℕ) (t u w : Bool) → is_character ch ≡ t → nat_lt ch 0x10000 ≡ u → is_wide ch ≡ w
        → length (cond t (cond u (ch ∷ []) (a ∷ b ∷ [])) (0xFFFD ∷ [])) ≡ cond w 2 1
    go a b true true false p q r = refl
    go a b true false true p q r = refl
    go a b false u false p q r = refl
    go a b true true true p q r = absurd (grind (arith, nat_tests))
    go a b true false false p q r = absurd (grind (arith, nat_tests))
    go a b false u true p q r = absurd (grind (arith, nat_tests))
