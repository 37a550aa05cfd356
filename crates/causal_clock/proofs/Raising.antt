-- A test of every site, by the bits of a comparison: whether a clock is another one, raised.
use Rattle.std.proofs.Common.{◌≡◌, ℕ, ◌+◌, ◌*◌, ◌^◌, ◌%◌, ◌<◌, ◌≤◌, ◌⊎◌, inl, inr, Bool, true, false, cond, not, ◌∙◌}
use Rattle.std.proofs.Common.{refl, ap, subst, sym, arith, List, length, get_or, eqb, eqb-true, eq-eqb, w64, bit_and}
use Rattle.std.specs.Prelude.{bytes_eq}
use Rattle.std.specs.Int.{bit_at, bit_not}
use Rattle.std.proofs.lemmas.Bool.{cases_eq, cases_lt}
use Rattle.std.proofs.lemmas.Bool.Decides.{same_from_decides}
use Rattle.std.proofs.lemmas.List.{ext_get_or, length-set, get_or-set_same, get_or-set_other}
use Rattle.std.proofs.lemmas.Nat.{and_le_l}
use Rattle.std.proofs.lemmas.Nat.Bits.{bit_at_clear_same, bit_at_clear_other, bit_at_above, bit_at-zero, same_from_bits}
use Rattle.std.proofs.lemmas.Slice.Eq.{bytes_eq-Decides}
use Rattle.opid.specs.Clocks.{entry, raised}
use Rattle.causal_clock.specs.Internal.Told.{AreTold}

-- a bit as a number
abbrev bit_of : Bool → ℕ
bit_of t = cond t 1 0

pub same_lane : (a b : ℕ) → bit_of (not (eqb a b)) ≡ 0 → a ≡ b
same_lane a b h = go (eqb a b) refl h
  where
    go : (t : Bool) → eqb a b ≡ t → bit_of (not t) ≡ 0 → a ≡ b
    go true e h = eqb-true a b e
    go false e h = absurd (omega (arith, h))

no_bit : (a b : ℕ) → a ≡ b → bit_of (not (eqb a b)) ≡ 0
no_bit a b e = ap (λ t. bit_of (not t)) (eq-eqb a b e)

-- where the site's count is raised, and no bit is left of those that tell which counts differ, but for the site's, the first clock is
-- the second one, raised
pub raised_by_bits : (own : ℕ) (xs ys : List ℕ) (m : ℕ) → own < 32 → length xs ≡ 32 → length ys ≡ 32
    → AreTold false xs ys m → entry xs own ≡ entry ys own + 1
    → eqb (bit_and m (bit_not w64 (1 * 2 ^ own % 2 ^ 64))) 0 ≡ bytes_eq xs (raised ys own)
raised_by_bits own xs ys m o lx ly t next =
    same_from_decides (eqb left 0) (bytes_eq xs (raised ys own))
    ((λ h. same (eqb-true left 0 h)), (λ q. eq-eqb left 0 (none q)))
    (bytes_eq-Decides xs (raised ys own))
  where
    left : ℕ
    left = bit_and m (bit_not w64 (1 * 2 ^ own % 2 ^ 64))

    bit : (k : ℕ) → k < 32 → bit_at m k ≡ bit_of (not (eqb (get_or xs k 0) (get_or ys k 0)))
    bit k l = t.sites k l

    same : left ≡ 0 → xs ≡ raised ys own
    same h = ext_get_or 0 xs (raised ys own) (lx ∙ sym (length-set ys own (entry ys own + 1) ∙ ly))
        (λ k l. at k (omega (arith, l, lx)) (cases_eq k own))
      where
        at : (k : ℕ) → k < 32 → (k ≡ own) ⊎ (k ≡ own → ⊥) → get_or xs k 0 ≡ get_or (raised ys own) k 0
        at k l (inl q) = subst (λ j. get_or xs j 0 ≡ get_or (raised ys own) j 0) (sym q)
            (next ∙ sym (get_or-set_same ys own (entry ys own + 1) 0 (omega (arith, o, ly))))
        at k l (inr d) =
            let clear : bit_at m k ≡ 0 = sym (bit_at_clear_other w64 m own (omega (arith, o)) k (omega (arith, l)) d)
            ∙ ap (λ v. bit_at v k) h ∙ bit_at-zero k in
            same_lane (get_or xs k 0) (get_or ys k 0) (sym (bit k l) ∙ clear) ∙ sym (get_or-set_other ys own k (entry ys own + 1) 0 d)

    none : xs ≡ raised ys own → left ≡ 0
    none q = same_from_bits left 0 (λ k. at k (cases_eq k own) (cases_lt k 32) ∙ sym (bit_at-zero k))
      where
        at : (k : ℕ) → (k ≡ own) ⊎ (k ≡ own → ⊥) → (k < 32) ⊎ (32 ≤ k) → bit_at left k ≡ 0
        at k (inl s) within = ap (bit_at left) s ∙ bit_at_clear_same w64 m own (omega (arith, o))
        at k (inr d) (inl l) = bit_at_clear_other w64 m own (omega (arith, o)) k (omega (arith, l)) d ∙ bit k l
            ∙ no_bit (get_or xs k 0) (get_or ys k 0)
            (ap (λ (zs : List ℕ). get_or zs k 0) q ∙ get_or-set_other ys own k (entry ys own + 1) 0 d)
        at k (inr d) (inr past) = bit_at_above left 32 k
            (omega (arith, t.few, and_le_l m (bit_not w64 (1 * 2 ^ own % 2 ^ 64)))) past
