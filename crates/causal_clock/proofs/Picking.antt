-- The bits of a comparison name the entries that an operation tells, and the lowest bit names the next one.
use Rattle.std.proofs.Common.{◌≡◌, ℕ, zero, suc, ◌<◌, ◌≤◌, ◌*◌, ◌^◌, ◌%◌, ◌⊎◌, inl, inr, Bool, true, false, cond, not, ◌||◌, eqb, List, []}
use Rattle.std.proofs.Common.{◌∷◌, ◌++◌, length, get_or, min, refl, ap, ◌∙◌, sym, subst, arith, w64, bit_and}
use mathlib.Core.Path.{ap₂}
use lib.Lanes.{mask_l, zip2}
use Rattle.std.specs.Int.{bit_at, bit_not, trailing_zeros}
use Rattle.std.proofs.lemmas.Bool.{cases_eq, cases_lt}
use Rattle.std.proofs.lemmas.Nat.{and_le_l}
use Rattle.std.proofs.lemmas.Nat.Bits.{bit_at-trailing_zeros, bit_at_and, bit_at_clear_same, bit_at_clear_other, bit_at_above}
use Rattle.std.proofs.lemmas.Nat.Bits.{bit_at_ones}
use Rattle.std.proofs.lemmas.Simd.{length-zip2, get_or-zip2, mask_l-lt, mask_l-mod, bit_mask_l}
use Rattle.causal_clock.specs.Stored.{changes}
use Rattle.causal_clock.specs.Internal.Told.{AreTold, picked}
use Rattle.opid.specs.Delivery.{clock_of}
use Rattle.opid.proofs.Counts.{length-clock_of}
use Rattle.causal_clock.specs.Internal.Packed.{fill}
use Rattle.causal_clock.proofs.Changing.{fill-others}
use Rattle.causal_clock.proofs.Raising.{same_lane}

-- a comparison of 32 counts tells which differ
pub compared : (before clock : List ℕ) (m : ℕ) → length before ≡ 32 → length clock ≡ 32
    → m ≡ mask_l (zip2 (λ a b. not (eqb a b)) before clock) % 2 ^ 64 → AreTold false before clock m
compared before clock m lb lc e =
    let ms : List Bool = zip2 (λ a b. not (eqb a b)) before clock in
    let long : length ms ≡ 32 = length-zip2 (λ (a b : ℕ). not (eqb a b)) before clock (lb ∙ sym lc) ∙ lb in
    let is : m ≡ mask_l ms = e ∙ mask_l-mod ms 64 (omega (arith, long)) in
    record {
      sites = λ n l. ap (λ k. bit_at k n) is ∙ bit_mask_l ms n
          ∙ ap (λ b. cond b 1 0) (get_or-zip2 (λ (a b : ℕ). not (eqb a b)) before clock n 0 0 false
          (omega (arith, l, lb)) (omega (arith, l, lc)));
      few = subst (λ k. k < 2 ^ 32) (sym is) (subst (λ k. mask_l ms < 2 ^ k) long (mask_l-lt ms));
    }

-- all bits tell all entries
pub all_told : (before clock : List ℕ) → AreTold true before clock 4294967295
all_told before clock = record { sites = λ n l. bit_at_ones 32 n l; few = omega arith }

-- where all counts but those of 0 are told, the entries make the clock by themselves
pub made_alone : (w : Bool) (before clock : List ℕ) (n t : ℕ) → length clock ≡ 32 → AreTold false (clock_of []) clock n
    → AreTold w before clock t → bit_and n t ≡ n → fill (clock_of []) (changes w before clock 32) ≡ clock
made_alone w before clock n t lc counted told e =
    fill-others w before clock (clock_of []) 32 (length-clock_of []) lc (λ k l f.
    let untold : bit_at t k ≡ 0 = told.sites k l ∙ ap (λ b. cond b 1 0) f in
    let both : bit_at n k ≡ min (bit_at n k) (bit_at t k) = ap (λ m. bit_at m k) (sym e) ∙ bit_at_and n t k in
    let none : bit_at n k ≡ 0 = omega (arith, untold, both) in
    same_lane (get_or (clock_of []) k 0) (get_or clock k 0) (sym (counted.sites k l) ∙ none))

-- the entries whose bits are set are those that are told
picked_if : (t : Bool) (b : ℕ) (x : ℕ × ℕ) → b ≡ cond t 1 0 → cond (eqb b 1) (x ∷ []) [] ≡ cond t (x ∷ []) []
picked_if true b x e = ap (λ k. cond (eqb k 1) (x ∷ []) []) e
picked_if false b x e = ap (λ k. cond (eqb k 1) (x ∷ []) []) e

pub picked_told : (w : Bool) (before clock : List ℕ) (m : ℕ) → AreTold w before clock m → (n : ℕ) → n ≤ 32
    → picked m clock n ≡ changes w before clock n
unfolding changes picked
picked_told w before clock m t zero l = refl
picked_told w before clock m t (suc n) l =
    ap₂ (λ (a b : List (ℕ × ℕ)). a ++ b) (picked_told w before clock m t n (omega arith))
    (picked_if (w || not (eqb (get_or before n 0) (get_or clock n 0))) (bit_at m n) (n, get_or clock n 0) (t.sites n (omega arith)))

-- no bits pick nothing
pub picked_none : (m : ℕ) (clock : List ℕ) (n : ℕ) → ((i : ℕ) → i < n → bit_at m i ≡ 0) → picked m clock n ≡ []
unfolding picked
picked_none m clock zero h = refl
picked_none m clock (suc n) h =
    ap₂ (λ (a b : List (ℕ × ℕ)). a ++ b) (picked_none m clock n (λ i l. h i (omega arith)))
    (picked_if false (bit_at m n) (n, get_or clock n 0) (h n (omega arith)))

-- without its lowest bit a number picks all but the first
pub picked_first : (m r : ℕ) (clock : List ℕ) (k : ℕ) → bit_at m k ≡ 1 → ((i : ℕ) → i < k → bit_at m i ≡ 0) → bit_at r k ≡ 0
    → ((i : ℕ) → i < 32 → (i ≡ k → ⊥) → bit_at r i ≡ bit_at m i) → (n : ℕ) → k < n → n ≤ 32
    → picked m clock n ≡ (k, get_or clock k 0) ∷ picked r clock n
unfolding picked
picked_first m r clock k set low clear other zero l w = absurd (omega arith)
picked_first m r clock k set low clear other (suc n) l w =
    go (cases_eq k n) (λ q. picked_first m r clock k set low clear other n q (omega arith))
  where
    go : (k ≡ n) ⊎ (k ≡ n → ⊥) → (k < n → picked m clock n ≡ (k, get_or clock k 0) ∷ picked r clock n)
        → picked m clock (suc n) ≡ (k, get_or clock k 0) ∷ picked r clock (suc n)
    go (inl e) more =
        ap₂ (λ (a b : List (ℕ × ℕ)). a ++ b) (picked_none m clock n (λ i q. low i (omega (arith, q, e))))
        (picked_if true (bit_at m n) (n, get_or clock n 0) (ap (bit_at m) (sym e) ∙ set))
        ∙ ap (λ j. (j, get_or clock j 0) ∷ []) (sym e)
        ∙ ap (λ v. (k, get_or clock k 0) ∷ v)
        (sym (ap₂ (λ (a b : List (ℕ × ℕ)). a ++ b)
        (picked_none r clock n (λ i q. other i (omega (arith, q, w)) (λ j. omega (arith, q, j, e)) ∙ low i (omega (arith, q, e))))
        (picked_if false (bit_at r n) (n, get_or clock n 0) (ap (bit_at r) (sym e) ∙ clear))))
    go (inr d) more =
        ap₂ (λ (a b : List (ℕ × ℕ)). a ++ b) (more (omega (arith, l, λ (q : k ≡ n). d q)))
        (ap (λ b. cond (eqb b 1) ((n, get_or clock n 0) ∷ []) []) (sym (other n (omega arith) (λ j. d (sym j)))))

-- the lowest bit of a number of 32 bits, and the number without it
pub record Lowest (m r : ℕ) (clock : List ℕ) (k : ℕ) : Type 0 where
  pub site : k < 32
  pub less : r < m
  pub rest : picked m clock 32 ≡ (k, get_or clock k 0) ∷ picked r clock 32

pub lowest : (m : ℕ) (clock : List ℕ) → 0 < m → m < 2 ^ 32
    → Lowest m (bit_and m (bit_not w64 (1 * 2 ^ trailing_zeros w64 m % 2 ^ 64))) clock (trailing_zeros w64 m)
lowest m clock some few =
    let k = trailing_zeros w64 m in
    let r = bit_and m (bit_not w64 (1 * 2 ^ k % 2 ^ 64)) in
    let low = bit_at-trailing_zeros w64 m some (omega (arith, few)) in
    let site : k < 32 = go k (cases_lt k 32) low.1 in
    let clear : bit_at r k ≡ 0 = bit_at_clear_same w64 m k (omega (arith, site)) in
    record {
      site = site;
      less = less r k (cases_lt r m) (and_le_l m (bit_not w64 (1 * 2 ^ k % 2 ^ 64))) low.1 clear;
      rest = picked_first m r clock k low.1 low.2 clear
          (λ i l d. bit_at_clear_other w64 m k (omega (arith, site)) i (omega (arith, l)) d) 32 site (omega arith);
    }
  where
    go : (k : ℕ) → (k < 32) ⊎ (32 ≤ k) → bit_at m k ≡ 1 → k < 32
    go k (inl l) s = l
    go k (inr l) s = absurd (omega (arith, s, bit_at_above m 32 k few l))

    less : (r k : ℕ) → (r < m) ⊎ (m ≤ r) → r ≤ m → bit_at m k ≡ 1 → bit_at r k ≡ 0 → r < m
    less r k (inl l) h s t = l
    less r k (inr l) h s t = let same : r ≡ m = omega (arith, l, h) in absurd (omega (arith, s, t, ap (λ v. bit_at v k) same))
