-- A level more of a growth, on either side.
use Rattle.std.proofs.Common.{◌≡◌, ℕ, ◌+◌, ◌≤◌, ◌<◌, inl, inr, max, min, arith, ap}
use Rattle.std.proofs.lemmas.Bool.{cases_lt}
use Rattle.counted_tree.specs.declared.entry.Entry.{Entry}
use Rattle.counted_tree.specs.Internal.Tree.{Tree, height, IsBalanced}
use Rattle.counted_tree.specs.Internal.Tree.Tree.{Fork}
use Rattle.counted_tree.specs.Internal.Change.{DifferByAtMost, IsRebuilt, low}
use Rattle.counted_tree.specs.Internal.Growth.{MayRise, IsTaller, IsGrown}

plain_left : (l r s t : Tree) (x : Entry) (m k : ℕ) → height s ≤ height l + 1 → height l ≤ height s → m ≤ height l + 3
    → (height s ≡ height l + 1 → m ≤ height l + 1) → k ≡ 1 → t ≡ Fork s x r → IsBalanced t → height s ≤ height r + 1
    → height r ≤ height s + 1 → height l ≤ height r + 1 → height r ≤ height l + 1 → IsGrown (Fork l x r) t (m + k)
plain_left l r s t x m k up down few less one e b d1 d2 b1 b2 =
    let h : height t ≡ max (height s) (height r) + 1 = ap height e in
    let w : low t ≡ min (height s) (height r) = ap low e in
    elim (cases_lt (max (height l) (height r)) (max (height s) (height r))) [
      | inl rise ↦ record {
        balanced = b;
        cases = inl (record
            { rises = omega arith; leans = inr (omega arith); few = omega (arith, less (omega arith)) });
      }
      | inr stay ↦ record { balanced = b; cases = inr (record { stays = omega arith; few = omega arith }) }
    ]

plain_right : (l r s t : Tree) (x : Entry) (m k : ℕ) → height s ≤ height r + 1 → height r ≤ height s → m ≤ height r + 3
    → (height s ≡ height r + 1 → m ≤ height r + 1) → k ≡ 1 → t ≡ Fork l x s → IsBalanced t → height s ≤ height l + 1
    → height l ≤ height s + 1 → height l ≤ height r + 1 → height r ≤ height l + 1 → IsGrown (Fork l x r) t (m + k)
plain_right l r s t x m k up down few less one e b d1 d2 b1 b2 =
    let h : height t ≡ max (height l) (height s) + 1 = ap height e in
    let w : low t ≡ min (height l) (height s) = ap low e in
    elim (cases_lt (max (height l) (height r)) (max (height l) (height s))) [
      | inl rise ↦ record {
        balanced = b;
        cases = inl (record
            { rises = omega arith; leans = inr (omega arith); few = omega (arith, less (omega arith)) });
      }
      | inr stay ↦ record { balanced = b; cases = inr (record { stays = omega arith; few = omega arith }) }
    ]

turned_left : (l r s t : Tree) (x : Entry) (m k : ℕ) → IsTaller l s m → IsRebuilt s x r t → k ≤ 3 → height l ≤ height r + 1
    → height r ≤ height l + 1 → height r + 1 < height s → IsGrown (Fork l x r) t (m + k)
turned_left l r s t x m k w p few b1 b2 high =
    let rises = w.rises in
    let small = w.few in
    let two : height s ≡ height r + 2 = omega arith in
    let lean : height s ≡ low s + 2 = elim (w.leans) [ inl one ↦ absurd (omega arith) | inr e ↦ e ] in
    let h = p.left_falls two lean in
    record { balanced = p.balanced; cases = inr (record { stays = omega arith; few = omega arith }) }

turned_right : (l r s t : Tree) (x : Entry) (m k : ℕ) → IsTaller r s m → IsRebuilt l x s t → k ≤ 3 → height l ≤ height r + 1
    → height r ≤ height l + 1 → height l + 1 < height s → IsGrown (Fork l x r) t (m + k)
turned_right l r s t x m k w p few b1 b2 high =
    let rises = w.rises in
    let small = w.few in
    let two : height s ≡ height l + 2 = omega arith in
    let lean : height s ≡ low s + 2 = elim (w.leans) [ inl one ↦ absurd (omega arith) | inr e ↦ e ] in
    let h = p.right_falls two lean in
    record { balanced = p.balanced; cases = inr (record { stays = omega arith; few = omega arith }) }

pub grown_left : (l r s t : Tree) (x : Entry) (m k : ℕ) → IsBalanced (Fork l x r) → IsGrown l s m → IsRebuilt s x r t → k ≤ 3
    → (DifferByAtMost 1 (height s) (height r) → k ≡ 1) → IsGrown (Fork l x r) t (m + k)
grown_left l r s t x m k b g p few one =
    let b1 = b.2 in
    let b2 = b.3 in
    elim (g.cases) [
      | inl w ↦
          let rises = w.rises in
          let small = w.few in
          elim (cases_lt (height r + 1) (height s)) [
            | inl high ↦ turned_left l r s t x m k w p few b1 b2 high
            | inr near ↦
                let d : DifferByAtMost 1 (height s) (height r) = (near, omega arith) in
                plain_left l r s t x m k (omega arith) (omega arith) (omega arith) (λ _. small) (one d) (p.plain d) p.balanced near
                (omega arith) b1 b2
          ]
      | inr w ↦
          let stays = w.stays in
          let small = w.few in
          let d : DifferByAtMost 1 (height s) (height r) = (omega arith, omega arith) in
          plain_left l r s t x m k (omega arith) (omega arith) small (λ e. absurd (omega arith)) (one d) (p.plain d) p.balanced
          (omega arith) (omega arith) b1 b2
    ]

pub grown_right : (l r s t : Tree) (x : Entry) (m k : ℕ) → IsBalanced (Fork l x r) → IsGrown r s m → IsRebuilt l x s t → k ≤ 3
    → (DifferByAtMost 1 (height l) (height s) → k ≡ 1) → IsGrown (Fork l x r) t (m + k)
grown_right l r s t x m k b g p few one =
    let b1 = b.2 in
    let b2 = b.3 in
    elim (g.cases) [
      | inl w ↦
          let rises = w.rises in
          let small = w.few in
          elim (cases_lt (height l + 1) (height s)) [
            | inl high ↦ turned_right l r s t x m k w p few b1 b2 high
            | inr near ↦
                let d : DifferByAtMost 1 (height l) (height s) = (omega arith, near) in
                plain_right l r s t x m k (omega arith) (omega arith) (omega arith) (λ _. small) (one d) (p.plain d) p.balanced near
                (omega arith) b1 b2
          ]
      | inr w ↦
          let stays = w.stays in
          let small = w.few in
          let d : DifferByAtMost 1 (height l) (height s) = (omega arith, omega arith) in
          plain_right l r s t x m k (omega arith) (omega arith) small (λ e. absurd (omega arith)) (one d) (p.plain d) p.balanced
          (omega arith) (omega arith) b1 b2
    ]

pub may_rise : (old new : Tree) (m : ℕ) → IsGrown old new m → MayRise old new
may_rise old new m g = elim (g.cases) [
  | inl w ↦ (omega (arith, w.rises), omega (arith, w.rises))
  | inr w ↦ (omega (arith, w.stays), omega (arith, w.stays))
]

-- while the side that grows stays below the height of the whole, the whole stays as high
pub stays_left : (l r s : Tree) (x : Entry) → IsBalanced (Fork l x r) → MayRise l s → height s < height (Fork l x r)
    → DifferByAtMost 1 (height s) (height r) × (height (Fork s x r) ≡ height (Fork l x r))
stays_left l r s x b m below = (
  (omega (arith, b.2, b.3, m.0, m.1, below), omega (arith, b.2, b.3, m.0, m.1, below)),
  omega (arith, b.2, b.3, m.0, m.1, below),
)

pub stays_right : (l r s : Tree) (x : Entry) → IsBalanced (Fork l x r) → MayRise r s → height s < height (Fork l x r)
    → DifferByAtMost 1 (height l) (height s) × (height (Fork l x s) ≡ height (Fork l x r))
stays_right l r s x b m below = (
  (omega (arith, b.2, b.3, m.0, m.1, below), omega (arith, b.2, b.3, m.0, m.1, below)),
  omega (arith, b.2, b.3, m.0, m.1, below),
)
