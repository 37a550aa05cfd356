-- The atomic steps of the lock: seven kinds, and the load that ends a join. Each says which word it changes, and what it tells the pass
-- that takes it.
use Rattle.std.specs.Prelude.{◌≡◌, ◌≢◌, ℕ, ◌+◌, ◌^◌, ◌≤◌, List, [], ◌∷◌, length, Option, Some}
use mathlib.Core.List.{IsPrefix}
use Rattle.atomic_table.specs.Table.{Me, Step}
use Rattle.history_lock.specs.declared.pass.Sight.{Sight}
use Rattle.history_lock.specs.Sights.{weigh, last_or, Among, drew, took, finished, peeked_at, won, gave_up, learned}
use Rattle.history_lock.specs.Told.{Finds}
use Rattle.history_lock.specs.Turns.{LeftFor, Grows}

module _ {T E : Type 0} (trail : T → List E) (mark : T → ℕ) where
  -- a pass's sight, and the slot that it has
  abbrev pub M : Type 0
  M = Me (Option T) (Sight E)

  -- step 1, a fetch_add of 1 on the first word: the number found is the ticket
  abbrev pub draws_ticket : Step (Option T) → M → ℕ → M → Type 0
  draws_ticket st m r m' = (m' ≡ (drew m.0 r, m.1)) × (r + m.0.left ≤ 2 ^ 62) × (st.word ≡ 0) × (st.first ≡ 1)

  -- steps 2 and 3, a load of the second word: nothing changes, or it is the ticket and the value is taken
  abbrev pub looks : Step (Option T) → M → ℕ → M → Type 0
  looks st m r m' =
      (r ≢ m.0.drawn → m' ≡ m)
      × (r ≡ m.0.drawn → (x : T) × (m' ≡ (took m.0 m'.0.ends (trail x), (0, Some x) ∷ m.1)) × Finds trail mark m.0 m'.0 r x)
      × (st.word ≡ 1)

  -- step 4, a fetch_add of 1 on the second word: the value goes home
  abbrev pub leaves : Step (Option T) → M → ℕ → M → Type 0
  leaves st m r m' =
      ((x : T) → m.1 ≡ (0, Some x) ∷ []
      → (r ≡ m.0.drawn) × (m' ≡ (finished m.0 (trail x), []))
      × Among (finished m.0 (trail x)).mine (trail x) × LeftFor (finished m.0 (trail x)) (r + 1) (trail x)
      × Grows m.0 (finished m.0 (trail x)) × ((h : E → ℕ) → weigh h (finished m.0 (trail x)).mine ≤ weigh h (trail x))
      × (length (finished m.0 (trail x)).ends ≡ r + 1) × (r + 1 + m.0.left ≤ 2 ^ 62))
      × (st.word ≡ 1) × (st.first ≡ 1)

  -- step 5, a load of the second word: the pass keeps the number
  abbrev pub peeks : Step (Option T) → M → ℕ → M → Type 0
  peeks st m r m' = (m' ≡ (peeked_at m.0 r, m.1)) × (r + m.0.left ≤ 2 ^ 62) × (st.word ≡ 1)

  -- steps 6 and 7, a compare_exchange of the first word from the peeked number to the next: done, the value is taken; not
  -- done, the try is lost
  abbrev pub tries : Step (Option T) → M → ℕ → M → Type 0
  tries st m r m' =
      (r ≡ st.first → (x : T) × (m' ≡ (won m.0 r m'.0.ends (trail x), (0, Some x) ∷ m.1)) × Finds trail mark m.0 m'.0 r x)
      × (r ≢ st.first → m' ≡ (gave_up m.0, m.1))
      × (st.word ≡ 0) × (st.first ≡ m.0.peeked) × (st.second ≡ m.0.peeked + 1)

  -- the load that ends a join, none of the seven: it changes no word and no slot. The pass takes in what it was told of, and
  -- knows from the lock's state that the longer of both trails begins with the other
  abbrev pub learns : Step (Option T) → M → ℕ → M → Type 0
  learns st m r m' =
      (m' ≡ (learned m.0, m.1)) × IsPrefix m.0.seen (learned m.0).seen × IsPrefix m.0.told (learned m.0).seen
      × Among m.0.mine (learned m.0).seen × (length (learned m.0).ends + m.0.left ≤ 2 ^ 62)
      × IsPrefix m.0.ends (learned m.0).ends × IsPrefix m.0.told_ends (learned m.0).ends × (st.word ≡ 1)
      × ((x : T) × ((h : E → ℕ) → weigh h (learned m.0).mine ≤ weigh h (trail x)))
      × (last_or m.0.opening m.0.ends ≡ length m.0.seen → last_or m.0.opening m.0.told_ends ≡ length m.0.told
      → last_or m.0.opening (learned m.0).ends ≡ length (learned m.0).seen)
