-- Who stands where in the line, and what a step of one pass leaves of the others' places.
use Rattle.std.proofs.Common.{◌≡◌, ◌≢◌, ℕ, ◌<◌, ◌≤◌, List, set}
use Rattle.std.proofs.Common.{refl, ap, sym, subst, ◌∙◌, ⊎_elim, arith}
use mathlib.Core.Logic.{dite}
use mathlib.Core.Option.{some, some-injective}
use native.Mathlib.Decide.{ℕ_discrete}
use lib.ListN.{get_elem?}
use Rattle.atomic_table.proofs.Lists.{at_set, set_else}
use Rattle.history_lock.specs.declared.pass.Stage.{Stage}
use Rattle.history_lock.specs.declared.pass.Stage.TheVariants.{Idle, Waiting, Inside, Peeked}
use Rattle.history_lock.specs.declared.pass.Sight.{Sight}
use Rattle.history_lock.specs.Sights.{kept_draws}
use Rattle.history_lock.specs.Internal.Lock.{Place, out, Stands, HasTicket}
use Rattle.history_lock.proofs.Passes.{set_at}

pick : {P : Type 0} → Dec P → ℕ → ℕ → ℕ
pick (yes _) a b = a
pick (no _) a b = b

-- the ticket t goes to the pass j
pub given : (ℕ → ℕ) → ℕ → ℕ → ℕ → ℕ
given holder t j u = pick (ℕ_discrete u t) j (holder u)

pub given_here : (holder : ℕ → ℕ) (t j : ℕ) → given holder t j t ≡ j
unfolding given pick
given_here holder t j = go (ℕ_discrete t t)
  where
    go : (d : Dec (t ≡ t)) → pick d j (holder t) ≡ j
    go (yes e) = refl
    go (no n) = absurd (n refl)

pub given_else : (holder : ℕ → ℕ) (t j u : ℕ) → u ≢ t → given holder t j u ≡ holder u
unfolding given pick
given_else holder t j u ne = go (ℕ_discrete u t)
  where
    go : (d : Dec (u ≡ t)) → pick d j (holder u) ≡ holder u
    go (yes e) = absurd (ne e)
    go (no n) = refl

-- what stays of another pass's place in the line
pub stands_on : {T E : Type 0} (next next' served served' : ℕ) (log log' : List E) (ends ends' : List ℕ) (place place' : Place T)
    (holder holder' : ℕ → ℕ) (j : ℕ) (v : Sight E)
    → next ≤ next' → (served ≤ v.drawn → v.drawn < next → holder v.drawn ≡ j → served' ≤ v.drawn)
    → ((t : ℕ) → t < next → holder' t ≡ holder t)
    → (place ≡ out j → (served' ≡ served) × (log' ≡ log) × (place' ≡ out j) × (ends' ≡ ends))
    → (st : Stage) → Stands next served log ends place holder j v st → Stands next' served' log' ends' place' holder' j v st
stands_on next next' served served' log log' ends ends' place place' holder holder' j v more later same outside Idle k = tt
stands_on next next' served served' log log' ends ends' place place' holder holder' j v more later same outside Waiting k =
    let a = k.0 in let b = k.1 in (later a b k.2, omega arith, same v.drawn b ∙ k.2)
stands_on next next' served served' log log' ends ends' place place' holder holder' j v more later same outside Inside k =
    let o = outside k.3 in let b = k.1 in (
      k.0 ∙ sym o.0,
      (let e : served' ≡ served = o.0 in omega arith),
      ap holder' o.0 ∙ (same served b ∙ k.2),
      o.2,
      k.4 ∙ sym o.1,
      k.5 ∙ sym o.3,
    )
stands_on next next' served served' log log' ends ends' place place' holder holder' j v more later same outside Peeked k = tt

pub not_inside : (st st' : Stage) → st ≡ st' → st' ≢ Inside → st ≢ Inside
not_inside st st' e ne i = ne (sym e ∙ i)

pub idle_not : Idle ≢ Inside
idle_not e = cc

pub waiting_not : Waiting ≢ Inside
waiting_not e = cc

pub peeked_not : Peeked ≢ Inside
peeked_not e = cc

module _ {E : Type 0} where
  abbrev pub Held : List (Sight E) → ℕ → ℕ → Type 0
  Held views t j = (u : Sight E) × (get_elem? views j ≡ some u) × HasTicket t u u.stage

  -- a ticket stays with its pass, if the pass that changes keeps its own
  pub held_on : (views : List (Sight E)) (id : ℕ) (v w : Sight E) (t j : ℕ) → get_elem? views id ≡ some v
      → (HasTicket t v v.stage → HasTicket t w w.stage) → Held views t j → Held (set views id w) t j
  held_on views id v w t j at carry h = dite (ℕ_discrete j id)
      (λ e. let same : h.0 ≡ v = some-injective h.0 v (sym h.1 ∙ ap (λ (i : ℕ). get_elem? views i) e ∙ at) in (
        w,
        ap (λ (i : ℕ). get_elem? (set views id w) i) e ∙ set_at views id w v at,
        carry (subst (λ (u : Sight E). HasTicket t u u.stage) same h.2),
      ))
      (λ ne. (h.0, set_else views id j w ne ∙ h.1, h.2))

  -- what holds of the pass that changed, and of each other pass, holds of each
  pub each_set : (views : List (Sight E)) (id : ℕ) (w : Sight E) (F : ℕ → Sight E → Type 0) → F id w
      → ((j : ℕ) (u : Sight E) → j ≢ id → get_elem? views j ≡ some u → F j u) → (j : ℕ) (u : Sight E)
      → get_elem? (set views id w) j ≡ some u → F j u
  each_set views id w F here else j u e = ⊎_elim
      (λ (h : (j ≡ id) × (w ≡ u)). subst (λ (i : ℕ). F i u) (sym h.0) (subst (λ (x : Sight E). F id x) h.1 here))
      (λ (h : (j ≢ id) × (get_elem? views j ≡ some u)). else j u h.0 h.1)
      (at_set views id j w u e)

-- a pass that hands draws over stands where it stood
pub stands_same : {T E : Type 0} (next served : ℕ) (log : List E) (ends : List ℕ) (place : Place T) (holder : ℕ → ℕ) (j n : ℕ) (v : Sight E)
    → (st : Stage) → Stands next served log ends place holder j v st → Stands next served log ends place holder j (kept_draws n v) st
stands_same next served log ends place holder j n v Idle k = k
stands_same next served log ends place holder j n v Waiting k = k
stands_same next served log ends place holder j n v Inside k = k
stands_same next served log ends place holder j n v Peeked k = k

-- and keeps its ticket
pub ticket_same : {E : Type 0} (t n : ℕ) (v : Sight E) (st : Stage) → HasTicket t v st → HasTicket t (kept_draws n v) st
ticket_same t n v Idle k = k
ticket_same t n v Waiting k = k
ticket_same t n v Inside k = k
ticket_same t n v Peeked k = k
