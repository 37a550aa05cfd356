-- The steps by which a pass finds the value keep the rule: looking at its turn, and trying.
use Rattle.std.proofs.Common.{◌≡◌, ◌≢◌, ℕ, ◌+◌, ◌-◌, ◌<◌, ◌≤◌, eqb, List, [], ◌∷◌, set, get_or, length}
use Rattle.std.proofs.Common.{refl, ap, sym, subst, ◌∙◌, arith}
use mathlib.Core.Logic.{dite}
use mathlib.Core.Option.{none, some}
use mathlib.Core.List.{IsPrefix}
use native.Mathlib.Decide.{ℕ_discrete}
use lib.ListN.{get_elem?}
use prog.Atomic.{either}
use Rattle.std.specs.Prelude.{Option, Some}
use Rattle.atomic_table.specs.Table.{State, Me, Act, keeps, takes, Valid, carried_after, stepped, step}
use Rattle.atomic_table.specs.Table.{Allows}
use Rattle.atomic_table.proofs.Lists.{exchanged}
use Rattle.history_lock.specs.declared.pass.Stage.TheVariants.{Waiting, Inside, Peeked}
use Rattle.history_lock.specs.declared.pass.Sight.{Sight}
use Rattle.history_lock.specs.Sights.{total, left_of, last_or, longer, Among, opened, drew, took}
use Rattle.history_lock.specs.Sights.{won, gave_up}
use Rattle.history_lock.specs.Internal.Lock.{slot_at, Stands, HasTicket, Lock}
use Rattle.history_lock.specs.Internal.Steps.{looks, tries}
use Rattle.history_lock.proofs.Prefixes.{prefix_self, prefix_length}
use Rattle.history_lock.proofs.Prefixes.{longer_prefix, longer_whole, among_prefix}
use Rattle.history_lock.proofs.Passes.{part_of_total}
use Rattle.history_lock.proofs.Turns.{found_left}
use Rattle.history_lock.proofs.Line.{given, given_here, given_else, not_inside, waiting_not, peeked_not}
use Rattle.history_lock.proofs.Moves.{steps_on, at_home, takes_on}

ends_last : (n : ℕ) (ends : List ℕ) → 0 < length ends → last_or 0 ends ≡ last_or n ends
ends_last n [] h = absurd (omega arith)
ends_last n (x ∷ xs) h = refl

-- its own entries are in the trail that it finds
mine_found : {E : Type 0} (v : Sight E) (log found : List E) → found ≡ log → IsPrefix v.seen log → IsPrefix v.told log
    → Among v.mine (longer v.seen v.told) → Among v.mine found
mine_found v log found is seen told mine = among_prefix v.mine (longer v.seen v.told) found
    (subst (IsPrefix (longer v.seen v.told)) (sym is) (longer_prefix v.seen v.told log seen told)) mine

-- no list that begins the whole is longer
still_whole : {E : Type 0} (ms told whole log : List E) → whole ≡ log → IsPrefix told log → Among ms whole → Among ms (longer whole told)
still_whole ms told whole log is short among =
    let le = prefix_length told log short in let same : length whole ≡ length log = ap length is in
    subst (Among ms) (sym (longer_whole whole told (omega arith))) among

module _ {T E : Type 0} (trail : T → List E) (mark : T → ℕ) (begun : ℕ) where
  pub looks_kept : (n id : ℕ) (me : Me (Option T) (Sight E)) → me.0.stage ≡ Waiting → me.0.opening ≡ begun
      → Allows (Lock trail mark begun) n id me 1 (λ k. k) (looks trail mark (step n 1 0 0 none) me)
  looks_kept n id me waits opened s r wide at small =
      let v = me.0 in let x : ℕ = get_or s.words 1 0 in let here : x ≡ r.served = ap (λ ws. get_or ws 1 0) r.words in
      let f = r.each_pass id v at in let stood = subst (Stands r.next r.served r.log r.ends r.place r.holder id v) waits f.stands in
      let not : v.stage ≢ Inside = not_inside v.stage Waiting waits waiting_not in
      let words : set s.words 1 x ≡ r.next ∷ r.served ∷ [] = ap (λ ws. set ws 1 x) r.words ∙ ap (λ k. r.next ∷ k ∷ []) here in
      dite (ℕ_discrete x v.drawn)
      (λ mine.
      let turn : v.drawn ≡ r.served = sym mine ∙ here in
      let h = at_home trail mark begun s r id v at not (λ _. ap r.holder (sym turn) ∙ stood.2) r.place refl r.lies in
      let w = took v r.ends (trail h.0) in let l : w.left ≡ v.left = refl in
      let value : s.homes ≡ some (Some h.0) ∷ [] = r.slot ∙ ap (λ p. slot_at p ∷ []) h.1 in
      let all_mine = mine_found v r.log (trail h.0) h.2 f.seen f.told f.mine in
      let later : r.served < r.next = (let a = stood.1 in omega arith) in (
        w,
        takes 0 (Some h.0),
        ap (λ hs. get_elem? hs 0) value,
        takes_on trail mark begun s r id v w (set s.words 1 x) r.next r.holder h.0 at h.1 refl words (omega arith) (omega arith)
            (λ _ _. refl)
            record {
              stands = (turn, later, ap r.holder (sym turn) ∙ stood.2, refl, h.2, refl);
              peeked = f.peeked;
              account = prefix_self r.ends;
              told_account = f.told_account;
              seen = subst (IsPrefix (trail h.0)) h.2 (prefix_self (trail h.0));
              told = f.told;
              found = prefix_self (trail h.0);
              mine = still_whole v.mine v.told (trail h.0) r.log h.2 f.told all_mine;
            }
            (λ t _ has. subst (HasTicket t v) waits has)
            (λ t le lt. absurd (omega arith))
            refl,
        (
          (λ no. absurd (no mine)),
          λ _. (
            h.0,
            refl,
            record {
              seen = subst (IsPrefix v.seen) (sym h.2) f.seen;
              mine = all_mine;
              marked =
                  (let b = h.3 in omega arith);
              below = (let part : v.left ≤ total left_of s.views = part_of_total left_of s.views id v at in let d = r.draws in omega arith);
              account = f.account;
              turns = r.turns ∙ sym here;
              last =
                  λ some_turn. (let u = r.turns in ends_last begun r.ends (omega arith)) ∙ (r.last ∙ ap length (sym h.2));
              left =
                  found_left v begun x r.ends r.log (trail h.0) opened (r.turns ∙ sym here) r.last h.2;
              grows =
                  record { opening = refl; account = f.account; seen = subst (IsPrefix v.seen) (sym h.2) f.seen };
            },
          ),
          refl,
        ),
      ))
      (λ other. (
        v,
        keeps,
        tt,
        steps_on trail mark begun s r id v v (set s.words 1 x) r.next r.holder at not words (omega arith) (omega arith) (λ _ _. refl) f
            (λ t _ has. has) (λ t le lt. absurd (omega arith)) refl,
        ((λ _. refl), (λ e. absurd (other e)), refl),
      ))

  abbrev Goes : State (Option T) (Sight E) → ℕ → ℕ → Me (Option T) (Sight E) → (ℕ → Me (Option T) (Sight E) → Type 0) → ℕ → Type 0
  Goes s i id me then y = (w : Sight E) × (a : Act (Option T)) × Valid s.homes me.1 a × Lock trail mark begun (stepped s i y id me.1 w a)
      × then (get_or s.words i 0) (w, carried_after me.1 a)

  pub tries_kept : (n id : ℕ) (me : Me (Option T) (Sight E)) (old new : ℕ) → me.0.stage ≡ Peeked → me.0.opening ≡ begun
      → 0 < me.0.left → old ≡ me.0.peeked → new ≡ old + 1
      → Allows (Lock trail mark begun) n id me 0 (λ k. either (eqb k old) new k) (tries trail mark (step n 0 old new none) me)
  tries_kept n id me old new looked opened some_left is more s r wide at small =
      let v = me.0 in let x : ℕ = get_or s.words 0 0 in let here : x ≡ r.next = ap (λ ws. get_or ws 0 0) r.words in
      let f = r.each_pass id v at in let p = f.peeked in let o = r.order in let some' : 0 < v.left = some_left in
      let not : v.stage ≢ Inside = not_inside v.stage Peeked looked peeked_not in let step_up : new ≡ v.peeked + 1 = omega arith in
      exchanged x old new (Goes s 0 id me (tries trail mark (step n 0 old new none) me))
      (λ hit.
      let turn : r.served ≡ r.next = omega arith in
      let h = at_home trail mark begun s r id v at not (λ lt. absurd (omega arith)) r.place refl r.lies in
      let w = won v x r.ends (trail h.0) in let l : w.left ≡ v.left - 1 = refl in
      let value : s.homes ≡ some (Some h.0) ∷ [] = r.slot ∙ ap (λ q. slot_at q ∷ []) h.1 in
      let holder : ℕ → ℕ = given r.holder r.next id in
      let all_mine = mine_found v r.log (trail h.0) h.2 f.seen f.told f.mine in
      let bump : new ≡ r.next + 1 = omega arith in (
        w,
        takes 0 (Some h.0),
        ap (λ hs. get_elem? hs 0) value,
        takes_on trail mark begun s r id v w (set s.words 0 new) (r.next + 1) holder h.0 at h.1 refl
            (ap (λ ws. set ws 0 new) r.words ∙ ap (λ k. k ∷ r.served ∷ []) bump)
            (omega arith) (omega arith) (λ t lt. given_else r.holder r.next id t (λ e. omega arith))
            record {
              stands = (here ∙ sym turn, omega arith, ap holder turn ∙ given_here r.holder r.next id, refl, h.2, refl);
              peeked = f.peeked;
              account = prefix_self r.ends;
              told_account = f.told_account;
              seen = subst (IsPrefix (trail h.0)) h.2 (prefix_self (trail h.0));
              told = f.told;
              found = prefix_self (trail h.0);
              mine = still_whole v.mine v.told (trail h.0) r.log h.2 f.told all_mine;
            }
            (λ t _ has. absurd (subst (HasTicket t v) looked has))
            (λ t le lt. let e : t ≡ r.next = omega arith in (ap holder e ∙ given_here r.holder r.next id, here ∙ sym e))
            refl,
        (
          (λ _. (
            h.0,
            refl,
            record {
              seen = subst (IsPrefix v.seen) (sym h.2) f.seen;
              mine = all_mine;
              marked =
                  (let b = h.3 in omega arith);
              below = (let part : v.left ≤ total left_of s.views = part_of_total left_of s.views id v at in let d = r.draws in omega arith);
              account = f.account;
              turns = r.turns ∙ (turn ∙ sym here);
              last =
                  λ some_turn. (let u = r.turns in ends_last begun r.ends (omega arith)) ∙ (r.last ∙ ap length (sym h.2));
              left =
                  found_left (drew v x) begun x r.ends r.log (trail h.0) opened (r.turns ∙ (turn ∙ sym here)) r.last h.2;
              grows =
                  record { opening = refl; account = f.account; seen = subst (IsPrefix v.seen) (sym h.2) f.seen };
            },
          )),
          (λ no. absurd (no hit)),
          refl,
          is,
          step_up,
        ),
      ))
      (λ miss.
      let w = gave_up v in let l : w.left ≡ v.left = refl in (
        w,
        keeps,
        tt,
        steps_on trail mark begun s r id v w (set s.words 0 x) r.next r.holder at not
            (ap (λ ws. set ws 0 x) r.words ∙ ap (λ k. k ∷ r.served ∷ []) here)
            (omega arith) (omega arith) (λ _ _. refl)
            record {
              stands = tt;
              peeked = f.peeked;
              account = f.account;
              told_account = f.told_account;
              seen = f.seen;
              told =
                  f.told;
              found = f.found;
              mine = f.mine;
            }
            (λ t _ has. absurd (subst (HasTicket t v) looked has)) (λ t le lt. absurd (omega arith)) refl,
        ((λ hit. absurd (miss hit)), (λ _. refl), refl, is, step_up),
      ))
