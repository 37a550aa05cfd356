-- What a step keeps of the rule: where the value stays as it is, and where a pass takes it.
use Rattle.std.proofs.Common.{◌≡◌, ◌≢◌, ℕ, ◌+◌, ◌<◌, ◌≤◌, List, [], ◌∷◌, ◌++◌, set}
use Rattle.std.proofs.Common.{refl, ap, sym, subst, ◌∙◌, arith, lt_of_not-le}
use mathlib.Core.Logic.{dite}
use mathlib.Core.Option.{none, some, some-injective}
use native.Mathlib.Decide.{dec_le}
use lib.ListN.{get_elem?}
use Rattle.std.specs.Prelude.{Option}
use Rattle.atomic_table.specs.Table.{State}
use Rattle.atomic_table.proofs.Lists.{set_else, at_longer}
use Rattle.history_lock.specs.declared.pass.Stage.TheVariants.{Inside}
use Rattle.history_lock.specs.declared.pass.Sight.{Sight}
use Rattle.history_lock.specs.Sights.{left_of, weigh, weight_of}
use Rattle.history_lock.specs.Internal.Lock.{Place, home, out, Stands, Fits, HasTicket, Lies, Lock}
use Rattle.history_lock.proofs.Passes.{set_at, total_set, part_of_total}
use Rattle.history_lock.proofs.Line.{stands_on}
use Rattle.history_lock.proofs.Line.{Held, held_on, each_set}

module _ {T E : Type 0} (trail : T → List E) (mark : T → ℕ) (begun : ℕ) where
  -- the value stays where it is, if the pass that changes isn't inside
  pub lies_on : (served served' : ℕ) (log : List E) (views : List (Sight E)) (id : ℕ) (v w : Sight E) → served ≤ served'
      → get_elem? views id ≡ some v → v.stage ≢ Inside
      → (place : Place T) → Lies trail mark served log views place → Lies trail mark served' log (set views id w) place
  lies_on served served' log views id v w le at not (home x) k = let b = k.1 in (k.0, omega arith)
  lies_on served served' log views id v w le at not (out j) k = (
    k.0,
    set_else views id j w (λ e. not (ap (λ (u : Sight E). u.stage)
        (some-injective v k.0 (sym at ∙ ap (λ (i : ℕ). get_elem? views i) (sym e) ∙ k.1)) ∙ k.2)) ∙ k.1,
    k.2,
  )

  pub lies_longer : (served : ℕ) (log : List E) (views : List (Sight E)) (w : Sight E) → (place : Place T)
      → Lies trail mark served log views place → Lies trail mark served log (views ++ w ∷ []) place
  lies_longer served log views w (home x) k = k
  lies_longer served log views w (out j) k = (k.0, at_longer views (w ∷ []) j k.0 k.1, k.2)

  -- a step of a pass that isn't inside, with the value and its trail left as they are
  pub steps_on : (s : State (Option T) (Sight E)) (r : Lock trail mark begun s) (id : ℕ) (v w : Sight E) (ws : List ℕ) (next : ℕ)
      (holder : ℕ → ℕ)
      → get_elem? s.views id ≡ some v → v.stage ≢ Inside → ws ≡ next ∷ r.served ∷ []
      → r.next ≤ next → next + w.left ≤ r.next + v.left → ((t : ℕ) → t < r.next → holder t ≡ r.holder t)
      → Fits next r.served r.log r.ends r.place holder id w
      → ((t : ℕ) → t < r.next → HasTicket t v v.stage → HasTicket t w w.stage)
      → ((t : ℕ) → r.next ≤ t → t < next → (holder t ≡ id) × HasTicket t w w.stage)
      → w.mine ≡ v.mine
      → Lock trail mark begun record { words = ws; homes = s.homes; views = set s.views id w }
  steps_on s r id v w ws next holder at not words more fewer same mine carried new kept =
      let sum = total_set left_of s.views id v w at in
      let part = part_of_total left_of s.views id v at in let d = r.draws in let u = r.turns in let o = r.order in
      let lw : left_of w ≡ w.left = refl in let lv : left_of v ≡ v.left = refl in
      record {
        next = next;
        served = r.served;
        log = r.log;
        place = r.place;
        holder = holder;
        words = words;
        slot = r.slot;
        order = omega arith;
        draws = omega arith;
        ends = r.ends;
        turns = r.turns;
        rising = r.rising;
        last = r.last;
        lies = lies_on r.served r.served r.log s.views id v w (omega arith) at not r.place r.lies;
        each_pass = each_set s.views id w (Fits next r.served r.log r.ends r.place holder) mine
            (λ j u ne e. let g = r.each_pass j u e in record {
              stands = stands_on r.next next r.served r.served r.log r.log r.ends r.ends r.place r.place r.holder holder j u more
                  (λ le _ _. le) same (λ o. (refl, refl, o, refl)) u.stage g.stands;
              peeked = g.peeked;
              account = g.account;
              told_account = g.told_account;
              seen = g.seen;
              told = g.told;
              found = g.found;
              mine = g.mine;
            });
        each_ticket = λ t le lt. dite (dec_le r.next t)
            (λ late. let n = new t late lt in (w, ap (λ (i : ℕ). get_elem? (set s.views id w) i) n.0 ∙ set_at s.views id w v at, n.1))
            (λ not. let early : t < r.next = lt_of_not-le not in subst (λ (i : ℕ). Held (set s.views id w) t i) (sym (same t early))
            (held_on s.views id v w t (r.holder t) at (carried t early) (r.each_ticket t le early)));
        whole = r.whole;
        made = λ h.
            let c = total_set (weight_of h) s.views id v w at in let m = r.made h in
            let e : weight_of h w ≡ weight_of h v = ap (weigh h) kept in omega arith;
      }

  -- the pass whose turn it is finds the value at home
  pub at_home : (s : State (Option T) (Sight E)) (r : Lock trail mark begun s) (id : ℕ) (v : Sight E)
      → get_elem? s.views id ≡ some v → v.stage ≢ Inside → (r.served < r.next → r.holder r.served ≡ id)
      → (p : Place T) → r.place ≡ p → Lies trail mark r.served r.log s.views p
      → (x : T) × (r.place ≡ home x) × (trail x ≡ r.log) × (mark x ≤ r.served)
  at_home s r id v at not whose (home x) e k = (x, e, k.0, k.1)
  at_home s r id v at not whose (out j) e k =
      let g = subst (Stands r.next r.served r.log r.ends r.place r.holder j k.0) k.2 (r.each_pass j k.0 k.1).stands in
      let me : j ≡ id = sym g.2 ∙ whose g.1 in
      let same : v ≡ k.0 = some-injective v k.0 (sym at ∙ ap (λ (i : ℕ). get_elem? s.views i) (sym me) ∙ k.1) in
      absurd (not (ap (λ (u : Sight E). u.stage) same ∙ k.2))

  -- a pass takes the value
  pub takes_on : (s : State (Option T) (Sight E)) (r : Lock trail mark begun s) (id : ℕ) (v w : Sight E) (ws : List ℕ) (next : ℕ)
      (holder : ℕ → ℕ) (x : T)
      → get_elem? s.views id ≡ some v → r.place ≡ home x → w.stage ≡ Inside → ws ≡ next ∷ r.served ∷ []
      → r.next ≤ next → next + w.left ≤ r.next + v.left → ((t : ℕ) → t < r.next → holder t ≡ r.holder t)
      → Fits {T = T} next r.served r.log r.ends (out id) holder id w
      → ((t : ℕ) → t < r.next → HasTicket t v v.stage → HasTicket t w w.stage)
      → ((t : ℕ) → r.next ≤ t → t < next → (holder t ≡ id) × HasTicket t w w.stage)
      → w.mine ≡ v.mine
      → Lock trail mark begun record { words = ws; homes = set s.homes 0 none; views = set s.views id w }
  takes_on s r id v w ws next holder x at lies in_now words more fewer same mine carried new kept =
      let sum = total_set left_of s.views id v w at in
      let part = part_of_total left_of s.views id v at in let d = r.draws in let u = r.turns in let o = r.order in
      let lw : left_of w ≡ w.left = refl in let lv : left_of v ≡ v.left = refl in
      record {
        next = next;
        served = r.served;
        log = r.log;
        place = out id;
        holder = holder;
        words = words;
        slot = ap (λ hs. set hs 0 none) r.slot;
        order = omega arith;
        draws = omega arith;
        ends = r.ends;
        turns = r.turns;
        rising = r.rising;
        last = r.last;
        lies = (w, set_at s.views id w v at, in_now);
        each_pass = each_set s.views id w (Fits {T = T} next r.served r.log r.ends (out id) holder) mine
            (λ j u ne e. let g = r.each_pass j u e in record {
              stands = stands_on r.next next r.served r.served r.log r.log r.ends r.ends r.place (out id) r.holder holder j u more
                  (λ le _ _. le) same
                  (λ o. let no : home x ≡ out j = sym lies ∙ o in absurd (cc no)) u.stage g.stands;
              peeked = g.peeked;
              account = g.account;
              told_account = g.told_account;
              seen = g.seen;
              told = g.told;
              found = g.found;
              mine = g.mine;
            });
        each_ticket = λ t le lt. dite (dec_le r.next t)
            (λ late. let n = new t late lt in (w, ap (λ (i : ℕ). get_elem? (set s.views id w) i) n.0 ∙ set_at s.views id w v at, n.1))
            (λ not. let early : t < r.next = lt_of_not-le not in subst (λ (i : ℕ). Held (set s.views id w) t i) (sym (same t early))
            (held_on s.views id v w t (r.holder t) at (carried t early) (r.each_ticket t le early)));
        whole = r.whole;
        made = λ h.
            let c = total_set (weight_of h) s.views id v w at in let m = r.made h in
            let e : weight_of h w ≡ weight_of h v = ap (weigh h) kept in omega arith;
      }
