-- Splitting and joining passes keep the rule, and a new lock has it.
use Rattle.std.proofs.Common.{◌≡◌, ℕ, ◌+◌, ◌-◌, ◌^◌, ◌≤◌, List, [], ◌∷◌, ◌++◌, set, length}
use Rattle.std.proofs.Common.{refl, ap, sym, subst, ◌∙◌, ⊎_elim, arith}
use mathlib.Core.Logic.{dite}
use mathlib.Core.Option.{some, some-injective, some-ne-none}
use mathlib.Core.List.{IsPrefix}
use native.Mathlib.Decide.{ℕ_discrete}
use lib.ListN.{get_elem?}
use Rattle.std.specs.Prelude.{Some}
use Rattle.atomic_table.specs.Table.{Splits, Joins, opening}
use Rattle.atomic_table.proofs.Lists.{set_else, at_longer, at_snoc}
use Rattle.history_lock.specs.declared.pass.Stage.TheVariants.{Idle}
use Rattle.history_lock.specs.declared.pass.Sight.{Sight}
use Rattle.history_lock.specs.Sights.{left_of, weight_of, longer, Among, opened, spent}
use Rattle.history_lock.specs.Sights.{kept_draws, given_draws, joined}
use Rattle.history_lock.specs.Internal.Lock.{Place, home, out, Stands, Fits, HasTicket, Lies, Lock}
use Rattle.history_lock.proofs.Prefixes.{prefix_self, prefix_nil, longer_first, longer_second}
use Rattle.history_lock.proofs.Prefixes.{longer_whole, among_prefix, among_nil, among_append}
use Rattle.history_lock.proofs.Prefixes.{weigh_append}
use Rattle.history_lock.proofs.Passes.{set_at, total_set, total_snoc, part_of_total}
use Rattle.history_lock.proofs.Line.{not_inside, idle_not}
use Rattle.history_lock.proofs.Line.{held_on, each_set, stands_same, ticket_same}
use Rattle.history_lock.proofs.Moves.{lies_on, lies_longer}

module _ {T E : Type 0} (trail : T → List E) (mark : T → ℕ) (begun : ℕ) where
  -- the value stays where it is, if the pass that changes stays in its stage
  lies_kept : (served : ℕ) (log : List E) (views : List (Sight E)) (id : ℕ) (v w : Sight E) → get_elem? views id ≡ some v
      → w.stage ≡ v.stage
      → (place : Place T) → Lies trail mark served log views place → Lies trail mark served log (set views id w) place
  lies_kept served log views id v w at stays (home x) k = k
  lies_kept served log views id v w at stays (out j) k = dite (ℕ_discrete j id)
      (λ e. let same : v ≡ k.0 = some-injective v k.0 (sym at ∙ ap (λ (i : ℕ). get_elem? views i) (sym e) ∙ k.1) in
      (w, ap (λ (i : ℕ). get_elem? (set views id w) i) e ∙ set_at views id w v at, stays ∙ (ap (λ (u : Sight E). u.stage) same ∙ k.2)))
      (λ ne. (k.0, set_else views id j w ne ∙ k.1, k.2))

  pub splits_kept : (id n : ℕ) (v : Sight E) → n ≤ v.left → Splits (Lock trail mark begun) id v (kept_draws n v) (given_draws n v)
  splits_kept id n v enough s r at =
      let left = kept_draws n v in let right = given_draws n v in let views : List (Sight E) = set s.views id left in
      let sum = total_set left_of s.views id v left in
      let sum' = sum at in
      let add = total_snoc left_of views right in
      let part = part_of_total left_of s.views id v at in let d = r.draws in let u = r.turns in
      let lw : left_of left ≡ v.left - n = refl in let lv : left_of v ≡ v.left = refl in let lr : left_of right ≡ n = refl in
      let f = r.each_pass id v at in
      record {
        next = r.next;
        served = r.served;
        log = r.log;
        place = r.place;
        holder = r.holder;
        words = r.words;
        slot = r.slot;
        order = r.order;
        draws = omega arith;
        ends = r.ends;
        turns = r.turns;
        rising = r.rising;
        last = r.last;
        lies = lies_longer trail mark begun r.served r.log views right r.place
            (lies_kept r.served r.log s.views id v left at refl r.place r.lies);
        each_pass = λ j z e. ⊎_elim
            (λ was. each_set s.views id left (Fits r.next r.served r.log r.ends r.place r.holder)
            record {
              stands = stands_same r.next r.served r.log r.ends r.place r.holder id n v v.stage f.stands;
              peeked =
                  f.peeked;
              account = f.account;
              told_account = f.told_account;
              seen = f.seen;
              told = f.told;
              found = f.found;
              mine = f.mine;
            }
            (λ i y ne e'. r.each_pass i y e') j z was)
            (λ (is : right ≡ z). subst (Fits r.next r.served r.log r.ends r.place r.holder j) is
            record {
              stands = tt;
              peeked = omega arith;
              account = f.account;
              told_account = prefix_nil r.ends;
              seen = f.seen;
              told =
                  prefix_nil r.log;
              found = prefix_nil v.seen;
              mine = among_nil (longer v.seen []);
            })
            (at_snoc views right z j e);
        each_ticket = λ t le lt.
            let h = held_on s.views id v left t (r.holder t) at (ticket_same t n v v.stage) (r.each_ticket t le lt) in
            (h.0, at_longer views (right ∷ []) (r.holder t) h.0 h.1, h.2);
        whole = r.whole;
        made = λ h.
            let c = total_set (weight_of h) s.views id v left at in let k = total_snoc (weight_of h) views right in let m = r.made h in
            let el : weight_of h left ≡ weight_of h v = refl in let er : weight_of h right ≡ 0 = refl in omega arith;
      }

  pub joins_kept : (id : ℕ) (v : Sight E) (other : ℕ) (w : Sight E) → v.stage ≡ Idle → w.stage ≡ Idle → length v.told ≡ 0
      → length w.told ≡ 0
      → Joins (Lock trail mark begun) id v other w (joined v w) spent
  joins_kept id v other w idle idle' untold untold' s r at apart at' =
      let both = joined v w in let views : List (Sight E) = set s.views id both in
      let sum = total_set left_of s.views id v both at in
      let sum' = total_set left_of views other w spent at' in
      let d = r.draws in let u = r.turns in
      let lw : left_of both ≡ v.left + w.left =
      refl in let lv : left_of v ≡ v.left = refl in let lo : left_of w ≡ w.left = refl in let ls : left_of (spent {E = E}) ≡ 0 = refl in
      let f = r.each_pass id v at in
      let was : get_elem? s.views other ≡ some w = sym (set_else s.views id other both apart) ∙ at' in
      let g = r.each_pass other w was in
      let mine : Among (v.mine ++ w.mine) (longer v.seen w.seen) = among_append v.mine w.mine (longer v.seen w.seen)
      (among_prefix v.mine (longer v.seen v.told) (longer v.seen w.seen)
      (subst (λ l. IsPrefix l (longer v.seen w.seen)) (sym (longer_whole v.seen v.told (omega arith)))
      (longer_first v.seen w.seen r.log f.seen g.seen)) f.mine)
      (among_prefix w.mine (longer w.seen w.told) (longer v.seen w.seen)
      (subst (λ l. IsPrefix l (longer v.seen w.seen)) (sym (longer_whole w.seen w.told (omega arith)))
      (longer_second v.seen w.seen r.log f.seen g.seen)) g.mine) in
      record {
        next = r.next;
        served = r.served;
        log = r.log;
        place = r.place;
        holder = r.holder;
        words = r.words;
        slot = r.slot;
        order = r.order;
        draws = omega arith;
        ends = r.ends;
        turns = r.turns;
        rising = r.rising;
        last = r.last;
        lies = lies_on trail mark begun r.served r.served r.log views other w spent (omega arith) at'
            (not_inside w.stage Idle idle' idle_not) r.place
            (lies_on trail mark begun r.served r.served r.log s.views id v both (omega arith) at
            (not_inside v.stage Idle idle idle_not) r.place r.lies);
        each_pass = each_set views other spent (Fits r.next r.served r.log r.ends r.place r.holder)
            record {
              stands = tt;
              peeked = omega arith;
              account = prefix_nil r.ends;
              told_account = prefix_nil r.ends;
              seen =
                  prefix_nil r.log;
              told = prefix_nil r.log;
              found = prefix_nil [];
              mine = among_nil (longer [] []);
            }
            (λ j z ne e. each_set s.views id both (Fits r.next r.served r.log r.ends r.place r.holder)
            record {
              stands = subst (Stands r.next r.served r.log r.ends r.place r.holder id both) (sym idle) tt;
              peeked =
                  f.peeked;
              account = f.account;
              told_account = g.account;
              seen = f.seen;
              told = g.seen;
              found = f.found;
              mine = mine;
            }
            (λ i y ne' e'. r.each_pass i y e') j z e);
        each_ticket = λ t le lt. held_on views other w spent t (r.holder t) at' (λ has. absurd (subst (HasTicket t w) idle' has))
            (held_on s.views id v both t (r.holder t) at (λ has. absurd (subst (HasTicket t v) idle has)) (r.each_ticket t le lt));
        whole = r.whole;
        made = λ h.
            let c = total_set (weight_of h) s.views id v both at in let k =
            total_set (weight_of h) views other w spent at' in let m = r.made h in
            let eb : weight_of h both ≡ weight_of h v + weight_of h w =
            weigh_append h v.mine w.mine in let es : weight_of h (spent {E = E}) ≡ 0 = refl in omega arith;
      }

  pub opens : (x : T) → mark x ≡ 0 → length (trail x) ≡ begun
      → Lock trail mark begun (opening (0 ∷ 0 ∷ []) (Some x ∷ []) (opened (2 ^ 62) (trail x)))
  opens x fresh begins = record {
    next = 0;
    served = 0;
    log = trail x;
    place = home x;
    holder = λ t. t;
    words = refl;
    slot = refl;
    order = omega arith;
    draws = omega arith;
    ends = [];
    turns = refl;
    rising = tt;
    last = sym begins;
    lies = (refl, omega arith);
    each_pass = λ j v e. ⊎_elim (λ (none_there : get_elem? [] j ≡ some v). absurd (some-ne-none v (sym none_there)))
        (λ (is : opened (2 ^ 62) (trail x) ≡ v). subst (Fits 0 0 (trail x) [] (home x) (λ t. t) j) is
        record {
          stands = tt;
          peeked = omega arith;
          account = prefix_nil [];
          told_account = prefix_nil [];
          seen =
              prefix_self (trail x);
          told = prefix_nil (trail x);
          found = prefix_nil (trail x);
          mine = among_nil (longer (trail x) []);
        })
        (at_snoc [] (opened (2 ^ 62) (trail x)) v j e);
    each_ticket = λ t le lt. absurd (omega arith);
    whole = (x, refl);
    made = λ h. omega arith;
  }
