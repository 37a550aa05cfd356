-- Leaving keeps the rule: the value goes home, and the trail it has then is the trail so far.
use Rattle.std.proofs.Common.{◌≡◌, ◌≢◌, ℕ, ◌+◌, ◌%◌, ◌^◌, ◌<◌, ◌≤◌, List, [], ◌∷◌, ◌++◌, set, get_or, length, drop}
use Rattle.std.proofs.Common.{refl, ap, sym, subst, ◌∙◌, arith, mod-eq_of_lt, length-append}
use mathlib.Core.Option.{none, some}
use mathlib.Core.List.{IsPrefix}
use Rattle.std.specs.Prelude.{Option, Some, None}
use Rattle.atomic_table.specs.Table.{State, Me, gives, put_back, rest, stepped, step}
use Rattle.atomic_table.specs.Table.{Allows}
use Rattle.history_lock.specs.declared.pass.Stage.TheVariants.{Inside}
use Rattle.history_lock.specs.declared.pass.Sight.{Sight}
use Rattle.history_lock.specs.Sights.{total, left_of, weigh, weight_of, last_or, NeverFalls, longer, Among}
use Rattle.history_lock.specs.Sights.{finished}
use Rattle.history_lock.specs.Internal.Lock.{home, out, Stands, Fits, HasTicket, Lock}
use Rattle.history_lock.specs.Internal.Steps.{leaves}
use Rattle.history_lock.proofs.Prefixes.{prefix_self, prefix_trans, prefix_length}
use Rattle.history_lock.proofs.Prefixes.{longer_prefix, longer_whole, among_prefix, among_append, among_drop}
use Rattle.history_lock.proofs.Prefixes.{weigh_append, weigh_drop, rising_snoc}
use Rattle.history_lock.proofs.Passes.{set_at, total_set, part_of_total}
use Rattle.history_lock.proofs.Turns.{left_next}
use Rattle.history_lock.proofs.Line.{stands_on}
use Rattle.history_lock.proofs.Line.{held_on, each_set}

pub last_snoc : (n : ℕ) (ends : List ℕ) (m : ℕ) → last_or n (ends ++ m ∷ []) ≡ m
last_snoc n [] m = refl
last_snoc n (x ∷ xs) m = last_snoc x xs m

abbrev value_or : {T : Type 0} → T → Option T → T
value_or d (Some x) = x
value_or d None = d

abbrev carried_or : {T : Type 0} → T → List (ℕ × Option T) → T
carried_or d [] = d
carried_or d (x ∷ xs) = value_or d x.1

module _ {T E : Type 0} (trail : T → List E) (mark : T → ℕ) (begun : ℕ) where
  pub leaves_kept : (n id : ℕ) (me : Me (Option T) (Sight E)) (x : T) → me.0.stage ≡ Inside → me.1 ≡ (0, Some x) ∷ []
      → IsPrefix me.0.found (trail x) → mark x ≤ me.0.drawn + 1
      → Allows (Lock trail mark begun) n id me 1 (λ k. (k + 1) % 2 ^ 64) (leaves trail mark (step n 1 1 0 none) me)
  leaves_kept n id me x inside slot grown marked s r wide at small =
      let v = me.0 in let y : ℕ = get_or s.words 1 0 in let here : y ≡ r.served = ap (λ ws. get_or ws 1 0) r.words in
      let f = r.each_pass id v at in let stood = subst (Stands r.next r.served r.log r.ends r.place r.holder id v) inside f.stands in
      let w = finished v (trail x) in let sum = total_set left_of s.views id v w at in
      let part = part_of_total left_of s.views id v at in let d = r.draws in let u = r.turns in let o = r.order in
      let lw : left_of w ≡ v.left = refl in let lv : left_of v ≡ v.left = refl in
      let turn : v.drawn ≡ r.served = stood.0 in let drawn_so_far : r.served < r.next = stood.1 in
      let wrap : (y + 1) % 2 ^ 64 ≡ r.served + 1 = mod-eq_of_lt (omega arith) ∙ ap (λ k. k + 1) here in
      let longer_log : IsPrefix r.log (trail x) = subst (λ l. IsPrefix l (trail x)) stood.4 grown in
      let onward : (xs : List E) → IsPrefix xs r.log → IsPrefix xs (trail x) = λ xs p. prefix_trans xs r.log (trail x) p longer_log in
      let longer_ends : IsPrefix r.ends w.ends = subst (λ l. IsPrefix l w.ends) stood.5 (length (trail x) ∷ [], refl) in
      let onward_ends : (xs : List ℕ) → IsPrefix xs r.ends → IsPrefix xs w.ends = λ xs p. prefix_trans xs r.ends w.ends p longer_ends in
      let told : length v.told ≤ length (trail x) = prefix_length v.told (trail x) (onward v.told f.told) in
      let old_mine : Among v.mine (trail x) = among_prefix v.mine (longer v.seen v.told) (trail x)
      (onward (longer v.seen v.told) (longer_prefix v.seen v.told r.log f.seen f.told)) f.mine in
      let all_mine : Among w.mine (trail x) =
      among_append v.mine (drop (length v.found) (trail x)) (trail x) old_mine (among_drop (length v.found) (trail x)) in
      let after : State (Option T) (Sight E) = stepped s 1 ((y + 1) % 2 ^ 64) id me.1 w gives in
      let home_now : after.homes ≡ some (Some x) ∷ [] = ap (put_back s.homes) slot ∙ ap (λ hs. set hs 0 (some (Some x))) r.slot in
      let all_made : (h : E → ℕ) → total (weight_of h) (set s.views id w) ≤ weigh h (trail x) = λ h.
      let c = total_set (weight_of h) s.views id v w at in let m = r.made h in
      let a = weigh_append h v.mine (drop (length v.found) (trail x)) in
      let b = weigh_drop h v.found (trail x) grown in
      let e : weigh h v.found ≡ weigh h r.log = ap (weigh h) stood.4 in omega arith in
      let own_made : (h : E → ℕ) → weigh h w.mine ≤ weigh h (trail x) = λ h.
      let q = part_of_total (weight_of h) (set s.views id w) id w (set_at s.views id w v at) in let m = all_made h in omega arith in
      let longer_by : length r.log ≤ length (trail x) = prefix_length r.log (trail x) longer_log in
      let last_here : last_or begun v.ends ≡ length r.log = ap (last_or begun) stood.5 ∙ r.last in
      let rule : Lock trail mark begun after =
      record {
        next = r.next;
        served = r.served + 1;
        log = trail x;
        place = home x;
        holder = r.holder;
        words = ap (λ ws. set ws 1 ((y + 1) % 2 ^ 64)) r.words ∙ ap (λ k. r.next ∷ k ∷ []) wrap;
        slot = home_now;
        order = omega arith;
        draws = omega arith;
        ends = w.ends;
        turns = length-append v.ends (length (trail x) ∷ [])
            ∙ (let a : length v.ends ≡ r.served = ap length stood.5 ∙ r.turns in omega arith);
        rising = rising_snoc begun v.ends (length (trail x)) (subst (NeverFalls begun) (sym stood.5) r.rising) (omega arith);
        last = last_snoc begun v.ends (length (trail x));
        lies = (refl, (let m = marked in omega arith));
        each_pass = each_set s.views id w (Fits {T = T} r.next (r.served + 1) (trail x) w.ends (home x) r.holder)
            record {
              stands = tt;
              peeked = (let p = f.peeked in omega arith);
              account = prefix_self w.ends;
              told_account = onward_ends v.told_ends f.told_account;
              seen = prefix_self (trail x);
              told = onward v.told f.told;
              found = grown;
              mine = subst (Among w.mine) (sym (longer_whole (trail x) v.told told)) all_mine;
            }
            (λ j z ne e. let g = r.each_pass j z e in record {
              stands = stands_on r.next r.next r.served (r.served + 1) r.log (trail x) r.ends w.ends r.place (home x) r.holder r.holder j z
                  (omega arith)
                  (λ le lt holds. let other : z.drawn ≢ r.served = λ same. ne (sym holds ∙ ap r.holder same ∙ stood.2) in omega arith)
                  (λ _ _. refl) (λ o. let no : out j ≡ out id = sym o ∙ stood.3 in let no' : j ≡ id = cc no in absurd (ne no'))
                  z.stage g.stands;
              peeked = (let p = g.peeked in omega arith);
              account = onward_ends z.ends g.account;
              told_account = onward_ends z.told_ends g.told_account;
              seen = onward z.seen g.seen;
              told = onward z.told g.told;
              found = g.found;
              mine = g.mine;
            });
        each_ticket = λ t le lt. held_on s.views id v w t (r.holder t) at
            (λ has. let is : v.drawn ≡ t = subst (HasTicket t v) inside has in absurd (omega arith))
            (r.each_ticket t (omega arith) lt);
        whole = (x, refl);
        made = all_made;
      } in (
        w,
        gives,
        tt,
        rule,
        (
          (λ x' is.
              let same : x ≡ x' = ap (carried_or x) (sym slot ∙ is) in (
                here ∙ sym turn,
                (λ k. (finished v (trail (same k)), rest (slot k))),
                subst (λ z. Among (finished v (trail z)).mine (trail z)) same all_mine,
                left_next v y (trail x') (ap length stood.5 ∙ (r.turns ∙ sym here)),
                record {
                  opening = refl;
                  account = (length (trail x') ∷ [], refl);
                  seen =
                      subst (λ z. IsPrefix v.seen (trail z)) same (onward v.seen f.seen);
                },
                let P : T → Type 0 = λ z. (h : E → ℕ) → weigh h (finished v (trail z)).mine ≤ weigh h (trail z) in subst P same own_made,
                length-append v.ends (length (trail x') ∷ [])
                    ∙ (let a : length v.ends ≡ r.served = ap length stood.5 ∙ r.turns in omega arith),
                omega arith,
              )),
          refl,
          refl,
        ),
      )
