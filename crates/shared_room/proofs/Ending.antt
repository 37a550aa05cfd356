-- What a turn with a call leaves.
use Rattle.std.proofs.Common.{◌≡◌, ◌≢◌, ℕ, zero, suc, ◌+◌, ◌-◌, ◌<◌, ◌≤◌, ◌↔◌, Bool, true, false, nat_lt, List, [], ◌∷◌, ◌++◌}
use Rattle.std.proofs.Common.{length, map, drop, Result, Ok, Err, OnOk, OnErr, IfOk, refl, ap, sym, subst, ◌∙◌, arith}
use Rattle.std.proofs.Common.{append-nil, length-append, ltb, max, ⊎_elim, inl, inr, ◌⊎◌}
use Rattle.std.specs.Prelude.{if◌then◌else◌}
use mathlib.Core.List.{IsPrefix, map-append}
use Rattle.std.proofs.lemmas.Bool.Decides.{nat_tests}
use Rattle.std.proofs.Math.Seq.{drop-append_seam}
use borrow.Author.Tests.{ltb-true}
use Rattle.std.specs.List.{AllByRecursion}
use Rattle.std.specs.declared.alloc.AllocError.{AllocError}
use Rattle.opid.specs.declared.refusal.Refusal.TheVariants.{HistoryFull, Memory}
use Rattle.room_model.specs.declared.call.Call.{Call}
use Rattle.room_model.specs.declared.reply.Reply.{Reply}
use Rattle.room_model.specs.declared.reply.Reply.TheVariants as replies
use Rattle.room_model.specs.Machine.{State, may_record, answer}
use Rattle.room_model.specs.History.{Account, HandsOperations, state_of, mark, called}
use Rattle.room.proofs.Histories.{mark_from-push}
use Rattle.history_lock.specs.declared.pass.Sight.{Sight}
use Rattle.history_lock.specs.Sights.{finished, drew, took, peeked_at, won, joined, learned, longer}
use Rattle.history_lock.specs.Turns.{LeftFor, TookTurns}
use Rattle.history_lock.proofs.Prefixes.{prefix_trans, prefix_length}
use Rattle.history_lock.specs.Locks as locks
use Rattle.shared_room.specs.declared.kept.Item.{Item}
use Rattle.shared_room.specs.declared.kept.Item.TheVariants.{Opened}
use Rattle.shared_room.specs.declared.pass.Pass.{Pass}
use Rattle.shared_room.specs.declared.shared.SharedRoom.{SharedRoom}
use Rattle.shared_room.specs.Trails.{made, trail_of, calls_of, opening_in}
use Rattle.shared_room.specs.Views.{View, view_of, IsPassOf}
use Rattle.opid.specs.declared.refusal.Refusal.{Refusal}
use Rattle.shared_room.specs.Turns.{Replies, Records, Stays, TakesTurn, Answers, LacksMemory, FailsToRecord, Joins, Meets}
use Rattle.shared_room.specs.Internal.TurnEnds.{Keeps, EndsTurn}
use Rattle.shared_room.proofs.Trails.{calls_prefix, calls_made, calls_append, legal_calls, short_calls, owns_calls, distinct_calls}

-- ---- the trail after a call

pub more_of : Bool → ℕ → Call → List (ℕ × Call)
more_of true t c = (t, c) ∷ []
more_of false t c = []

history_more : (b : Bool) (h : List (ℕ × Call)) (t : ℕ) (c : Call) → (if b then h ++ (t, c) ∷ [] else h) ≡ h ++ more_of b t c
unfolding more_of
history_more true h t c = refl
history_more false h t c = sym (append-nil h)

trail_more : (o : State) (h more : List (ℕ × Call)) → Opened o ∷ map made (h ++ more) ≡ (Opened o ∷ map made h) ++ map made more
trail_more o h more = ap (λ (l : List Item). Opened o ∷ l) (map-append made h more)

pub trail_called : (R : Account) (t : ℕ) (c : Call) → trail_of (called R t c) ≡ trail_of R ++ map made (more_of (may_record R.state) t c)
trail_called R t c =
    ap (λ (h : List (ℕ × Call)). Opened R.opening ∷ map made h) (history_more (may_record R.state) R.history t c)
    ∙ trail_more R.opening R.history (more_of (may_record R.state) t c)

pub grows_called : (R R' : Account) (t : ℕ) (c : Call) (r : Result Reply AllocError) → OnOk r (R' ≡ called R t c)
    → OnErr r (R' ≡ R) → IsPrefix (trail_of R) (trail_of R')
grows_called R R' t c (Ok reply) p q = (map made (more_of (may_record R.state) t c), sym (ap trail_of p ∙ trail_called R t c))
grows_called R R' t c (Err e) p q = ([], append-nil (trail_of R) ∙ ap trail_of (sym q))

mark_more : (b : Bool) (h : List (ℕ × Call)) (t : ℕ) (c : Call) → mark h ≤ t → mark (if b then h ++ (t, c) ∷ [] else h) ≤ t + 1
mark_more true h t c le = let e = mark_from-push 0 h (t, c) in omega arith
mark_more false h t c le = omega arith

pub marked_called : (R R' : Account) (t : ℕ) (c : Call) (r : Result Reply AllocError) → mark R.history ≤ t
    → OnOk r (R' ≡ called R t c) → OnErr r (R' ≡ R) → mark R'.history ≤ t + 1
marked_called R R' t c (Ok reply) le p q =
    subst (λ (X : Account). mark X.history ≤ t + 1) (sym p) (mark_more (may_record R.state) R.history t c le)
marked_called R R' t c (Err e) le p q = subst (λ (X : Account). mark X.history ≤ t + 1) (sym q) (omega arith)

-- ---- what the pass knows after the turn

pub calls_trail : (R : Account) → calls_of (trail_of R) ≡ R.history
calls_trail R = calls_made R.history

mine_after : (s : Sight Item) (R R' : Account) (more : List (ℕ × Call)) → s.found ≡ trail_of R → trail_of R' ≡ trail_of R ++ map made more
    → calls_of (finished s (trail_of R')).mine ≡ calls_of s.mine ++ more
mine_after s R R' more found grown =
    calls_append s.mine (drop (length s.found) (trail_of R'))
    ∙ ap (λ (l : List (ℕ × Call)). calls_of s.mine ++ l)
    (ap (λ (l : List Item). calls_of (drop (length l) (trail_of R'))) found
    ∙ (ap (λ (l : List Item). calls_of (drop (length (trail_of R)) l)) grown
    ∙ (ap calls_of (drop-append_seam (trail_of R) (map made more)) ∙ calls_made more)))

seen_after : (s : Sight Item) (R R' : Account) (more : List (ℕ × Call)) → s.found ≡ trail_of R → trail_of R' ≡ trail_of R ++ map made more
    → calls_of (finished s (trail_of R')).seen ≡ calls_of (finished s (trail_of R')).found ++ more
seen_after s R R' more found grown =
    ap calls_of grown ∙ (calls_append (trail_of R) (map made more)
    ∙ (ap (λ (l : List (ℕ × Call)). calls_of (trail_of R) ++ l) (calls_made more) ∙ ap (λ (l : List Item). calls_of l ++ more) (sym found)))

replies_by : (b : Bool) (s : Sight Item) (R R' : Account) (c : Call) → nat_lt (length R.history) 1048576 ≡ b
    → s.found ≡ trail_of R → trail_of R' ≡ trail_of R ++ map made (more_of b s.drawn c)
    → ((length (calls_of s.found) < 1048576) → Records (view_of s) (view_of (finished s (trail_of R'))) c)
    × ((length (calls_of s.found) ≡ 1048576) → Stays (view_of s) (view_of (finished s (trail_of R'))))
unfolding more_of
replies_by true s R R' c test found grown =
    let n : length (calls_of s.found) ≡ length R.history = ap (λ (l : List Item). length (calls_of l)) found ∙ ap length (calls_trail R) in
    let below : length R.history < 1048576 = grind (arith, nat_tests) in (
      (λ _. record { seen = seen_after s R R' _ found grown; mine = mine_after s R R' _ found grown }),
      λ e. absurd (omega arith),
    )
replies_by false s R R' c test found grown =
    let n : length (calls_of s.found) ≡ length R.history = ap (λ (l : List Item). length (calls_of l)) found ∙ ap length (calls_trail R) in
    let above : 1048576 ≤ length R.history = grind (arith, nat_tests) in (
      (λ e. absurd (omega arith)),
      λ _. record { seen = seen_after s R R' _ found grown ∙ append-nil _; mine = mine_after s R R' _ found grown ∙ append-nil _ },
    )

pub replies_after : (o : State) (s : Sight Item) (R R' : Account) (c : Call) (reply : Reply) → R.opening ≡ o
    → state_of R.opening R.history ≡ R.state
    → R.state.count ≡ length R.history → s.found ≡ trail_of R → reply ≡ answer R.state c
    → ((reply ≡ replies.No HistoryFull) ↔ (length R.history ≡ 1048576)) → R' ≡ called R s.drawn c → length R.history ≤ 1048576
    → Replies o (view_of s) (view_of (finished s (trail_of R'))) c reply
replies_after o s R R' c reply opening replays counted found is full after within =
    let rest = replies_by (may_record R.state) s R R' c (ap (λ n. nat_lt n 1048576) (sym counted)) found
    (ap trail_of after ∙ trail_called R s.drawn c) in
    let history : calls_of s.found ≡ R.history = ap calls_of found ∙ calls_trail R in
    record {
      answered = is ∙ ap (λ (S : State). answer S c)
          (sym replays ∙ (ap (λ (S : State). state_of S R.history) opening ∙ ap (state_of o) (sym history)));
      full = subst (λ (h : List (ℕ × Call)). (reply ≡ replies.No HistoryFull) ↔ (length h ≡ 1048576)) (sym history) full;
      within = subst (λ (h : List (ℕ × Call)). length h ≤ 1048576) (sym history) within;
      recorded = rest.0;
      refused = rest.1;
    }

-- a turn that leaves the trail as it was found records nothing
pub stays_after : (s : Sight Item) (R R' : Account) → s.found ≡ trail_of R → R' ≡ R → Stays (view_of s) (view_of (finished s (trail_of R')))
stays_after s R R' found same =
    let grown : trail_of R' ≡ trail_of R ++ map made [] = ap trail_of same ∙ sym (append-nil (trail_of R)) in
    record { seen = seen_after s R R' [] found grown ∙ append-nil _; mine = mine_after s R R' [] found grown ∙ append-nil _ }

-- where there was no memory, nothing was recorded, though the history that was found isn't full
pub lacks_after : (s : Sight Item) (R R' : Account) → R.state.count ≡ length R.history → s.found ≡ trail_of R → R' ≡ R
    → may_record R.state ≡ true
    → FailsToRecord (view_of s) (view_of (finished s (trail_of R')))
lacks_after s R R' counted found same may =
    let n : length (calls_of s.found) ≡ length R.history = ap (λ (l : List Item). length (calls_of l)) found ∙ ap length (calls_trail R) in
    let test : nat_lt R.state.count 1048576 ≡ true = may in
    let below : R.state.count < 1048576 = grind (arith, nat_tests) in
    record { stays = stays_after s R R' found same; not_full = omega (arith, counted, n, below) }

-- ---- what holds of each pass

pub is_pass : (room : SharedRoom) (p : Pass) → locks.IsPassOf room.lock p.pass → locks.IsIdle p.pass → IsPassOf room p
is_pass room p h idle =
    let s : Sight Item = locks.sight p.pass in let R = h.whole.0.room.value in
    let history : R.history ≡ calls_of s.seen = sym (ap calls_of (sym h.whole.1) ∙ calls_made R.history) in
    record {
      pass = h;
      idle = idle;
      legal = legal_calls s.seen R h.whole.1 (record { rising = h.whole.0.rising; limit = h.whole.0.limit });
      hands = subst (AllByRecursion (λ e. HandsOperations e.1)) history h.whole.0.hands;
      short = short_calls s room.lock.table.shared.key.value.room.value R h.opening h.whole.1 h.whole.0.short;
      marked = subst (λ (calls : List (ℕ × Call)). mark calls ≤ length s.ends) history h.whole.2;
      within = h.within;
      owns = owns_calls s.mine s.seen R h.mine h.whole.1 h.whole.0.rising;
      distinct = distinct_calls s.mine h.made.0.room.value h.made.1 h.made.0.rising;
    }

-- ---- a whole turn

-- a turn has begun: what was found begins with all that was seen, and one draw is used
pub record Begins (s s' : Sight Item) : Type 0 where
  pub found : IsPrefix s.seen s'.found
  pub left : s'.left + 1 ≡ s.left
  pub lost : s'.lost ≡ s.lost
  pub mine : s'.mine ≡ s.mine
  pub later : length s.ends ≤ s'.drawn
  pub turns : length s'.ends ≡ s'.drawn

pub takes_turn : (s s' : Sight Item) (w : View) → Begins s s' → Keeps (view_of s') w → TakesTurn (view_of s) w
takes_turn s s' w b k = record {
  begins = subst (λ (l : List (ℕ × Call)). IsPrefix (calls_of s.seen) l) (sym k.found) (calls_prefix s.seen s'.found b.found);
  later = (let l = b.later in let e = k.drawn in omega arith);
  turns = (let t = b.turns in let e = k.drawn in let f = k.turns in omega arith);
  left = ap (λ n. n + 1) k.left ∙ b.left;
  lost = k.lost ∙ b.lost;
}

pub mine_same : (s s' : Sight Item) → Begins s s' → calls_of s'.mine ≡ calls_of s.mine
mine_same s s' b = ap calls_of b.mine

pub answered_after : (o : State) (s s' : Sight Item) (w : View) (c : Call) (r : Result Reply Refusal) → Begins s s'
    → Keeps (view_of s') w → EndsTurn o (view_of s') w c r
    → IfOk r (λ reply. Answers o (view_of s) w c reply)
answered_after o s s' w c (Ok reply) b k e = (
  takes_turn s s' w b k,
  record {
    within = e.within;
    answered = e.answered;
    full = e.full;
    recorded = λ below. let r = e.recorded below in record {
      seen = r.seen;
      mine = r.mine
          ∙ ap (λ (l : List (ℕ × Call)). l ++ (w.drawn, c) ∷ []) (mine_same s s' b);
    };
    refused = λ at. let r = e.refused at in record { seen = r.seen; mine = r.mine ∙ mine_same s s' b };
  },
)
answered_after o s s' w c (Err why) b k e = tt

pub memory_after : (o : State) (s s' : Sight Item) (w : View) (c : Call) (r : Result Reply Refusal) → Begins s s'
    → Keeps (view_of s') w → EndsTurn o (view_of s') w c r
    → r ≡ Err Memory → LacksMemory (view_of s) w
memory_after o s s' w c (Ok reply) b k e is = absurd (cc is)
memory_after o s s' w c (Err why) b k e is = (
  takes_turn s s' w b k,
  record {
    stays = record { seen = e.1.stays.seen; mine = e.1.stays.mine ∙ mine_same s s' b };
    not_full = e.1.not_full;
  },
)

-- what ends a turn leaves all else as it was in it, and the pass knows of one turn more
pub keeps_after : (s s' : Sight Item) (trail : List Item) → s' ≡ finished s trail → Keeps (view_of s) (view_of s')
keeps_after s s' trail is = record {
  found = ap (λ (u : Sight Item). calls_of u.found) is;
  drawn = ap (λ (u : Sight Item). u.drawn) is;
  turns = ap (λ (u : Sight Item). length u.ends) is ∙ length-append s.ends (length trail ∷ []);
  left = ap (λ (u : Sight Item). u.left) is;
  lost = ap (λ (u : Sight Item). u.lost) is;
}

pub some_left : (n : ℕ) → (n ≢ 0) → n - 1 + 1 ≡ n
some_left zero h = absurd (h refl)
some_left (suc n) h = omega arith

pub begins_drawn : (s s' s'' : Sight Item) (n : ℕ) (ends : List ℕ) (trail : List Item) → (s.left ≢ 0) → s' ≡ drew s n
    → s'' ≡ took s' ends trail → IsPrefix s'.seen trail → IsPrefix s'.ends s''.ends → length s''.ends ≡ n → Begins s s''
begins_drawn s s' s'' n ends trail some is turn begin account turns = record {
  found = subst (λ (l : List Item). IsPrefix s.seen l) (sym (ap (λ (u : Sight Item). u.found) turn))
      (subst (λ (u : Sight Item). IsPrefix u.seen trail) is begin);
  left = ap (λ (u : Sight Item). u.left + 1) turn ∙ (ap (λ (u : Sight Item). u.left + 1) is ∙ some_left s.left some);
  lost = ap (λ (u : Sight Item). u.lost) turn ∙ ap (λ (u : Sight Item). u.lost) is;
  mine = ap (λ (u : Sight Item). u.mine) turn ∙ ap (λ (u : Sight Item). u.mine) is;
  later =
      let drawn = ap (λ (u : Sight Item). u.drawn) turn ∙ ap (λ (u : Sight Item). u.drawn) is in
      let same = ap (λ (u : Sight Item). length u.ends) is in let le = prefix_length s'.ends s''.ends account in omega arith;
  turns = turns ∙ sym (ap (λ (u : Sight Item). u.drawn) turn ∙ ap (λ (u : Sight Item). u.drawn) is);
}

pub begins_won : (s s'' : Sight Item) (n : ℕ) (ends : List ℕ) (trail : List Item) → (s.left ≢ 0)
    → s'' ≡ won (peeked_at s n) n ends trail → IsPrefix s.seen trail → IsPrefix s.ends s''.ends → length s''.ends ≡ n → Begins s s''
begins_won s s'' n ends trail some turn begin account turns =
    let b = begins_drawn (peeked_at s n) (drew (peeked_at s n) n) s'' n ends trail some refl turn begin account turns in
    record { found = b.found; left = b.left; lost = b.lost; mine = b.mine; later = b.later; turns = b.turns }

-- ---- passes that are joined, or meet, and the end

longer_is : {A : Type 0} (xs ys : List A) → (longer xs ys ≡ xs) ⊎ (longer xs ys ≡ ys)
longer_is {A} xs ys = go (ltb (length xs) (length ys))
  where
    go : (b : Bool) → ((if b then ys else xs) ≡ xs) ⊎ ((if b then ys else xs) ≡ ys)
    go true = inr refl
    go false = inl refl

longer_max : {A : Type 0} (xs ys : List A) → length (longer xs ys) ≡ max (length xs) (length ys)
longer_max {A} xs ys = go (ltb (length xs) (length ys)) refl
  where
    go : (b : Bool) → ltb (length xs) (length ys) ≡ b → length (if b then ys else xs) ≡ max (length xs) (length ys)
    go true e = grind (arith, ltb-true)
    go false e = grind (arith, ltb-true)

pub joins_after : (s o n : Sight Item) → n ≡ learned (joined s o) → IsPrefix s.seen n.seen → IsPrefix o.seen n.seen
    → Joins (view_of s) (view_of o) (view_of n)
joins_after s o n is first second = record {
  first = calls_prefix s.seen n.seen first;
  second = calls_prefix o.seen n.seen second;
  either =
      let seen : n.seen ≡ longer s.seen o.seen = ap (λ (u : Sight Item). u.seen) is in
      ⊎_elim (λ (e : longer s.seen o.seen ≡ s.seen). let r : (calls_of n.seen ≡ calls_of s.seen) ⊎ (calls_of n.seen ≡ calls_of o.seen) =
      inl (ap calls_of (seen ∙ e)) in r)
      (λ (e : longer s.seen o.seen ≡ o.seen). let r : (calls_of n.seen ≡ calls_of s.seen) ⊎ (calls_of n.seen ≡ calls_of o.seen) =
      inr (ap calls_of (seen ∙ e)) in r)
      (longer_is s.seen o.seen);
  mine = ap (λ (u : Sight Item). calls_of u.mine) is ∙ calls_append s.mine o.mine;
  left = ap (λ (u : Sight Item). u.left) is;
  lost = ap (λ (u : Sight Item). u.lost) is;
  found = ap (λ (u : Sight Item). calls_of u.found) is;
  drawn = ap (λ (u : Sight Item). u.drawn) is;
  turns = ap (λ (u : Sight Item). length u.ends) is ∙ longer_max s.ends o.ends;
}

pub meets_after : {T E : Type 0} (r : Result T E) (a b a' b' : Sight Item) → OnOk r (locks.Meets a b a' b')
    → OnOk r (TookTurns a b a' b') → OnOk r (Meets (view_of a) (view_of b) (view_of a') (view_of b'))
meets_after (Err e) a b a' b' m took = tt
meets_after (Ok done) a b a' b' m took =
    let second : IsPrefix b.seen b'.seen = prefix_trans b.seen a'.seen b'.seen m.second m.both in record {
      first = (
        record {
          begins = subst (λ (l : List Item). IsPrefix (calls_of a.seen) (calls_of l)) m.found.0 (calls_prefix a.seen a'.seen m.first);
          later = took.later.0;
          turns = took.first.last;
          left = m.left.0;
          lost = m.lost.0;
        },
        record { seen = ap calls_of m.found.0; mine = ap calls_of m.mine.0 },
      );
      second = (
        record {
          begins = subst (λ (l : List Item). IsPrefix (calls_of b.seen) (calls_of l)) m.found.1 (calls_prefix b.seen b'.seen second);
          later = (let l = took.later.1 in let o = took.order in omega arith);
          turns = took.second.last;
          left = m.left.1;
          lost = m.lost.1;
        },
        record { seen = ap calls_of m.found.1; mine = ap calls_of m.mine.1 },
      );
      order = took.order;
      later = took.later.1;
      told = calls_prefix b.seen a'.seen m.second;
      both = calls_prefix a'.seen b'.seen m.both;
    }

-- who knows of all turns gets a history that is just what was seen
pub closed_exactly : (R room : Account) (seen : List Item) → room ≡ R → trail_of R ≡ seen → room.history ≡ calls_of seen
closed_exactly R room seen same is = ap (λ (a : Account). a.history) same ∙ (sym (calls_trail R) ∙ ap calls_of is)

pub closed_after : (K R room : Account) (s : Sight Item) → LeftFor s 0 (trail_of K) → IsPrefix s.seen (trail_of R) → room ≡ R
    → IsPrefix (calls_of s.seen) room.history × (room.opening ≡ K.opening)
closed_after K R room s left begins is = (
  subst (λ (l : List (ℕ × Call)). IsPrefix (calls_of s.seen) l) (calls_trail R ∙ ap (λ (a : Account). a.history) (sym is))
      (calls_prefix s.seen (trail_of R) begins),
  ap (λ (a : Account). a.opening) is ∙ ap opening_in (sym (ap (λ (l : List Item). l ++ begins.0) left.begins.1 ∙ begins.1)),
)
