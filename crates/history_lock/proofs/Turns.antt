-- What a pass knows of the turns stays known, and is the same for all passes of a lock.
use Rattle.std.proofs.Common.{◌≡◌, ℕ, zero, suc, ◌+◌, ◌^◌, ◌<◌, ◌≤◌, List, [], ◌∷◌, ◌++◌, length, Some, slice_get, refl, ap}
use Rattle.std.proofs.Common.{sym, subst, ◌∙◌, arith, add-one, length-append}
use mathlib.Core.List.{IsPrefix}
use Rattle.history_lock.specs.declared.pass.Sight.{Sight}
use Rattle.history_lock.specs.Sights.{last_or, took, finished, joined, learned}
use Rattle.history_lock.specs.Turns.{starts_of, LeftFor, Grows, TookTurn, TookTurns}
use Rattle.history_lock.specs.Told.{Finds}
use Rattle.history_lock.proofs.Prefixes.{prefix_self, prefix_trans, prefix_length, prefix_get}

-- how long the trail was as the turn after all finished ones began
start_last : (begun : ℕ) (ends : List ℕ) → slice_get (begun ∷ ends) (length ends) ≡ Some (last_or begun ends)
start_last begun [] = refl
start_last begun (x ∷ xs) = start_last x xs

get_snoc : (xs : List ℕ) (x : ℕ) → slice_get (xs ++ x ∷ []) (length xs) ≡ Some x
get_snoc [] x = refl
get_snoc (y ∷ ys) x = get_snoc ys x

-- two beginnings of one list that are as long are one
prefix_same : {A : Type 0} (xs ys zs : List A) → IsPrefix xs zs → IsPrefix ys zs → length xs ≡ length ys → xs ≡ ys
prefix_same [] [] zs p q same = refl
prefix_same [] (y ∷ ys) zs p q same = absurd (omega arith)
prefix_same (x ∷ xs) [] zs p q same = absurd (omega arith)
prefix_same (x ∷ xs) (y ∷ ys) [] p q same = absurd (cc (p.1))
prefix_same (x ∷ xs) (y ∷ ys) (z ∷ zs) p q same =
    let heads : x ≡ y = cc (p.1, q.1) in
    let rest = prefix_same xs ys zs (p.0, cc (p.1)) (q.0, cc (q.1)) (omega arith) in
    cc (heads, rest)

module _ {E : Type 0} where
  -- at its turn a pass finds what was left for it
  pub found_left : (v : Sight E) (begun n : ℕ) (ends : List ℕ) (log found : List E) → v.opening ≡ begun → length ends ≡ n
      → last_or begun ends ≡ length log → found ≡ log
      → LeftFor (took v ends found) n found
  found_left v begun n ends log found is turns last same = record {
    long = ap (λ k. slice_get (v.opening ∷ ends) k) (sym turns)
        ∙ (start_last v.opening ends ∙ ap Some (ap (λ k. last_or k ends) is ∙ (last ∙ ap length (sym same))));
    begins = prefix_self found;
  }

  -- so what it finds is as long as the last turn left it
  pub last_left : (v : Sight E) (n : ℕ) (trail : List E) → length v.ends ≡ n → LeftFor v n trail → last_or v.opening v.ends ≡ length trail
  last_left v n trail turns left =
      let e : Some (last_or v.opening v.ends) ≡ Some (length trail) =
      sym (start_last v.opening v.ends) ∙ (ap (λ k. slice_get (starts_of v) k) turns ∙ left.long) in cc e

  -- and what a pass has seen was left for the turn behind all that it knows of
  pub left_behind : (v : Sight E) → last_or v.opening v.ends ≡ length v.seen → LeftFor v (length v.ends) v.seen
  left_behind v last = record { long = start_last v.opening v.ends ∙ ap Some last; begins = prefix_self v.seen }

  -- what a pass leaves is left for the turn after its own
  pub left_next : (v : Sight E) (n : ℕ) (trail : List E) → length v.ends ≡ n → LeftFor (finished v trail) (n + 1) trail
  left_next v n trail turns = record {
    long = ap (λ k. slice_get (v.opening ∷ (v.ends ++ length trail ∷ [])) k) (add-one n ∙ ap suc (sym turns))
        ∙ get_snoc v.ends (length trail);
    begins = prefix_self trail;
  }

  pub grows_self : (v : Sight E) → Grows v v
  grows_self v = record { opening = refl; account = prefix_self v.ends; seen = prefix_self v.seen }

  pub grows_trans : (u v w : Sight E) → Grows u v → Grows v w → Grows u w
  grows_trans u v w g h = record {
    opening = h.opening ∙ g.opening;
    account = prefix_trans u.ends v.ends w.ends g.account h.account;
    seen = prefix_trans u.seen v.seen w.seen g.seen h.seen;
  }

  -- what is known stays known
  pub left_stays : (v w : Sight E) (n : ℕ) (trail : List E) → Grows v w → LeftFor v n trail → LeftFor w n trail
  left_stays v w n trail g left = record {
    long = prefix_get (starts_of v) (starts_of w) n (length trail)
        (g.account.0, ap (λ l. v.opening ∷ l) g.account.1 ∙ ap (λ k. k ∷ w.ends) (sym g.opening)) left.long;
    begins = prefix_trans trail v.seen w.seen left.begins g.seen;
  }

  -- two passes whose knowledge went into one know of one trail for each turn
  pub left_once : (u v w : Sight E) (n : ℕ) (s t : List E) → Grows v u → Grows w u → LeftFor v n s → LeftFor w n t → s ≡ t
  left_once u v w n s t g h a b =
      let a' = left_stays v u n s g a in let b' = left_stays w u n t h b in
      let same : Some (length s) ≡ Some (length t) = sym a'.long ∙ b'.long in
      prefix_same s t u.seen a'.begins b'.begins (cc same)

  -- how long the opening was
  pub opening_is : (v : Sight E) (trail : List E) → LeftFor v 0 trail → v.opening ≡ length trail
  opening_is v trail left = cc (left.long)

  -- the same of a sight that is an equal one
  pub left_at : (v w : Sight E) (n : ℕ) (trail : List E) → v ≡ w → LeftFor v n trail → LeftFor w n trail
  left_at v w n trail e left = let P : Sight E → Type 0 = λ u. LeftFor u n trail in subst P e left

  -- a join contains what either pass knew
  pub joins_first : (v w m u : Sight E) → m ≡ joined v w → u ≡ learned m → IsPrefix m.ends (learned m).ends
      → IsPrefix m.seen (learned m).seen → Grows v u
  joins_first v w m u is is' ends seen =
      let P : Sight E → Type 0 = λ k. IsPrefix k.ends (learned k).ends × IsPrefix k.seen (learned k).seen in
      let h = subst P is (ends, seen) in
      let e : u ≡ learned (joined v w) = is' ∙ ap learned is in
      let Q : Sight E → Type 0 = λ k. Grows v k in
      subst Q (sym e) record { opening = refl; account = h.0; seen = h.1 }

  pub joins_second : (v w m u : Sight E) → v.opening ≡ w.opening → m ≡ joined v w → u ≡ learned m
      → IsPrefix m.told_ends (learned m).ends → IsPrefix m.told (learned m).seen → Grows w u
  joins_second v w m u same is is' ends seen =
      let P : Sight E → Type 0 = λ k. IsPrefix k.told_ends (learned k).ends × IsPrefix k.told (learned k).seen in
      let h = subst P is (ends, seen) in
      let e : u ≡ learned (joined v w) = is' ∙ ap learned is in
      let Q : Sight E → Type 0 = λ k. Grows w k in
      subst Q (sym e) record { opening = same; account = h.0; seen = h.1 }

  -- two passes of one lock know of one opening
  pub same_opening : (v w : Sight E) (trail : List E) → LeftFor v 0 trail → LeftFor w 0 trail → v.opening ≡ w.opening
  same_opening v w trail a b = opening_is v trail a ∙ sym (opening_is w trail b)

-- a turn finds what the one before it left
pub finds_what_was_left : {T E : Type 0} (trail : T → List E) (mark : T → ℕ) (before after left both : Sight E) (n : ℕ) (t : List E) (x : T)
    → LeftFor left (n + 1) t → Finds trail mark before after (n + 1) x → Grows left both → Grows after both → trail x ≡ t
finds_what_was_left trail mark before after left both n t x l f g h = sym (left_once both left after (n + 1) t (trail x) g h l f.left)

get_below : (xs : List ℕ) (n k : ℕ) → slice_get xs n ≡ Some k → n < length xs
get_below [] n k e = absurd cc
get_below (x ∷ xs) zero k e = omega arith
get_below (x ∷ xs) (suc n) k e = let h = get_below xs n k e in omega arith

-- who closes a lock with all draws but those of finished turns, and knows what was left for the turn after these, gets a value with that
-- trail
pub closes_exact : {T E : Type 0} (trail : T → List E) (mark : T → ℕ) (v w : Sight E) (m n : ℕ) (t : List E) (x : T)
    → Finds trail mark v w m x → m + v.left ≤ 2 ^ 62 → n + v.left ≡ 2 ^ 62 → LeftFor v n t → trail x ≡ t
closes_exact trail mark v w m n t x f below all left =
    let stays = left_stays v w n t f.grows left in let turns = f.turns in
    let known = get_below (starts_of w) n (length t) stays.long in
    let same : m ≡ n = omega arith in
    let P : ℕ → Type 0 = λ k. LeftFor w k (trail x) in
    left_once w w w n (trail x) t (grows_self w) (grows_self w) (subst P same f.left) stays

-- and its mark is at most the number of draws that the pass hasn't
pub closes_marked : {T E : Type 0} (trail : T → List E) (mark : T → ℕ) (v w : Sight E) (m : ℕ) (x : T)
    → Finds trail mark v w m x → m + v.left ≤ 2 ^ 62 → mark x + v.left ≤ 2 ^ 62
closes_marked trail mark v w m x f below = let marked = f.marked in omega arith

module _ {E : Type 0} where
  -- a turn whose pass leaves what it found
  pub took_turn : (d e w : Sight E) (n : ℕ) (t : List E) → d.drawn ≡ n → e ≡ took d e.ends t → length e.ends ≡ n → LeftFor e n t
      → w ≡ finished e t → LeftFor w (n + 1) t → Grows e w → TookTurn w
  took_turn d e w n t drew is turns left is' next grows =
      let drawn : w.drawn ≡ n = ap (λ u. u.drawn) is' ∙ (ap (λ u. u.drawn) is ∙ drew) in
      let found : w.found ≡ t = ap (λ u. u.found) is' ∙ ap (λ u. u.found) is in
      let P : ℕ → Type 0 = λ k. LeftFor w k w.found in let Q : List E → Type 0 =
      λ l. LeftFor w n l in let R : List E → Type 0 = λ l. LeftFor w (n + 1) l in
      record {
        turn = subst P (sym drawn) (subst Q (sym found) (left_stays e w n t grows left));
        next = subst P (ap (λ k. k + 1) (sym drawn)) (subst R (sym found) next);
        last = ap (λ u. length u.ends) is' ∙ (length-append e.ends (length t ∷ []) ∙ omega arith);
      }

  -- one pass is told and takes a turn, and then the other
  pub take_turns : (a b a1 a2 a' b0 b1 b' : Sight E) → b0 ≡ b → a' ≡ a2 → Grows a a1 → Grows b a1 → TookTurn a2 → Grows a1 a2
      → length a1.ends ≤ a2.drawn → Grows b0 b1 → Grows a2 b1 → TookTurn b' → Grows b1 b' → length b1.ends ≤ b'.drawn
      → TookTurns a b a' b'
  take_turns a b a1 a2 a' b0 b1 b' is is' g h first g' soon k k' second g'' later =
      let P : Sight E → Type 0 = λ u. TookTurns a b u b' in
      let le = prefix_length a2.ends b1.ends k'.account in let l = first.last in
      let a_knew = prefix_length a.ends a1.ends g.account in let b_knew = prefix_length b.ends a1.ends h.account in
      subst P (sym is') record {
        first = first;
        second = second;
        order = omega arith;
        later = (omega arith, omega arith);
        grows =
            (grows_trans a a1 a2 g g', grows_trans b a1 a2 h g', grows_trans a2 b1 b' k' g'');
      }

  -- turn 0 finds the opening
  pub first_finds_opening : (w : Sight E) (n : ℕ) (found opening : List E) → LeftFor w n found → n ≡ 0 → LeftFor w 0 opening
      → found ≡ opening
  first_finds_opening w n found opening left is known =
      let P : ℕ → Type 0 = λ k. LeftFor w k found in left_once w w w 0 found opening (grows_self w) (grows_self w) (subst P is left) known
