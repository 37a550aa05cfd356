-- The newest tree's table along a change: which trees it is still right for, and one change after another.
use Rattle.std.proofs.Common.{◌≡◌, ℕ, List, ◌∷◌, ◌++◌, length, sym, ◌∙◌, subst, append_assoc}
use Rattle.counted_tree.specs.declared.entry.Entry.{Entry}
use Rattle.counted_tree.specs.declared.kept.row.Row.{Row}
use Rattle.counted_tree.specs.Internal.Tree.{Tree, entries}
use Rattle.counted_tree.specs.Internal.Tree.Tree.{Fork}
use Rattle.counted_tree.specs.Internal.Table.{IsAbsent, AreOwn, IsKept, IsReady, Hangs}
use Rattle.counted_tree.proofs.Tables.{apart_front, apart_back, apart_turned, own_split, kept_past, absent_front, absent_back}

-- a change in the left side leaves the right one ready, and then the fork
pub ready_left : (old new : List Row) (l r : Tree) (x : Entry) → Hangs old new l
    → AreOwn (length old) (entries l ++ x ∷ entries r) → IsKept old r → IsReady new l x r
ready_left old new l r x h own k =
    let s = own_split (length old) (entries l) (x ∷ entries r) own in
    record {
      own = subst (λ n. AreOwn n (entries l ++ x ∷ entries r)) (sym h.long) own;
      left = h.kept;
      right = kept_past r (entries l) old new (apart_turned (entries l) (x ∷ entries r) s.apart).1 h.others k;
    }

pub ready_right : (old new : List Row) (l r : Tree) (x : Entry) → Hangs old new r
    → AreOwn (length old) (entries l ++ x ∷ entries r) → IsKept old l → IsReady new l x r
ready_right old new l r x h own k =
    let s = own_split (length old) (entries l) (x ∷ entries r) own in
    let t = apart_turned (entries l) (x ∷ entries r) s.apart in
    record {
      own = subst (λ n. AreOwn n (entries l ++ x ∷ entries r)) (sym h.long) own;
      left = kept_past l (entries r) old new (apart_turned (entries r) (entries l) t.1) h.others k;
      right = h.kept;
    }

-- one change after another
pub hangs_after : (old mid new : List Row) (s t : Tree) → Hangs old mid s → Hangs mid new t
    → ((e : ℕ) → IsAbsent e (entries t) → IsAbsent e (entries s)) → Hangs old new t
hangs_after old mid new s t p q within = record {
  long = q.long ∙ p.long;
  kept = q.kept;
  others = λ e h. q.others e h ∙ p.others e (within e h);
}

pub hangs_left : (old mid new : List Row) (l r t : Tree) (x : Entry) → Hangs old mid l → Hangs mid new t
    → entries t ≡ entries l ++ x ∷ entries r → Hangs old new t
hangs_left old mid new l r t x p q e =
    hangs_after old mid new l t p q (λ k h. absent_front k (entries l) (x ∷ entries r) (subst (IsAbsent k) e h))

pub hangs_right : (old mid new : List Row) (l r t : Tree) (x : Entry) → Hangs old mid r → Hangs mid new t
    → entries t ≡ entries l ++ x ∷ entries r → Hangs old new t
hangs_right old mid new l r t x p q e =
    hangs_after old mid new r t p q (λ k h. (absent_back k (entries l) (x ∷ entries r) (subst (IsAbsent k) e h)).1)

-- the parts of what is ready, for the rotations
pub part_left : (tb : List Row) (a b r : Tree) (j x : Entry) → IsReady tb (Fork a j b) x r
    → IsReady tb b x r × AreOwn (length tb) (entries a ++ j ∷ (entries b ++ x ∷ entries r)) × IsKept tb a
part_left tb a b r j x h =
    let own = subst (AreOwn (length tb)) (append_assoc (entries a) (j ∷ entries b) (x ∷ entries r)) h.own in
    let s = own_split (length tb) (entries a) (j ∷ (entries b ++ x ∷ entries r)) own in
    (record { own = s.back.2; left = h.left.1; right = h.right }, own, h.left.0)

pub part_right : (tb : List Row) (l a b : Tree) (x j : Entry) → IsReady tb l x (Fork a j b)
    → IsReady tb l x a × AreOwn (length tb) ((entries l ++ x ∷ entries a) ++ j ∷ entries b) × IsKept tb b
part_right tb l a b x j h =
    let own = subst (AreOwn (length tb)) (sym (append_assoc (entries l) (x ∷ entries a) (j ∷ entries b))) h.own in
    let s = own_split (length tb) (entries l ++ x ∷ entries a) (j ∷ entries b) own in
    (record { own = s.front; left = h.left; right = h.right.0 }, own, h.right.1)

-- two forks side by side, of the four parts of what is ready
pub record AreParts (tb : List Row) (a : Tree) (j : Entry) (u : Tree) (i : Entry) (v : Tree) (x : Entry)
    (r : Tree) : Type 0 where
  pub first : IsReady tb a j u
  pub second : (mid : List Row) → Hangs tb mid (Fork a j u) → IsReady mid v x r
  pub third : (mid new : List Row) → Hangs tb mid (Fork a j u) → Hangs mid new (Fork v x r)
      → IsReady new (Fork a j u) i (Fork v x r)

pub parts : (tb : List Row) (a u v r : Tree) (j i x : Entry)
    → AreOwn (length tb) ((entries a ++ j ∷ entries u) ++ i ∷ (entries v ++ x ∷ entries r)) → IsKept tb a → IsKept tb u → IsKept tb v
    → IsKept tb r → AreParts tb a j u i v x r
parts tb a u v r j i x own ka ku kv kr =
    let s = own_split (length tb) (entries a ++ j ∷ entries u) (i ∷ (entries v ++ x ∷ entries r)) own in
    let turned = apart_turned (entries a ++ j ∷ entries u) (i ∷ (entries v ++ x ∷ entries r)) s.apart in
    let w = own_split (length tb) (entries v) (x ∷ entries r) s.back.2 in
    record {
      first = record { own = s.front; left = ka; right = ku };
      second = λ mid h. record {
        own = subst (λ n. AreOwn n (entries v ++ x ∷ entries r)) (sym h.long) s.back.2;
        left = kept_past v (entries a ++ j ∷ entries u) tb mid (apart_front (entries v) (x ∷ entries r) _ turned.1) h.others kv;
        right = kept_past r (entries a ++ j ∷ entries u) tb mid (apart_back (entries v) (x ∷ entries r) _ turned.1).1 h.others kr;
      };
      third = λ mid new h k. ready_right mid new (Fork a j u) (Fork v x r) i k
          (subst (λ n. AreOwn n ((entries a ++ j ∷ entries u) ++ i ∷ (entries v ++ x ∷ entries r))) (sym h.long) own) h.kept;
    }

pub hangs_both : (tb mid new last : List Row) (p q : Tree) (i : Entry) → Hangs tb mid p → Hangs mid new q
    → Hangs new last (Fork p i q) → Hangs tb last (Fork p i q)
hangs_both tb mid new last p q i hp hq ht = record {
  long = ht.long ∙ hq.long ∙ hp.long;
  kept = ht.kept;
  others = λ e h. ht.others e h ∙ hq.others e (absent_back e (entries p) (i ∷ entries q) h).1
      ∙ hp.others e (absent_front e (entries p) (i ∷ entries q) h);
}
