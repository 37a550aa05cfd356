-- Where the walk along the links ends, and what a new element put in by them does to the order.
use Rattle.std.proofs.Common.{◌≡◌, ◌≢◌, ℕ, ◌<◌, Bool, true, false, Option, Some, None, List, [], ◌∷◌, ◌++◌, map, length, set, refl, ap, ◌∙◌}
use Rattle.std.proofs.Common.{sym, subst, inl, inr, ◌⊎◌, arith, append_assoc, length-append, length-set, eqb, eqb-true, eq-eqb, IfSome}
use mathlib.Core.Path.{ap₂}
use Rattle.std.specs.List.{AllByRecursion as Each}
use Rattle.std.proofs.lemmas.Bool.{cond-true, cond-false, cases_eq, false_from_ne_true}
use Rattle.std.proofs.lemmas.List.{get_or_append_left, get_or-set_other, get_or-set_same}
use Rattle.opid.specs.declared.stamp.Stamp.{Stamp}
use Rattle.opid.specs.Stamps.{is_before, is_same}
use Rattle.opid.proofs.Order.{is_same-eq, is_same-sym}
use Rattle.rga_list.specs.declared.links.Node.{Node}
use Rattle.rga_list.specs.Entries.{Entry, passed, behind, put_behind}
use Rattle.rga_list.specs.Internal.Links.{blank, node_at, order_of, entry_at, entries_of, Leads, AreOnce, IsOneOf, IsLinked, AreApart}
use Rattle.rga_list.specs.Internal.Links.{Walked, StopsAt, Ends, last_of, following}
use Rattle.rga_list.proofs.Linked.{Leads-join, Leads-split, Leads-within, Leads-at_head, Leads-behind, put_between}

-- where the walk starts: at the head, or behind the parent, which has a smaller stamp
abbrev pub Starts : List Node → Option ℕ → Stamp → Option Stamp → Option ℕ → Option ℕ → Type 0
Starts nodes first s None before at = (before ≡ None) × (at ≡ first)
Starts nodes first s (Some p) before at =
    (k : ℕ) × (k < length nodes) × (is_same p (node_at nodes k).stamp ≡ true) × (before ≡ Some k) × (at ≡ (node_at nodes k).next)

-- none has the stamp
abbrev pub Misses : Stamp → List Entry → Type 0
Misses s xs = Each (λ e. is_same s e.stamp ≡ false) xs

-- no two have one stamp
abbrev pub AreSeparate : List Entry → Type 0
AreSeparate [] = Unit {0}
AreSeparate (x ∷ xs) = Misses x.stamp xs × AreSeparate xs

-- places with different stamps, each once
pub AreSeparate-once : (nodes : List Node) (xs : List ℕ) → AreApart nodes → Each (λ i. i < length nodes) xs → AreOnce xs
    → AreSeparate (map (entry_at nodes) xs)
AreSeparate-once nodes [] a w o = tt
AreSeparate-once nodes (i ∷ is) a w o = (each is w.1 o.0, AreSeparate-once nodes is a w.1 o.1)
  where
    each : (js : List ℕ) → Each (λ j. j < length nodes) js → Each (λ j. j ≢ i) js → Misses (node_at nodes i).stamp (map (entry_at nodes) js)
    each [] v d = tt
    each (j ∷ js) v d = (
      false_from_ne_true (is_same (node_at nodes i).stamp (node_at nodes j).stamp)
          (λ q. d.0 (sym (a i j w.0 v.0 (is_same-eq (node_at nodes i).stamp (node_at nodes j).stamp q)))),
      each js v.1 d.1,
    )

-- two ways along the links to the end are one
pub Leads-unique : (nodes : List Node) (a : Option ℕ) (xs ys : List ℕ) → Leads nodes a xs None → Leads nodes a ys None → xs ≡ ys
Leads-unique nodes a [] [] h k = refl
Leads-unique nodes a [] (y ∷ ys) h k = cc (h, k.0)
Leads-unique nodes a (x ∷ xs) [] h k = cc (h.0, k)
Leads-unique nodes a (x ∷ xs) (y ∷ ys) h k =
    let same : y ≡ x = cc (h.0, k.0) in
    ap₂ (λ (v : ℕ) w. v ∷ w) (sym same) (Leads-unique nodes (node_at nodes x).next xs ys h.2
    (subst (λ v. Leads nodes (node_at nodes v).next ys None) same k.2))

-- a place among them splits them
pub split_at : (i : ℕ) (xs : List ℕ) → IsOneOf i xs → (f back : List ℕ) × (xs ≡ f ++ i ∷ back)
split_at i [] h = absurd h
split_at i (x ∷ xs) (inl e) = ([], xs, ap (λ v. v ∷ xs) (sym e))
split_at i (x ∷ xs) (inr h) = let r = split_at i xs h in (x ∷ r.0, r.1, ap (λ v. x ∷ v) r.2)

last_of-snoc : (b : Option ℕ) (f : List ℕ) (k : ℕ) → Some k ≡ last_of b (f ++ k ∷ [])
last_of-snoc b [] k = refl
last_of-snoc b (x ∷ xs) k = last_of-snoc (Some x) xs k

-- an element put in among the entries, behind one of the places
put_behind-split : (x : Entry) (nodes : List Node) (f : List ℕ) (k : ℕ) (back : List ℕ) → AreOnce (f ++ k ∷ back)
    → put_behind (Some k) x (map (entry_at nodes) (f ++ k ∷ back)) ≡ map (entry_at nodes) (f ++ k ∷ []) ++ x ∷ map (entry_at nodes) back
put_behind-split x nodes [] k back o = cond-true _ _ _ (eq-eqb k k refl)
put_behind-split x nodes (i ∷ is) k back o =
    cond-false _ _ _ (false_from_ne_true (eqb i k) (λ q. among is o.0 (sym (eqb-true i k q))))
    ∙ ap (λ v. entry_at nodes i ∷ v) (put_behind-split x nodes is k back o.1)
  where
    among : (js : List ℕ) → Each (λ j. j ≢ i) (js ++ k ∷ back) → k ≢ i
    among [] h = h.0
    among (j ∷ js) h = among js h.1

-- the two parts of the order between which an element goes
pub record Found (nodes : List Node) (head last next : Option ℕ) : Type 0 where
  pub front : List ℕ
  pub back : List ℕ
  pub is : order_of nodes head ≡ front ++ back
  pub on : Leads nodes next back None
  pub last_is : last ≡ last_of None front
  pub puts : (x : Entry) → put_behind last x (entries_of nodes head) ≡ map (entry_at nodes) front ++ x ∷ map (entry_at nodes) back

pub found : (nodes : List Node) (head last : Option ℕ) → IsLinked nodes head → IfSome last (λ k. k < length nodes)
    → Found nodes head last (following nodes head last)
found nodes head None l b =
    record { front = []; back = order_of nodes head; is = refl; on = l.leads; last_is = refl; puts = λ x. refl }
found nodes head (Some k) l b =
    let parts = split_at k (order_of nodes head) (l.covers k b) in
    let halves = Leads-split nodes head None parts.0 (k ∷ parts.1) (subst (λ v. Leads nodes head v None) parts.2 l.leads) in
    record {
      front = parts.0 ++ k ∷ [];
      back = parts.1;
      is = parts.2 ∙ sym (append_assoc parts.0 (k ∷ []) parts.1);
      on = halves.2.2;
      last_is = last_of-snoc None parts.0 k;
      puts = λ x. ap (λ v. put_behind (Some k) x (map (entry_at nodes) v)) parts.2
          ∙ put_behind-split x nodes parts.0 k parts.1 (subst AreOnce parts.2 l.once);
    }

-- the links lead on from any place to the end
pub ends : (nodes : List Node) (head before : Option ℕ) → IsLinked nodes head → IfSome before (λ k. k < length nodes)
    → Ends nodes (following nodes head before)
ends nodes head before l b =
    let d = found nodes head before l b in
    (d.back, d.on, omega (arith, ap length d.is, length-append d.front d.back, l.each))

-- and to a place, if they lead on
pub next_within : (nodes : List Node) (head before : Option ℕ) → IsLinked nodes head → IfSome before (λ k. k < length nodes)
    → (i : ℕ) → following nodes head before ≡ Some i → i < length nodes
next_within nodes head before l b i e = let d = found nodes head before l b in go d.back d.on
  where
    go : (xs : List ℕ) → Leads nodes (following nodes head before) xs None → i < length nodes
    go [] h = cc
    go (x ∷ xs) h = let same : x ≡ i = cc (e, h.0) in subst (λ v. v < length nodes) same h.1

-- the walk among the entries
passed-walked : (s : Stamp) (nodes : List Node) (b : Option ℕ) (over back : List ℕ)
    → Each (λ i. is_before s (node_at nodes i).stamp ≡ true) over → StopsAt nodes s back
    → passed s b (map (entry_at nodes) (over ++ back)) ≡ last_of b over
passed-walked s nodes b [] [] g h = refl
passed-walked s nodes b [] (i ∷ is) g h = cond-false _ _ _ h
passed-walked s nodes b (i ∷ is) back g h = cond-true _ _ _ g.0 ∙ passed-walked s nodes (Some i) is back g.1 h

missed : (s : Stamp) (nodes : List Node) (f : List ℕ) (k : ℕ) (r : List ℕ) → Misses s (map (entry_at nodes) (f ++ k ∷ r))
    → is_same s (node_at nodes k).stamp ≡ false
missed s nodes [] k r h = h.0
missed s nodes (i ∷ is) k r h = missed s nodes is k r h.1

behind-found : (p s : Stamp) (nodes : List Node) (f : List ℕ) (k : ℕ) (r : List ℕ)
    → AreSeparate (map (entry_at nodes) (f ++ k ∷ r)) → is_same p (node_at nodes k).stamp ≡ true
    → behind (Some p) s (map (entry_at nodes) (f ++ k ∷ r)) ≡ passed s (Some k) (map (entry_at nodes) r)
behind-found p s nodes [] k r a e = cond-true _ _ _ e
behind-found p s nodes (i ∷ is) k r a e =
    cond-false _ _ _ (subst (λ v. is_same v (node_at nodes i).stamp ≡ false) (sym (is_same-eq p (node_at nodes k).stamp e))
    (is_same-sym (node_at nodes k).stamp (node_at nodes i).stamp ∙ missed (node_at nodes i).stamp nodes is k r a.0))
    ∙ behind-found p s nodes is k r a.1 e

-- the walk along the links ends where that among the entries does
pub walked-behind : (nodes : List Node) (head : Option ℕ) (s : Stamp) (o : Option Stamp) (before at last : Option ℕ) → IsLinked nodes head
    → AreApart nodes → Starts nodes head s o before at → Walked nodes s before at last → last ≡ behind o s (entries_of nodes head)
walked-behind nodes head s None before at last l apart h (next, over, back, w, stops) =
    let whole : Leads nodes at (over ++ back) None = Leads-join nodes at next None over back w.over w.on in
    let is : order_of nodes head ≡ over ++ back = Leads-unique nodes head (order_of nodes head) (over ++ back) l.leads
    (subst (λ v. Leads nodes v (over ++ back) None) h.1 whole) in
    w.last_is ∙ ap (λ v. last_of v over) h.0 ∙ sym (ap (λ v. passed s None (map (entry_at nodes) v)) is
    ∙ passed-walked s nodes None over back w.greater stops)
walked-behind nodes head s (Some p) before at last l apart (k, b, same, isk, isat) (next, over, back, w, stops) =
    let parts = split_at k (order_of nodes head) (l.covers k b) in
    let halves = Leads-split nodes head None parts.0 (k ∷ parts.1) (subst (λ v. Leads nodes head v None) parts.2 l.leads) in
    let whole : Leads nodes at (over ++ back) None = Leads-join nodes at next None over back w.over w.on in
    let rest : parts.1 ≡ over ++ back = Leads-unique nodes (node_at nodes k).next parts.1 (over ++ back) halves.2.2
    (subst (λ v. Leads nodes v (over ++ back) None) isat whole) in
    let is : order_of nodes head ≡ parts.0 ++ k ∷ (over ++ back) = parts.2 ∙ ap (λ v. parts.0 ++ k ∷ v) rest in
    let separate : AreSeparate (map (entry_at nodes) (parts.0 ++ k ∷ (over ++ back))) =
    subst (λ v. AreSeparate (map (entry_at nodes) v)) is (AreSeparate-once nodes (order_of nodes head) apart
    (Leads-within nodes head None (order_of nodes head) l.leads) l.once) in
    w.last_is ∙ ap (λ v. last_of v over) isk ∙ sym (ap (λ v. behind (Some p) s (map (entry_at nodes) v)) is
    ∙ behind-found p s nodes parts.0 k (over ++ back) separate same ∙ passed-walked s nodes (Some k) over back w.greater stops)

-- nothing was passed, or something last
some_last : (x : ℕ) (xs : List ℕ) → (f : List ℕ) × (p : ℕ) × (last_of (Some x) xs ≡ Some p) × (x ∷ xs ≡ f ++ p ∷ [])
some_last x [] = ([], x, refl, refl)
some_last x (y ∷ ys) = let r = some_last y ys in (x ∷ r.0, r.1, r.2, ap (λ v. x ∷ v) r.3)

pub front-none : (front : List ℕ) → None ≡ last_of None front → front ≡ []
front-none [] h = refl
front-none (x ∷ xs) h = let r = some_last x xs in cc (h, r.2)

pub front-some : (front : List ℕ) (p : ℕ) → Some p ≡ last_of None front → (f : List ℕ) × (front ≡ f ++ p ∷ [])
front-some [] p h = cc
front-some (x ∷ xs) p h = let r = some_last x xs in let same : r.1 ≡ p = cc (h, r.2) in (r.0, r.3 ∙ ap (λ v. r.0 ++ v ∷ []) same)

same-prefix : (nodes : List Node) (v : Node) (xs : List ℕ) → Each
    (λ i. i < length nodes → entry_at (nodes ++ v ∷ []) i ≡ entry_at nodes i) xs
same-prefix nodes v [] = tt
same-prefix nodes v (x ∷ xs) = (
  (λ b. ap (λ (n : Node). let e : Entry =
      record { elem = x; stamp = n.stamp; ch = n.ch; shown = n.shown } in e) (get_or_append_left nodes (v ∷ []) blank x b)),
  same-prefix nodes v xs,
)

-- put in at the head
pub put_at_head : (nodes : List Node) (head next : Option ℕ) (v : Node) → IsLinked nodes head
    → v.next ≡ next → (d : Found nodes head None next)
    → IsLinked (nodes ++ v ∷ []) (Some (length nodes)) × (entries_of (nodes ++ v ∷ []) (Some (length nodes))
    ≡ map (entry_at nodes) d.front ++ entry_at (nodes ++ v ∷ []) (length nodes) ∷ map (entry_at nodes) d.back)
put_at_head nodes head next v l e d =
    let none : d.front ≡ [] = front-none d.front d.last_is in
    put_between nodes (nodes ++ v ∷ []) head (Some (length nodes)) d.front d.back (length nodes) refl
    (omega (arith, length-append nodes (v ∷ []))) d.is l
    (subst (λ f. Leads (nodes ++ v ∷ []) (Some (length nodes)) (f ++ length nodes ∷ d.back) None) (sym none)
    (Leads-at_head nodes v next d.back e d.on))
    (same-prefix nodes v (d.front ++ d.back))

same-behind : (nodes : List Node) (v w : Node) (p : ℕ) → p < length nodes
    → (w.stamp ≡ (node_at nodes p).stamp) × (w.ch ≡ (node_at nodes p).ch) × (w.shown ≡ (node_at nodes p).shown)
    → (xs : List ℕ) → Each (λ i. i < length nodes → entry_at (set (nodes ++ v ∷ []) p w) i ≡ entry_at nodes i) xs
same-behind nodes v w p b same [] = tt
same-behind nodes v w p b same (x ∷ xs) = ((λ l. go (cases_eq x p) l), same-behind nodes v w p b same xs)
  where
    go : (x ≡ p) ⊎ (x ≡ p → ⊥) → x < length nodes → entry_at (set (nodes ++ v ∷ []) p w) x ≡ entry_at nodes x
    go (inl e) l =
        let here : node_at (set (nodes ++ v ∷ []) p w) p ≡ w =
        get_or-set_same (nodes ++ v ∷ []) p w blank (omega (arith, length-append nodes (v ∷ []))) in
        let P : ℕ → Type 0 = λ i. entry_at (set (nodes ++ v ∷ []) p w) i ≡ entry_at nodes i in
        subst P (sym e)
        (ap (λ (n : Node). let r : Entry = record { elem = p; stamp = n.stamp; ch = n.ch; shown = n.shown } in r) here
        ∙ ap (λ (z : Stamp). let r : Entry = record { elem = p; stamp = z; ch = w.ch; shown = w.shown } in r) same.0
        ∙ ap₂ (λ (z : ℕ) (u : Bool). let r : Entry = record { elem = p; stamp = (node_at nodes p).stamp; ch = z; shown = u } in r)
        same.1 same.2)
    go (inr d) l =
        ap (λ (n : Node). let r : Entry = record { elem = x; stamp = n.stamp; ch = n.ch; shown = n.shown } in r)
        (get_or-set_other (nodes ++ v ∷ []) p x w blank d ∙ get_or_append_left nodes (v ∷ []) blank x l)

-- put in behind another one
pub put_at_place : (nodes : List Node) (head : Option ℕ) (p : ℕ) (next : Option ℕ) (v w : Node)
    → IsLinked nodes head → v.next ≡ next → (d : Found nodes head (Some p) next)
    → w.next ≡ Some (length nodes) → (w.stamp ≡ (node_at nodes p).stamp) × (w.ch ≡ (node_at nodes p).ch)
    × (w.shown ≡ (node_at nodes p).shown)
    → IsLinked (set (nodes ++ v ∷ []) p w) head × (entries_of (set (nodes ++ v ∷ []) p w) head
    ≡ map (entry_at nodes) d.front ++ entry_at (set (nodes ++ v ∷ []) p w) (length nodes) ∷ map (entry_at nodes) d.back)
put_at_place nodes head p next v w l e d link same =
    let split : (f : List ℕ) × (d.front ≡ f ++ p ∷ []) = front-some d.front p d.last_is in
    let is : order_of nodes head ≡ split.0 ++ p ∷ d.back = d.is ∙ ap (λ f. f ++ d.back) split.1 ∙ append_assoc split.0 (p ∷ []) d.back in
    let leads : Leads nodes head (split.0 ++ p ∷ d.back) None = subst (λ v. Leads nodes head v None) is l.leads in
    let halves = Leads-split nodes head None split.0 (p ∷ d.back) leads in
    let b : p < length nodes = halves.2.1 in
    let follows : (node_at nodes p).next ≡ next = one_way (node_at nodes p).next next d.back halves.2.2 d.on in
    put_between nodes (set (nodes ++ v ∷ []) p w) head head d.front d.back (length nodes) refl
    (omega (arith, length-set (nodes ++ v ∷ []) p w, length-append nodes (v ∷ []))) d.is l
    (subst (λ f. Leads (set (nodes ++ v ∷ []) p w) head (f ++ length nodes ∷ d.back) None) (sym split.1)
    (Leads-behind nodes v head split.0 p d.back (e ∙ sym follows) (subst AreOnce is l.once) leads w link))
    (same-behind nodes v w p b same (d.front ++ d.back))
  where
    one_way : (x y : Option ℕ) (r : List ℕ) → Leads nodes x r None → Leads nodes y r None → x ≡ y
    one_way x y [] h k = h ∙ sym k
    one_way x y (i ∷ is) h k = h.0 ∙ sym k.0
