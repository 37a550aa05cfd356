-- What holds of the list after a deletion: the links stay, and the element with the stamp is hidden.
use Rattle.std.proofs.Common.{◌≡◌, ℕ, zero, suc, ◌<◌, ◌⊎◌, inl, inr, Bool, true, false, ◌||◌, ◌&&◌, Option, Some, None, List, [], ◌∷◌, map}
use Rattle.std.proofs.Common.{length, get_or, set, refl, ap, ◌∙◌, sym, subst, arith, length-set, get_or-set_other, get_or-set_same}
use mathlib.Core.Path.{ap₂}
use Rattle.std.specs.List.{AllByRecursion as Each}
use Rattle.std.proofs.lemmas.Bool.{cases_eq, cond-true, cond-false, false_from_ne_true, or_left, or_right}
use Rattle.opid.specs.declared.stamp.Stamp.{Stamp}
use Rattle.opid.specs.Stamps.{is_same}
use Rattle.opid.proofs.Order.{is_same-eq, is_same-refl}
use Rattle.rga_list.specs.declared.links.Node.{Node}
use Rattle.rga_list.specs.Entries.{Entry, elem_of, hide, hidden, is_shown}
use Rattle.rga_list.specs.Internal.SiteIds.{SiteIds}
use Rattle.rga_list.specs.Internal.Links.{blank, node_at, chain, order_of, entry_at, entries_of, Leads, AreOnce, IsOneOf, IsLinked, named}
use Rattle.rga_list.specs.Internal.Links.{AreNamed, IsList}
use Rattle.rga_list.proofs.Linked.{Leads-kept}
use Rattle.rga_list.proofs.Ordered.{order-within, elem_of-found, node_same}

abbrev pub off : Node → Node
off n = record n { shown = false }

-- one node is another, and each other stays
pub record Changes (nodes new : List Node) (k : ℕ) (n : Node) : Type 0 where
  pub size : length new ≡ length nodes
  pub here : node_at new k ≡ n
  pub others : (i : ℕ) → (i ≡ k → ⊥) → node_at new i ≡ node_at nodes i

pub Changes-set : (nodes : List Node) (k : ℕ) (n : Node) → k < length nodes → Changes nodes (set nodes k n) k n
Changes-set nodes k n l = record {
  size = length-set nodes k n;
  here = get_or-set_same nodes k n blank l;
  others = λ i d. get_or-set_other nodes k i n blank d;
}

module _ (nodes new : List Node) (k : ℕ) (h : Changes nodes new k (off (node_at nodes k))) where
  same-next : (i : ℕ) → (node_at new i).next ≡ (node_at nodes i).next
  same-next i = go (cases_eq i k)
    where
      go : (i ≡ k) ⊎ (i ≡ k → ⊥) → (node_at new i).next ≡ (node_at nodes i).next
      go (inl e) = ap (λ j. (node_at new j).next) e ∙ ap (λ (n : Node). n.next) h.here ∙ ap (λ j. (node_at nodes j).next) (sym e)
      go (inr d) = ap (λ (n : Node). n.next) (h.others i d)

  same-stamp : (i : ℕ) → (node_at new i).stamp ≡ (node_at nodes i).stamp
  same-stamp i = go (cases_eq i k)
    where
      go : (i ≡ k) ⊎ (i ≡ k → ⊥) → (node_at new i).stamp ≡ (node_at nodes i).stamp
      go (inl e) = ap (λ j. (node_at new j).stamp) e ∙ ap (λ (n : Node). n.stamp) h.here ∙ ap (λ j. (node_at nodes j).stamp) (sym e)
      go (inr d) = ap (λ (n : Node). n.stamp) (h.others i d)

chain-same : (nodes new : List Node) → ((i : ℕ) → (node_at new i).next ≡ (node_at nodes i).next) → (n : ℕ) (at : Option ℕ)
    → chain n new at ≡ chain n nodes at
chain-same nodes new s zero at = refl
chain-same nodes new s (suc n) None = refl
chain-same nodes new s (suc n) (Some i) = ap (λ r. i ∷ r) (ap (chain n new) (s i) ∙ chain-same nodes new s n (node_at nodes i).next)

order-same : (nodes new : List Node) (first : Option ℕ) → length new ≡ length nodes
    → ((i : ℕ) → (node_at new i).next ≡ (node_at nodes i).next) → order_of new first ≡ order_of nodes first
order-same nodes new first l s = ap (λ n. chain n new first) l ∙ chain-same nodes new s (length nodes) first

IsLinked-same : (nodes new : List Node) (first : Option ℕ) → length new ≡ length nodes
    → ((i : ℕ) → (node_at new i).next ≡ (node_at nodes i).next) → IsLinked nodes first → IsLinked new first
IsLinked-same nodes new first l s h =
    let e : order_of new first ≡ order_of nodes first = order-same nodes new first l s in
    record {
      leads = subst (λ v. Leads new first v None) (sym e) (Leads-kept nodes new first None (order_of nodes first)
          (kept (order_of nodes first)) h.leads);
      once = subst AreOnce (sym e) h.once;
      each = ap length e ∙ h.each ∙ sym l;
      covers = λ i b. subst (IsOneOf i) (sym e) (h.covers i (omega (arith, b, l)));
    }
  where
    kept : (xs : List ℕ) → Each (λ i. i < length nodes → (i < length new) × ((node_at new i).next ≡ (node_at nodes i).next)) xs
    kept [] = tt
    kept (x ∷ xs) = ((λ b. (omega (arith, b, l), s x)), kept xs)

AreNamed-same_stamps : (nodes new : List Node) (rows : List SiteIds) → length new ≡ length nodes
    → ((i : ℕ) → (node_at new i).stamp ≡ (node_at nodes i).stamp) → AreNamed nodes rows → AreNamed new rows
AreNamed-same_stamps nodes new rows l s n = record {
  sites = λ i b. subst (λ (v : Stamp). v.site < 32) (sym (s i)) (n.sites i (omega (arith, b, l)));
  each = λ i b. ap (named rows) (s i) ∙ n.each i (omega (arith, b, l));
  only = λ t i e. (let o = n.only t i e in (omega (arith, o.0, l), s i ∙ o.1));
}

pub IsList-hidden : (nodes new : List Node) (first : Option ℕ) (rows : List SiteIds) (k : ℕ) → Changes nodes new k (off (node_at nodes k))
    → IsList nodes first rows → IsList new first rows
IsList-hidden nodes new first rows k h list = record {
  linked = IsLinked-same nodes new first h.size (same-next nodes new k h) list.linked;
  apart = λ i j a b e. list.apart i j (omega (arith, a, h.size)) (omega (arith, b, h.size))
      (sym (same-stamp nodes new k h i) ∙ e ∙ same-stamp nodes new k h j);
  are_named = AreNamed-same_stamps nodes new rows h.size (same-stamp nodes new k h) list.are_named;
  few = omega (arith, h.size, list.few);
  width = list.width;
}

pub entries-hidden : (nodes new : List Node) (first : Option ℕ) (rows : List SiteIds) (k : ℕ) (t : Stamp)
    → Changes nodes new k (off (node_at nodes k)) → IsList nodes first rows → k < length nodes → (node_at nodes k).stamp ≡ t
    → entries_of new first ≡ hidden t (entries_of nodes first)
entries-hidden nodes new first rows k t h list b e =
    ap (map (entry_at new)) (order-same nodes new first h.size (same-next nodes new k h))
    ∙ each (order_of nodes first) (order-within nodes first list.linked)
  where
    entry : (i : ℕ) → Node → Entry
    entry i n = record { elem = i; stamp = n.stamp; ch = n.ch; shown = n.shown }

    one : (i : ℕ) → i < length nodes → (i ≡ k) ⊎ (i ≡ k → ⊥) → entry_at new i ≡ hide t (entry_at nodes i)
    one i l (inl q) =
        let same : is_same t (node_at nodes i).stamp ≡ true =
        subst (λ v. is_same t v ≡ true) (sym e ∙ ap (λ j. (node_at nodes j).stamp) (sym q)) (is_same-refl t) in
        let now : node_at new i ≡ off (node_at nodes i) = ap (node_at new) q ∙ h.here ∙ ap (λ j. off (node_at nodes j)) (sym q) in
        ap (λ (n : Node). let r : Entry = record { elem = i; stamp = n.stamp; ch = n.ch; shown = n.shown } in r) now
        ∙ sym (cond-true _ _ _ same)
    one i l (inr d) =
        let differs : is_same t (node_at nodes i).stamp ≡ false =
        false_from_ne_true (is_same t (node_at nodes i).stamp)
        (λ q. d (list.apart i k l b (sym (is_same-eq t (node_at nodes i).stamp q) ∙ sym e))) in
        ap (λ (n : Node). let r : Entry = record { elem = i; stamp = n.stamp; ch = n.ch; shown = n.shown } in r) (h.others i d)
        ∙ sym (cond-false _ _ _ differs)

    each : (xs : List ℕ) → Each (λ i. i < length nodes) xs → map (entry_at new) xs ≡ hidden t (map (entry_at nodes) xs)
    each [] w = refl
    each (i ∷ is) w = ap₂ (λ (v : Entry) r. v ∷ r) (one i w.0 (cases_eq i k)) (each is w.1)

-- whether the element was shown
pub is_shown-order : (nodes : List Node) (first : Option ℕ) (rows : List SiteIds) (k : ℕ) (t : Stamp) → IsList nodes first rows
    → k < length nodes → (node_at nodes k).stamp ≡ t
    → (node_at nodes k).shown ≡ is_shown t (entries_of nodes first)
is_shown-order nodes first rows k t list b e =
    go (node_at nodes k).shown refl
  where
    there : is_same t (node_at nodes k).stamp ≡ true
    there = subst (λ v. is_same t v ≡ true) (sym e) (is_same-refl t)

    some : (node_at nodes k).shown ≡ true → (xs : List ℕ) → IsOneOf k xs → is_shown t (map (entry_at nodes) xs) ≡ true
    some s [] o = absurd o
    some s (i ∷ is) (inl q) = or_left _ _ (ap (λ j. is_same t (node_at nodes j).stamp && (node_at nodes j).shown) (sym q)
        ∙ ap₂ (λ u v. u && v) there s)
    some s (i ∷ is) (inr o) = or_right (is_same t (node_at nodes i).stamp && (node_at nodes i).shown) _ (some s is o)

    not_here : (node_at nodes k).shown ≡ false → (i : ℕ) → i < length nodes → (u : Bool) → is_same t (node_at nodes i).stamp ≡ u
        → (u && (node_at nodes i).shown) ≡ false
    not_here s i l true q = ap (λ j. (node_at nodes j).shown)
        (list.apart i k l b (sym (is_same-eq t (node_at nodes i).stamp q) ∙ sym e)) ∙ s
    not_here s i l false q = refl

    none : (node_at nodes k).shown ≡ false → (xs : List ℕ) → Each (λ i. i < length nodes) xs → is_shown t (map (entry_at nodes) xs) ≡ false
    none s [] w = refl
    none s (i ∷ is) w = ap₂ (λ u v. u || v) (not_here s i w.0 (is_same t (node_at nodes i).stamp) refl) (none s is w.1)

    go : (s : Bool) → (node_at nodes k).shown ≡ s → (node_at nodes k).shown ≡ is_shown t (entries_of nodes first)
    go true s = s ∙ sym (some s (order_of nodes first) (list.linked.covers k b))
    go false s = s ∙ sym (none s (order_of nodes first) (order-within nodes first list.linked))

-- What the deletion leaves, for what the code has read and written.
pub deleted : (nodes : List Node) (first : Option ℕ) (rows : List SiteIds) (t : Stamp) (k : ℕ) (n : Node) (xs : List Entry)
    → IsList nodes first rows → entries_of nodes first ≡ xs → elem_of t xs ≡ Some k → n ≡ get_or nodes k n
    → IsList (set nodes k (off n)) first rows × (entries_of (set nodes k (off n)) first ≡ hidden t xs) × (n.shown ≡ is_shown t xs)
deleted nodes first rows t k n xs list shows e read =
    let there = elem_of-found nodes first rows t k list (ap (elem_of t) shows ∙ e) in
    let node : n ≡ node_at nodes k = node_same nodes k n read there.0 in
    let change : Changes nodes (set nodes k (off n)) k (off (node_at nodes k)) =
    subst (λ (v : Node). Changes nodes (set nodes k (off n)) k (off v)) node (Changes-set nodes k (off n) there.0) in (
      IsList-hidden nodes (set nodes k (off n)) first rows k change list,
      entries-hidden nodes (set nodes k (off n)) first rows k t change list there.0 there.1 ∙ ap (hidden t) shows,
      ap (λ (v : Node). v.shown) node ∙ is_shown-order nodes first rows k t list there.0 there.1 ∙ ap (is_shown t) shows,
    )
