-- What is read along the linked order: elements by stamp and by number, and the one after each.
use Rattle.std.proofs.Common.{◌≡◌, ◌≢◌, ℕ, suc, ◌<◌, ◌≤◌, ◌⊎◌, inl, inr, Bool, true, false, cond, ◌||◌, eqb, eq-eqb, Option, Some, None}
use Rattle.std.proofs.Common.{List, [], ◌∷◌, map, length, refl, ap, ◌∙◌, sym, subst, arith, get_or, IfSome}
use Rattle.std.specs.List.{AllByRecursion as Each}
use Rattle.std.proofs.lemmas.Bool.{cases_eq, cond-true, cond-false, false_from_ne_true, both_ways}
use Rattle.std.proofs.lemmas.List.{get_or_default}
use Rattle.opid.specs.declared.stamp.Stamp.{Stamp}
use Rattle.opid.specs.Stamps.{is_same}
use Rattle.opid.proofs.Order.{is_same-eq, is_same-refl}
use Rattle.rga_list.specs.declared.links.Node.{Node}
use Rattle.rga_list.specs.Entries.{Entry, has_stamp, elem_of, entry_of, first_of, elem_after, next_of, IsAboveItsSite, IsGreatestOf}
use Rattle.rga_list.specs.Internal.SiteIds.{SiteIds, find_id, IsGreatest}
use Rattle.rga_list.specs.Internal.Links.{blank, node_at, order_of, entry_at, entries_of, Leads, IsOneOf, IsLinked, ids_at, named, AreNamed}
use Rattle.rga_list.specs.Internal.Links.{IsList}
use Rattle.rga_list.proofs.Identifiers.{eqb-differs, Each-found, found-Each}
use Rattle.rga_list.proofs.Linked.{Leads-within}

-- every place of the order is within
pub order-within : (nodes : List Node) (first : Option ℕ) → IsLinked nodes first → Each (λ i. i < length nodes) (order_of nodes first)
order-within nodes first l = Leads-within nodes first None (order_of nodes first) l.leads

pub length-map : (f : ℕ → Entry) (xs : List ℕ) → length (map f xs) ≡ length xs
length-map f [] = refl
length-map f (x ∷ xs) = ap suc (length-map f xs)

pub length-entries : (nodes : List Node) (first : Option ℕ) → IsLinked nodes first → length (entries_of nodes first) ≡ length nodes
length-entries nodes first l = length-map (entry_at nodes) (order_of nodes first) ∙ l.each

pub Each-one : (P : Entry → Type 0) (f : ℕ → Entry) (xs : List ℕ) (k : ℕ) → Each P (map f xs) → IsOneOf k xs → P (f k)
Each-one P f [] k h o = absurd o
Each-one P f (x ∷ xs) k h (inl e) = subst (λ v. P (f v)) (sym e) h.0
Each-one P f (x ∷ xs) k h (inr o) = Each-one P f xs k h.1 o

pub Each-map : (P : Entry → Type 0) (f : ℕ → Entry) (xs : List ℕ) (n : ℕ) → Each (λ i. i < n) xs → ((i : ℕ) → i < n → P (f i))
    → Each P (map f xs)
Each-map P f [] n w h = tt
Each-map P f (x ∷ xs) n w h = (h x w.0, Each-map P f xs n w.1 h)

-- the rows name what stands in the order
elem_of-some : (nodes : List Node) (rows : List SiteIds) (s : Stamp) (k : ℕ) → AreNamed nodes rows → named rows s ≡ Some k
    → (xs : List ℕ) → Each (λ i. i < length nodes) xs → IsOneOf k xs → elem_of s (map (entry_at nodes) xs) ≡ Some k
elem_of-some nodes rows s k n e [] w o = absurd o
elem_of-some nodes rows s k n e (i ∷ is) w o = go (is_same s (node_at nodes i).stamp) refl (elem_of-some nodes rows s k n e is w.1) o
  where
    go : (t : Bool) → is_same s (node_at nodes i).stamp ≡ t → (IsOneOf k is → elem_of s (map (entry_at nodes) is) ≡ Some k)
        → (k ≡ i) ⊎ IsOneOf k is
        → cond t (Some i) (elem_of s (map (entry_at nodes) is)) ≡ Some k
    go true q ih o = sym (n.each i w.0) ∙ ap (named rows) (sym (is_same-eq s (node_at nodes i).stamp q)) ∙ e
    go false q ih (inl f) = absurd (both_ways (is_same s (node_at nodes i).stamp) q
        (subst (λ v. is_same s (node_at nodes v).stamp ≡ true) f (subst (λ v. is_same s v ≡ true) (sym (n.only s k e).1) (is_same-refl s))))
    go false q ih (inr o) = ih o

elem_of-none : (nodes : List Node) (rows : List SiteIds) (s : Stamp) → AreNamed nodes rows → named rows s ≡ None
    → (xs : List ℕ) → Each (λ i. i < length nodes) xs → elem_of s (map (entry_at nodes) xs) ≡ None
elem_of-none nodes rows s n e [] w = refl
elem_of-none nodes rows s n e (i ∷ is) w =
    cond-false _ _ _ (false_from_ne_true (is_same s (node_at nodes i).stamp) (λ q.
    let here : Some i ≡ None = sym (n.each i w.0) ∙ ap (named rows) (sym (is_same-eq s (node_at nodes i).stamp q)) ∙ e in cc))
    ∙ elem_of-none nodes rows s n e is w.1

pub named-elem_of : (nodes : List Node) (first : Option ℕ) (rows : List SiteIds) (s : Stamp) → IsList nodes first rows
    → named rows s ≡ elem_of s (entries_of nodes first)
named-elem_of nodes first rows s h = go (named rows s) refl
  where
    go : (o : Option ℕ) → named rows s ≡ o → named rows s ≡ elem_of s (entries_of nodes first)
    go None e = e ∙ sym (elem_of-none nodes rows s h.are_named e (order_of nodes first) (order-within nodes first h.linked))
    go (Some k) e = e ∙ sym (elem_of-some nodes rows s k h.are_named e (order_of nodes first) (order-within nodes first h.linked)
        (h.linked.covers k (h.are_named.only s k e).0))

-- an element that is found by its stamp is there, and has it
pub elem_of-found : (nodes : List Node) (first : Option ℕ) (rows : List SiteIds) (s : Stamp) (k : ℕ) → IsList nodes first rows
    → elem_of s (entries_of nodes first) ≡ Some k
    → (k < length nodes) × ((node_at nodes k).stamp ≡ s)
elem_of-found nodes first rows s k h e = h.are_named.only s k (named-elem_of nodes first rows s h ∙ e)

-- a stamp is there where its element is
pub has_stamp-some : (s : Stamp) (xs : List Entry) (k : ℕ) → elem_of s xs ≡ Some k → has_stamp xs s ≡ true
has_stamp-some s [] k e = cc
has_stamp-some s (x ∷ xs) k e = go (is_same s x.stamp) (has_stamp-some s xs k) e
  where
    go : (t : Bool) → (elem_of s xs ≡ Some k → has_stamp xs s ≡ true) → cond t (Some x.elem) (elem_of s xs) ≡ Some k
        → (t || has_stamp xs s) ≡ true
    go true ih q = refl
    go false ih q = ih q

pub has_stamp-none : (s : Stamp) (xs : List Entry) → elem_of s xs ≡ None → has_stamp xs s ≡ false
has_stamp-none s [] e = refl
has_stamp-none s (x ∷ xs) e = go (is_same s x.stamp) (has_stamp-none s xs) e
  where
    go : (t : Bool) → (elem_of s xs ≡ None → has_stamp xs s ≡ false) → cond t (Some x.elem) (elem_of s xs) ≡ None
        → (t || has_stamp xs s) ≡ false
    go true ih q = cc
    go false ih q = ih q

pub elem_of-lacks : (s : Stamp) (xs : List Entry) → has_stamp xs s ≡ false → elem_of s xs ≡ None
elem_of-lacks s [] h = refl
elem_of-lacks s (x ∷ xs) h = go (is_same s x.stamp) (elem_of-lacks s xs) h
  where
    go : (t : Bool) → (has_stamp xs s ≡ false → elem_of s xs ≡ None) → (t || has_stamp xs s) ≡ false
        → cond t (Some x.elem) (elem_of s xs) ≡ None
    go true ih q = cc
    go false ih q = ih q

-- a stamp above every stamp of its site isn't there
pub has_stamp-above : (xs : List Entry) (s : Stamp) → IsAboveItsSite xs s → has_stamp xs s ≡ false
has_stamp-above [] s h = refl
has_stamp-above (x ∷ xs) s h =
    ap (λ t. t || has_stamp xs s) (false_from_ne_true (is_same s x.stamp) (λ q.
    let same : s ≡ x.stamp = is_same-eq s x.stamp q in
    let less : x.stamp.sum < s.sum = h.0 (ap (λ (v : Stamp). v.site) (sym same)) in
    let sums : s.sum ≡ x.stamp.sum = ap (λ (v : Stamp). v.sum) same in
    omega arith))
    ∙ has_stamp-above xs s h.1

-- an element by its number
pub entry_of-order : (nodes : List Node) (k : ℕ) (xs : List ℕ) → IsOneOf k xs
    → entry_of k (map (entry_at nodes) xs) ≡ Some (entry_at nodes k)
entry_of-order nodes k [] o = absurd o
entry_of-order nodes k (i ∷ is) o = go (cases_eq i k) o (entry_of-order nodes k is)
  where
    go : (i ≡ k) ⊎ (i ≡ k → ⊥) → (k ≡ i) ⊎ IsOneOf k is → (IsOneOf k is → entry_of k (map (entry_at nodes) is) ≡ Some (entry_at nodes k))
        → entry_of k (map (entry_at nodes) (i ∷ is)) ≡ Some (entry_at nodes k)
    go (inl e) o ih = cond-true _ _ _ (eq-eqb i k e) ∙ ap (λ v. Some (entry_at nodes v)) e
    go (inr d) (inl e) ih = absurd (d (sym e))
    go (inr d) (inr o) ih = cond-false _ _ _ (eqb-differs i k d) ∙ ih o

-- the first one
pub first-order : (nodes : List Node) (at : Option ℕ) (xs : List ℕ) → Leads nodes at xs None → at ≡ first_of (map (entry_at nodes) xs)
first-order nodes at [] h = h
first-order nodes at (i ∷ is) h = h.0

-- the one after another
pub after-order : (nodes : List Node) (at : Option ℕ) (k : ℕ) (xs : List ℕ) → Leads nodes at xs None → IsOneOf k xs
    → (node_at nodes k).next ≡ elem_after k (map (entry_at nodes) xs)
after-order nodes at k [] h o = absurd o
after-order nodes at k (i ∷ is) h o = go (cases_eq i k) o (after-order nodes (node_at nodes i).next k is h.2)
  where
    go : (i ≡ k) ⊎ (i ≡ k → ⊥) → (k ≡ i) ⊎ IsOneOf k is → (IsOneOf k is → (node_at nodes k).next ≡ elem_after k (map (entry_at nodes) is))
        → (node_at nodes k).next ≡ elem_after k (map (entry_at nodes) (i ∷ is))
    go (inl e) o ih = ap (λ v. (node_at nodes v).next) (sym e) ∙ first-order nodes (node_at nodes i).next is h.2
        ∙ sym (cond-true _ _ _ (eq-eqb i k e))
    go (inr d) (inl e) ih = absurd (d (sym e))
    go (inr d) (inr o) ih = ih o ∙ sym (cond-false _ _ _ (eqb-differs i k d))

pub after-beyond : (nodes : List Node) (k : ℕ) (xs : List ℕ) → Each (λ i. i < length nodes) xs → length nodes ≤ k
    → None ≡ elem_after k (map (entry_at nodes) xs)
after-beyond nodes k [] w l = refl
after-beyond nodes k (i ∷ is) w l = after-beyond nodes k is w.1 l ∙ sym (cond-false _ _ _ (eqb-differs i k (λ e. omega (arith, w.0, e))))

-- the greatest of a site
pub greatest : (nodes : List Node) (first : Option ℕ) (rows : List SiteIds) (site sum : ℕ) → IsList nodes first rows
    → IsGreatest (ids_at rows site).ids sum
    → IsGreatestOf (entries_of nodes first) site (record { sum = sum; site = site })
greatest nodes first rows site sum h g =
    let s : Stamp = record { sum = sum; site = site } in (
      refl,
      has_stamp-some s (entries_of nodes first) g.elem (sym (named-elem_of nodes first rows s h) ∙ g.found),
      Each-map (λ e. e.stamp.site ≡ site → e.stamp.sum ≤ sum) (entry_at nodes) (order_of nodes first) (length nodes)
          (order-within nodes first h.linked) (λ i l e.
          found-Each (λ v. v ≤ sum) (ids_at rows site).ids g.above (node_at nodes i).stamp.sum i
          (ap (λ v. find_id (node_at nodes i).stamp.sum (ids_at rows v).ids) (sym e) ∙ h.are_named.each i l)),
    )

pub no_greatest : (nodes : List Node) (first : Option ℕ) (rows : List SiteIds) (site : ℕ) → IsList nodes first rows
    → (ids_at rows site).ids ≡ []
    → Each (λ e. e.stamp.site ≢ site) (entries_of nodes first)
no_greatest nodes first rows site h none =
    Each-map (λ e. e.stamp.site ≢ site) (entry_at nodes) (order_of nodes first) (length nodes) (order-within nodes first h.linked) (λ i l e.
    let found : None ≡ Some i = ap (find_id (node_at nodes i).stamp.sum) (sym none)
    ∙ ap (λ v. find_id (node_at nodes i).stamp.sum (ids_at rows v).ids) (sym e) ∙ h.are_named.each i l in
    cc)

-- a stamp above every stamp of its site is above its row
pub row-below : (nodes : List Node) (first : Option ℕ) (rows : List SiteIds) (s : Stamp) → IsList nodes first rows
    → IsAboveItsSite (entries_of nodes first) s
    → Each (λ id. id.0 < s.sum) (ids_at rows s.site).ids
row-below nodes first rows s h above =
    Each-found (λ v. v < s.sum) (ids_at rows s.site).ids (λ v k e.
    let t : Stamp = record { sum = v; site = s.site } in
    let there = h.are_named.only t k e in
    let less : (node_at nodes k).stamp.sum < s.sum =
    Each-one (λ e. e.stamp.site ≡ s.site → e.stamp.sum < s.sum) (entry_at nodes) (order_of nodes first) k above (h.linked.covers k there.0)
    (ap (λ (w : Stamp). w.site) there.1) in
    let sums : (node_at nodes k).stamp.sum ≡ v = ap (λ (w : Stamp). w.sum) there.1 in
    omega arith)

-- a row read by an index
pub row_same : (rows : List SiteIds) (i site : ℕ) (d : SiteIds) → i ≡ site → i < length rows → get_or rows i d ≡ ids_at rows site
row_same rows i site d e l = get_or_default rows i d (record { ids = []; reserved = 0 }) l ∙ ap (ids_at rows) e

-- a node read by an index
pub node_same : (nodes : List Node) (i : ℕ) (n : Node) → n ≡ get_or nodes i n → i < length nodes → n ≡ node_at nodes i
node_same nodes i n e l = e ∙ get_or_default nodes i n blank l

-- what is read along the order is within
pub first_of-within : (nodes : List Node) (n : ℕ) (xs : List ℕ) → Each (λ i. i < n) xs
    → IfSome (first_of (map (entry_at nodes) xs)) (λ k. k < n)
first_of-within nodes n [] w = tt
first_of-within nodes n (i ∷ is) w = w.0

pub elem_after-within : (nodes : List Node) (n k : ℕ) (xs : List ℕ) → Each (λ i. i < n) xs
    → IfSome (elem_after k (map (entry_at nodes) xs)) (λ j. j < n)
elem_after-within nodes n k [] w = tt
elem_after-within nodes n k (i ∷ is) w = go (eqb i k) (first_of-within nodes n is w.1) (elem_after-within nodes n k is w.1)
  where
    go : (t : Bool) → IfSome (first_of (map (entry_at nodes) is)) (λ j. j < n)
        → IfSome (elem_after k (map (entry_at nodes) is)) (λ j. j < n)
        → IfSome (cond t (first_of (map (entry_at nodes) is)) (elem_after k (map (entry_at nodes) is))) (λ j. j < n)
    go true a b = a
    go false a b = b

pub next_of-within : (nodes : List Node) (first : Option ℕ) (k : Option ℕ) → IsLinked nodes first
    → IfSome (next_of k (entries_of nodes first)) (λ j. j < length (entries_of nodes first))
next_of-within nodes first None l =
    subst (λ n. IfSome (first_of (entries_of nodes first)) (λ j. j < n)) (sym (length-entries nodes first l))
    (first_of-within nodes (length nodes) (order_of nodes first) (order-within nodes first l))
next_of-within nodes first (Some k) l =
    subst (λ n. IfSome (elem_after k (entries_of nodes first)) (λ j. j < n)) (sym (length-entries nodes first l))
    (elem_after-within nodes (length nodes) k (order_of nodes first) (order-within nodes first l))

pub elem_of-within : (nodes : List Node) (first : Option ℕ) (rows : List SiteIds) (s : Stamp) → IsList nodes first rows
    → IfSome (elem_of s (entries_of nodes first)) (λ k. k < length (entries_of nodes first))
elem_of-within nodes first rows s h = go (elem_of s (entries_of nodes first)) refl
  where
    go : (o : Option ℕ) → elem_of s (entries_of nodes first) ≡ o
        → IfSome (elem_of s (entries_of nodes first)) (λ k. k < length (entries_of nodes first))
    go None e = subst (λ o. IfSome o (λ k. k < length (entries_of nodes first))) (sym e) tt
    go (Some k) e = subst (λ o. IfSome o (λ k. k < length (entries_of nodes first))) (sym e)
        (subst (λ n. k < n) (sym (length-entries nodes first h.linked)) (elem_of-found nodes first rows s k h e).0)

-- a greater stamp than the greatest of its site may be inserted
pub above_greatest : (xs : List Entry) (site : ℕ) (last s : Stamp) → IsGreatestOf xs site last → s.site ≡ site → last.sum < s.sum
    → IsAboveItsSite xs s
above_greatest xs site last s g e l = go xs g.2
  where
    go : (ys : List Entry) → Each (λ e. e.stamp.site ≡ site → e.stamp.sum ≤ last.sum) ys → IsAboveItsSite ys s
    go [] h = tt
    go (y ∷ ys) h = ((λ q. (let below : y.stamp.sum ≤ last.sum = h.0 (q ∙ e) in omega arith)), go ys h.1)

pub above_none : (xs : List Entry) (site : ℕ) (s : Stamp) → Each (λ e. e.stamp.site ≢ site) xs → s.site ≡ site → IsAboveItsSite xs s
above_none [] site s h e = tt
above_none (y ∷ ys) site s h e = ((λ q. absurd (h.0 (q ∙ e))), above_none ys site s h.1 e)
