-- What holds of the list after an insertion.
use Rattle.std.proofs.Common.{◌≡◌, ◌≢◌, ℕ, ◌+◌, ◌<◌, ◌≤◌, ◌⊎◌, inl, inr, Bool, true, false, cond, eqb, eqb-true, eq-eqb, Option, Some, None}
use Rattle.std.proofs.Common.{List, [], ◌∷◌, ◌++◌, map, length, get_or, set, refl, ap, ◌∙◌, sym, subst, arith, IfSome, length-append}
use Rattle.std.proofs.Common.{length-set, get_or-set_other, get_or-set_same}
use mathlib.Core.Path.{ap₂}
use Rattle.std.specs.Prelude.{option_and_then}
use Rattle.std.specs.List.{AllByRecursion as Each}
use Rattle.std.proofs.lemmas.Bool.{cases_eq, cases_lt, cond-true, cond-false, false_from_ne_true, both_ways}
use Rattle.std.proofs.Math.Seq.{get_or-append_seam}
use Rattle.std.proofs.lemmas.List.{get_or_append_left}
use Rattle.opid.specs.declared.stamp.Stamp.{Stamp}
use Rattle.opid.specs.Stamps.{is_same}
use Rattle.opid.proofs.Order.{is_same-refl}
use Rattle.rga_list.specs.declared.links.Node.{Node}
use Rattle.rga_list.specs.Entries.{Entry, has_stamp, elem_of, behind, put_behind, elem_before, IsAboveItsSite, parent_refusal}
use Rattle.rga_list.specs.Internal.SiteIds.{SiteIds, find_id}
use Rattle.rga_list.specs.Internal.Links.{blank, node_at, order_of, entry_at, entries_of, IsLinked, AreApart, ids_at, named, AreNamed}
use Rattle.rga_list.specs.Internal.Links.{IsList, following, Walked, last_of, put_in, first_then}
use Rattle.rga_list.proofs.Identifiers.{find_id-kept, find_id-push}
use Rattle.rga_list.proofs.Linked.{Leads-within}
use Rattle.rga_list.proofs.Ordered.{row_same, length-entries, elem_of-found, elem_of-lacks, has_stamp-above, has_stamp-none, named-elem_of}
use Rattle.rga_list.proofs.Refused.{accepted}
use Rattle.rga_list.proofs.Put.{Starts, Found, found, walked-behind, put_at_head, put_at_place}

abbrev pub made : Stamp → ℕ → Option ℕ → Node
made s c next = record { stamp = s; ch = c; shown = true; next = next }

abbrev pub linked_to : Node → ℕ → Node
linked_to n m = record n { next = Some m }

pub length-put_in : (nodes : List Node) (v : Node) (last : Option ℕ) → length (put_in nodes v last) ≡ length nodes + 1
length-put_in nodes v None = length-append nodes (v ∷ [])
length-put_in nodes v (Some p) = length-set (nodes ++ v ∷ []) p (linked_to (node_at nodes p) (length nodes)) ∙ length-append nodes (v ∷ [])

-- the nodes that were there keep their stamps
put_in-old : (nodes : List Node) (v : Node) (last : Option ℕ) (i : ℕ) → i < length nodes
    → (node_at (put_in nodes v last) i).stamp ≡ (node_at nodes i).stamp
put_in-old nodes v None i l = ap (λ (n : Node). n.stamp) (get_or_append_left nodes (v ∷ []) blank i l)
put_in-old nodes v (Some p) i l = go (cases_eq i p)
  where
    go : (i ≡ p) ⊎ (i ≡ p → ⊥) → (node_at (put_in nodes v (Some p)) i).stamp ≡ (node_at nodes i).stamp
    go (inl e) =
        let b : p < length (nodes ++ v ∷ []) = omega (arith, e, length-append nodes (v ∷ [])) in
        ap (λ k. (node_at (put_in nodes v (Some p)) k).stamp) e
        ∙ ap (λ (n : Node). n.stamp) (get_or-set_same (nodes ++ v ∷ []) p (linked_to (node_at nodes p) (length nodes)) blank b)
        ∙ ap (λ k. (node_at nodes k).stamp) (sym e)
    go (inr d) = ap (λ (n : Node). n.stamp) (get_or-set_other (nodes ++ v ∷ []) p i (linked_to (node_at nodes p) (length nodes)) blank d
        ∙ get_or_append_left nodes (v ∷ []) blank i l)

-- the new one is there
put_in-new : (nodes : List Node) (v : Node) (last : Option ℕ) → IfSome last (λ k. k < length nodes)
    → node_at (put_in nodes v last) (length nodes) ≡ v
put_in-new nodes v None w = get_or-append_seam nodes v [] blank
put_in-new nodes v (Some p) w =
    get_or-set_other (nodes ++ v ∷ []) p (length nodes) (linked_to (node_at nodes p) (length nodes)) blank (λ e. omega (arith, w, e))
    ∙ get_or-append_seam nodes v [] blank

-- one more node, with a stamp of its own
pub record Grows (nodes new : List Node) (s : Stamp) : Type 0 where
  pub size : length new ≡ length nodes + 1
  pub old : (i : ℕ) → i < length nodes → (node_at new i).stamp ≡ (node_at nodes i).stamp
  pub here : (node_at new (length nodes)).stamp ≡ s
  pub fresh : (i : ℕ) → i < length nodes → (node_at nodes i).stamp ≢ s

AreApart-grown : (nodes new : List Node) (s : Stamp) → Grows nodes new s → AreApart nodes → AreApart new
AreApart-grown nodes new s g a i j l m e = go (cases_lt i (length nodes)) (cases_lt j (length nodes))
  where
    go : (i < length nodes) ⊎ (length nodes ≤ i) → (j < length nodes) ⊎ (length nodes ≤ j) → i ≡ j
    go (inl p) (inl q) = a i j p q (sym (g.old i p) ∙ e ∙ g.old j q)
    go (inl p) (inr q) =
        let at : j ≡ length nodes = omega (arith, g.size) in
        absurd (g.fresh i p (sym (g.old i p) ∙ e ∙ ap (λ k. (node_at new k).stamp) at ∙ g.here))
    go (inr p) (inl q) =
        let at : i ≡ length nodes = omega (arith, g.size) in
        absurd (g.fresh j q (sym (g.old j q) ∙ sym e ∙ ap (λ k. (node_at new k).stamp) at ∙ g.here))
    go (inr p) (inr q) = omega (arith, g.size)

-- the rows with the new stamp
module _ (rows : List SiteIds) (s : Stamp) (m : ℕ) (r : SiteIds) (width : s.site < length rows)
    (ids : r.ids ≡ (ids_at rows s.site).ids ++ (s.sum, m) ∷ []) (lacks : named rows s ≡ None) where
  row_here : (t : Stamp) → t.site ≡ s.site → (ids_at (set rows s.site r) t.site).ids ≡ (ids_at rows s.site).ids ++ (s.sum, m) ∷ []
  row_here t e = ap (λ k. (ids_at (set rows s.site r) k).ids) e
      ∙ ap (λ (v : SiteIds). v.ids) (get_or-set_same rows s.site r (record { ids = []; reserved = 0 }) width) ∙ ids

  row_other : (t : Stamp) → (t.site ≡ s.site → ⊥) → ids_at (set rows s.site r) t.site ≡ ids_at rows t.site
  row_other t d = get_or-set_other rows s.site t.site r (record { ids = []; reserved = 0 }) d

  named-kept : (t : Stamp) (k : ℕ) → named rows t ≡ Some k → named (set rows s.site r) t ≡ Some k
  named-kept t k h = go (cases_eq t.site s.site)
    where
      go : (t.site ≡ s.site) ⊎ (t.site ≡ s.site → ⊥) → named (set rows s.site r) t ≡ Some k
      go (inl e) = ap (find_id t.sum) (row_here t e) ∙ find_id-kept (ids_at rows s.site).ids t.sum k (s.sum, m)
          (ap (λ v. find_id t.sum (ids_at rows v).ids) (sym e) ∙ h)
      go (inr d) = ap (λ (v : SiteIds). find_id t.sum v.ids) (row_other t d) ∙ h

  named-new : named (set rows s.site r) s ≡ Some m
  named-new = ap (find_id s.sum) (row_here s refl) ∙ find_id-push (ids_at rows s.site).ids s.sum (s.sum, m) lacks
      ∙ cond-true _ _ _ (eq-eqb s.sum s.sum refl)

  named-only : (t : Stamp) (k : ℕ) → named (set rows s.site r) t ≡ Some k → (named rows t ≡ Some k) ⊎ ((t ≡ s) × (k ≡ m))
  named-only t k h = go (cases_eq t.site s.site)
    where
      at_sum : t.site ≡ s.site → (b : Bool) → eqb s.sum t.sum ≡ b → cond b (Some m) None ≡ Some k → (t ≡ s) × (k ≡ m)
      at_sum e true q f = (ap₂ (λ (u v : ℕ). let w : Stamp = record { sum = u; site = v } in w) (sym (eqb-true s.sum t.sum q)) e, cc)
      at_sum e false q f = cc

      among : t.site ≡ s.site → (o : Option ℕ) → find_id t.sum (ids_at rows s.site).ids ≡ o → (named rows t ≡ Some k) ⊎ ((t ≡ s) × (k ≡ m))
      among e (Some j) q =
          let kept : find_id t.sum ((ids_at rows s.site).ids ++ (s.sum, m) ∷ []) ≡ Some j =
          find_id-kept (ids_at rows s.site).ids t.sum j (s.sum, m) q in
          let same : Some j ≡ Some k = sym kept ∙ sym (ap (find_id t.sum) (row_here t e)) ∙ h in
          inl (ap (λ v. find_id t.sum (ids_at rows v).ids) e ∙ q ∙ same)
      among e None q =
          let pushed : find_id t.sum ((ids_at rows s.site).ids ++ (s.sum, m) ∷ []) ≡ cond (eqb s.sum t.sum) (Some m) None =
          find_id-push (ids_at rows s.site).ids t.sum (s.sum, m) q in
          inr (at_sum e (eqb s.sum t.sum) refl (sym pushed ∙ sym (ap (find_id t.sum) (row_here t e)) ∙ h))

      go : (t.site ≡ s.site) ⊎ (t.site ≡ s.site → ⊥) → (named rows t ≡ Some k) ⊎ ((t ≡ s) × (k ≡ m))
      go (inl e) = among e (find_id t.sum (ids_at rows s.site).ids) refl
      go (inr d) = inl (ap (λ (v : SiteIds). find_id t.sum v.ids) (sym (row_other t d)) ∙ h)

AreNamed-grown : (nodes new : List Node) (rows : List SiteIds) (s : Stamp) (r : SiteIds) → Grows nodes new s → s.site < 32
    → length rows ≡ 32
    → r.ids ≡ (ids_at rows s.site).ids ++ (s.sum, length nodes) ∷ [] → named rows s ≡ None → AreNamed nodes rows
    → AreNamed new (set rows s.site r)
AreNamed-grown nodes new rows s r g b w ids lacks n =
    let width : s.site < length rows = omega (arith, b, w) in
    record {
      sites = λ i l. site i l (cases_lt i (length nodes));
      each = λ i l. each i l (cases_lt i (length nodes)) width;
      only = λ t i e. only t i (named-only rows s (length nodes) r width ids lacks t i e);
    }
  where
    at_end : (i : ℕ) → i < length new → length nodes ≤ i → i ≡ length nodes
    at_end i l q = omega (arith, g.size)

    site : (i : ℕ) → i < length new → (i < length nodes) ⊎ (length nodes ≤ i) → (node_at new i).stamp.site < 32
    site i l (inl q) = subst (λ (v : Stamp). v.site < 32) (sym (g.old i q)) (n.sites i q)
    site i l (inr q) = subst (λ (v : Stamp). v.site < 32) (sym (ap (λ k. (node_at new k).stamp) (at_end i l q) ∙ g.here)) b

    each : (i : ℕ) → i < length new → (i < length nodes) ⊎ (length nodes ≤ i) → s.site < length rows
        → named (set rows s.site r) (node_at new i).stamp ≡ Some i
    each i l (inl q) width = ap (named (set rows s.site r)) (g.old i q)
        ∙ named-kept rows s (length nodes) r width ids lacks (node_at nodes i).stamp i (n.each i q)
    each i l (inr q) width =
        ap (named (set rows s.site r)) (ap (λ k. (node_at new k).stamp) (at_end i l q) ∙ g.here)
        ∙ named-new rows s (length nodes) r width ids lacks
        ∙ ap Some (sym (at_end i l q))

    only : (t : Stamp) (i : ℕ) → (named rows t ≡ Some i) ⊎ ((t ≡ s) × (i ≡ length nodes)) → (i < length new) × ((node_at new i).stamp ≡ t)
    only t i (inl e) = let o = n.only t i e in (omega (arith, o.0, g.size), g.old i o.0 ∙ o.1)
    only t i (inr (e, q)) = (omega (arith, q, g.size), ap (λ k. (node_at new k).stamp) q ∙ g.here ∙ sym e)

-- the element before the new one
before-front : (nodes : List Node) (front : List ℕ) (m : ℕ) (x : Entry) (rest : List Entry) (b : Option ℕ) → Each (λ i. i < m) front
    → x.elem ≡ m
    → last_of b front ≡ elem_before m b (map (entry_at nodes) front ++ x ∷ rest)
before-front nodes [] m x rest b w e = sym (cond-true _ _ _ (eq-eqb x.elem m e))
before-front nodes (i ∷ is) m x rest b w e =
    before-front nodes is m x rest (Some i) w.1 e
    ∙ sym (cond-false _ _ _ (false_from_ne_true (eqb i m) (λ q. let same : i ≡ m = eqb-true i m q in omega (arith, w.0, same))))

Each-left : (P : ℕ → Type 0) (xs ys : List ℕ) → Each P (xs ++ ys) → Each P xs
Each-left P [] ys h = tt
Each-left P (x ∷ xs) ys h = (h.0, Each-left P xs ys h.1)

front-within : (nodes : List Node) (first last next : Option ℕ) → IsLinked nodes first
    → (d : Found nodes first last next) → Each (λ i. i < length nodes) d.front
front-within nodes first last next l d =
    Each-left (λ i. i < length nodes) d.front d.back (subst (Each (λ i. i < length nodes)) d.is
    (Leads-within nodes first None (order_of nodes first) l.leads))

-- the links after the insertion
put : (nodes : List Node) (first last next : Option ℕ) (v : Node) → IsLinked nodes first
    → v.next ≡ next → (d : Found nodes first last next)
    → IsLinked (put_in nodes v last) (first_then nodes first last)
    × (entries_of (put_in nodes v last) (first_then nodes first last)
    ≡ map (entry_at nodes) d.front ++ entry_at (put_in nodes v last) (length nodes) ∷ map (entry_at nodes) d.back)
put nodes first None next v l e d = put_at_head nodes first next v l e d
put nodes first (Some p) next v l e d =
    put_at_place nodes first p next v (linked_to (node_at nodes p) (length nodes)) l e d refl (refl, refl, refl)

-- where the walk starts
pub starts_at : (nodes : List Node) (first : Option ℕ) (rows : List SiteIds) (s : Stamp) (o : Option Stamp) (before at : Option ℕ)
    → IsList nodes first rows
    → parent_refusal (entries_of nodes first) o s ≡ None → before ≡ option_and_then (λ p. elem_of p (entries_of nodes first)) o
    → at ≡ following nodes first before → Starts nodes first s o before at
starts_at nodes first rows s None before at h a e f = (e, f ∙ ap (following nodes first) e)
starts_at nodes first rows s (Some p) before at h a e f = go (elem_of p (entries_of nodes first)) refl a
  where
    go : (k : Option ℕ) → elem_of p (entries_of nodes first) ≡ k → parent_refusal (entries_of nodes first) (Some p) s ≡ None
        → Starts nodes first s (Some p) before at
    go (Some k) q r =
        let there = elem_of-found nodes first rows p k h q in
        (k, there.0, subst (λ t. is_same p t ≡ true) (sym there.1) (is_same-refl p), e ∙ q, f ∙ ap (following nodes first) (e ∙ q))
    go None q r =
        let unknown : has_stamp (entries_of nodes first) p ≡ false = has_stamp-none p (entries_of nodes first) q in
        let known : has_stamp (entries_of nodes first) p ≡ true = (accepted (entries_of nodes first) p s r).0 in
        absurd (both_ways (has_stamp (entries_of nodes first) p) unknown known)

-- the parent's element is there
pub parent-within : (nodes : List Node) (first : Option ℕ) (rows : List SiteIds) (o : Option Stamp) (before : Option ℕ) (xs : List Entry)
    → IsList nodes first rows → entries_of nodes first ≡ xs
    → before ≡ option_and_then (λ p. elem_of p xs) o → IfSome before (λ k. k < length nodes)
parent-within nodes first rows o None xs h shows e = tt
parent-within nodes first rows None (Some k) xs h shows e = cc
parent-within nodes first rows (Some p) (Some k) xs h shows e =
    (elem_of-found nodes first rows p k h (ap (elem_of p) shows ∙ sym e)).0

-- no element has a stamp that is above every stamp of its site
named-above : (nodes : List Node) (first : Option ℕ) (rows : List SiteIds) (s : Stamp) → IsList nodes first rows
    → IsAboveItsSite (entries_of nodes first) s → named rows s ≡ None
named-above nodes first rows s h above =
    named-elem_of nodes first rows s h ∙ elem_of-lacks s (entries_of nodes first) (has_stamp-above (entries_of nodes first) s above)

-- The insertion keeps what holds of the list, and its entries are those before with a further one.
pub record After (nodes : List Node) (first : Option ℕ) (rows : List SiteIds) (v : Node) (last : Option ℕ) (r : SiteIds) : Type 0 where
  pub list : IsList (put_in nodes v last) (first_then nodes first last) (set rows v.stamp.site r)
  pub entries : entries_of (put_in nodes v last) (first_then nodes first last)
      ≡ put_behind last (record { elem = length nodes; stamp = v.stamp; ch = v.ch; shown = v.shown }) (entries_of nodes first)
  pub before : last ≡ elem_before (length nodes) None (entries_of (put_in nodes v last) (first_then nodes first last))

integrated : (nodes : List Node) (first : Option ℕ) (rows : List SiteIds) (v : Node) (last : Option ℕ) (r : SiteIds)
    → IsList nodes first rows → length nodes < 131072 → v.stamp.site < 32 → IsAboveItsSite (entries_of nodes first) v.stamp
    → IfSome last (λ k. k < length nodes) → v.next ≡ following nodes first last
    → r.ids ≡ (ids_at rows v.stamp.site).ids ++ (v.stamp.sum, length nodes) ∷ []
    → After nodes first rows v last r
integrated nodes first rows v last r h few site above within next ids =
    let s : Stamp = v.stamp in
    let d : Found nodes first last (following nodes first last) = found nodes first last h.linked within in
    let new : List Node = put_in nodes v last in
    let p = put nodes first last (following nodes first last) v h.linked next d in
    let at_end : node_at new (length nodes) ≡ v = put_in-new nodes v last within in
    let lacks : named rows s ≡ None = named-above nodes first rows s h above in
    let grows : Grows nodes new s = record {
      size = length-put_in nodes v last;
      old = λ i l. put_in-old nodes v last i l;
      here = ap (λ (n : Node). n.stamp) at_end;
      fresh = λ i l e. (let q : None ≡ Some i = sym lacks ∙ ap (named rows) (sym e) ∙ h.are_named.each i l in cc);
    } in
    let entry : entry_at new (length nodes) ≡ record { elem = length nodes; stamp = s; ch = v.ch; shown = v.shown } =
    ap (λ (n : Node). let e : Entry = record { elem = length nodes; stamp = n.stamp; ch = n.ch; shown = n.shown } in e) at_end in
    record {
      list = record {
        linked = p.0;
        apart = AreApart-grown nodes new s grows h.apart;
        are_named = AreNamed-grown nodes new rows s r grows site h.width ids lacks h.are_named;
        few = omega (arith, grows.size);
        width = length-set rows s.site r ∙ h.width;
      };
      entries = p.1 ∙ ap (λ (e : Entry). map (entry_at nodes) d.front ++ e ∷ map (entry_at nodes) d.back) entry
          ∙ sym (d.puts (record { elem = length nodes; stamp = s; ch = v.ch; shown = v.shown }));
      before = d.last_is
          ∙ before-front nodes d.front (length nodes) (entry_at new (length nodes)) (map (entry_at nodes) d.back) None
          (front-within nodes first last (following nodes first last) h.linked d) refl
          ∙ ap (elem_before (length nodes) None) (sym p.1);
    }

-- The same, for what the code has read and written.
pub inserted : (nodes new : List Node) (first f : Option ℕ) (rows : List SiteIds) (site : ℕ) (d row r : SiteIds) (s : Stamp)
    (c : ℕ) (last next : Option ℕ) (m : ℕ) (xs : List Entry)
    → IsList nodes first rows → entries_of nodes first ≡ xs → length nodes < 131072 → IsAboveItsSite xs s
    → IfSome last (λ k. k < length nodes) → next ≡ following nodes first last
    → site ≡ s.site → site < 32 → row ≡ get_or rows site d → m ≡ length nodes → r.ids ≡ row.ids ++ (s.sum, m) ∷ []
    → new ≡ put_in nodes (made s c next) last → f ≡ first_then nodes first last
    → IsList new f (set rows site r)
    × (entries_of new f ≡ put_behind last (record { elem = length xs; stamp = s; ch = c; shown = true }) xs)
    × (last ≡ elem_before m None (entries_of new f))
inserted nodes new first f rows site d row r s c last next m xs list shows few above within follows here bound read size ids put_new
    put_first =
    let width : site < length rows = omega (arith, list.width) in
    let at_site : row.ids ≡ (ids_at rows s.site).ids = ap (λ (v : SiteIds). v.ids) (read ∙ row_same rows site s.site d here width) in
    let v : Node = made s c next in
    let a : After nodes first rows v last r =
    integrated nodes first rows v last r list few (subst (λ v. v < 32) here bound)
    (subst (λ v. IsAboveItsSite v s) (sym shows) above) within follows
    (ids ∙ ap₂ (λ (u : List (ℕ × ℕ)) (v : ℕ). u ++ (s.sum, v) ∷ []) at_site size) in
    let count : length nodes ≡ length xs = sym (length-entries nodes first list.linked) ∙ ap length shows in
    let P : List Node → Option ℕ → Type 0 = λ n g. IsList n g (set rows site r)
    × (entries_of n g ≡ put_behind last (record { elem = length xs; stamp = s; ch = c; shown = true }) xs)
    × (last ≡ elem_before m None (entries_of n g)) in
    subst (λ n. P n f) (sym put_new) (subst (λ g. P (put_in nodes v last) g) (sym put_first) (
      subst (λ k. IsList (put_in nodes v last) (first_then nodes first last) (set rows k r)) (sym here) a.list,
      a.entries ∙ ap₂ (λ (k : ℕ) (w : List Entry). put_behind last (record { elem = k; stamp = s; ch = c; shown = true }) w) count shows,
      a.before ∙ ap (λ k. elem_before k None (entries_of (put_in nodes v last) (first_then nodes first last))) (sym size),
    ))

last_of-within : (n : ℕ) (b : Option ℕ) (xs : List ℕ) → IfSome b (λ k. k < n) → Each (λ i. i < n) xs → IfSome (last_of b xs) (λ k. k < n)
last_of-within n b [] h w = h
last_of-within n b (x ∷ xs) h w = last_of-within n (Some x) xs w.0 w.1

-- where the walk from the parent ends
pub walk-ended : (nodes : List Node) (first : Option ℕ) (rows : List SiteIds) (s : Stamp) (o : Option Stamp) (before at last : Option ℕ)
    (xs : List Entry) → IsList nodes first rows → entries_of nodes first ≡ xs → parent_refusal xs o s ≡ None
    → before ≡ option_and_then (λ p. elem_of p xs) o → at ≡ following nodes first before → Walked nodes s before at last
    → (last ≡ behind o s xs) × IfSome last (λ k. k < length xs)
walk-ended nodes first rows s o before at last xs list shows refusal parent follows (next, over, back, w, stops) =
    let size : length nodes ≡ length xs = sym (length-entries nodes first list.linked) ∙ ap length shows in
    let starts : Starts nodes first s o before at = starts_at nodes first rows s o before at list
    (subst (λ v. parent_refusal v o s ≡ None) (sym shows) refusal)
    (subst (λ v. before ≡ option_and_then (λ p. elem_of p v) o) (sym shows) parent) follows in (
      walked-behind nodes first s o before at last list.linked list.apart starts (next, over, back, w, stops) ∙ ap (behind o s) shows,
      subst (λ n. IfSome last (λ k. k < n)) size (subst (λ v. IfSome v (λ k. k < length nodes)) (sym w.last_is)
          (last_of-within (length nodes) before over (parent-within nodes first rows o before xs list shows parent)
          (Leads-within nodes at next over w.over))),
    )
