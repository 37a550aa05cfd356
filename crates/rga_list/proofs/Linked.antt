-- An element put in by two links stands between the two.
use Rattle.std.proofs.Common.{◌≡◌, ◌≢◌, ℕ, zero, suc, ◌<◌, ◌≤◌, ◌+◌, Option, Some, None, List, [], ◌∷◌, ◌++◌, map, length, set, refl, ap}
use Rattle.std.proofs.Common.{◌∙◌, sym, subst, arith, length-append, length-set, get_or-set_other, get_or-set_same, inl, inr, ◌⊎◌, true}
use Rattle.std.proofs.Common.{IfSome}
use Rattle.std.proofs.lemmas.Bool.{cases_eq}
use mathlib.Core.Path.{ap₂}
use Rattle.std.specs.List.{AllByRecursion as Each}
use Rattle.std.proofs.Math.Seq.{get_or-append_seam}
use Rattle.std.proofs.lemmas.List.{get_or_append_left}
use Rattle.opid.proofs.Walk.{Each-append, Each-weaker}
use Rattle.opid.specs.declared.stamp.Stamp.{Stamp}
use Rattle.opid.specs.Stamps.{is_before}
use Rattle.rga_list.specs.Entries.{Entry}
use Rattle.rga_list.specs.declared.links.Node.{Node}
use Rattle.rga_list.specs.Internal.Links.{blank, node_at, chain, order_of, entry_at, entries_of, Leads, AreOnce, IsOneOf, IsLinked, Walking}
use Rattle.rga_list.specs.Internal.Links.{Ends, last_of}

pub Leads-join : (nodes : List Node) (a b c : Option ℕ) (xs ys : List ℕ) → Leads nodes a xs b → Leads nodes b ys c
    → Leads nodes a (xs ++ ys) c
Leads-join nodes a b c [] ys h k = subst (λ v. Leads nodes v ys c) (sym h) k
Leads-join nodes a b c (x ∷ xs) ys h k = (h.0, h.1, Leads-join nodes (node_at nodes x).next b c xs ys h.2 k)

pub Leads-split : (nodes : List Node) (a c : Option ℕ) (xs ys : List ℕ) → Leads nodes a (xs ++ ys) c
    → (b : Option ℕ) × Leads nodes a xs b × Leads nodes b ys c
Leads-split nodes a c [] ys h = (a, refl, h)
Leads-split nodes a c (x ∷ xs) ys h = let r = Leads-split nodes (node_at nodes x).next c xs ys h.2 in (r.0, (h.0, h.1, r.1), r.2)

-- nodes that keep their links are led over as before
abbrev pub Keeps : List Node → List Node → ℕ → Type 0
Keeps nodes new i = i < length nodes → (i < length new) × ((node_at new i).next ≡ (node_at nodes i).next)

pub Leads-kept : (nodes new : List Node) (a c : Option ℕ) (xs : List ℕ) → Each (Keeps nodes new) xs → Leads nodes a xs c → Leads new a xs c
Leads-kept nodes new a c [] k h = h
Leads-kept nodes new a c (x ∷ xs) k h =
    let here = k.0 h.1 in
    (h.0, here.0, subst (λ v. Leads new v xs c) (sym here.1) (Leads-kept nodes new (node_at nodes x).next c xs k.1 h.2))

-- the places that are led over are what the links give
pub chain-Leads : (nodes : List Node) (n : ℕ) (a : Option ℕ) (xs : List ℕ) → length xs ≤ n → Leads nodes a xs None → chain n nodes a ≡ xs
chain-Leads nodes zero a [] l h = refl
chain-Leads nodes zero a (x ∷ xs) l h = absurd (omega arith)
chain-Leads nodes (suc n) a [] l h = ap (chain (suc n) nodes) h
chain-Leads nodes (suc n) a (x ∷ xs) l h =
    ap (chain (suc n) nodes) h.0 ∙ ap (λ r. x ∷ r) (chain-Leads nodes n (node_at nodes x).next xs (omega arith) h.2)

pub Leads-within : (nodes : List Node) (a c : Option ℕ) (xs : List ℕ) → Leads nodes a xs c → Each (λ i. i < length nodes) xs
Leads-within nodes a c [] h = tt
Leads-within nodes a c (x ∷ xs) h = (h.1, Leads-within nodes (node_at nodes x).next c xs h.2)

-- once, in parts
AreOnce-parts : (xs : List ℕ) (p : ℕ) (ys : List ℕ) → AreOnce (xs ++ p ∷ ys) → Each (λ j. j ≢ p) xs × Each (λ j. j ≢ p) ys
AreOnce-parts [] p ys h = (tt, h.0)
AreOnce-parts (x ∷ xs) p ys h = let r = AreOnce-parts xs p ys h.1 in ((((λ e. at xs h.0 (sym e))), r.0), r.1)
  where
    at : (zs : List ℕ) → Each (λ j. j ≢ x) (zs ++ p ∷ ys) → p ≢ x
    at [] k = k.0
    at (z ∷ zs) k = at zs k.1

Each-insert : (P : ℕ → Type 0) (xs : List ℕ) (m : ℕ) (ys : List ℕ) → P m → Each P (xs ++ ys) → Each P (xs ++ m ∷ ys)
Each-insert P [] m ys h k = (h, k)
Each-insert P (x ∷ xs) m ys h k = (k.0, Each-insert P xs m ys h k.1)

AreOnce-insert : (xs : List ℕ) (m : ℕ) (ys : List ℕ) → Each (λ i. i < m) (xs ++ ys) → AreOnce (xs ++ ys) → AreOnce (xs ++ m ∷ ys)
AreOnce-insert [] m ys b h = (Each-weaker (λ i. i < m) (λ j. j ≢ m) (λ j l e. absurd (omega (arith, l, e))) ys b, h)
AreOnce-insert (x ∷ xs) m ys b h =
    (Each-insert (λ j. j ≢ x) xs m ys (λ e. absurd (omega (arith, b.0, e))) h.0, AreOnce-insert xs m ys b.1 h.1)

length-insert : (xs : List ℕ) (m : ℕ) (ys : List ℕ) → length (xs ++ m ∷ ys) ≡ suc (length (xs ++ ys))
length-insert [] m ys = refl
length-insert (x ∷ xs) m ys = ap suc (length-insert xs m ys)

pub map-agree : (f g : ℕ → Entry) (xs : List ℕ) → Each (λ i. f i ≡ g i) xs → map f xs ≡ map g xs
map-agree f g [] h = refl
map-agree f g (x ∷ xs) h = ap₂ (λ (v : Entry) w. v ∷ w) h.0 (map-agree f g xs h.1)

pub map-append : (f : ℕ → Entry) (xs ys : List ℕ) → map f (xs ++ ys) ≡ map f xs ++ map f ys
map-append f [] ys = refl
map-append f (x ∷ xs) ys = ap (λ r. f x ∷ r) (map-append f xs ys)

added : (xs ys : List ℕ) (i : ℕ) {m : ℕ} → i ≡ m → IsOneOf i (xs ++ m ∷ ys)
added [] ys i e = inl e
added (x ∷ xs) ys i e = inr (added xs ys i e)

widened : (xs ys : List ℕ) (i m : ℕ) → IsOneOf i (xs ++ ys) → IsOneOf i (xs ++ m ∷ ys)
widened [] ys i m h = inr h
widened (x ∷ xs) ys i m (inl e) = inl e
widened (x ∷ xs) ys i m (inr h) = inr (widened xs ys i m h)

-- The links after an element was put in give the order with it, and the elements with it.
pub put_between : (nodes new : List Node) (head first : Option ℕ) (front back : List ℕ) (m : ℕ) → m ≡ length nodes
    → length new ≡ suc (length nodes)
    → order_of nodes head ≡ front ++ back → IsLinked nodes head
    → Leads new first (front ++ m ∷ back) None
    → Each (λ i. i < length nodes → entry_at new i ≡ entry_at nodes i) (front ++ back)
    → IsLinked new first × (entries_of new first ≡ map (entry_at nodes) front ++ entry_at new m ∷ map (entry_at nodes) back)
put_between nodes new head first front back m mis grown is linked leads same =
    let within : Each (λ i. i < length nodes) (front ++ back) =
    subst (Each (λ i. i < length nodes)) is (Leads-within nodes head None (order_of nodes head) linked.leads) in
    let size : length (front ++ back) ≡ length nodes = ap length (sym is) ∙ linked.each in
    let longer : length (front ++ m ∷ back) ≡ suc (length (front ++ back)) = length-insert front m back in
    let order : order_of new first ≡ front ++ m ∷ back = chain-Leads new (length new) first (front ++ m ∷ back) (omega arith) leads in
    let both : Each (λ i. entry_at new i ≡ entry_at nodes i) (front ++ back) = agree (front ++ back) within same in (
      record {
        leads = subst (λ o. Leads new first o None) (sym order) leads;
        once = subst AreOnce (sym order) (AreOnce-insert front m back (subst (λ n. Each (λ i. i < n) (front ++ back)) (sym mis) within)
            (subst AreOnce is linked.once));
        each = ap length order ∙ omega arith;
        covers = λ i l. subst (IsOneOf i) (sym order) (one_of front back i (cases_eq i m) l
            (λ b. subst (IsOneOf i) is (linked.covers i b)));
      },
      ap (map (entry_at new)) order
          ∙ map-append (entry_at new) front (m ∷ back)
          ∙ ap₂ (λ a b. a ++ entry_at new m ∷ b) (map-agree _ _ front (left front back both)) (map-agree _ _ back (right front back both)),
    )
  where
    one_of : (xs ys : List ℕ) (i : ℕ) → (i ≡ m) ⊎ (i ≡ m → ⊥) → i < length new → (i < length nodes → IsOneOf i (xs ++ ys))
        → IsOneOf i (xs ++ m ∷ ys)
    one_of xs ys i (inl e) l k = added xs ys i e
    one_of xs ys i (inr d) l k = widened xs ys i m (k (omega (arith, d)))

    agree : (xs : List ℕ) → Each (λ i. i < length nodes) xs → Each (λ i. i < length nodes → entry_at new i ≡ entry_at nodes i) xs
        → Each (λ i. entry_at new i ≡ entry_at nodes i) xs
    agree [] a b = tt
    agree (x ∷ xs) a b = (b.0 a.0, agree xs a.1 b.1)

    left : (xs ys : List ℕ) → Each (λ i. entry_at new i ≡ entry_at nodes i) (xs ++ ys) → Each (λ i. entry_at new i ≡ entry_at nodes i) xs
    left [] ys h = tt
    left (x ∷ xs) ys h = (h.0, left xs ys h.1)

    right : (xs ys : List ℕ) → Each (λ i. entry_at new i ≡ entry_at nodes i) (xs ++ ys) → Each (λ i. entry_at new i ≡ entry_at nodes i) ys
    right [] ys h = h
    right (x ∷ xs) ys h = right xs ys h.1

-- at the head
pub Leads-at_head : (nodes : List Node) (v : Node) (head : Option ℕ) (back : List ℕ) → v.next ≡ head → Leads nodes head back None
    → Leads (nodes ++ v ∷ []) (Some (length nodes)) (length nodes ∷ back) None
Leads-at_head nodes v head back e h = (
  refl,
  omega (arith, length-append nodes (v ∷ [])),
  subst (λ o. Leads (nodes ++ v ∷ []) o back None) (sym (ap (λ (w : Node). w.next) (get_or-append_seam nodes v [] blank) ∙ e))
      (Leads-kept nodes (nodes ++ v ∷ []) head None back (kept back) h),
)
  where
    kept : (xs : List ℕ) → Each (Keeps nodes (nodes ++ v ∷ [])) xs
    kept [] = tt
    kept (x ∷ xs) = (
      (λ b. (
        omega (arith, length-append nodes (v ∷ [])),
        ap (λ (w : Node). w.next) (get_or_append_left nodes (v ∷ []) blank x b),
      )),
      kept xs,
    )

-- behind the element at p
pub Leads-behind : (nodes : List Node) (v : Node) (head : Option ℕ) (f : List ℕ) (p : ℕ) (back : List ℕ) → v.next ≡ (node_at nodes p).next
    → AreOnce (f ++ p ∷ back) → Leads nodes head (f ++ p ∷ back) None
    → (w : Node) → w.next ≡ Some (length nodes)
    → Leads (set (nodes ++ v ∷ []) p w) head ((f ++ p ∷ []) ++ length nodes ∷ back) None
Leads-behind nodes v head f p back e once h w link =
    let parts = Leads-split nodes head None f (p ∷ back) h in
    let apart = AreOnce-parts f p back once in
    let new : List Node = set (nodes ++ v ∷ []) p w in
    let b : p < length nodes = parts.2.1 in
    let size : length new ≡ length nodes + 1 = length-set (nodes ++ v ∷ []) p w ∙ length-append nodes (v ∷ []) in
    let at_p : (node_at new p).next ≡ Some (length nodes) =
    ap (λ (z : Node). z.next) (get_or-set_same (nodes ++ v ∷ []) p w blank (omega (arith, length-append nodes (v ∷ [])))) ∙ link in
    let differs : length nodes ≢ p = λ q. absurd (omega (arith, b, q)) in
    let at_m : (node_at new (length nodes)).next ≡ (node_at nodes p).next =
    ap (λ (z : Node). z.next) (get_or-set_other (nodes ++ v ∷ []) p (length nodes) w blank differs
    ∙ get_or-append_seam nodes v [] blank) ∙ e in
    Leads-join new head (Some (length nodes)) None (f ++ p ∷ []) (length nodes ∷ back)
    (Leads-join new head parts.0 (Some (length nodes)) f (p ∷ [])
    (Leads-kept nodes new head parts.0 f (kept f apart.0) parts.1)
    (parts.2.0, omega arith, at_p)) (
      refl,
      omega arith,
      subst (λ o. Leads new o back None) (sym at_m)
          (Leads-kept nodes new (node_at nodes p).next None back (kept back apart.1) parts.2.2),
    )
  where
    kept : (xs : List ℕ) → Each (λ j. j ≢ p) xs → Each (Keeps nodes (set (nodes ++ v ∷ []) p w)) xs
    kept [] k = tt
    kept (x ∷ xs) k = (
      (λ b. (
        omega (arith, length-append nodes (v ∷ []), length-set (nodes ++ v ∷ []) p w),
        ap (λ (z : Node). z.next) (get_or-set_other (nodes ++ v ∷ []) p x w blank k.0 ∙ get_or_append_left nodes (v ∷ []) blank x b),
      )),
      kept xs k.1,
    )

-- a step of the walk
pub Walking-more : (nodes : List Node) (s : Stamp) (before at last : Option ℕ) (i : ℕ) → Walking nodes s before at last (Some i)
    → is_before s (node_at nodes i).stamp ≡ true → Walking nodes s before at (Some i) (node_at nodes i).next
Walking-more nodes s before at last i (passed, rest, w, l) g = go rest w.on l
  where
    goes : (xs : List ℕ) (b : Option ℕ) → Some i ≡ last_of b (xs ++ i ∷ [])
    goes [] b = refl
    goes (x ∷ xs) b = goes xs (Some x)

    go : (r : List ℕ) → Leads nodes (Some i) r None → length r ≤ length nodes → Walking nodes s before at (Some i) (node_at nodes i).next
    go [] h l = cc
    go (j ∷ js) h l =
        let same : i ≡ j = cc (h.0) in (
          passed ++ i ∷ [],
          js,
          record {
            over = Leads-join nodes at (Some i) (node_at nodes i).next passed (i ∷ []) w.over
                (refl, subst (λ v. v < length nodes) (sym same) h.1, refl);
            on = subst (λ v. Leads nodes (node_at nodes v).next js None) (sym same) h.2;
            greater = Each-append (λ v. is_before s (node_at nodes v).stamp ≡ true) passed (i ∷ []) w.greater (g, tt);
            last_is = goes passed before;
          },
          omega arith,
        )

-- what a walk stands at is a place
pub Walking-within : (nodes : List Node) (s : Stamp) (before at last : Option ℕ) (i : ℕ) → Walking nodes s before at last (Some i)
    → i < length nodes
Walking-within nodes s before at last i (passed, rest, w, l) = go rest w.on
  where
    go : (r : List ℕ) → Leads nodes (Some i) r None → i < length nodes
    go [] h = cc
    go (j ∷ js) h = let same : j ≡ i = cc (h.0) in subst (λ v. v < length nodes) same h.1

-- and there are fewer to come behind it
pub Walking-shorter : (nodes : List Node) (s : Stamp) (before at last : Option ℕ) (i : ℕ) → Walking nodes s before at last (Some i)
    → length (chain (length nodes) nodes (node_at nodes i).next) < length (chain (length nodes) nodes (Some i))
Walking-shorter nodes s before at last i (passed, rest, w, l) = go rest w.on l
  where
    go : (r : List ℕ) → Leads nodes (Some i) r None → length r ≤ length nodes
        → length (chain (length nodes) nodes (node_at nodes i).next) < length (chain (length nodes) nodes (Some i))
    go [] h l = cc
    go (j ∷ js) h l =
        let same : j ≡ i = cc (h.0) in
        let whole : chain (length nodes) nodes (Some i) ≡ j ∷ js = chain-Leads nodes (length nodes) (Some i) (j ∷ js) l h in
        let less : chain (length nodes) nodes (node_at nodes i).next ≡ js =
        chain-Leads nodes (length nodes) (node_at nodes i).next js (omega arith)
        (subst (λ v. Leads nodes (node_at nodes v).next js None) same h.2) in
        omega (arith, ap length whole, ap length less)

pub Walking-start : (nodes : List Node) (s : Stamp) (before at : Option ℕ) → Ends nodes at → Walking nodes s before at before at
Walking-start nodes s before at e = ([], e.0, record { over = refl; on = e.1; greater = tt; last_is = refl }, e.2)

pub Walking-place : (nodes : List Node) (s : Stamp) (before at last next : Option ℕ) → Walking nodes s before at last next
    → IfSome next (λ i. i < length nodes)
Walking-place nodes s before at last None w = tt
Walking-place nodes s before at last (Some i) w = Walking-within nodes s before at last i w
