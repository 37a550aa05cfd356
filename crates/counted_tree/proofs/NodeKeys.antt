-- The nodes beside the keys and widths of their elements, after one more of either.
use Rattle.std.proofs.Common.{◌≡◌, ℕ, zero, suc, ◌+◌, ◌*◌, ◌/◌, ◌%◌, ◌<◌, ◌≤◌, Bool, true, false, cond, List, [], ◌∷◌, ◌++◌, length, get_or}
use Rattle.std.proofs.Common.{Some, refl, sym, ap, ◌∙◌, arith, map, eqb-true, ◌==◌}
use Rattle.std.specs.Prelude.{option_map, ◌^◌}
use Rattle.std.specs.List.{slice_get}
use Rattle.std.proofs.lemmas.Bool.{eqb-false}
use Rattle.std.proofs.lemmas.List.{get_or_append_left, get_or_push, map_push, length_push, length-map}
use Rattle.std.proofs.lemmas.Option.{slice_get-get_or, slice_get-map, get_or_from_slice_get}
use Rattle.counted_tree.specs.declared.kept.node.Node.{Node}
use Rattle.counted_tree.specs.declared.entry.Entry.{Entry}
use Rattle.counted_tree.specs.Internal.Keys.{key_and_width_of, IsKnown}
use Rattle.counted_tree.specs.declared.kept.packed_node.PackedNode.{PackedNode}
use Rattle.counted_tree.specs.Internal.PackedNode.{elem_of, node_of}
use Rattle.counted_tree.specs.Internal.Store.{nodes_of, AreElemsBelow}

-- the element of a node is one of them
pub elem_below_at : (n : ℕ) (packed : List PackedNode) (i : ℕ) (r : PackedNode) → AreElemsBelow n packed → slice_get packed i ≡ Some r
    → elem_of r < n
elem_below_at n [] i r h e = absurd (cc)
elem_below_at n (q ∷ packed) zero r h e = let same : q ≡ r = cc in rw (sym same) h.0
elem_below_at n (q ∷ packed) (suc i) r h e = elem_below_at n packed i r h.1 e

pub elems_below_push : (n : ℕ) (packed : List PackedNode) (r : PackedNode) → AreElemsBelow n packed → elem_of r < n
    → AreElemsBelow n (packed ++ r ∷ [])
elems_below_push n [] r h k = (k, tt)
elems_below_push n (q ∷ packed) r h k = (h.0, elems_below_push n packed r h.1 k)

pub elems_below_more : (n m : ℕ) (packed : List PackedNode) → n ≤ m → AreElemsBelow n packed → AreElemsBelow m packed
elems_below_more n m [] p h = tt
elems_below_more n m (q ∷ packed) p h = (omega (arith, h.0), elems_below_more n m packed p h.1)

-- what is kept of one element more changes no node
pub nodes_with_element : (keys_and_widths : List ℕ) (key_and_width : ℕ) (packed : List PackedNode)
    → AreElemsBelow (length keys_and_widths) packed
    → nodes_of (keys_and_widths ++ key_and_width ∷ []) packed ≡ nodes_of keys_and_widths packed
nodes_with_element keys_and_widths key_and_width [] h = refl
nodes_with_element keys_and_widths key_and_width (r ∷ packed) h =
    let first = ap (λ t. node_of t r) (get_or_append_left keys_and_widths (key_and_width ∷ []) 0 (elem_of r) h.0) in
    let rest = nodes_with_element keys_and_widths key_and_width packed h.1 in
    cc

-- what is read at a place that is in the list
pub read_at : {A : Type 0} (xs : List A) (i : ℕ) (x : A) → i < length xs → x ≡ get_or xs i x → slice_get xs i ≡ Some x
read_at xs i x h e = slice_get-get_or xs i x h ∙ ap Some (sym e)

pub node_at : (keys_and_widths : List ℕ) (packed : List PackedNode) (i : ℕ) (r : PackedNode) (t : ℕ) → slice_get packed i ≡ Some r
    → slice_get keys_and_widths (elem_of r) ≡ Some t → slice_get (nodes_of keys_and_widths packed) i ≡ Some (node_of t r)
node_at keys_and_widths packed i r t e k =
    let f : PackedNode → Node = λ q. node_of (get_or keys_and_widths (elem_of q) 0) q in
    slice_get-map f packed i ∙ ap (option_map f) e
    ∙ ap (λ v. Some (node_of v r)) (get_or_from_slice_get keys_and_widths (elem_of r) t 0 k)

pub nodes_pushed : (keys_and_widths : List ℕ) (packed : List PackedNode) (r : PackedNode) (n : Node)
    → node_of (key_and_width_of n.entry) r ≡ n
    → elem_of r ≡ n.entry.elem → slice_get keys_and_widths n.entry.elem ≡ Some (key_and_width_of n.entry)
    → nodes_of keys_and_widths (packed ++ r ∷ []) ≡ nodes_of keys_and_widths packed ++ n ∷ []
nodes_pushed keys_and_widths packed r n e same k =
    let f : PackedNode → Node = λ q. node_of (get_or keys_and_widths (elem_of q) 0) q in
    let at = ap (λ i. get_or keys_and_widths i 0) same
    ∙ get_or_from_slice_get keys_and_widths n.entry.elem (key_and_width_of n.entry) 0 k in
    map_push f packed r ∙ ap (λ m. map f packed ++ m ∷ []) (ap (λ t. node_of t r) at ∙ e)

-- a copy of a node that is kept with a change stands for the node with that change
pub nodes_copied : (keys_and_widths : List ℕ) (packed : List PackedNode) (i : ℕ) (r q : PackedNode) (change : Node → Node) (n : Node)
    → slice_get packed i ≡ Some r → slice_get (nodes_of keys_and_widths packed) i ≡ Some n
    → ((t : ℕ) → node_of t q ≡ change (node_of t r)) → elem_of q ≡ elem_of r
    → nodes_of keys_and_widths (packed ++ q ∷ []) ≡ nodes_of keys_and_widths packed ++ change n ∷ []
nodes_copied keys_and_widths packed i r q change n at there changes same =
    let f : PackedNode → Node = λ p. node_of (get_or keys_and_widths (elem_of p) 0) p in
    let read : Some (f r) ≡ Some n = sym (slice_get-map f packed i ∙ ap (option_map f) at) ∙ there in
    let is : f r ≡ n = cc in
    let copy : f q ≡ change (f r) = ap (λ j. node_of (get_or keys_and_widths j 0) q) same ∙ changes
    (get_or keys_and_widths (elem_of r) 0) in
    map_push f packed q ∙ ap (λ m. map f packed ++ m ∷ []) (copy ∙ ap change is)

-- a number that stands for a key and a width is read back from these
key_and_width_by : (v : ℕ) (b : Bool) → (v % 2 == 1) ≡ b → v / 2 * 2 + cond b 1 0 ≡ v
key_and_width_by v true e = omega (arith, eqb-true (v % 2) 1 e)
key_and_width_by v false e = omega (arith, eqb-false (v % 2) 1 e)

pub key_and_width_back : (v : ℕ) → v / 2 * 2 + cond (v % 2 == 1) 1 0 ≡ v
key_and_width_back v = key_and_width_by v (v % 2 == 1) refl

pub length-nodes_of : (keys_and_widths : List ℕ) (packed : List PackedNode) → length (nodes_of keys_and_widths packed) ≡ length packed
length-nodes_of keys_and_widths packed = length-map packed (λ (q : PackedNode). node_of (get_or keys_and_widths (elem_of q) 0) q)

-- the next element is known once its key and width are kept
pub known_pushed : (keys_and_widths : List ℕ) (x : Entry) → length keys_and_widths ≡ x.elem → x.elem < 2 ^ 17 → x.key < 2 ^ 23
    → IsKnown (keys_and_widths ++ key_and_width_of x ∷ []) x
known_pushed keys_and_widths x e small key =
    let long = length_push keys_and_widths (key_and_width_of x) in
    let at = slice_get-get_or (keys_and_widths ++ key_and_width_of x ∷ []) x.elem 0 (omega (arith, e, long)) in
    ((small, key), at ∙ ap Some (get_or_push keys_and_widths (key_and_width_of x) 0 x.elem e))
