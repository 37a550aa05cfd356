-- The text of packed operations is read as their JSON values, so no two lists of operations have one.
use Rattle.std.proofs.Common.{◌≡◌, ◌<◌, ◌≤◌, ℕ, List, [], ◌∷◌, ◌++◌, codes, decimal, Option, Some, None, Result, Ok, option_and_then}
use Rattle.std.proofs.Common.{option_map, refl, ap, ap₂, ◌∙◌, arith, lit≤}
use Rattle.std.specs.List.{AllByRecursion as Each}
use Rattle.json.specs.Print.{escape_byte}
use Rattle.json.specs.Tree.{depth, items_depth, HasNumbers, ItemsHaveNumbers}
use Rattle.json.proofs.Printed.Decimals.{IsNumber-decimal}
use Rattle.serde_json.specs.Data.{Data, array}
use Rattle.serde_json.specs.Find.{as_array}
use Rattle.serde_json.specs.Read.{read, max_depth, of_json, of_items}
use Rattle.serde_json.specs.Written.{outline, items_outline, compact_text}
use Rattle.serde_json.proofs.Numbers.{number_of-decimal}
use Rattle.opid.specs.declared.refusal.Refusal.{Refusal}
use Rattle.opid.specs.declared.stamp.Stamp.{Stamp}
use Rattle.opid.specs.declared.kind.OpKind.{OpKind}
use Rattle.opid.specs.declared.kind.OpKind.TheVariants.{Ins, Del}
use Rattle.opid.specs.Operations.{Operation}
use Rattle.opid.specs.Kinds.{IsClock, IsOperation}
use Rattle.operation_json.specs.Operations.{items_told}
use Rattle.operation_json.specs.Packing.{Item, packed_items}
use Rattle.operation_json.specs.PackedOperations.{packed_ops_of}
use Rattle.operation_json.specs.Text.{IsOperationInRange, IsKindInRange, pairs_of, clock_text, parent_text, run_text_of, item_text_of}
use Rattle.json_bytes.specs.Quote.{quote}
use Rattle.operation_json.specs.Text.{item_text, packed_text}
use Rattle.operation_json.specs.Internal.Values.{each_data, run_data_of, item_data_of, item_data}
use Rattle.operation_json.proofs.ListTexts.{list_compact}
use Rattle.operation_json.proofs.OperationTexts.{op_compact, regroup_9, clock_compact, parent_compact}
use Rattle.operation_json.proofs.Pairs.{pairs_small}
use Rattle.operation_json.proofs.JsonTexts.{op_numbers, op_depth, op_read, text_read, two_numbers, pairs_numbers, pairs_shallow, two_read}
use Rattle.operation_json.proofs.JsonTexts.{pairs_read}
use Rattle.operation_json.proofs.PackedValues.{IsPacked, are_packed, packed_back}

-- ---- texts

run_compact : (s : ℕ) (clock : List ℕ) (parent : Option Stamp) (c : ℕ) (cs : List ℕ)
    → compact_text (run_data_of s clock (Ins parent c) cs) ≡ run_text_of s clock (Ins parent c) cs
unfolding escape_byte
run_compact s clock parent c cs =
    ap₂ (λ l p. codes "{\"c\":" ++ (l ++ (codes ",\"k\":\"r\",\"p\":"
    ++ (p ++ (codes ",\"s\":" ++ (decimal s ++ (codes ",\"x\":" ++ (quote (c ∷ cs) ++ codes "}"))))))))
    (clock_compact clock) (parent_compact parent)
    ∙ regroup_9 (codes "{\"c\":") (clock_text clock) (codes ",\"k\":\"r\",\"p\":") (parent_text parent) (codes ",\"s\":") (decimal s)
    (codes ",\"x\":") (quote (c ∷ cs)) (codes "}")

compact_of : (x : Operation) (kind : OpKind) (cs : List ℕ) → compact_text (item_data_of (record x { kind = kind }) cs)
    ≡ item_text_of (record x { kind = kind }) cs
compact_of x kind [] = op_compact (record x { kind = kind })
compact_of x (Ins parent c) (d ∷ cs) = run_compact x.site x.clock parent c (d ∷ cs)
compact_of x (Del t) (d ∷ cs) = op_compact (record x { kind = Del t })

pub item_compact : (i : Item) → compact_text (item_data i) ≡ item_text i
item_compact i = compact_of i.first i.first.kind i.more

-- ---- numbers and depth

run_numbers : (s : ℕ) (clock : List ℕ) (parent : Option Stamp) (c : ℕ) (cs : List ℕ) → s < 32 → IsClock clock
    → IsKindInRange (Ins parent c) → HasNumbers (outline (run_data_of s clock (Ins parent c) cs))
run_numbers s clock None c cs h k r =
    (pairs_numbers (pairs_of clock) (pairs_small clock k), (tt, (tt, (IsNumber-decimal s (omega arith), (tt, tt)))))
run_numbers s clock (Some p) c cs h k r = (
  pairs_numbers (pairs_of clock) (pairs_small clock k),
  (tt, (two_numbers p.sum p.site r.0.0 (omega (arith, r.0.1)), (IsNumber-decimal s (omega arith), (tt, tt)))),
)

numbers_of : (x : Operation) (kind : OpKind) (cs : List ℕ) → IsOperation (record x { kind = kind }) → IsKindInRange kind
    → HasNumbers (outline (item_data_of (record x { kind = kind }) cs))
numbers_of x kind [] o r = op_numbers (record x { kind = kind }) o r
numbers_of x (Ins parent c) (d ∷ cs) o r =
    run_numbers x.site x.clock parent c (d ∷ cs) o.site (record { width = o.width; limit = o.limit }) r
numbers_of x (Del t) (d ∷ cs) o r = op_numbers (record x { kind = Del t }) o r

pub items_numbers : (items : List Item) → Each IsPacked items → ItemsHaveNumbers (items_outline (each_data item_data items))
items_numbers [] h = tt
items_numbers (i ∷ items) h = (numbers_of i.first i.first.kind i.more h.0.range.0.0 h.0.range.0.1, items_numbers items h.1)

run_depth : (s : ℕ) (clock : List ℕ) (parent : Option Stamp) (c : ℕ) (cs : List ℕ)
    → depth (outline (run_data_of s clock (Ins parent c) cs)) ≤ 3
run_depth s clock None c cs = omega (arith, pairs_shallow (pairs_of clock))
run_depth s clock (Some p) c cs = omega (arith, pairs_shallow (pairs_of clock))

depth_of : (x : Operation) (kind : OpKind) (cs : List ℕ) → depth (outline (item_data_of (record x { kind = kind }) cs)) ≤ 3
depth_of x kind [] = op_depth (record x { kind = kind })
depth_of x (Ins parent c) (d ∷ cs) = run_depth x.site x.clock parent c (d ∷ cs)
depth_of x (Del t) (d ∷ cs) = op_depth (record x { kind = Del t })

pub items_shallow : (items : List Item) → items_depth (items_outline (each_data item_data items)) ≤ 3
items_shallow [] = lit≤ tt
items_shallow (i ∷ items) = omega (arith, depth_of i.first i.first.kind i.more, items_shallow items)

-- ---- the tree is the value

run_read : (s : ℕ) (clock : List ℕ) (parent : Option Stamp) (c : ℕ) (cs : List ℕ) → s < 32 → IsClock clock → IsKindInRange (Ins parent c)
    → of_json (outline (run_data_of s clock (Ins parent c) cs)) ≡ Some (run_data_of s clock (Ins parent c) cs)
run_read s clock None c cs h k r =
    rw (pairs_read (pairs_of clock) (pairs_small clock k)) (rw (number_of-decimal s (omega arith)) refl)
run_read s clock (Some p) c cs h k r =
    rw (pairs_read (pairs_of clock) (pairs_small clock k)) (rw (two_read p.sum p.site r.0.0 (omega (arith, r.0.1)))
    (rw (number_of-decimal s (omega arith)) refl))

read_of : (x : Operation) (kind : OpKind) (cs : List ℕ) → IsOperation (record x { kind = kind }) → IsKindInRange kind
    → of_json (outline (item_data_of (record x { kind = kind }) cs)) ≡ Some (item_data_of (record x { kind = kind }) cs)
read_of x kind [] o r = op_read (record x { kind = kind }) o r
read_of x (Ins parent c) (d ∷ cs) o r = run_read x.site x.clock parent c (d ∷ cs) o.site (record { width = o.width; limit = o.limit }) r
read_of x (Del t) (d ∷ cs) o r = op_read (record x { kind = Del t }) o r

pub items_read : (items : List Item) → Each IsPacked items
    → of_items (items_outline (each_data item_data items)) ≡ Some (each_data item_data items)
items_read [] h = refl
items_read (i ∷ items) h = rw (read_of i.first i.first.kind i.more h.0.range.0.0 h.0.range.0.1) (rw (items_read items h.1) refl)

-- the outlines of packed operations tell them
pub one_outline : (xs ys : List Operation) → Each IsOperationInRange xs → Each IsOperationInRange ys
    → items_outline (each_data item_data (packed_items xs)) ≡ items_outline (each_data item_data (packed_items ys)) → xs ≡ ys
one_outline xs ys h k e =
    let first = items_read (packed_items xs) (are_packed xs h) in
    let second : of_items (items_outline (each_data item_data (packed_items xs))) ≡ Some (each_data item_data (packed_items ys)) =
    ap of_items e ∙ items_read (packed_items ys) (are_packed ys k) in
    let same : each_data item_data (packed_items xs) ≡ each_data item_data (packed_items ys) = cc in
    let told_first = packed_back xs h in
    let told_second : packed_ops_of (items_told (each_data item_data (packed_items xs))) ≡ Ok ys =
    ap (λ ds. packed_ops_of (items_told ds)) same ∙ packed_back ys k in
    cc

-- ---- the whole text

abbrev list_data : List Operation → Data
list_data ops = array (each_data item_data (packed_items ops))

list_read : (ops : List Operation) → Each IsOperationInRange ops → read (packed_text ops) ≡ Some (list_data ops)
list_read ops h =
    let packs : Each IsPacked (packed_items ops) = are_packed ops h in
    let shallow : depth (outline (list_data ops)) ≤ max_depth = omega (arith, items_shallow (packed_items ops)) in
    text_read (list_data ops) (packed_text ops) (list_compact item_data item_text item_compact (packed_items ops))
    (items_numbers (packed_items ops) packs) shallow
    ∙ array_read ops packs
  where
    array_read : (ops : List Operation) → Each IsPacked (packed_items ops) → of_json (outline (list_data ops)) ≡ Some (list_data ops)
    array_read ops packs = rw (items_read (packed_items ops) packs) refl

-- the operations that a text of a list tells
abbrev told : Option Data → Option (Result (List Operation) Refusal)
told d = option_map (λ ds. packed_ops_of (items_told ds)) (option_and_then as_array d)

reads_back : (ops : List Operation) → Each IsOperationInRange ops → told (read (packed_text ops)) ≡ Some (Ok ops)
reads_back ops h = ap told (list_read ops h) ∙ ap Some (packed_back ops h)

pub different : (a b : List Operation) → Each IsOperationInRange a → Each IsOperationInRange b → packed_text a ≡ packed_text b → a ≡ b
different a b h k e =
    let first = reads_back a h in
    let second : told (read (packed_text a)) ≡ Some (Ok b) = ap (λ t. told (read t)) e ∙ reads_back b k in
    cc
