-- The text of an operation is read as its JSON value.
use Rattle.std.proofs.Common.{◌≡◌, ℕ, ◌<◌, ◌≤◌, ◌^◌, List, [], ◌∷◌, Some, None, Ok, option_map, refl, sym, ap, ◌∙◌}
use Rattle.std.proofs.Common.{arith, append-nil, lit≤}
use Rattle.std.specs.List.{AllByRecursion as Each}
use Rattle.json.specs.Json as json
use Rattle.json.specs.Lex.{tokens}
use Rattle.json.specs.Tree.{depth, items_depth, HasNumbers, ItemsHaveNumbers, json_tokens}
use Rattle.json.proofs.Printed.Trees.{value-json_tokens, ArePrintable-json_tokens}
use Rattle.json.proofs.Printed.Tokens.{tokens-print}
use Rattle.json.proofs.Printed.Decimals.{IsNumber-decimal}
use Rattle.serde_json.specs.Data.{Data}
use Rattle.serde_json.specs.Read.{read, max_depth, of_json, of_items}
use Rattle.serde_json.specs.Written.{outline, items_outline, compact_text}
use Rattle.serde_json.proofs.Numbers.{number_of-decimal}
use Rattle.serde_json.proofs.Texts.{print-outline}
use Rattle.opid.specs.declared.kind.OpKind.{OpKind}
use Rattle.opid.specs.declared.kind.OpKind.TheVariants.{Ins, Del}
use Rattle.opid.specs.Operations.{Operation}
use Rattle.opid.specs.Kinds.{IsClock, IsOperation}
use Rattle.json_bytes.specs.Internal.Coming.{lone_value}
use Rattle.operation_json.specs.Operations.{op_of}
use Rattle.operation_json.specs.Text.{IsKindInRange, pairs_of, op_text}
use Rattle.operation_json.specs.Internal.Values.{each_data, two_data, pair_data, op_data_of, op_data}
use Rattle.operation_json.proofs.Pairs.{pairs_small}
use Rattle.operation_json.proofs.OperationTexts.{op_compact}
use Rattle.operation_json.proofs.OperationValues.{op_back}

abbrev pub AreSmall : List (ℕ × ℕ) → Type 0
AreSmall ps = Each (λ p. (p.0 < 2 ^ 32) × (p.1 < 2 ^ 32)) ps

pub small : (n : ℕ) → n < 2 ^ 32 → n < 2 ^ 64
small n h = omega arith

-- ---- each number is a number

pub two_numbers : (m n : ℕ) → m < 2 ^ 32 → n < 2 ^ 32 → HasNumbers (outline (two_data m n))
two_numbers m n h k = (IsNumber-decimal m (small m h), (IsNumber-decimal n (small n k), tt))

pub pairs_numbers : (ps : List (ℕ × ℕ)) → AreSmall ps → ItemsHaveNumbers (items_outline (each_data pair_data ps))
pairs_numbers [] h = tt
pairs_numbers (p ∷ ps) h = (two_numbers p.0 p.1 h.0.0 h.0.1, pairs_numbers ps h.1)

numbers : (s : ℕ) (clock : List ℕ) (kind : OpKind) → s < 32 → IsClock clock → IsKindInRange kind
    → HasNumbers (outline (op_data_of s clock kind))
numbers s clock (Ins None c) h k r =
    (pairs_numbers (pairs_of clock) (pairs_small clock k), (tt, (tt, (IsNumber-decimal s (omega arith), (tt, tt)))))
numbers s clock (Ins (Some p) c) h k r = (
  pairs_numbers (pairs_of clock) (pairs_small clock k),
  (tt, (two_numbers p.sum p.site r.0.0 (omega (arith, r.0.1)), (IsNumber-decimal s (omega arith), (tt, tt)))),
)
numbers s clock (Del t) h k r = (
  pairs_numbers (pairs_of clock) (pairs_small clock k),
  (tt, (IsNumber-decimal s (omega arith), (two_numbers t.sum t.site r.0 (omega (arith, r.1)), tt))),
)

-- ---- depth

pub pairs_shallow : (ps : List (ℕ × ℕ)) → items_depth (items_outline (each_data pair_data ps)) ≤ 1
pairs_shallow [] = lit≤ tt
pairs_shallow (p ∷ ps) = omega (arith, pairs_shallow ps)

shallow : (s : ℕ) (clock : List ℕ) (kind : OpKind) → depth (outline (op_data_of s clock kind)) ≤ max_depth
shallow s clock (Ins None c) = omega (arith, pairs_shallow (pairs_of clock))
shallow s clock (Ins (Some p) c) = omega (arith, pairs_shallow (pairs_of clock))
shallow s clock (Del t) = omega (arith, pairs_shallow (pairs_of clock))

pub op_numbers : (x : Operation) → IsOperation x → IsKindInRange x.kind → HasNumbers (outline (op_data x))
op_numbers x h r = numbers x.site x.clock x.kind h.site (record { width = h.width; limit = h.limit }) r

-- an operation's value is an object with a list of pairs
depth_of : (s : ℕ) (clock : List ℕ) (kind : OpKind) → depth (outline (op_data_of s clock kind)) ≤ 3
depth_of s clock (Ins None c) = omega (arith, pairs_shallow (pairs_of clock))
depth_of s clock (Ins (Some p) c) = omega (arith, pairs_shallow (pairs_of clock))
depth_of s clock (Del t) = omega (arith, pairs_shallow (pairs_of clock))

pub op_depth : (x : Operation) → depth (outline (op_data x)) ≤ 3
op_depth x = depth_of x.site x.clock x.kind

-- ---- the tree is the value

pub two_read : (m n : ℕ) → m < 2 ^ 32 → n < 2 ^ 32 → of_json (outline (two_data m n)) ≡ Some (two_data m n)
two_read m n h k = rw (number_of-decimal m (small m h)) (rw (number_of-decimal n (small n k)) refl)

pub pairs_read : (ps : List (ℕ × ℕ)) → AreSmall ps → of_items (items_outline (each_data pair_data ps)) ≡ Some (each_data pair_data ps)
pairs_read [] h = refl
pairs_read (p ∷ ps) h = rw (two_read p.0 p.1 h.0.0 h.0.1) (rw (pairs_read ps h.1) refl)

value_read : (s : ℕ) (clock : List ℕ) (kind : OpKind) → s < 32 → IsClock clock → IsKindInRange kind
    → of_json (outline (op_data_of s clock kind)) ≡ Some (op_data_of s clock kind)
value_read s clock (Ins None c) h k r =
    rw (pairs_read (pairs_of clock) (pairs_small clock k)) (rw (number_of-decimal s (omega arith)) refl)
value_read s clock (Ins (Some p) c) h k r =
    rw (pairs_read (pairs_of clock) (pairs_small clock k)) (rw (two_read p.sum p.site r.0.0 (omega (arith, r.0.1)))
    (rw (number_of-decimal s (omega arith)) refl))
value_read s clock (Del t) h k r =
    rw (pairs_read (pairs_of clock) (pairs_small clock k)) (rw (number_of-decimal s (omega arith))
    (rw (two_read t.sum t.site r.0 (omega (arith, r.1))) refl))

pub op_read : (x : Operation) → IsOperation x → IsKindInRange x.kind → of_json (outline (op_data x)) ≡ Some (op_data x)
op_read x h r = value_read x.site x.clock x.kind h.site (record { width = h.width; limit = h.limit }) r

-- the text of a value is read as the tree that tells it
pub text_read : (d : Data) (text : List ℕ) → compact_text d ≡ text → HasNumbers (outline d) → depth (outline d) ≤ max_depth
    → read text ≡ of_json (outline d)
text_read d text e numbers shallow =
    let same : tokens text ≡ json_tokens (outline d) =
    ap tokens (sym (print-outline d ∙ e)) ∙ tokens-print (json_tokens (outline d)) (ArePrintable-json_tokens (outline d) numbers) in
    ap lone_value (ap (json.value max_depth) (same ∙ sym (append-nil _)) ∙ value-json_tokens (outline d) max_depth [] shallow)

op_text_read : (x : Operation) → IsOperation x → IsKindInRange x.kind → read (op_text x) ≡ Some (op_data x)
op_text_read x h r =
    text_read (op_data x) (op_text x) (op_compact x) (op_numbers x h r) (shallow x.site x.clock x.kind) ∙ op_read x h r

pub reads_back : (x : Operation) → IsOperation x → IsKindInRange x.kind → option_map op_of (read (op_text x)) ≡ Some (Ok x)
reads_back x h r = ap (option_map op_of) (op_text_read x h r) ∙ ap Some (op_back x h r)

pub different : (x y : Operation) → IsOperation x → IsKindInRange x.kind → IsOperation y → IsKindInRange y.kind
    → op_text x ≡ op_text y → x ≡ y
different x y h r k s e =
    let first = reads_back x h r in
    let second : option_map op_of (read (op_text x)) ≡ Some (Ok y) = ap (λ t. option_map op_of (read t)) e ∙ reads_back y k s in
    cc
