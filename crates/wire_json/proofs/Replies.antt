-- An `ops` reply is read back as its operations, by a `put` too.
use Rattle.std.proofs.Common.{◌≡◌, ◌≤◌, ◌^◌, ℕ, Option, Some, Ok, List, codes, length, option_map, option_and_then, refl, ap, ◌∙◌, arith}
use Rattle.std.proofs.lemmas.Bool.{lt-ltb, le-leb}
use Rattle.std.proofs.lemmas.List.{take_all}
use Rattle.json.specs.Tree.{depth}
use Rattle.serde_json.specs.Data.{Data, Items}
use Rattle.serde_json.specs.Find.{get, as_array}
use Rattle.serde_json.specs.Read.{read, max_depth, of_json}
use Rattle.serde_json.specs.Written.{outline}
use Rattle.serde_json.proofs.Numbers.{number_of-decimal}
use Rattle.opid.specs.Operations.{Operation}
use Rattle.room_model.specs.declared.reply.Reply.TheVariants.{Ops}
use Rattle.operation_json.specs.Members.{◌>>=◌}
use Rattle.operation_json.specs.Operations.{items_told}
use Rattle.operation_json.specs.Packing.{packed_items}
use Rattle.operation_json.specs.PackedOperations.{packed_ops_of, first_65_of, handed_over}
use Rattle.wire_json.specs.Text.{IsInRange, text}
use Rattle.wire_json.specs.Part.{part_in, part_told}
use Rattle.wire_json.specs.Internal.Values.{part_data}
use Rattle.operation_json.proofs.JsonTexts.{small, text_read}
use Rattle.operation_json.proofs.Steps.{json_read}
use Rattle.operation_json.proofs.PackedValues.{are_packed, packed_back}
use Rattle.operation_json.proofs.PackedTexts.{items_shallow, items_read}
use Rattle.wire_json.proofs.ReplyUtf8.{ops_utf8}
use Rattle.wire_json.proofs.Texts.{compact, numbers}

part_read : (place : ℕ) (ops : List Operation) → IsInRange (Ops place ops) → read (text (Ops place ops)) ≡ Some (part_data place ops)
part_read place ops h =
    let shallow : depth (outline (part_data place ops)) ≤ max_depth = omega (arith, items_shallow (packed_items ops)) in
    text_read (part_data place ops) (text (Ops place ops)) (compact (Ops place ops)) (numbers (Ops place ops) h) shallow
    ∙ tree place ops h
  where
    tree : (place : ℕ) (ops : List Operation) → IsInRange (Ops place ops)
        → of_json (outline (part_data place ops)) ≡ Some (part_data place ops)
    tree place ops h =
        rw (number_of-decimal place (small place h.0)) (rw (items_read (packed_items ops) (are_packed ops h.1)) refl)

-- the list at the key "ops"
abbrev list_in : Option Data → Option Items
list_in d = option_and_then as_array (option_and_then (get (codes "ops")) d)

pub tells : (place : ℕ) (ops : List Operation) → IsInRange (Ops place ops)
    → option_map (λ ds. packed_ops_of (items_told ds)) (list_in (read (text (Ops place ops)))) ≡ Some (Ok ops)
tells place ops h =
    ap (λ d. option_map (λ ds. packed_ops_of (items_told ds)) (list_in d)) (part_read place ops h) ∙ ap Some (packed_back ops h.1)

pub hands_over : (place : ℕ) (ops : List Operation) → IsInRange (Ops place ops) → length ops ≤ 64
    → option_map (λ ds. handed_over (items_told ds)) (list_in (read (text (Ops place ops)))) ≡ Some (Ok ops)
hands_over place ops h few =
    ap (λ d. option_map (λ ds. handed_over (items_told ds)) (list_in d)) (part_read place ops h)
    ∙ ap (λ r. Some (first_65_of r)) (packed_back ops h.1)
    ∙ ap (λ xs. Some (Ok xs)) (take_all 65 ops (omega (arith, few)))

part_back : (n : ℕ) (ops : List Operation) → IsInRange (Ops n ops) → length ops ≤ 64 → part_in (part_data n ops) ≡ Ok (n, ops)
part_back n ops h few =
    rw (lt-ltb n (2 ^ 32) h.0)
    (rw (packed_back ops h.1) (rw (take_all 65 ops (omega (arith, few))) (rw (le-leb (length ops) 64 few) refl)))

-- the text of a part tells it
pub part_reads_back : (n : ℕ) (ops : List Operation) → IsInRange (Ops n ops) → length ops ≤ 64 → part_told (text (Ops n ops)) ≡ Ok (n, ops)
part_reads_back n ops h few =
    ap (λ r. r >>= part_in) (json_read (text (Ops n ops)) (part_data n ops) (ops_utf8 n ops h.0 h.1) (part_read n ops h))
    ∙ part_back n ops h few
