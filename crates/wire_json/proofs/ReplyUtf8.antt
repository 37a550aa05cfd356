-- The text of a reply that is put together as bytes is UTF-8.
use Rattle.std.proofs.Common.{◌<◌, ◌^◌, ℕ, List, [], ◌∷◌, map, codes, decimal, refl, arith, IsUtf8}
use Rattle.std.specs.Prelude.{encode_utf8_all}
use Rattle.std.specs.List.{AllByRecursion}
use Rattle.json.proofs.Printed.Utf8.{IsUtf8-are_ascii, IsUtf8-quoted}
use Rattle.opid.specs.Operations.{Operation}
use Rattle.room_model.specs.declared.reply.Reply.TheVariants.{Ops, Edits, Put, Ok}
use Rattle.operation_json.specs.Text.{IsOperationInRange, packed_text, in_brackets}
use Rattle.json_bytes.specs.Quote.{quote}
use Rattle.wire_json.specs.Text.{text, edit_text, outcome_text, IsEditInRange, IsOutcomeInRange}
use Rattle.operation_json.proofs.PackedUtf8.{all_texts, listed_texts, number_text, packed_utf8}
use Rattle.opid.specs.declared.edit.Edit as edit
use Rattle.opid.specs.declared.edit.Edit.TheVariants.{Ins, Del, DelUnits, Nop}
use Rattle.opid.specs.Refusals.{number_of}
use Rattle.room_model.specs.declared.outcome.Outcome as outcome
use Rattle.room_model.specs.declared.outcome.Outcome.TheVariants as outcomes
use Rattle.wire_json.proofs.Texts.{number_small}

pub ops_utf8 : (n : ℕ) (ops : List Operation) → n < 2 ^ 32 → AllByRecursion IsOperationInRange ops → IsUtf8 (text (Ops n ops))
ops_utf8 n ops h k =
    all_texts (codes "{\"from\":") (decimal n ∷ codes ",\"ops\":" ∷ packed_text ops ∷ codes ",\"r\":\"ops\"}" ∷ [])
    (IsUtf8-are_ascii _ refl) (
      number_text n (omega (arith, h)),
      (IsUtf8-are_ascii _ refl, (packed_utf8 ops k, (IsUtf8-are_ascii _ refl, tt))),
    )

one_text : (e : edit.Edit) → IsEditInRange e → IsUtf8 (edit_text e)
one_text (Ins k c) h =
    all_texts (codes "[\"i\",") (decimal k ∷ codes "," ∷ quote (c ∷ []) ∷ codes "]" ∷ []) (IsUtf8-are_ascii _ refl) (
      number_text k h.0,
      (
        IsUtf8-are_ascii _ refl,
        (
          IsUtf8-quoted (encode_utf8_all (c ∷ [])) (c ∷ [], (h.1, refl)),
          (IsUtf8-are_ascii _ refl, tt),
        ),
      ),
    )
one_text (Del k) h =
    all_texts (codes "[\"d\",") (decimal k ∷ codes "]" ∷ []) (IsUtf8-are_ascii _ refl) (number_text k h, (IsUtf8-are_ascii _ refl, tt))
one_text (DelUnits k w) h =
    all_texts (codes "[\"d\",") (decimal k ∷ codes "," ∷ decimal w ∷ codes "]" ∷ []) (IsUtf8-are_ascii _ refl)
    (number_text k h.0, (IsUtf8-are_ascii _ refl, (number_text w (omega (arith, h.1)), (IsUtf8-are_ascii _ refl, tt))))
one_text Nop h = IsUtf8-are_ascii (codes "[\"n\"]") refl

each_text : (es : List edit.Edit) → AllByRecursion IsEditInRange es → AllByRecursion IsUtf8 (map edit_text es)
each_text [] h = tt
each_text (e ∷ es) h = (one_text e h.0, each_text es h.1)

pub edits_utf8 : (n : ℕ) (es : List edit.Edit) → n < 2 ^ 32 → AllByRecursion IsEditInRange es → IsUtf8 (text (Edits n es))
edits_utf8 n es h k =
    all_texts (codes "{\"es\":") (in_brackets (map edit_text es) ∷ codes ",\"from\":" ∷ decimal n ∷ codes ",\"r\":\"edits\"}" ∷ [])
    (IsUtf8-are_ascii _ refl) (
      listed_texts (map edit_text es) (each_text es k),
      (IsUtf8-are_ascii _ refl, (number_text n (omega (arith, h)), (IsUtf8-are_ascii _ refl, tt))),
    )

one_outcome : (o : outcome.Outcome) → IsOutcomeInRange o → IsUtf8 (outcome_text o)
one_outcome (outcomes.Took taken dropped) h =
    all_texts (codes "[\"took\",") (decimal taken ∷ codes "," ∷ decimal dropped ∷ codes "]" ∷ []) (IsUtf8-are_ascii _ refl) (
      number_text taken (omega (arith, h.0)),
      (IsUtf8-are_ascii _ refl, (number_text dropped (omega (arith, h.1)), (IsUtf8-are_ascii _ refl, tt))),
    )
one_outcome outcomes.Kept h = IsUtf8-are_ascii (codes "[\"kept\"]") refl
one_outcome outcomes.Again h = IsUtf8-are_ascii (codes "[\"again\"]") refl
one_outcome (outcomes.No why) h =
    all_texts (codes "[\"no\",") (decimal (number_of why) ∷ codes "]" ∷ []) (IsUtf8-are_ascii _ refl)
    (number_text (number_of why) (number_small why), (IsUtf8-are_ascii _ refl, tt))

each_outcome : (os : List outcome.Outcome) → AllByRecursion IsOutcomeInRange os → AllByRecursion IsUtf8 (map outcome_text os)
each_outcome [] h = tt
each_outcome (o ∷ os) h = (one_outcome o h.0, each_outcome os h.1)

pub outcomes_utf8 : (os : List outcome.Outcome) → AllByRecursion IsOutcomeInRange os → IsUtf8 (text (Put os))
outcomes_utf8 os h =
    all_texts (codes "{\"os\":") (in_brackets (map outcome_text os) ∷ codes ",\"r\":\"put\"}" ∷ []) (IsUtf8-are_ascii _ refl)
    (listed_texts (map outcome_text os) (each_outcome os h), (IsUtf8-are_ascii _ refl, tt))

pub ok_utf8 : (n k : ℕ) → n < 2 ^ 32 → k < 2 ^ 32 → IsUtf8 (text (Ok n k))
ok_utf8 n k h l =
    all_texts (codes "{\"from\":") (decimal n ∷ codes ",\"r\":\"ok\",\"to\":" ∷ decimal k ∷ codes "}" ∷ []) (IsUtf8-are_ascii _ refl)
    (number_text n (omega (arith, h)), (IsUtf8-are_ascii _ refl, (number_text k (omega (arith, l)), (IsUtf8-are_ascii _ refl, tt))))
