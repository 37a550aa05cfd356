-- The text of a log is read as its JSON value, which tells it.
use Rattle.std.proofs.Common.{◌≡◌, ◌≤◌, ℕ, List, [], ◌++◌, codes, Option, Some, Ok, option_and_then, option_map, refl}
use Rattle.std.proofs.Common.{sym, ap, ◌∙◌, arith, append-nil, lit<, decimal, length, IsUtf8}
use Rattle.std.proofs.lemmas.Fmt.{decimal_digit}
use Rattle.json.specs.Json as json
use Rattle.json.specs.Lex.{tokens}
use Rattle.json.specs.Print.{escape_byte}
use Rattle.json.specs.Token.{Token}
use Rattle.json.specs.Tree.{depth, HasNumbers, json_tokens}
use Rattle.json.proofs.Printed.Trees.{value-json_tokens, ArePrintable-json_tokens}
use Rattle.json.proofs.Printed.Tokens.{tokens-print}
use Rattle.json.proofs.Printed.Decimals.{IsNumber-decimal}
use Rattle.serde_json.specs.Data.{Data, number, unsigned, array, object, member, no_members}
use Rattle.serde_json.specs.Read.{read, max_depth, of_json}
use Rattle.serde_json.specs.Written.{outline, compact_text}
use Rattle.serde_json.proofs.Numbers.{number_of-decimal}
use Rattle.serde_json.proofs.Texts.{print-outline}
use Rattle.opid.specs.Operations.{Operation}
use Rattle.operation_json.specs.Members.{◌>>=◌}
use Rattle.opid.specs.Lawful.{IsLawful}
use Rattle.operation_json.specs.Packing.{packed_items}
use Rattle.operation_json.specs.Text.{item_text, packed_text}
use Rattle.operation_json.specs.Internal.Values.{each_data, item_data}
use Rattle.operation_json.proofs.ListTexts.{regroup_3, list_compact}
use Rattle.operation_json.proofs.PackedValues.{are_packed, packed_back}
use Rattle.operation_json.proofs.PackedTexts.{item_compact, items_numbers, items_shallow, items_read}
use Rattle.operation_json.proofs.Steps.{json_read}
use Rattle.snapshot.specs.Snapshot.{AreInRange, StandsFor, told_by, log_text}

abbrev log_data : List Operation → Data
log_data log =
    object (member (codes "format") (number (unsigned 2))
    (member (codes "ops") (array (each_data item_data (packed_items log))) no_members))

compact : (log : List Operation) → compact_text (log_data log) ≡ log_text log
unfolding escape_byte
compact log =
    ap (λ l. codes "{\"format\":" ++ (decimal 2 ++ (codes ",\"ops\":" ++ (l ++ codes "}"))))
    (list_compact item_data item_text item_compact (packed_items log))
    ∙ ap (λ d. codes "{\"format\":" ++ (d ++ (codes ",\"ops\":" ++ (packed_text log ++ codes "}")))) (decimal_digit 2 (lit< tt))
    ∙ regroup_3 (codes "{\"format\":2,\"ops\":") (packed_text log) (codes "}")

numbers : (log : List Operation) → AreInRange log → HasNumbers (outline (log_data log))
numbers log h = (IsNumber-decimal 2 (lit< tt), (items_numbers (packed_items log) (are_packed log h), tt))

shallow : (log : List Operation) → depth (outline (log_data log)) ≤ max_depth
shallow log = omega (arith, items_shallow (packed_items log))

value_read : (log : List Operation) → AreInRange log → of_json (outline (log_data log)) ≡ Some (log_data log)
value_read log h = rw (number_of-decimal 2 (lit< tt)) (rw (items_read (packed_items log) (are_packed log h)) refl)

-- the value of a tree that no token follows
abbrev whole : Option (json.Json × List Token) → Option Data
whole o = option_and_then of_json (option_and_then (λ p. json.if_last p.0 p.1) o)

text_read : (log : List Operation) → AreInRange log → read (log_text log) ≡ Some (log_data log)
text_read log h =
    let same : tokens (log_text log) ≡ json_tokens (outline (log_data log)) =
    ap tokens (sym (print-outline (log_data log) ∙ compact log))
    ∙ tokens-print (json_tokens (outline (log_data log))) (ArePrintable-json_tokens (outline (log_data log)) (numbers log h)) in
    ap whole (ap (json.value max_depth) (same ∙ sym (append-nil _)) ∙ value-json_tokens (outline (log_data log)) max_depth [] (shallow log))
    ∙ value_read log h

log_back : (log : List Operation) → AreInRange log → told_by (log_data log) ≡ Ok log
log_back log h = packed_back log h

pub reads_back : (log : List Operation) → AreInRange log → option_map told_by (read (log_text log)) ≡ Some (Ok log)
reads_back log h = ap (option_map told_by) (text_read log h) ∙ ap Some (log_back log h)

pub different : (a b : List Operation) → AreInRange a → AreInRange b → log_text a ≡ log_text b → a ≡ b
different a b h k e =
    let first = reads_back a h in
    let second : option_map told_by (read (log_text a)) ≡ Some (Ok b) = ap (λ t. option_map told_by (read t)) e ∙ reads_back b k in
    cc

pub one : (bytes : List ℕ) (a b : List Operation) → StandsFor bytes a → StandsFor bytes b → a ≡ b
one bytes a b h k = let first = h.told in let second = k.told in cc

pub stands_for : (log : List Operation) (bytes : List ℕ) → AreInRange log → IsLawful log → length log ≤ 131072 → IsUtf8 bytes
    → bytes ≡ log_text log → StandsFor bytes log
stands_for log bytes h lawful few utf8 e = record {
  told = ap (λ d. d >>= told_by) (json_read bytes (log_data log) utf8 (ap read e ∙ text_read log h)) ∙ log_back log h;
  lawful = lawful;
  few = few;
}
