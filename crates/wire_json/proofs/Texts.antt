-- The texts of replies, by serde_json's words.
use Rattle.std.proofs.Common.{◌≡◌, ◌<◌, ◌≤◌, ◌^◌, ℕ, List, [], ◌∷◌, ◌++◌, map, codes, Some, decimal, refl, sym, ap, ap₂, ◌∙◌}
use Rattle.std.proofs.Common.{arith}
use Rattle.std.proofs.Common.{lit<, lit≤}
use Rattle.std.specs.Prelude.{IsTrue, encode_utf8_all}
use Rattle.std.specs.Str.{all_scalars, chars}
use Rattle.std.specs.List.{AllByRecursion}
use Rattle.std.proofs.lemmas.Fmt.{decimal_injective}
use Rattle.std.proofs.lemmas.Str.{chars-encodes}
use Rattle.json.specs.Print.{escape_byte}
use Rattle.json.specs.Json.{document, max_depth}
use Rattle.json.specs.Tree.{depth, items_depth, HasNumbers, ItemsHaveNumbers}
use Rattle.json.proofs.Printed.Trees.{document-print}
use Rattle.json.proofs.Printed.Decimals.{IsNumber-decimal}
use Rattle.serde_json.specs.Data.{Data}
use Rattle.serde_json.specs.Written.{compact_text, outline, items_outline}
use Rattle.serde_json.proofs.Texts.{print-outline}
use Rattle.opid.specs.declared.refusal.Refusal.{Refusal}
use Rattle.opid.specs.declared.refusal.Refusal.TheVariants.{BadJson}
use Rattle.opid.specs.Refusals.{number_of}
use Rattle.opid.specs.declared.edit.Edit as edit
use Rattle.opid.specs.declared.edit.Edit.TheVariants.{Ins, Del, DelUnits, Nop}
use Rattle.room_model.specs.declared.reply.Reply as reply
use Rattle.room_model.specs.declared.reply.Reply.TheVariants.{Joined, Ok, Edits, Left, Ops, Put, Text, No}
use Rattle.room_model.specs.declared.outcome.Outcome as outcome
use Rattle.room_model.specs.declared.outcome.Outcome.TheVariants as outcomes
use Rattle.opid.proofs.Told.{number_of-injective}
use Rattle.operation_json.proofs.JsonTexts.{small}
use Rattle.operation_json.proofs.PackedTexts.{item_compact, items_numbers, items_shallow, one_outline}
use Rattle.operation_json.proofs.PackedValues.{are_packed}
use Rattle.wire_json.specs.Text.{IsInRange, IsEditInRange, IsOutcomeInRange, outcome_text, text, edit_text}
use Rattle.json_bytes.specs.Quote.{quote}
use Rattle.operation_json.specs.Text.{in_brackets, item_text, packed_text}
use Rattle.operation_json.specs.Packing.{packed_items}
use Rattle.operation_json.proofs.ListTexts.{regroup_3, regroup_5, regroup_7, list_compact}
use Rattle.wire_json.specs.Internal.Values.{data_of, outcome_data, edit_data}
use Rattle.operation_json.specs.Internal.Values.{item_data, each_data}

edit_compact : (e : edit.Edit) → compact_text (edit_data e) ≡ edit_text e
unfolding escape_byte
edit_compact (Ins k c) = regroup_5 (codes "[\"i\",") (decimal k) (codes ",") (quote (c ∷ [])) (codes "]")
edit_compact (Del k) = regroup_3 (codes "[\"d\",") (decimal k) (codes "]")
edit_compact (DelUnits k w) = regroup_5 (codes "[\"d\",") (decimal k) (codes ",") (decimal w) (codes "]")
edit_compact Nop = refl

outcome_compact : (o : outcome.Outcome) → compact_text (outcome_data o) ≡ outcome_text o
unfolding escape_byte
outcome_compact (outcomes.Took taken dropped) = regroup_5 (codes "[\"took\",") (decimal taken) (codes ",") (decimal dropped) (codes "]")
outcome_compact outcomes.Kept = refl
outcome_compact outcomes.Again = refl
outcome_compact (outcomes.No why) = regroup_3 (codes "[\"no\",") (decimal (number_of why)) (codes "]")

-- what serde_json writes for the value of a reply is the reply's text
pub compact : (r : reply.Reply) → compact_text (data_of r) ≡ text r
unfolding escape_byte
compact (Joined s v x) = regroup_7 (codes "{\"r\":\"joined\",\"s\":") (decimal s) (codes ",\"v\":") (decimal v) (codes ",\"x\":")
    (quote x) (codes "}")
compact (Ok «from» to) = regroup_5 (codes "{\"from\":") (decimal «from») (codes ",\"r\":\"ok\",\"to\":") (decimal to) (codes "}")
compact (Edits «from» es) =
    ap (λ l. codes "{\"es\":" ++ (l ++ (codes ",\"from\":" ++ (decimal «from» ++ codes ",\"r\":\"edits\"}"))))
    (list_compact edit_data edit_text edit_compact es)
    ∙ regroup_5 (codes "{\"es\":") (in_brackets (map edit_text es)) (codes ",\"from\":") (decimal «from») (codes ",\"r\":\"edits\"}")
compact Left = refl
compact (Ops «from» ops) =
    ap (λ l. codes "{\"from\":" ++ (decimal «from» ++ (codes ",\"ops\":" ++ (l ++ codes ",\"r\":\"ops\"}"))))
    (list_compact item_data item_text item_compact (packed_items ops))
    ∙ regroup_5 (codes "{\"from\":") (decimal «from») (codes ",\"ops\":") (packed_text ops) (codes ",\"r\":\"ops\"}")
compact (Put os) =
    ap (λ l. codes "{\"os\":" ++ (l ++ codes ",\"r\":\"put\"}")) (list_compact outcome_data outcome_text outcome_compact os)
    ∙ regroup_3 (codes "{\"os\":") (in_brackets (map outcome_text os)) (codes ",\"r\":\"put\"}")
compact (Text v x) = regroup_5 (codes "{\"r\":\"text\",\"v\":") (decimal v) (codes ",\"x\":") (quote x) (codes "}")
compact (No why) = regroup_3 (codes "{\"n\":") (decimal (number_of why)) (codes ",\"r\":\"no\"}")

pub number_small : (why : Refusal) → number_of why < 2 ^ 64
number_small BadJson = lit< tt
number_small other = lit< tt

narrow : (w : ℕ) → w < 2 ^ 8 → w < 2 ^ 64
narrow w h = omega (arith, h)

edit_numbers : (es : List edit.Edit) → AllByRecursion IsEditInRange es → ItemsHaveNumbers (items_outline (each_data edit_data es))
edit_numbers [] h = tt
edit_numbers (Ins k c ∷ es) h = ((tt, (IsNumber-decimal k h.0.0, (tt, tt))), edit_numbers es h.1)
edit_numbers (Del k ∷ es) h = ((tt, (IsNumber-decimal k h.0, tt)), edit_numbers es h.1)
edit_numbers (DelUnits k w ∷ es) h =
    ((tt, (IsNumber-decimal k h.0.0, (IsNumber-decimal w (narrow w h.0.1), tt))), edit_numbers es h.1)
edit_numbers (Nop ∷ es) h = ((tt, tt), edit_numbers es h.1)

outcome_numbers : (os : List outcome.Outcome) → AllByRecursion IsOutcomeInRange os
    → ItemsHaveNumbers (items_outline (each_data outcome_data os))
outcome_numbers [] h = tt
outcome_numbers (outcomes.Took taken dropped ∷ os) h =
    ((tt, (IsNumber-decimal taken (small taken h.0.0), (IsNumber-decimal dropped (small dropped h.0.1), tt))), outcome_numbers os h.1)
outcome_numbers (outcomes.Kept ∷ os) h = ((tt, tt), outcome_numbers os h.1)
outcome_numbers (outcomes.Again ∷ os) h = ((tt, tt), outcome_numbers os h.1)
outcome_numbers (outcomes.No why ∷ os) h = ((tt, (IsNumber-decimal (number_of why) (number_small why), tt)), outcome_numbers os h.1)

pub numbers : (r : reply.Reply) → IsInRange r → HasNumbers (outline (data_of r))
numbers (Joined s v x) h = (tt, (IsNumber-decimal s (small s h.0), (IsNumber-decimal v (small v h.1), (tt, tt))))
numbers (Ok «from» to) h = (IsNumber-decimal «from» (small «from» h.0), (tt, (IsNumber-decimal to (small to h.1), tt)))
numbers (Edits «from» es) h = (edit_numbers es h.1, (IsNumber-decimal «from» (small «from» h.0), (tt, tt)))
numbers Left h = (tt, tt)
numbers (Ops «from» ops) h = (IsNumber-decimal «from» (small «from» h.0), (items_numbers (packed_items ops) (are_packed ops h.1), (tt, tt)))
numbers (Put os) h = (outcome_numbers os h, (tt, tt))
numbers (Text v x) h = (tt, (IsNumber-decimal v (small v h.0), (tt, tt)))
numbers (No why) h = (IsNumber-decimal (number_of why) (number_small why), (tt, tt))

edits_shallow : (es : List edit.Edit) → items_depth (items_outline (each_data edit_data es)) ≤ 1
edits_shallow [] = lit≤ tt
edits_shallow (Ins k c ∷ es) = omega (arith, edits_shallow es)
edits_shallow (Del k ∷ es) = omega (arith, edits_shallow es)
edits_shallow (DelUnits k w ∷ es) = omega (arith, edits_shallow es)
edits_shallow (Nop ∷ es) = omega (arith, edits_shallow es)

outcomes_shallow : (os : List outcome.Outcome) → items_depth (items_outline (each_data outcome_data os)) ≤ 1
outcomes_shallow [] = lit≤ tt
outcomes_shallow (outcomes.Took taken dropped ∷ os) = omega (arith, outcomes_shallow os)
outcomes_shallow (outcomes.Kept ∷ os) = omega (arith, outcomes_shallow os)
outcomes_shallow (outcomes.Again ∷ os) = omega (arith, outcomes_shallow os)
outcomes_shallow (outcomes.No why ∷ os) = omega (arith, outcomes_shallow os)

shallow : (r : reply.Reply) → depth (outline (data_of r)) ≤ max_depth
shallow (Edits «from» es) = omega (arith, edits_shallow es)
shallow (Ops «from» ops) = omega (arith, items_shallow (packed_items ops))
shallow (Put os) = omega (arith, outcomes_shallow os)
shallow other = lit≤ tt

-- the text reads as one JSON tree, which is the reply's
back : (r : reply.Reply) → IsInRange r → document (text r) ≡ Some (outline (data_of r))
back r h = ap document (sym (print-outline (data_of r) ∙ compact r)) ∙ document-print (outline (data_of r)) (numbers r h) (shallow r)

one_tree : (a b : reply.Reply) → IsInRange a → IsInRange b → text a ≡ text b → outline (data_of a) ≡ outline (data_of b)
one_tree a b h k e = let p = sym (back a h) ∙ ap document e ∙ back b k in cc

-- characters have one spelling in UTF-8
same_characters : (x y : List ℕ) → IsTrue (all_scalars x) → IsTrue (all_scalars y) → encode_utf8_all x ≡ encode_utf8_all y → x ≡ y
same_characters x y h k e = sym (chars-encodes x h) ∙ ap chars e ∙ chars-encodes y k

one_edit : (a b : edit.Edit) → IsEditInRange a → IsEditInRange b → outline (edit_data a) ≡ outline (edit_data b) → a ≡ b
one_edit (Ins k c) (Ins l d) h g e =
    let same_place = decimal_injective k l h.0 g.0 (cc) in
    let same_character = same_characters (c ∷ []) (d ∷ []) h.1 g.1 (cc) in
    cc
one_edit (Del k) (Del l) h g e = let same_place = decimal_injective k l h g (cc) in cc
one_edit (DelUnits k v) (DelUnits l w) h g e =
    let same_place = decimal_injective k l h.0 g.0 (cc) in
    let same_width = decimal_injective v w (narrow v h.1) (narrow w g.1) (cc) in
    cc
one_edit Nop Nop h g e = refl
one_edit other another h g e = cc

one_list : {A : Type 0} (P : A → Type 0) (f : A → Data) → ((a b : A) → P a → P b → outline (f a) ≡ outline (f b) → a ≡ b)
    → (xs ys : List A) → AllByRecursion P xs → AllByRecursion P ys
    → items_outline (each_data f xs) ≡ items_outline (each_data f ys) → xs ≡ ys
one_list P f one [] [] h k e = refl
one_list P f one [] (y ∷ ys) h k e = cc
one_list P f one (x ∷ xs) [] h k e = cc
one_list P f one (x ∷ xs) (y ∷ ys) h k e = ap₂ (λ z zs. z ∷ zs) (one x y h.0 k.0 (cc)) (one_list P f one xs ys h.1 k.1 (cc))

one_outcome : (a b : outcome.Outcome) → IsOutcomeInRange a → IsOutcomeInRange b
    → outline (outcome_data a) ≡ outline (outcome_data b) → a ≡ b
one_outcome (outcomes.Took t d) (outcomes.Took u f) h k e =
    let same_taken = decimal_injective t u (small t h.0) (small u k.0) (cc) in
    let same_dropped = decimal_injective d f (small d h.1) (small f k.1) (cc) in
    cc
one_outcome (outcomes.No x) (outcomes.No y) h k e =
    ap outcomes.No (number_of-injective x y (decimal_injective (number_of x) (number_of y) (number_small x) (number_small y) (cc)))
one_outcome outcomes.Kept outcomes.Kept h k e = refl
one_outcome outcomes.Again outcomes.Again h k e = refl
one_outcome other another h k e = cc

one_reply : (a b : reply.Reply) → IsInRange a → IsInRange b → outline (data_of a) ≡ outline (data_of b) → a ≡ b
one_reply (Joined s v x) (Joined t w y) h k e =
    let same_s = decimal_injective s t (small s h.0) (small t k.0) (cc) in
    let same_v = decimal_injective v w (small v h.1) (small w k.1) (cc) in
    let same_x = same_characters x y h.2 k.2 (cc) in
    cc
one_reply (Ok m n) (Ok i j) h k e =
    let same_from = decimal_injective m i (small m h.0) (small i k.0) (cc) in
    let same_to = decimal_injective n j (small n h.1) (small j k.1) (cc) in
    cc
one_reply (Edits m es) (Edits i fs) h k e =
    let same_from = decimal_injective m i (small m h.0) (small i k.0) (cc) in
    let same_edits = one_list IsEditInRange edit_data one_edit es fs h.1 k.1 (cc) in
    cc
one_reply Left Left h k e = refl
one_reply (Ops m xs) (Ops i ys) h k e =
    let same_from = decimal_injective m i (small m h.0) (small i k.0) (cc) in
    let same_operations = one_outline xs ys h.1 k.1 (cc) in
    cc
one_reply (Put os) (Put ps) h k e = ap Put (one_list IsOutcomeInRange outcome_data one_outcome os ps h k (cc))
one_reply (Text v x) (Text w y) h k e =
    let same_v = decimal_injective v w (small v h.0) (small w k.0) (cc) in
    let same_x = same_characters x y h.1 k.1 (cc) in
    cc
one_reply (No p) (No q) h k e =
    ap No (number_of-injective p q (decimal_injective (number_of p) (number_of q) (number_small p) (number_small q) (cc)))
one_reply other another h k e = cc

pub different : (a b : reply.Reply) → IsInRange a → IsInRange b → text a ≡ text b → a ≡ b
different a b h k e = one_reply a b h k (one_tree a b h k e)
