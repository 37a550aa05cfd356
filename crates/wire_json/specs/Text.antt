-- The one text of a reply: a compact JSON object (RFC 8259), its keys in the order of their bytes. The replies are the server's own.
use Rattle.std.specs.Prelude.{ℕ, ◌<◌, ◌^◌, IsTrue, List, [], ◌∷◌, ◌++◌, map, codes, decimal}
use Rattle.std.specs.Str.{all_scalars}
use Rattle.std.specs.List.{AllByRecursion}
use Rattle.opid.specs.Refusals.{number_of}
use Rattle.opid.specs.declared.edit.Edit as edit
use Rattle.opid.specs.declared.edit.Edit.TheVariants.{Ins, Del, DelUnits, Nop}
use Rattle.room_model.specs.declared.outcome.Outcome as outcome
use Rattle.room_model.specs.declared.outcome.Outcome.TheVariants as outcomes
use Rattle.room_model.specs.declared.reply.Reply as reply
use Rattle.room_model.specs.declared.reply.Reply.TheVariants.{Joined, Ok, Edits, Left, Ops, Put, Text, No}
use Rattle.operation_json.specs.Text.{IsOperationInRange, in_brackets, packed_text}
use Rattle.json_bytes.specs.Quote.{quote}

-- the edit's place fits 64 bits, its number of code units 8, and its character is a Unicode scalar value
abbrev pub IsEditInRange : edit.Edit → Type 0
IsEditInRange (Ins k c) = (k < 2 ^ 64) × IsTrue (all_scalars (c ∷ []))
IsEditInRange (Del k) = k < 2 ^ 64
IsEditInRange (DelUnits k w) = (k < 2 ^ 64) × (w < 2 ^ 8)
IsEditInRange Nop = Unit {0}

-- the outcome's numbers fit 32 bits
abbrev pub IsOutcomeInRange : outcome.Outcome → Type 0
IsOutcomeInRange (outcomes.Took taken dropped) = (taken < 2 ^ 32) × (dropped < 2 ^ 32)
IsOutcomeInRange outcomes.Kept = Unit {0}
IsOutcomeInRange outcomes.Again = Unit {0}
IsOutcomeInRange (outcomes.No why) = Unit {0}

-- the reply's numbers fit 32 bits, and its characters are Unicode scalar values
abbrev pub IsInRange : reply.Reply → Type 0
IsInRange (Joined s v x) = (s < 2 ^ 32) × (v < 2 ^ 32) × IsTrue (all_scalars x)
IsInRange (Ok «from» to) = («from» < 2 ^ 32) × (to < 2 ^ 32)
IsInRange (Edits «from» es) = («from» < 2 ^ 32) × AllByRecursion IsEditInRange es
IsInRange Left = Unit {0}
IsInRange (Ops «from» ops) = («from» < 2 ^ 32) × AllByRecursion IsOperationInRange ops
IsInRange (Put os) = AllByRecursion IsOutcomeInRange os
IsInRange (Text v x) = (v < 2 ^ 32) × IsTrue (all_scalars x)
IsInRange (No why) = Unit {0}

-- the text of an edit
abbrev pub edit_text : edit.Edit → List ℕ
edit_text (Ins k c) = codes "[\"i\"," ++ decimal k ++ codes "," ++ quote (c ∷ []) ++ codes "]"
edit_text (Del k) = codes "[\"d\"," ++ decimal k ++ codes "]"
edit_text (DelUnits k w) = codes "[\"d\"," ++ decimal k ++ codes "," ++ decimal w ++ codes "]"
edit_text Nop = codes "[\"n\"]"

-- the text of an outcome
abbrev pub outcome_text : outcome.Outcome → List ℕ
outcome_text (outcomes.Took taken dropped) = codes "[\"took\"," ++ decimal taken ++ codes "," ++ decimal dropped ++ codes "]"
outcome_text outcomes.Kept = codes "[\"kept\"]"
outcome_text outcomes.Again = codes "[\"again\"]"
outcome_text (outcomes.No why) = codes "[\"no\"," ++ decimal (number_of why) ++ codes "]"

-- numbers are in decimal
abbrev pub text : reply.Reply → List ℕ
text (Joined s v x) = codes "{\"r\":\"joined\",\"s\":" ++ decimal s ++ codes ",\"v\":" ++ decimal v ++ codes ",\"x\":" ++ quote x
    ++ codes "}"
text (Ok «from» to) = codes "{\"from\":" ++ decimal «from» ++ codes ",\"r\":\"ok\",\"to\":" ++ decimal to ++ codes "}"
text (Edits «from» es) = codes "{\"es\":" ++ in_brackets (map edit_text es) ++ codes ",\"from\":" ++ decimal «from»
    ++ codes ",\"r\":\"edits\"}"
text (Ops «from» ops) = codes "{\"from\":" ++ decimal «from» ++ codes ",\"ops\":" ++ packed_text ops ++ codes ",\"r\":\"ops\"}"
text (Put os) = codes "{\"os\":" ++ in_brackets (map outcome_text os) ++ codes ",\"r\":\"put\"}"
text Left = codes "{\"r\":\"left\"}"
text (Text v x) = codes "{\"r\":\"text\",\"v\":" ++ decimal v ++ codes ",\"x\":" ++ quote x ++ codes "}"
text (No why) = codes "{\"n\":" ++ decimal (number_of why) ++ codes ",\"r\":\"no\"}"
