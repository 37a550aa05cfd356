-- The JSON value of a reply.
use Rattle.std.specs.Prelude.{ℕ, List, [], ◌∷◌, codes, encode_utf8_all}
use Rattle.serde_json.specs.Data.{Data, no_items, item, string, number, unsigned, array, object, member, no_members}
use Rattle.serde_json.specs.Written.{outline}
use Rattle.json.specs.Token.{Token}
use Rattle.json.specs.Tree.{json_tokens}
use Rattle.opid.specs.declared.refusal.Refusal.{Refusal}
use Rattle.opid.specs.Refusals.{number_of}
use Rattle.opid.specs.Operations.{Operation}
use Rattle.opid.specs.declared.edit.Edit as edit
use Rattle.opid.specs.declared.edit.Edit.TheVariants.{Ins, Del, DelUnits, Nop}
use Rattle.room_model.specs.declared.outcome.Outcome as outcome
use Rattle.room_model.specs.declared.outcome.Outcome.TheVariants as outcomes
use Rattle.room_model.specs.declared.reply.Reply as reply
use Rattle.room_model.specs.declared.reply.Reply.TheVariants.{Joined, Ok, Edits, Left, Ops, Put, Text, No}
use Rattle.operation_json.specs.Packing.{packed_items}
use Rattle.operation_json.specs.Internal.Values.{each_data, item_data}

-- the tokens of a value
abbrev pub tokens_of : Data → List Token
tokens_of d = json_tokens (outline d)

-- the value of a `joined`
abbrev pub joined_data : ℕ → ℕ → List ℕ → Data
joined_data s v x = object (member (codes "r") (string (codes "joined"))
    (member (codes "s") (number (unsigned s)) (member (codes "v") (number (unsigned v)) (member (codes "x") (string x) no_members))))

-- the value of an `ok`
abbrev pub ok_data : ℕ → ℕ → Data
ok_data «from» to = object (member (codes "from") (number (unsigned «from»))
    (member (codes "r") (string (codes "ok")) (member (codes "to") (number (unsigned to)) no_members)))

-- the value of an edit
abbrev pub edit_data : edit.Edit → Data
edit_data (Ins k c) = array (item (string (codes "i")) (item (number (unsigned k)) (item (string (encode_utf8_all (c ∷ []))) no_items)))
edit_data (Del k) = array (item (string (codes "d")) (item (number (unsigned k)) no_items))
edit_data (DelUnits k w) = array (item (string (codes "d")) (item (number (unsigned k)) (item (number (unsigned w)) no_items)))
edit_data Nop = array (item (string (codes "n")) no_items)

-- the value of edits from a version on
abbrev pub edits_data : ℕ → List edit.Edit → Data
edits_data «from» es = object (member (codes "es") (array (each_data edit_data es))
    (member (codes "from") (number (unsigned «from»)) (member (codes "r") (string (codes "edits")) no_members)))

-- the value of a `left`
abbrev pub left_data : Data
left_data = object (member (codes "r") (string (codes "left")) no_members)

-- the value of a version and its text
abbrev pub text_data : ℕ → List ℕ → Data
text_data v x = object (member (codes "r") (string (codes "text")) (member (codes "v") (number (unsigned v))
    (member (codes "x") (string x) no_members)))

-- the value of a refusal
abbrev pub no_data : Refusal → Data
no_data why = object (member (codes "n") (number (unsigned (number_of why))) (member (codes "r") (string (codes "no")) no_members))

-- the value of operations from a place on, packed
abbrev pub part_data : ℕ → List Operation → Data
part_data «from» ops = object (member (codes "from") (number (unsigned «from»))
    (member (codes "ops") (array (each_data item_data (packed_items ops))) (member (codes "r") (string (codes "ops")) no_members)))

-- the value of an outcome
abbrev pub outcome_data : outcome.Outcome → Data
outcome_data (outcomes.Took taken dropped) = array (item (string (codes "took"))
    (item (number (unsigned taken)) (item (number (unsigned dropped)) no_items)))
outcome_data outcomes.Kept = array (item (string (codes "kept")) no_items)
outcome_data outcomes.Again = array (item (string (codes "again")) no_items)
outcome_data (outcomes.No why) = array (item (string (codes "no")) (item (number (unsigned (number_of why))) no_items))

-- the value of the outcomes of a `put`
abbrev pub put_data : List outcome.Outcome → Data
put_data os = object (member (codes "os") (array (each_data outcome_data os)) (member (codes "r") (string (codes "put")) no_members))

-- texts are in UTF-8
abbrev pub data_of : reply.Reply → Data
data_of (Joined s v x) = joined_data s v (encode_utf8_all x)
data_of (Ok «from» to) = ok_data «from» to
data_of (Edits «from» es) = edits_data «from» es
data_of Left = left_data
data_of (Ops «from» ops) = part_data «from» ops
data_of (Put os) = put_data os
data_of (Text v x) = text_data v (encode_utf8_all x)
data_of (No why) = no_data why

-- the reply's text is put together token by token, and not piece by piece
abbrev pub IsByTokens : reply.Reply → Type 0
IsByTokens (Ok «from» to) = ⊥
IsByTokens (Edits «from» es) = ⊥
IsByTokens (Ops «from» ops) = ⊥
IsByTokens (Put os) = ⊥
IsByTokens other = Unit {0}
