-- JSON objects whose members are whole numbers and texts (RFC 8259).
use Rattle.std.specs.Prelude.{◌≡◌, ℕ, List, [], ◌∷◌, Some}
use Rattle.json.specs.Token.{Token, end_object, key, string, number}
use Rattle.serde_json.specs.Data as tree
use Rattle.serde_json.specs.Data.{Data, Members, no_members, put, object, unsigned}
use Rattle.serde_json.specs.Read.{number_of}
use Rattle.wire_json.specs.declared.request.flat.Primitive.{Primitive}
use Rattle.wire_json.specs.declared.request.flat.Primitive.TheVariants.{Number, Text}
use Rattle.wire_json.specs.declared.request.flat.Member.{Member}
use Rattle.serde_json.specs.View.{view}
use Rattle.wire_json.specs.declared.request.fields.Fields.{Fields}
use Rattle.wire_json.specs.declared.request.fields.Fields.TheVariants.{Flat, Tree}
use Rattle.wire_json.specs.declared.request.flat.Next as next
use Rattle.wire_json.specs.declared.request.flat.Next.TheVariants as nexts

-- the JSON value of a member's value
abbrev pub primitive_data : Primitive → Data
primitive_data (Number n) = tree.number (unsigned n)
primitive_data (Text s) = tree.string s.now

-- the members, put in one after another: the last of a repeated key stays
abbrev pub put_all : List Member → Members → Members
put_all [] found = found
put_all (m ∷ ms) found = put_all ms (put m.key.now (primitive_data m.value) found)

-- the object that has these members
abbrev pub flat_data : List Member → Data
flat_data ms = object (put_all ms no_members)

-- the token is by itself this value
abbrev pub IsPrimitive : Token → Primitive → Type 0
IsPrimitive (string s) (Text x) = s ≡ x.now
IsPrimitive (number s) (Number n) = number_of s ≡ Some (unsigned n)
IsPrimitive _ _ = ⊥

-- of the tokens `old`, a member comes first and `new` are the rest; or a closing bracket is all there is
abbrev pub ReadsNext : List Token → next.Next → List Token → Type 0
ReadsNext old (nexts.Member m) new = (t : Token) × (old ≡ key m.key.now ∷ t ∷ new) × IsPrimitive t m.value
ReadsNext old nexts.End new = old ≡ end_object ∷ []
ReadsNext old nexts.Other new = Unit {0}

-- the tokens `old` are a value and then `new`, and it is the value of the member, whose key was taken before
abbrev pub ReadsMember : List ℕ → List Token → next.Next → List Token → Type 0
ReadsMember k old (nexts.Member m) new = (t : Token) × (old ≡ t ∷ new) × IsPrimitive t m.value × (m.key.now ≡ k)
ReadsMember k old nexts.End new = ⊥
ReadsMember k old nexts.Other new = Unit {0}

-- of the tokens `old`, these members come first and `new` are the rest
abbrev pub TellsMembers : List Token → List Member → List Token → Type 0
TellsMembers old [] new = old ≡ new
TellsMembers old (m ∷ ms) new =
    (t : Token) × (rest : List Token) × (old ≡ key m.key.now ∷ t ∷ rest) × IsPrimitive t m.value × TellsMembers rest ms new

-- the value that a request is
abbrev pub fields_data : Fields → Data
fields_data (Flat ms) = flat_data ms.now
fields_data (Tree v) = view v.now
