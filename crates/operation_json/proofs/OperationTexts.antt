-- The texts of operations, by serde_json's words.
use Rattle.std.proofs.Common.{◌≡◌, ℕ, List, [], ◌∷◌, ◌++◌, codes, Option, Some, None, decimal, refl, ap₂, ◌∙◌, append_assoc}
use Rattle.json.specs.Print.{escape_byte}
use Rattle.serde_json.specs.Data.{array}
use Rattle.serde_json.specs.Written.{compact_text}
use Rattle.opid.specs.declared.stamp.Stamp.{Stamp}
use Rattle.opid.specs.declared.kind.OpKind.{OpKind}
use Rattle.opid.specs.declared.kind.OpKind.TheVariants.{Ins, Del}
use Rattle.opid.specs.Operations.{Operation}
use Rattle.json_bytes.specs.Quote.{quote}
use Rattle.operation_json.specs.Text.{pairs_of, pair_text, clock_text, stamp_text, parent_text, op_text_of, op_text}
use Rattle.operation_json.specs.Internal.Values.{pair_data, pairs_data, stamp_data, parent_data, op_data_of, op_data}
use Rattle.operation_json.proofs.ListTexts.{regroup_5, regroup_7, list_compact}

pair_compact : (p : ℕ × ℕ) → compact_text (pair_data p) ≡ pair_text p
pair_compact p = regroup_5 (codes "[") (decimal p.0) (codes ",") (decimal p.1) (codes "]")

stamp_compact : (s : Stamp) → compact_text (stamp_data s) ≡ stamp_text s
stamp_compact s = regroup_5 (codes "[") (decimal s.sum) (codes ",") (decimal s.site) (codes "]")

pub parent_compact : (p : Option Stamp) → compact_text (parent_data p) ≡ parent_text p
parent_compact None = refl
parent_compact (Some s) = stamp_compact s

pub clock_compact : (clock : List ℕ) → compact_text (array (pairs_data clock)) ≡ clock_text clock
clock_compact clock = list_compact pair_data pair_text pair_compact (pairs_of clock)

pub regroup_9 : (a b c d e f g h i : List ℕ) → a ++ (b ++ (c ++ (d ++ (e ++ (f ++ (g ++ (h ++ i)))))))
    ≡ a ++ b ++ c ++ d ++ e ++ f ++ g ++ h ++ i
regroup_9 a b c d e f g h i = simp append_assoc

compact_of : (s : ℕ) (clock : List ℕ) (kind : OpKind) → compact_text (op_data_of s clock kind) ≡ op_text_of s clock kind
unfolding escape_byte
compact_of s clock (Ins parent c) =
    ap₂ (λ l p. codes "{\"c\":" ++ (l ++ (codes ",\"k\":\"i\",\"p\":"
    ++ (p ++ (codes ",\"s\":" ++ (decimal s ++ (codes ",\"x\":" ++ (quote (c ∷ []) ++ codes "}")))))))) (clock_compact clock)
    (parent_compact parent)
    ∙ regroup_9 (codes "{\"c\":") (clock_text clock) (codes ",\"k\":\"i\",\"p\":") (parent_text parent) (codes ",\"s\":") (decimal s)
    (codes ",\"x\":") (quote (c ∷ [])) (codes "}")
compact_of s clock (Del target) =
    ap₂ (λ l t. codes "{\"c\":" ++ (l ++ (codes ",\"k\":\"d\",\"s\":" ++ (decimal s ++ (codes ",\"t\":" ++ (t ++ codes "}"))))))
    (clock_compact clock) (stamp_compact target)
    ∙ regroup_7 (codes "{\"c\":") (clock_text clock) (codes ",\"k\":\"d\",\"s\":") (decimal s) (codes ",\"t\":")
    (stamp_text target) (codes "}")

-- what serde_json writes for the value of an operation is the operation's text
pub op_compact : (x : Operation) → compact_text (op_data x) ≡ op_text x
op_compact x = compact_of x.site x.clock x.kind
