-- The text of a value's tokens.
use Rattle.std.proofs.Common.{◌≡◌, List, [], ◌++◌, ap, ◌∙◌}
use Rattle.json.specs.Token.{Token}
use Rattle.json.specs.Print.{print}
use Rattle.serde_json.specs.Data.{Data}
use Rattle.serde_json.specs.Written.{compact_text}
use Rattle.serde_json.proofs.Texts.{print-outline}
use Rattle.wire_json.specs.Internal.Values.{tokens_of}

-- a writer that had no token prints the value's compact text
pub print-tokens_of : (d : Data) (old new : List Token) → old ≡ [] → new ≡ old ++ tokens_of d → print new ≡ compact_text d
print-tokens_of d old new none all = ap print (all ∙ ap (λ ts. ts ++ tokens_of d) none) ∙ print-outline d
