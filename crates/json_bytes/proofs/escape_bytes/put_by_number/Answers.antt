use Rattle.std.proofs.Common.{◌≡◌, ◌∙◌, ◌∷◌, [], ◌++◌, ◌/◌, ◌%◌, List, ℕ, ap, sym, drop, arith}
use Rattle.std.specs.Char.{digit_char}
use Rattle.std.proofs.lemmas.Grind.{common_steps}
use Rattle.json_bytes.proofs.Escapes.{number_quote}
use Rattle.json_bytes.proofs.escape_bytes.put_by_number.Goals as goal

pub returns-clause-told : goal.returns-clause-told
returns-clause-told g c =
    let rest = drop c.args.at c.args.bytes.now in
    let bytes : drop c.put.result c.put.new.bytes
    ≡ (34 ∷ 92 ∷ 117 ∷ 48 ∷ 48 ∷ digit_char (c.args.ch / 16) ∷ digit_char (c.args.ch % 16) ∷ 34 ∷ []) ++ rest =
    grind (arith, common_steps) in
    bytes ∙ ap (λ (q : List ℕ). q ++ rest) (sym (number_quote c.args.ch c.requires.small c.requires.long))
