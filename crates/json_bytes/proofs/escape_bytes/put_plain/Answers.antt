use Rattle.std.proofs.Common.{◌≡◌, ◌∙◌, ◌∷◌, [], ◌++◌, List, ℕ, ap, sym, drop, arith}
use Rattle.std.proofs.lemmas.Grind.{common_steps}
use Rattle.json_bytes.proofs.Escapes.{ascii_quote}
use Rattle.json_bytes.proofs.escape_bytes.put_plain.Goals as goal

pub returns-clause-told : goal.returns-clause-told
returns-clause-told g c =
    let rest = drop c.args.at c.args.bytes.now in
    let bytes : drop c.put.result c.put.new.bytes ≡ (34 ∷ c.args.byte ∷ 34 ∷ []) ++ rest = grind (arith, common_steps) in
    bytes ∙ ap (λ (q : List ℕ). q ++ rest) (sym
    (ascii_quote c.args.byte c.requires.small c.requires.space c.requires.quote c.requires.backslash))
