-- A blank comes between the tokens as none does.
use Rattle.std.proofs.Common.{◌∙◌, sym, refl}
use Rattle.json_bytes.proofs.Plainly.{spaces_on}
use Rattle.json_bytes.proofs.plain.behind_spaces.Goals as goal

pub returns-then-peek-gt32-clause-same : goal.returns-then-peek-gt32-clause-same
returns-then-peek-gt32-clause-same c =
    (spaces_on c.args.bytes.now c.args.at 32 (sym c.peek-next.ensures ∙ c.if-next-eq32.true) refl).1
