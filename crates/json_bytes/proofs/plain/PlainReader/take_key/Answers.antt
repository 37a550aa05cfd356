use Rattle.std.proofs.Common.{◌+◌, ◌∙◌, ap, sym, arith, drop, length}
use Rattle.json.specs.Lex.{between, lex}
use Rattle.json_bytes.specs.Internal.Places.{spot_of}
use Rattle.json_bytes.proofs.Plainly.{key_taken}
use Rattle.json_bytes.proofs.plain.PlainReader.take_key.Goals as goal

pub returns-clause-yes : goal.returns-clause-yes
returns-clause-yes c = λ _.
    let bytes = c.as_bytes-bytes.result.now in
    let at = c.self.inside.at in
    let end = at + 1 + length c.args.name.now in
    sym c.self.view_is
    ∙ key_taken bytes c.self.inside.text.now c.args.name.now at end c.behind_spaces-self-inside.result
    (spot_of c.self.inside.place) c.as_bytes-bytes.ensures.value (sym c.may_begin.ensures ∙ c.if-not-may_begin.false)
    (sym c.peek.ensures ∙ c.if-peek-ne34.false) (omega arith)
    (c.is_same.ensures c.if-not-is_same.false ∙ c.as_bytes.ensures.value) c.requires
    (sym c.peek-else-not-is_same.ensures ∙ c.if-peek-ne34-2.false) (sym c.peek-else-peek-ne34-2.ensures ∙ c.if-peek-ne58.false)
    (c.behind_spaces-self-inside.ensures.same ∙ ap (λ n. lex between (drop n bytes)) (omega arith))
