use Rattle.std.proofs.Common.{◌+◌, ◌∙◌, sym, subst, arith, drop, length}
use Rattle.serde_json.specs.Data as tree
use Rattle.json_bytes.specs.Plain.{Comes}
use Rattle.json_bytes.specs.Internal.Places.{tokens_behind, spot_of}
use Rattle.json_bytes.proofs.Plainly.{name_taken}
use Rattle.json_bytes.proofs.plain.PlainReader.take_text.Goals as goal

pub returns-clause-yes : goal.returns-clause-yes
returns-clause-yes c = λ _.
    let bytes = c.as_bytes-bytes.result.now in
    let at = c.self.inside.at in
    let end = at + 1 + length c.args.name.now in
    subst (λ ts. Comes 1 ts (tree.string c.args.name.now)
    (tokens_behind (spot_of c.behind_value-at.result.1) (drop c.behind_value-at.result.0 c.self.inside.text.now))) c.self.view_is
    (name_taken bytes c.self.inside.text.now c.args.name.now at end c.behind_value-at.result.0 (spot_of c.self.inside.place)
    (spot_of c.behind_value-at.result.1) c.as_bytes-bytes.ensures.value (sym c.may_begin.ensures ∙ c.if-not-may_begin.false)
    (sym c.peek.ensures ∙ c.if-peek-ne34.false) (omega arith)
    (c.is_same.ensures c.if-not-is_same.false ∙ c.as_bytes.ensures.value) c.requires c.if-bytes-end-ne34.false
    (c.is_value_end.ensures c.if-not-is_value_end.false) c.behind_value-at.ensures.same)
