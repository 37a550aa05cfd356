use Rattle.std.proofs.Common.{◌∙◌, sym, subst, drop}
use Rattle.serde_json.specs.Data as tree
use Rattle.serde_json.specs.Data.{unsigned}
use Rattle.json_bytes.specs.Plain.{Comes}
use Rattle.json_bytes.specs.Internal.Places.{tokens_behind, spot_of}
use Rattle.json_bytes.proofs.Plainly.{number_taken}
use Rattle.json_bytes.proofs.plain.PlainReader.next_number.Goals as goal

pub returns : goal.returns
returns c = (
  subst (λ ts. Comes 1 ts (tree.number (unsigned c.in-Some.n))
      (tokens_behind (spot_of c.behind_value-at.result.1) (drop c.behind_value-at.result.0 c.self.inside.text.now))) c.self.view_is
      (number_taken c.as_bytes-bytes.result.now c.self.inside.text.now c.self.inside.at c.in-Some.n c.in-Some.end c.behind_value-at.result.0
      (spot_of c.self.inside.place) (spot_of c.behind_value-at.result.1) c.as_bytes-bytes.ensures.value
      (sym c.may_begin.ensures ∙ c.if-not-may_begin.false) c.in-Some.ensures c.behind_value-at.ensures.same),
  c.in-Some.ensures.small,
)
