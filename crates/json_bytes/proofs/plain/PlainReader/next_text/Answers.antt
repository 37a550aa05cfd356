use Rattle.std.proofs.Common.{◌≡◌, ◌+◌, ◌∙◌, List, ℕ, sym, subst, arith, slice_index, drop}
use Rattle.std.specs.Str.{IsCharBoundary}
use Rattle.std.proofs.lemmas.Str.{IsCharBoundary-after_ascii}
use Rattle.serde_json.specs.Data as tree
use Rattle.json_bytes.specs.Plain.{Comes}
use Rattle.json_bytes.specs.Internal.Places.{tokens_behind, spot_of}
use Rattle.json_bytes.proofs.Plainly.{peeked, text_taken}
use Rattle.json_bytes.proofs.plain.PlainReader.next_text.Goals as goal

pub text_at-requires-clause-boundary : goal.text_at-requires-clause-boundary
text_at-requires-clause-boundary c =
    let bytes = c.as_bytes-bytes.result.now in
    let at = c.self.inside.at in
    let here : slice_index bytes at ≡ 34 = sym c.peek.ensures ∙ c.if-peek-ne34.false in
    subst (λ (bs : List ℕ). IsCharBoundary bs (at + 1)) c.as_bytes-bytes.ensures.value
    (IsCharBoundary-after_ascii bytes at c.as_bytes-bytes.ensures.utf8 (peeked bytes at 34 here (omega arith)).0 (omega (arith, here)))

pub returns : goal.returns
returns c = λ _.
    subst (λ ts. Comes 1 ts (tree.string c.text_at.new.into.bytes)
    (tokens_behind (spot_of c.behind_value-at.result.1) (drop c.behind_value-at.result.0 c.self.inside.text.now))) c.self.view_is
    (text_taken c.as_bytes-bytes.result.now c.self.inside.text.now c.text_at.new.into.bytes c.self.inside.at c.in-Some.end
    c.behind_value-at.result.0 (spot_of c.self.inside.place) (spot_of c.behind_value-at.result.1) c.as_bytes-bytes.ensures.value
    (sym c.may_begin.ensures ∙ c.if-not-may_begin.false) (sym c.peek.ensures ∙ c.if-peek-ne34.false) c.in-Some.ensures
    (c.is_value_end.ensures c.if-not-is_value_end.false) c.behind_value-at.ensures.same)
