-- The loop takes one character after another off what is left.
use Rattle.std.proofs.Common.{◌≡◌, ◌∙◌, ℕ, take, drop, ap, arith}
use Rattle.std.specs.Str.{chars}
use Rattle.std.proofs.lemmas.List.{drop-drop}
use Rattle.wire_json.proofs.TextCuts.{no_longer, may_be_cut, cut_off}
use Rattle.wire_json.proofs.request.ins.cut.Goals as goal

pub loop-count-preserved : goal.loop-count-preserved
loop-count-preserved c = (
  c.behind_first-rest.utf8,
  c.behind_first-rest.ensures ∙ ap (drop 1) c.loop-count.invariant.1 ∙ drop-drop 1 c.loop-count._count (chars c.args.text.now),
)

pub overflow_sub-text : goal.overflow_sub-text
overflow_sub-text c =
    no_longer c.args.text.now c.loop-count.rest.now c.loop-count._count c.utf8.text c.loop-count.invariant.0 c.loop-count.invariant.1

pub range-requires-clause-end_boundary : goal.range-requires-clause-end_boundary
range-requires-clause-end_boundary c =
    may_be_cut c.args.text.now c.loop-count.rest.now c.loop-count._count c.utf8.text c.loop-count.invariant.0 c.loop-count.invariant.1

pub returns : goal.returns
returns c =
    let text = c.args.text.now in
    let rest = c.loop-count.rest.now in
    let all : c.loop-count._count ≡ 65 = omega arith in
    ap chars (c.range.ensures.value ∙ ap (λ (n : ℕ). take n text) (omega arith))
    ∙ cut_off text rest c.loop-count._count c.utf8.text c.loop-count.invariant.0 c.loop-count.invariant.1
    ∙ ap (λ (n : ℕ). take n (chars text)) all
