use Rattle.std.proofs.Common.{◌≡◌, ◌-◌, length, take, arith, true, false, sym, ap, ◌∙◌}
use Rattle.std.proofs.lemmas.List.{take_all}
use Rattle.serde_json.specs.Data.{no_members}
use Rattle.serde_json.specs.Find.{get_member}
use Rattle.wire_json.specs.Internal.Flat.{put_all}
use Rattle.wire_json.proofs.FlatObjects.{looked_up}
use Rattle.wire_json.proofs.request.fields.value_among.Goals as goal

pub loop-i-init : goal.loop-i-init
loop-i-init c =
    ap (λ l. get_member c.args.key.now (put_all l no_members)) (sym (take_all (length c.args.members.now) c.args.members.now (omega arith)))

pub returns-then-eq : goal.returns-then-eq
returns-then-eq c = sym (c.loop-i.invariant
    ∙ looked_up c.args.key.now c.args.members.now c.loop-i.i (c.loop-i.i - 1) _ true (omega (arith, c.loop-i-test.true))
    (omega (arith, c.loop-i-test.true, c.loop-i.auto.i)) (sym c.eq.ensures ∙ c.if-eq.true))

pub loop-i-preserved : goal.loop-i-preserved
loop-i-preserved c = c.loop-i.invariant
    ∙ looked_up c.args.key.now c.args.members.now c.loop-i.i (c.loop-i.i - 1) _ false (omega (arith, c.loop-i-test.true))
    (omega (arith, c.loop-i-test.true, c.loop-i.auto.i)) (sym c.eq.ensures ∙ c.if-eq.false)

pub returns : goal.returns
returns c =
    let none : c.loop-i.i ≡ 0 = omega (arith, c.loop-i-test.false) in
    sym (c.loop-i.invariant ∙ ap (λ n. get_member c.args.key.now (put_all (take n c.args.members.now) no_members)) none)
