use Rattle.std.proofs.Common.{◌∙◌, true, cond, Ok, Err, ap, sym, map}
use Rattle.opid.specs.declared.refusal.Refusal.TheVariants.{Conflict}
use Rattle.opid.specs.Held.{HeldOperations, look_for}
use Rattle.holdback.specs.Internal.Packed.{unpacked}
use Rattle.holdback.proofs.Numbers.{not_among, among}
use Rattle.holdback.proofs.held.Held.look.Goals as goal

pub returns-in-None : goal.returns-in-None
returns-in-None c =
    not_among c.args.op.now c.self.inside.kept.ops c.packed.result c.as_slice.result.now c.packed.ensures
    (ap (map unpacked) c.as_slice.ensures.value ∙ c.self.invariant.2) (sym c.in-None.is ∙ c.place_of.ensures)
    ∙ ap (λ (h : HeldOperations). look_for c.args.op.now h.ops) c.self.view_is

pub returns-then-is_same : goal.returns-then-is_same
returns-then-is_same c =
    ap (λ b. cond b (Ok true) (Err Conflict)) (sym c.if-is_same.true)
    ∙ among c.args.op.now c.get.result.now c.self.inside.kept.ops c.packed.result c.as_slice.result.now c.in-Some.place c.is_same.result
    c.packed.ensures (ap (map unpacked) c.as_slice.ensures.value ∙ c.self.invariant.2)
    (sym c.in-Some.is ∙ c.place_of.ensures) c.get.ensures c.is_same.ensures
    ∙ ap (λ (h : HeldOperations). look_for c.args.op.now h.ops) c.self.view_is

pub returns-else-is_same : goal.returns-else-is_same
returns-else-is_same c =
    ap (λ b. cond b (Ok true) (Err Conflict)) (sym c.if-is_same.false)
    ∙ among c.args.op.now c.get.result.now c.self.inside.kept.ops c.packed.result c.as_slice.result.now c.in-Some.place c.is_same.result
    c.packed.ensures (ap (map unpacked) c.as_slice.ensures.value ∙ c.self.invariant.2)
    (sym c.in-Some.is ∙ c.place_of.ensures) c.get.ensures c.is_same.ensures
    ∙ ap (λ (h : HeldOperations). look_for c.args.op.now h.ops) c.self.view_is
