-- Where none is ready, all stay; what is taken out is ready.
use Rattle.std.proofs.Common.{length, ◌≡◌, ◌∙◌, None, Some, List, ap, sym, arith, map, position}
use Rattle.opid.specs.Clocks.{is_next}
use Rattle.opid.specs.Operations.{Operation, number_of}
use Rattle.opid.specs.Held.{HeldOperations}
use Rattle.holdback.specs.Internal.Packed.{unpacked}
use Rattle.opid.specs.Held.{first_ready, without_first_ready}
use Rattle.holdback.proofs.Places.{none_taken, all_left, taken-ready}
use Rattle.holdback.proofs.Numbers.{both_removed, no_more}
use Rattle.holdback.proofs.held.Held.take_first_ready.Goals as goal

pub returns-in-None-clause-taken : goal.returns-in-None-clause-taken
returns-in-None-clause-taken c =
    let clock = c.args.clock.now in
    let none : None ≡ position (λ (x : Operation). is_next x.site x.clock clock) c.self.inside.kept.ops =
    c.in-None.ensures in
    none_taken clock c.self.inside.kept.ops none ∙ ap (λ (h : HeldOperations). first_ready clock h.ops) c.self.view_is

pub returns-in-None-clause-others : goal.returns-in-None-clause-others
returns-in-None-clause-others c =
    let clock = c.args.clock.now in
    let none : None ≡ position (λ (x : Operation). is_next x.site x.clock clock) c.self.inside.kept.ops =
    c.in-None.ensures in
    let with_ops : List Operation → HeldOperations = λ ops. record { ops = ops; reserved = c.self.inside.kept.reserved } in
    let others_of : HeldOperations → HeldOperations = λ h. record { ops = without_first_ready clock h.ops; reserved = h.reserved } in
    sym c.self.view_is ∙ ap with_ops (all_left clock c.self.inside.kept.ops none) ∙ ap others_of c.self.view_is

pub returns-in-Some-clause-ready : goal.returns-in-Some-clause-ready
returns-in-Some-clause-ready c =
    let clock = c.args.clock.now in
    let some : Some c.in-Some.place ≡ position (λ (x : Operation). is_next x.site x.clock clock) c.self.inside.kept.ops =
    c.in-Some.ensures in
    taken-ready clock c.self.inside.kept.ops c.in-Some.place c.remove-in-Some.result some c.remove-in-Some.ensures.value

pub invariant_of-self : goal.invariant_of-self
invariant_of-self c = (
  omega (
    arith,
    ap (λ (h : HeldOperations). length h.ops) c.remove-in-Some.ensures.others,
    no_more c.self.inside.kept.ops
        c.in-Some.place,
    c.self.invariant.0,
  ),
  omega (arith, ap (λ (h : HeldOperations). h.reserved) c.remove-in-Some.ensures.others, c.remove.ensures.capacity, c.self.invariant.1),
  ap (map unpacked) c.remove.ensures.items
      ∙ both_removed c.self.inside.numbers.items c.self.inside.kept.ops c.in-Some.place c.self.invariant.2
      ∙ ap (λ (h : HeldOperations). map number_of h.ops) (sym c.remove-in-Some.ensures.others),
)
