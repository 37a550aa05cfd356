use Rattle.std.proofs.Common.{◌≡◌, ◌<◌, [], ◌∙◌, ap, sym, arith, length, drop, length-drop}
use Rattle.std.proofs.lemmas.List.{nil_from_length}
use Rattle.opid.specs.Operations.{Operation}
use Rattle.causal_clock.specs.Logged.{Walk}
use Rattle.causal_clock.specs.Internal.Packed.{logged}
use Rattle.causal_clock.proofs.Replaying.{length-logged}
use Rattle.causal_clock.proofs.replay.ReplayIterator.next.Goals as goal

pub returns-then-self-clause-steps : goal.returns-then-self-clause-steps
returns-then-self-clause-steps c =
    let rest = drop c.self.inside.place (logged c.self.inside.entries.now c.self.inside.rows.now) in
    let past : length rest ≡ 0 = omega (
      arith,
      c.if-self.true,
      length-logged c.self.inside.entries.now c.self.inside.rows.now,
      length-drop c.self.inside.place (logged c.self.inside.entries.now c.self.inside.rows.now),
    ) in
    let none : c.args.self.now.left ≡ [] = sym (ap (λ (w : Walk). w.left) c.self.view_is) ∙ nil_from_length rest past in
    (none, none)

pub next_op-requires : goal.next_op-requires
next_op-requires c =
    omega (
      arith,
      c.if-self.false,
      ap (λ (w : Walk). length w.left) c.self.view_is,
      length-logged c.self.inside.entries.now c.self.inside.rows.now,
      length-drop c.self.inside.place (logged c.self.inside.entries.now c.self.inside.rows.now),
    )

pub returns-clause-goes : goal.returns-clause-goes
returns-clause-goes c =
    let fewer : length c.next_op.new.self.left < length c.args.self.now.left =
    omega (arith, ap (length {A = Operation}) c.next_op.ensures.value) in
    record { on = λ _. (tt, tt, fewer); keeps = tt; rests = λ _. tt }
