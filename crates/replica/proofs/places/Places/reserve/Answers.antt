-- Each row has memory for as many.
use Rattle.std.proofs.Common.{arith}
use Rattle.replica.proofs.places.Places.reserve.Goals as goal

pub invariant_of-self : goal.invariant_of-self
invariant_of-self c = (c.self.invariant.0, omega (arith, c.self.invariant.1, c.max-self-inside.ensures))

pub invariant_of-self-in_err-reserve_each : goal.invariant_of-self-in_err-reserve_each
invariant_of-self-in_err-reserve_each c = (c.reserve_each.ensures.kept c.self.inside.ahead c.self.invariant.0, c.self.invariant.1)

pub invariant_of-self-2 : goal.invariant_of-self-2
invariant_of-self-2 c =
    (c.in_ok-reserve_each.ensures.ok, omega (arith, c.self.invariant.1, c.max-more.ensures))
