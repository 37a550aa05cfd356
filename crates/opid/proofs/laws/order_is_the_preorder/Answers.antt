use Rattle.opid.proofs.Equation.{preorder-only}
use Rattle.opid.proofs.laws.order_is_the_preorder.Goals as goal

pub returns-clause-only : goal.returns-clause-only
returns-clause-only c = preorder-only
