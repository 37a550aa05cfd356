use Rattle.std.proofs.Common.{subst}
use Rattle.rga_list.specs.Entries.{LinkedElements, AreOfOwn}
use Rattle.rga_list.specs.Internal.Links.{order_of}
use Rattle.rga_list.proofs.Own.{AreOfOwn-once}
use Rattle.rga_list.proofs.rga.Rga.len.Goals as goal

pub returns-clause-own : goal.returns-clause-own
returns-clause-own c =
    subst (λ (r : LinkedElements). AreOfOwn r.entries) c.self.view_is
    (AreOfOwn-once c.self.inside.nodes.items (order_of c.self.inside.nodes.items c.self.inside.first) c.self.invariant.0.linked.once)
