-- What the walk keeps.
use Rattle.std.proofs.Common.{◌<◌, length, IfSome}
use Rattle.rga_list.specs.Internal.Links.{chain, Walking}
use Rattle.rga_list.proofs.links.walk.Given as goal

-- the walk so far, at a place or at the end
abbrev pub invariant-loop-next : goal.invariant-loop-next
invariant-loop-next l = record {
  steps : Walking l.nodes l.stamp l.fn.before l.fn.at l.last l.next;
  within : IfSome l.next (λ i. i < length l.nodes);
}

-- what is left along the links
abbrev pub decreases-loop-next : goal.decreases-loop-next
decreases-loop-next l = length (chain (length l.nodes) l.nodes l.next)
