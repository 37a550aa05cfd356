use Rattle.std.proofs.Common.{◌≡◌, ◌+◌, ◌≤◌, length}
use Rattle.counted_tree.specs.Internal.Tree.{height}
use Rattle.counted_tree.specs.Internal.Arena.{IsLinkBelow, linked, trees}
use Rattle.counted_tree.specs.Internal.Counter.{CountsOn}
use Rattle.counted_tree.proofs.Descent.{at_place}
use Rattle.counted_tree.proofs.read.search.find_in.Given as goal

abbrev pub invariant-loop-link : goal.invariant-loop-link
invariant-loop-link l =
    let ts = trees l.nodes.nodes in
    record {
      link_in : IsLinkBelow (length l.nodes.nodes) l.link;
      same : at_place l.fn.in_units ts l.link l.place ≡ at_place l.fn.in_units ts l.fn.root l.fn.k;
      cost : l.steps + height (linked ts l.link) ≤ l.fn.steps + height (linked ts l.fn.root);
      counts_on : CountsOn l.fn.steps l.steps;
    }

abbrev pub decreases-loop-link : goal.decreases-loop-link
decreases-loop-link l = height (linked (trees l.nodes.nodes) l.link)
