use Rattle.std.proofs.Common.{sym, ◌∙◌, arith}
use Rattle.counted_tree.specs.Internal.Arena.{linked, trees}
use Rattle.counted_tree.proofs.Heights.{height_bound}
use Rattle.counted_tree.proofs.EarlierTrees.{reads, linked_balanced, link_later, length-trees}
use Rattle.counted_tree.proofs.Descent.{at_left, at_here, at_right, lower_left, lower_right}
use Rattle.counted_tree.proofs.read.search.find_in.Goals as goal

pub loop-link-smaller-then-place-left : goal.loop-link-smaller-then-place-left
loop-link-smaller-then-place-left c =
    let ns = c.args.nodes.now.nodes in
    let r = reads ns c.in-Some.at c.look-node.result c.requires.sound c.look-node.ensures.node in
    rw c.in-Some.is (lower_left (trees ns) c.in-Some.at c.look-node.result r)

pub loop-link-preserved-then-place-left : goal.loop-link-preserved-then-place-left
loop-link-preserved-then-place-left c =
    let ns = c.args.nodes.now.nodes in
    let r = reads ns c.in-Some.at c.look-node.result c.requires.sound c.look-node.ensures.node in
    let low = lower_left (trees ns) c.in-Some.at c.look-node.result r in
    let cost = rw c.in-Some.is at c.loop-link.invariant.cost in
    let same = rw c.in-Some.is at c.loop-link.invariant.same in
    record {
      link_in = link_later _ _ c.look-node.result.left (omega (arith, length-trees ns)) r.sound.left_earlier;
      same = sym (at_left c.args.in_units (trees ns) c.in-Some.at c.look-node.result r c.loop-link.place
          (omega (arith, c.items-left.ensures, c.if-place-left.true))) ∙ same;
      cost = omega (arith, low, cost);
      counts_on = omega (arith, c.loop-link.invariant.counts_on, c.look-node.ensures.step);
    }

pub returns-then-place-left-2-clause-found : goal.returns-then-place-left-2-clause-found
returns-then-place-left-2-clause-found c =
    let ns = c.args.nodes.now.nodes in
    let r = reads ns c.in-Some.at c.look-node.result c.requires.sound c.look-node.ensures.node in
    let same = rw c.in-Some.is at c.loop-link.invariant.same in
    sym (at_here c.args.in_units (trees ns) c.in-Some.at c.look-node.result r c.loop-link.place _ (grind arith) (grind arith)) ∙ same

pub returns-then-place-left-2-clause-cost : goal.returns-then-place-left-2-clause-cost
returns-then-place-left-2-clause-cost c =
    let ns = c.args.nodes.now.nodes in
    let r = reads ns c.in-Some.at c.look-node.result c.requires.sound c.look-node.ensures.node in
    let low = lower_left (trees ns) c.in-Some.at c.look-node.result r in
    let cost = rw c.in-Some.is at c.loop-link.invariant.cost in
    let high = height_bound (linked (trees ns) c.args.root) (linked_balanced ns c.args.root c.requires.sound c.requires.root) in
    omega (arith, low, cost, high)

pub loop-link-smaller : goal.loop-link-smaller
loop-link-smaller c =
    let ns = c.args.nodes.now.nodes in
    let r = reads ns c.in-Some.at c.look-node.result c.requires.sound c.look-node.ensures.node in
    rw c.in-Some.is (lower_right (trees ns) c.in-Some.at c.look-node.result r)

pub loop-link-preserved : goal.loop-link-preserved
loop-link-preserved c =
    let ns = c.args.nodes.now.nodes in
    let r = reads ns c.in-Some.at c.look-node.result c.requires.sound c.look-node.ensures.node in
    let low = lower_right (trees ns) c.in-Some.at c.look-node.result r in
    let cost = rw c.in-Some.is at c.loop-link.invariant.cost in
    let same = rw c.in-Some.is at c.loop-link.invariant.same in
    record {
      link_in = link_later _ _ c.look-node.result.right (omega (arith, length-trees ns)) r.sound.right_earlier;
      same = sym (at_right c.args.in_units (trees ns) c.in-Some.at c.look-node.result r c.loop-link.place _ (grind arith)) ∙ same;
      cost = omega (arith, low, cost);
      counts_on = omega (arith, c.loop-link.invariant.counts_on, c.look-node.ensures.step);
    }

pub returns-clause-cost : goal.returns-clause-cost
returns-clause-cost c =
    let ns = c.args.nodes.now.nodes in
    let high = height_bound (linked (trees ns) c.args.root) (linked_balanced ns c.args.root c.requires.sound c.requires.root) in
    omega (arith, c.loop-link.invariant.cost, high)

pub returns-then-place-left-2-clause-counted : goal.returns-then-place-left-2-clause-counted
returns-then-place-left-2-clause-counted c = λ _. omega (arith, c.loop-link.invariant.counts_on, c.look-node.ensures.step)
