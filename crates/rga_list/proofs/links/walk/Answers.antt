-- The walk so far goes on past each greater stamp, and nears the end.
use Rattle.std.proofs.Common.{◌≡◌, ◌<◌, ◌∙◌, subst, sym, rules, length, true, Some}
use Rattle.std.proofs.lemmas.List.{get_or_default}
use Rattle.opid.specs.Stamps.{is_before}
use Rattle.rga_list.specs.declared.links.Node.{Node}
use Rattle.rga_list.specs.Internal.Links.{blank, node_at, chain, Walking}
use Rattle.rga_list.proofs.Linked.{Walking-start, Walking-place, Walking-more, Walking-within, Walking-shorter}
use Rattle.rga_list.proofs.links.walk.Goals as goal

pub loop-next-init : goal.loop-next-init
loop-next-init c =
    let w = Walking-start c.args.nodes.now c.args.stamp.now c.args.before c.args.at c.requires in
    record { steps = w; within = Walking-place c.args.nodes.now c.args.stamp.now c.args.before c.args.at c.args.before c.args.at w }

pub loop-next-smaller : goal.loop-next-smaller
loop-next-smaller c =
    let w = rw c.in-Some.is at c.loop-next.invariant.steps in
    let within : c.in-Some.elem < length c.args.nodes.now =
    Walking-within c.args.nodes.now c.args.stamp.now c.args.before c.args.at c.loop-next.last c.in-Some.elem w in
    let node : c.get-node.result ≡ node_at c.args.nodes.now c.in-Some.elem =
    c.get-node.ensures ∙ c.index-nodes-elem.is ∙ get_or_default c.args.nodes.now c.in-Some.elem c.index-nodes-elem.result blank within in
    let less = Walking-shorter c.args.nodes.now c.args.stamp.now c.args.before c.args.at c.loop-next.last c.in-Some.elem w in
    rw c.in-Some.is (subst (λ (n : Node). length (chain (length c.args.nodes.now) c.args.nodes.now n.next)
    < length (chain (length c.args.nodes.now) c.args.nodes.now (Some c.in-Some.elem))) (sym node) less)

pub loop-next-preserved : goal.loop-next-preserved
loop-next-preserved c =
    let w = rw c.in-Some.is at c.loop-next.invariant.steps in
    let within : c.in-Some.elem < length c.args.nodes.now =
    Walking-within c.args.nodes.now c.args.stamp.now c.args.before c.args.at c.loop-next.last c.in-Some.elem w in
    let node : c.get-node.result ≡ node_at c.args.nodes.now c.in-Some.elem =
    c.get-node.ensures ∙ c.index-nodes-elem.is ∙ get_or_default c.args.nodes.now c.in-Some.elem c.index-nodes-elem.result blank within in
    let greater : is_before c.args.stamp.now c.get-node.result.stamp ≡ true = search rules in
    let more = Walking-more c.args.nodes.now c.args.stamp.now c.args.before c.args.at c.loop-next.last c.in-Some.elem w
    (subst (λ (n : Node). is_before c.args.stamp.now n.stamp ≡ true) node greater) in
    let next = subst (λ (n : Node). Walking c.args.nodes.now c.args.stamp.now c.args.before c.args.at (Some c.in-Some.elem) n.next)
    (sym node) more in
    record {
      steps = next;
      within = Walking-place c.args.nodes.now c.args.stamp.now c.args.before c.args.at
          (Some c.in-Some.elem) c.get-node.result.next next;
    }
