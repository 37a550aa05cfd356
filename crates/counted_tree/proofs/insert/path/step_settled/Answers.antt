use Rattle.std.proofs.Common.{◌+◌, [], ◌∷◌, ◌++◌, rules, Some, ap, ◌∙◌, arith, sym, subst, length}
use Rattle.std.proofs.lemmas.List.{length_push}
use Rattle.counted_tree.specs.declared.insert.level.Grown.TheVariants.{Settled}
use Rattle.counted_tree.specs.declared.kept.side.Side.TheVariants.{Right}
use Rattle.counted_tree.specs.declared.size.Size.{Size}
use Rattle.counted_tree.specs.Internal.Change.{tree_in}
use Rattle.counted_tree.specs.Internal.Insertion.{IsInserted, IsLift}
use Rattle.counted_tree.proofs.Counts.{one_at_most}
use Rattle.counted_tree.proofs.SettledLevels.{step_there, stepped_left, stepped_right}
use Rattle.counted_tree.proofs.insert.path.step_settled.Goals as goal

pub through-past-requires : goal.through-past-requires
through-past-requires c =
    let w = c.requires in
    let p = step_there w.0 c.args.nodes.now w.1 w.2 c.args.at c.args.side w.3 w.4 c.args.below c.args.rank c.look-node.result w.6
    c.look-node.ensures.node in
    record { shown = p.past.0; units = p.past.1 }

pub plus-size-requires : goal.plus-size-requires
plus-size-requires c =
    let w = c.requires in
    let p = step_there w.0 c.args.nodes.now w.1 w.2 c.args.at c.args.side w.3 w.4 c.args.below c.args.rank c.look-node.result w.6
    c.look-node.ensures.node in
    let shown = ap (λ (s : Size). s.shown) w.5 in
    let units = ap (λ (s : Size). s.units) w.5 in
    record { shown = omega (arith, shown, p.shown); units = omega (arith, units, (one_at_most w.4).2, shown, p.shown, p.wide) }

pub push_with_left-top-requires : goal.push_with_left-top-requires
push_with_left-top-requires c =
    let w = c.requires in
    let n = c.look-node.result in
    let p = step_there w.0 c.args.nodes.now w.1 w.2 c.args.at c.args.side w.3 w.4 c.args.below c.args.rank n w.6
    c.look-node.ensures.node in
    let shown = ap (λ (s : Size). s.shown) w.5 in
    let units = ap (λ (s : Size). s.units) w.5 in
    let sum_shown = ap (λ (s : Size). s.shown) c.plus-size.ensures in
    let sum_units = ap (λ (s : Size). s.units) c.plus-size.ensures in
    record {
      reserved = search rules;
      number = search rules;
      left = p.there;
      shown = omega (arith, shown, sum_shown, p.shown);
      units = omega (arith, shown, units, sum_shown, sum_units, p.few, (one_at_most w.4).1);
      wide = omega (arith, shown, units, sum_shown, sum_units, p.wide);
    }

pub push_with_right-top-requires-clause-right : goal.push_with_right-top-requires-clause-right
push_with_right-top-requires-clause-right c =
    let w = c.requires in
    (step_there w.0 c.args.nodes.now w.1 w.2 c.args.at c.args.side w.3 w.4 c.args.below c.args.rank c.look-node.result w.6
    c.look-node.ensures.node).there

pub returns-in-Left-clause-inserted : goal.returns-in-Left-clause-inserted
returns-in-Left-clause-inserted c = λ a tb mid path x more given.
    let b = c.args.nodes.now in
    let n = c.look-node.result in
    let p = c.push_with_left-top.ensures in
    let d = c.push_with_left-top.new.self in
    let k = c.push_with_left-top.result in
    let h = subst (λ s. IsLift a b tb mid c.args.at s path x (record { top = Settled c.args.below; rank = c.args.rank })) c.in-Left.is
    given in
    let size = c.plus-size.ensures ∙ ap (λ (m : Size). record {
      shown = n.left_size.shown + m.shown;
      units = n.left_size.units + m.units;
    }) more in
    let nodes = p.nodes n c.look-node.ensures.node
    ∙ ap (λ m. b.nodes ++ record n { left = Some c.args.below; left_size = m } ∷ []) size in
    subst (λ s. IsInserted a d tb mid (tree_in a (Some c.args.at)) (s ∷ path) x (record { top = Settled k; rank = c.args.rank }))
    (sym c.in-Left.is)
    (stepped_left a b d tb mid c.args.at path x c.args.below k c.args.rank n h c.look-node.ensures.node nodes p.reserved p.keys_and_widths
    p.reserved_keys_and_widths p.number)

pub returns-in-Right-clause-inserted : goal.returns-in-Right-clause-inserted
returns-in-Right-clause-inserted c = λ a tb mid path x more given.
    let b = c.args.nodes.now in
    let n = c.look-node.result in
    let p = c.push_with_right-top.ensures in
    let d = c.push_with_right-top.new.self in
    let k = c.push_with_right-top.result in
    let h = subst (λ s. IsLift a b tb mid c.args.at s path x (record { top = Settled c.args.below; rank = c.args.rank })) c.in-Right.is
    given in
    let whole = stepped_right a b d tb mid c.args.at path x c.args.below k c.args.rank n h c.look-node.ensures.node
    (p.nodes n c.look-node.ensures.node) p.reserved p.keys_and_widths p.reserved_keys_and_widths p.number in
    subst (λ s. IsInserted a d tb mid (tree_in a (Some c.args.at)) (s ∷ path) x (record { top = Settled k; rank = c.through-past.result }))
    (sym c.in-Right.is)
    (subst (λ z. IsInserted a d tb mid (tree_in a (Some c.args.at)) (Right ∷ path) x (record { top = Settled k; rank = z }))
    (sym c.through-past.ensures) whole)

pub returns-in-Left-clause-cost : goal.returns-in-Left-clause-cost
returns-in-Left-clause-cost c =
    let made = c.push_with_left-top.ensures.nodes c.look-node.result c.look-node.ensures.node in
    omega (arith, c.look-node.ensures.cost, ap length made ∙ length_push c.args.nodes.now.nodes _)

pub returns-in-Right-clause-cost : goal.returns-in-Right-clause-cost
returns-in-Right-clause-cost c =
    let made = c.push_with_right-top.ensures.nodes c.look-node.result c.look-node.ensures.node in
    omega (arith, c.look-node.ensures.cost, ap length made ∙ length_push c.args.nodes.now.nodes _)
