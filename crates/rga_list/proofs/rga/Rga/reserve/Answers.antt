-- A reserve leaves what holds of the list, and the memory is there.
use Rattle.std.proofs.Common.{List, subst, sym, arith}
use Rattle.rga_list.specs.declared.links.Node.{Node}
use Rattle.rga_list.specs.Internal.Links.{IsList}
use Rattle.rga_list.proofs.Reserved.{IsList-same}
use Rattle.rga_list.proofs.rga.Rga.reserve.Goals as goal

pub invariant_of-self-in_err-reserve_each : goal.invariant_of-self-in_err-reserve_each
invariant_of-self-in_err-reserve_each c = (
  subst (λ (v : List Node). IsList v c.self.inside.first c.reserve_each.new.tables) (sym c.reserve.ensures.items)
      (IsList-same c.self.inside.nodes.items c.self.inside.first c.self.inside.tables c.reserve_each.new.tables c.reserve_each.auto.tables
      c.reserve_each.ensures.same c.self.invariant.0),
  record {
    elements = omega (arith, c.reserve.ensures.len, c.reserve.ensures.capacity, c.self.invariant.1.elements);
    ids = λ k l. omega (arith, c.self.invariant.1.ids k l, c.reserve_each.ensures.kept k);
  },
  c.self.invariant.2,
)

pub invariant_of-self-2 : goal.invariant_of-self-2
invariant_of-self-2 c = (
  subst (λ (v : List Node). IsList v c.self.inside.first c.reserve_each.new.tables) (sym c.reserve.ensures.items)
      (IsList-same c.self.inside.nodes.items c.self.inside.first c.self.inside.tables c.reserve_each.new.tables c.reserve_each.auto.tables
      c.reserve_each.ensures.same c.self.invariant.0),
  record {
    elements = omega (arith, c.reserve.ensures.len, c.in_ok-reserve.ensures.ok);
    ids = λ k l. c.in_ok-reserve_each.ensures.ok k (omega (arith, l, c.self.invariant.0.width));
  },
  omega (arith, c.self.invariant.2, c.max-more.ensures),
)
