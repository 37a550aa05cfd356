use Rattle.std.proofs.Common.{◌-◌, ◌<◌, ◌≤◌, List, ℕ, ap, ◌∙◌, arith, length, set, vec_len}
use Rattle.std.specs.List.{remove}
use Rattle.opid.specs.Operations.{Operation}
use Rattle.opid.specs.Held.{HeldOperations}
use Rattle.holdback.proofs.Slotted.{arranged_length, moved_back, taken_out, same_slots}
use Rattle.holdback.proofs.in_order.InOrder.remove.Goals as goal

-- the place is that of one of the operations
there : (c : goal.After-result-1) → (c.args.place < c.self.inside.len) × (c.self.inside.len ≤ length c.self.inside.order.items)
there c =
    let within : c.self.inside.len ≤ length c.self.inside.order.items =
    omega (arith, c.self.invariant.3, c.self.invariant.4, c.self.inside.order.ok.0) in
    let many = arranged_length c.self.inside.slots.items c.self.inside.order.items c.self.inside.len within in
    let all = ap (λ (h : HeldOperations). length h.ops) c.self.view_is in (omega (arith, c.requires, many, all), within)

pub invariant_of-self : goal.invariant_of-self
invariant_of-self c =
    let at = there c in
    let order : List ℕ = c.self.inside.order.items in
    let later : List ℕ = set c.copy_within.new.self.items (c.self.inside.len - 1) c.index-slot.result.now in (
      c.self.invariant.0,
      c.self.invariant.1,
      omega (arith, c.self.invariant.2, c.copy_within.ensures.capacity),
      omega (arith, c.self.invariant.3, c.copy_within.ensures.len),
      omega (arith, c.self.invariant.4),
      same_slots order later (vec_len c.self.inside.slots) c.self.inside.len c.args.place c.index-slot.result.now at.0 at.1
          c.index-slot.ensures
          (moved_back order later c.self.inside.len c.args.place c.index-slot.result.now at.0 at.1
          (ap (λ ks. set ks (c.self.inside.len - 1) c.index-slot.result.now) c.copy_within.ensures.items))
          c.self.invariant.5,
    )

pub returns-clause-others : goal.returns-clause-others
returns-clause-others c =
    let at = there c in
    let order : List ℕ = c.self.inside.order.items in
    let later : List ℕ = set c.copy_within.new.self.items (c.self.inside.len - 1) c.index-slot.result.now in
    let with_ops : List Operation → HeldOperations = λ ops. record { ops = ops; reserved = c.self.inside.reserved } in
    ap with_ops
    (taken_out c.self.inside.slots.items order later c.self.inside.len (c.self.inside.len - 1) c.args.place c.index-slot.result.now
    (omega (arith, at.0)) at.0 at.1
    (moved_back order later c.self.inside.len c.args.place c.index-slot.result.now at.0 at.1
    (ap (λ ks. set ks (c.self.inside.len - 1) c.index-slot.result.now) c.copy_within.ensures.items)))
    ∙ ap (λ (h : HeldOperations). let r : HeldOperations = record { ops = remove h.ops c.args.place; reserved = h.reserved } in r)
    c.self.view_is
