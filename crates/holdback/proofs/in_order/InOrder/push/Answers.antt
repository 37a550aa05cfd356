use Rattle.std.proofs.Common.{◌≡◌, ◌++◌, ◌∷◌, [], List, ap, sym, ◌∙◌, arith, get_or, length, subst, vec_len, rules}
use Rattle.opid.specs.Operations.{Operation}
use Rattle.opid.specs.Held.{HeldOperations}
use Rattle.holdback.specs.Internal.Slots.{AreSlots}
use Rattle.holdback.proofs.Slotted.{arranged_length, put_free, put_new, more_slots}
use Rattle.holdback.proofs.in_order.InOrder.push.Goals as goal

pub returns-then-self-len-clause-ok : goal.returns-then-self-len-clause-ok
returns-then-self-len-clause-ok c =
    let with_ops : List Operation → HeldOperations = λ ops. record { ops = ops; reserved = c.self.inside.reserved } in
    let slot = c.from-slot.ensures ∙ c.index.ensures ∙ ap (λ d. get_or c.self.inside.order.items c.self.inside.len d)
    (sym c.from-slot.ensures) in
    ap with_ops (put_free c.self.inside.slots.items c.self.inside.order.items c.self.inside.len c.from-slot.result c.args.op
    (omega (arith, c.if-self-len.true, c.len.ensures, c.self.invariant.3, c.self.inside.order.ok.0)) slot
    (subst (λ n. AreSlots n c.self.inside.order.items) c.self.inside.slots.ok.0 c.self.invariant.5))
    ∙ ap (λ (h : HeldOperations). let r : HeldOperations = record { ops = h.ops ++ c.args.op ∷ []; reserved = h.reserved } in r)
    c.self.view_is

pub invariant_of-self-2 : goal.invariant_of-self-2
invariant_of-self-2 c =
    let many = arranged_length c.self.inside.slots.items c.self.inside.order.items c.self.inside.len
    (omega (arith, c.self.invariant.3, c.self.invariant.4, c.self.inside.order.ok.0)) in
    let all = ap (λ (h : HeldOperations). length h.ops) c.self.view_is in
    let full : c.self.inside.len ≡ vec_len c.self.inside.slots = omega (arith, c.if-self-len.false, c.len.ensures, c.self.invariant.4) in
    let one = c.in_ok-push.ensures.len in (
      omega (arith, many, all, c.requires, full, one),
      search rules,
      search rules,
      omega (arith, one, c.push_reserved.ensures.len, c.reserve.ensures.len, c.self.invariant.3),
      omega (arith, one, full),
      more_slots c.self.inside.order.items c.push_reserved.new.self.items (vec_len c.self.inside.slots) c.self.inside.len
          (vec_len c.push.new.self)
          (sym full) (omega (arith, one, full)) (c.push_reserved.ensures.items ∙ ap
          (λ ks. ks ++ c.self.inside.len ∷ []) c.reserve.ensures.items)
          c.self.invariant.5,
    )

pub returns-clause-ok : goal.returns-clause-ok
returns-clause-ok c =
    let with_ops : List Operation → HeldOperations = λ ops. record { ops = ops; reserved = c.self.inside.reserved } in
    let full : c.self.inside.len ≡ vec_len c.self.inside.slots = omega (arith, c.if-self-len.false, c.len.ensures, c.self.invariant.4) in
    ap with_ops (put_new c.self.inside.slots.items c.push.new.self.items c.self.inside.order.items c.push_reserved.new.self.items
    c.self.inside.len
    c.args.op (omega (arith, full, c.self.invariant.3, c.self.inside.order.ok.0)) (omega (arith, full, c.self.inside.slots.ok.0))
    c.in_ok-push.ensures.items (c.push_reserved.ensures.items ∙ ap (λ ks. ks ++ c.self.inside.len ∷ []) c.reserve.ensures.items)
    (subst (λ n. AreSlots n c.self.inside.order.items) c.self.inside.slots.ok.0 c.self.invariant.5))
    ∙ ap (λ (h : HeldOperations). let r : HeldOperations = record { ops = h.ops ++ c.args.op ∷ []; reserved = h.reserved } in r)
    c.self.view_is
