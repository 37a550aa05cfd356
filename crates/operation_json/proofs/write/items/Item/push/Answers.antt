-- The operation that joins is the last one.
use Rattle.std.proofs.Common.{◌≡◌, ◌∙◌, true, ap, sym, subst, rules}
use Rattle.std.specs.Prelude.{IsTrue}
use Rattle.std.specs.Str.{all_scalars}
use Rattle.operation_json.specs.Packing.{Item, joins}
use Rattle.operation_json.proofs.Packer.{pushed, scalars_push}
use Rattle.operation_json.proofs.write.items.Item.push.Goals as goal

pub invariant_of-self-2 : goal.invariant_of-self-2
invariant_of-self-2 c =
    let i : Item = record { first = c.self.inside.first; more = c.self.inside.more.items } in
    let y = c.args.op.now in
    let joined : joins i y ≡ true = ap (λ (j : Item). joins j y) c.self.view_is ∙ c.requires in (
      pushed i y c.character_of.result c.push.new.self.items joined (sym c.character_of.ensures) c.in_ok-push.ensures.items,
      subst (λ cs. IsTrue (all_scalars cs)) (sym c.in_ok-push.ensures.items)
          (scalars_push c.self.inside.more.items c.character_of.result c.self.invariant.1 (search rules)),
    )
