use Rattle.std.proofs.Common.{◌∙◌, IsUtf8, sym, ap, subst, ◌++◌}
use Rattle.operation_json.specs.Text.{item_text}
use Rattle.operation_json.specs.Packing.{Item}
use Rattle.operation_json.proofs.PackedUtf8.{item_utf8}
use Rattle.operation_json.proofs.write.items.text_of_item.Goals as goal

pub text_of_bytes-requires : goal.text_of_bytes-requires
text_of_bytes-requires c =
    let i : Item = record { first = c.args.first.now; more = c.args.more.now } in
    subst IsUtf8 (sym (c.in_ok-push_item.ensures ∙ ap (λ s. s ++ item_text i) c.in_ok-out.ensures.items))
    (item_utf8 c.args.first.now c.args.more.now c.check_op.ensures c.requires)
