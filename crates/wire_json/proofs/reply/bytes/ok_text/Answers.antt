use Rattle.std.proofs.Common.{◌≡◌, IsUtf8, sym, subst, arith}
use Rattle.std.proofs.lemmas.Grind.{common_steps}
use Rattle.room_model.specs.declared.reply.Reply.TheVariants.{Ok}
use Rattle.wire_json.specs.Text.{text}
use Rattle.wire_json.proofs.ReplyUtf8.{ok_utf8}
use Rattle.wire_json.proofs.reply.bytes.ok_text.Goals as goal

pub text_of_bytes-requires : goal.text_of_bytes-requires
text_of_bytes-requires c =
    let items : c.extend_from_slice.new.self.items ≡ text (Ok c.args.from c.args.to) = grind (arith, common_steps) in
    subst IsUtf8 (sym items) (ok_utf8 c.args.from c.args.to (omega (arith, c.ranges.from)) (omega (arith, c.ranges.to)))
