use Rattle.std.proofs.Common.{◌≡◌, ◌<◌, ◌^◌, IsUtf8, sym, subst, arith}
use Rattle.std.proofs.lemmas.Grind.{common_steps}
use Rattle.room_model.specs.declared.reply.Reply.TheVariants.{Edits}
use Rattle.wire_json.specs.Text.{text}
use Rattle.wire_json.proofs.ReplyUtf8.{edits_utf8}
use Rattle.wire_json.proofs.reply.bytes.edits_text.Goals as goal

pub text_of_bytes-requires : goal.text_of_bytes-requires
text_of_bytes-requires c =
    let items : c.extend_from_slice-4.new.self.items ≡ text (Edits c.args.from c.args.es.now) = grind (arith, common_steps) in
    let small : c.args.from < 2 ^ 32 = omega (arith, c.ranges.from) in
    subst IsUtf8 (sym items) (edits_utf8 c.args.from c.args.es.now small c.in_ok-push_edits.ensures.in_range)
