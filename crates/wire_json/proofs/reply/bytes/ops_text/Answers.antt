use Rattle.std.proofs.Common.{◌≡◌, ◌∙◌, ◌++◌, List, ℕ, IsUtf8, codes, decimal, sym, ap, subst, arith}
use Rattle.std.proofs.lemmas.Grind.{common_steps}
use Rattle.room_model.specs.declared.reply.Reply.TheVariants.{Ops}
use Rattle.operation_json.specs.Text.{packed_text}
use Rattle.wire_json.specs.Text.{text}
use Rattle.wire_json.proofs.ReplyUtf8.{ops_utf8}
use Rattle.wire_json.proofs.reply.bytes.ops_text.Goals as goal

joined : (head mid new list : List ℕ) (n : ℕ) → head ≡ codes "{\"from\":" ++ decimal n ++ codes ",\"ops\":" → mid ≡ head ++ list
    → new ≡ mid ++ codes ",\"r\":\"ops\"}"
    → new ≡ codes "{\"from\":" ++ decimal n ++ codes ",\"ops\":" ++ list ++ codes ",\"r\":\"ops\"}"
joined head mid new list n e f g = g ∙ ap (λ l. l ++ codes ",\"r\":\"ops\"}") (f ∙ ap (λ l. l ++ list) e)

pub text_of_bytes-requires : goal.text_of_bytes-requires
text_of_bytes-requires c =
    let items : c.extend_from_slice-4.new.self.items ≡ text (Ops c.args.from c.args.ops.now) =
    joined c.extend_from_slice-3.new.self.items c.push_packed.new.out.items c.extend_from_slice-4.new.self.items
    (packed_text c.args.ops.now) c.args.from (grind (arith, common_steps)) c.in_ok-push_packed.ensures.text
    c.in_ok-extend_from_slice-4.ensures.items in
    subst IsUtf8 (sym items) (ops_utf8 c.args.from c.args.ops.now (omega (arith, c.ranges.from)) c.in_ok-push_packed.ensures.in_range)
