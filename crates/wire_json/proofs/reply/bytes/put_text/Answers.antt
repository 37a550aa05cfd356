use Rattle.std.proofs.Common.{◌≡◌, ◌∙◌, ◌++◌, List, ℕ, IsUtf8, map, codes, sym, ap, subst, arith}
use Rattle.std.proofs.lemmas.Grind.{common_steps}
use Rattle.room_model.specs.declared.reply.Reply.TheVariants.{Put}
use Rattle.operation_json.specs.Text.{in_brackets}
use Rattle.wire_json.specs.Text.{outcome_text, text}
use Rattle.wire_json.proofs.ReplyUtf8.{outcomes_utf8}
use Rattle.wire_json.proofs.reply.bytes.put_text.Goals as goal

joined : (first mid new list : List ℕ) → first ≡ codes "{\"os\":" → mid ≡ first ++ list → new ≡ mid ++ codes ",\"r\":\"put\"}"
    → new ≡ codes "{\"os\":" ++ list ++ codes ",\"r\":\"put\"}"
joined first mid new list e f g = g ∙ ap (λ l. l ++ codes ",\"r\":\"put\"}") (f ∙ ap (λ l. l ++ list) e)

pub text_of_bytes-requires : goal.text_of_bytes-requires
text_of_bytes-requires c =
    let list : List ℕ = in_brackets (map outcome_text c.args.outcomes.now) in
    let items : c.extend_from_slice-2.new.self.items ≡ text (Put c.args.outcomes.now) =
    joined c.extend_from_slice.new.self.items c.push_outcomes.new.out.items c.extend_from_slice-2.new.self.items list
    (grind (arith, common_steps)) (grind (arith, common_steps)) c.in_ok-extend_from_slice-2.ensures.items in
    subst IsUtf8 (sym items) (outcomes_utf8 c.args.outcomes.now c.in_ok-push_outcomes.ensures.in_range)
