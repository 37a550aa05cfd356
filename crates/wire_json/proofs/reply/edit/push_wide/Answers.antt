use Rattle.std.proofs.Common.{◌≡◌, ◌∙◌, ◌∷◌, [], ◌++◌, List, ℕ, ap, decimal, drop, encode_utf8, arith, append_assoc}
use Rattle.std.proofs.lemmas.Grind.{common_steps}
use Rattle.json_bytes.proofs.Escapes.{plain_quote}
use Rattle.wire_json.proofs.reply.edit.push_wide.Goals as goal

joined : (old new first mid number wide : List ℕ) → first ≡ old ++ (91 ∷ 34 ∷ 105 ∷ 34 ∷ 44 ∷ (number ++ 44 ∷ 34 ∷ []))
    → mid ≡ first ++ wide → new ≡ mid ++ 34 ∷ 93 ∷ []
    → new ≡ old ++ 91 ∷ 34 ∷ 105 ∷ 34 ∷ 44 ∷ (number ++ 44 ∷ [] ++ 34 ∷ (wide ++ 34 ∷ []) ++ 93 ∷ [])
joined old new first mid number wide e f g = g ∙ ap (λ l. l ++ 34 ∷ 93 ∷ []) (f ∙ ap (λ l. l ++ wide) e) ∙ simp append_assoc

pub returns : goal.returns
returns c =
    let head : drop c.put_letter-at.result c.put_letter-at.new.bytes
    ≡ 91 ∷ 34 ∷ 105 ∷ 34 ∷ 44 ∷ (decimal c.args.place ++ 44 ∷ 34 ∷ []) = grind (arith, common_steps) in
    rw (plain_quote c.args.ch (omega (arith, c.requires)) (λ e. absurd (omega (arith, e, c.requires)))
    (λ e. absurd (omega (arith, e, c.requires))))
    (joined c.args.out.now.items c.extend_from_slice-3.new.self.items c.extend_from_slice.new.self.items
    c.extend_from_slice-2.new.self.items (decimal c.args.place) (encode_utf8 c.args.ch) (grind (arith, common_steps))
    (grind (arith, common_steps)) (grind (arith, common_steps)))
