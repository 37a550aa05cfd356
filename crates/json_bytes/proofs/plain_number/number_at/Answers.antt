use Rattle.std.proofs.Common.{◌≡◌, ◌-◌, List, ℕ, ap, ◌∙◌, subst, take, drop, length, length-drop, arith}
use Rattle.std.proofs.lemmas.List.{take_all}
use Rattle.std.specs.Str.Parse.{AllDigits, digits_value}
use Rattle.json_bytes.proofs.PlainNumber.{number_written}
use Rattle.json_bytes.proofs.plain_number.number_at.Goals as goal

pub returns : goal.returns
returns c =
    let bytes = c.args.bytes.now in
    let at = c.args.at in
    let count = c.leading_number-n.result.1 in
    let rest : List ℕ = take (length bytes - at) (drop at bytes) in
    let whole : rest ≡ drop at bytes = take_all (length bytes - at) (drop at bytes) (omega (arith, length-drop at bytes)) in
    number_written bytes at count c.leading_number-n.result.0
    (omega (arith, c.leading_number-n.ensures.within, ap length whole, length-drop at bytes, c.requires))
    (omega (arith, c.if-count-eq0.false)) c.leading_number-n.ensures.few
    (subst (λ r. AllDigits 10 (take count r)) whole c.leading_number-n.ensures.digits)
    (c.leading_number-n.ensures.value ∙ ap (λ r. digits_value 10 (take count r)) whole)
    (c.begins_with_zero.ensures c.if-begins_with_zero.false)
    (c.is_word_end.ensures c.if-not-is_word_end.false)
