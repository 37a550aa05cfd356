use Rattle.std.proofs.Common.{◌≡◌, ◌∙◌, ◌<◌, ◌^◌, subst, ap, arith, take, true}
use Rattle.std.proofs.lemmas.List.{take_all}
use Rattle.std.proofs.lemmas.Str.Parse.{numerals_by_value, tells_all_ascii_digits}
use Rattle.std.specs.Str.{all_ascii_digits}
use Rattle.std.specs.Str.Parse.{AllDigits, digits_value}
use Rattle.json_bytes.proofs.Digits.{digits_number, few}
use Rattle.wire_json.proofs.request.flat.few_digits.Goals as goal

pub returns : goal.returns
returns c =
    let bytes = c.args.bytes.now in
    let count = c.leading_number-n.result.1 in
    let n = c.leading_number-n.result.0 in
    let whole : take count bytes ≡ bytes = take_all count bytes (omega (arith, c.if-count-bytes.false)) in
    let digits = subst (AllDigits 10) whole c.leading_number-n.ensures.digits in
    let small : n < 10 ^ 9 =
    few bytes count 9 n c.leading_number-n.ensures.few c.leading_number-n.ensures.digits c.leading_number-n.ensures.value in
    digits_number bytes c.from.result ((numerals_by_value (λ ds. all_ascii_digits ds ≡ true) tells_all_ascii_digits).from bytes digits)
    (omega (arith, c.if-count-eq0.false, c.leading_number-n.ensures.within)) (omega (arith, small, c.from.ensures))
    (c.from.ensures ∙ c.leading_number-n.ensures.value ∙ ap (digits_value 10) whole)
