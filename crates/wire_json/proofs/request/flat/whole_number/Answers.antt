use Rattle.std.proofs.Common.{◌<◌, ◌^◌, sym, ap, subst, ◌∙◌, slice_index, ◌==◌}
use Rattle.std.specs.Prelude.{SomeIff}
use Rattle.fast_float.specs.Text.{Parts, scan, digits_of, IsInteger}
use Rattle.json_bytes.proofs.Digits.{whole_number}
use Rattle.wire_json.proofs.request.flat.whole_number.Goals as goal

pub returns : goal.returns
returns c =
    whole_number c.args.text.now c.to_u64.result
    (ap (λ s. slice_index s 0 == 45) (sym c.as_bytes-bytes.ensures.value) ∙ sym c.if-has_minus.ensures)
    (subst (λ (p : Parts). SomeIff c.to_u64.result (IsInteger p × (digits_of p < 2 ^ 64)) (digits_of p))
    (c.scan.ensures.parts ∙ ap scan c.as_bytes-bytes.ensures.value) c.to_u64.ensures)
