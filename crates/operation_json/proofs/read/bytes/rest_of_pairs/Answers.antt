use Rattle.std.proofs.Common.{ℕ, ◌∙◌, sym, subst, arith, length-set, take}
use Rattle.std.proofs.lemmas.List.{take_more_set}
use Rattle.operation_json.specs.Internal.MemberTokens.{TellsPairs}
use Rattle.operation_json.proofs.MemberTokens.{pairs_more}
use Rattle.operation_json.proofs.read.bytes.rest_of_pairs.Goals as goal

pub loop-place-preserved : goal.loop-place-preserved
loop-place-preserved c =
    let pairs = c.loop-place.pairs in
    let place = c.loop-place.place in
    let pair : ℕ × ℕ = (c.in-Ok.site, c.in_ok-number.count) in (
      length-set pairs place pair ∙ c.loop-place.invariant.0,
      subst (λ ps. TellsPairs c.args.reader.now ps c.rest_of_pair.new.reader)
          (sym (take_more_set pairs place pair
          (omega (arith, c.loop-place.invariant.0, c.if-place-eq-SITES.false, c.loop-place-test.true))))
          (pairs_more c.args.reader.now c.loop-place.reader c.take_begin_array.new.self c.rest_of_pair.new.reader (take place pairs)
          (c.in_ok-number.number, c.in_ok-number.count) c.in-Ok.site c.loop-place.invariant.1
          (sym (c.take_end_array.ensures.no c.if-take_end_array.false)
          ∙ c.take_begin_array.ensures.yes c.if-not-take_begin_array.false)
          c.in_ok-number.ensures (sym c.in-Ok.is ∙ c.check_site.ensures)),
    )
