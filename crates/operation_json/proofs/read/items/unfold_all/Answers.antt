use Rattle.std.proofs.Common.{◌∙◌, ◌++◌, ap, arith, length}
use Rattle.operation_json.proofs.RunLoops.{kept_on, few_kept, all_goes_on}
use Rattle.operation_json.proofs.read.items.unfold_all.Goals as goal

pub unfold-requires : goal.unfold-requires
unfold-requires c = omega (arith, ap length c.loop-offer.invariant.1, few_kept c.loop-offer.invariant.0)

pub loop-offer-preserved : goal.loop-offer-preserved
loop-offer-preserved c =
    let front = c.loop-offer.invariant in
    let more = c.in_ok-unfold.ensures.ok in (
      front.0 ++ more.0,
      more.2 ∙ kept_on front.0 c.loop-offer.ops.items more.0 front.1,
      all_goes_on front.0 c.args.offers.now c.loop-offer.offer-index c.offer-item.result more.0 _ c.loop-offer-test.true
          c.offer-item.is more.1
          front.2,
    )
