-- The pairs of sites are those that the list begins with, unless they are too many to rise.
use Rattle.std.proofs.Common.{◌≡◌, ◌<◌, length, take, sym, ap, ◌∙◌, arith, length-set}
use Rattle.std.proofs.lemmas.List.{length-map, take_all}
use Rattle.causal_clock.specs.Listing.{clock_told}
use Rattle.operation_json.specs.Operations.{sited_pair}
use Rattle.operation_json.specs.Internal.Offers.{pairs_in}
use Rattle.operation_json.proofs.TooManyPairs.{too_many}
use Rattle.operation_json.proofs.PairSites.{all_sited, same_at, put_more}
use Rattle.operation_json.proofs.read.operation.read_clock.Goals as goal

pub returns-then-pairs-gt-SITES : goal.returns-then-pairs-gt-SITES
returns-then-pairs-gt-SITES c =
    let ps = pairs_in c.args.pairs.now in
    sym (too_many ps (all_sited ps ps c.requires) (simp length-map c.if-pairs-gt-SITES.true))

pub returns-in_err-list : goal.returns-in_err-list
returns-in_err-list c =
    let kept = same_at c.args.pairs.now c.loop-place.place c.index-pairs-place.result c.requires c.loop-place-test.true
    c.index-pairs-place.is in
    let refused = c.in_err-list.ensures in
    let told = ap sited_pair c.pair_in.ensures in
    absurd (cc)

pub loop-place-preserved : goal.loop-place-preserved
loop-place-preserved c =
    let room : c.loop-place.place < length c.loop-place.list = omega arith in (
      length-set c.loop-place.list c.loop-place.place c.in_ok-list.field-0 ∙ c.loop-place.invariant.0,
      put_more c.args.pairs.now c.loop-place.place c.index-pairs-place.result c.in_ok-list.field-0 c.loop-place.list c.requires
          c.loop-place-test.true c.index-pairs-place.is (c.in_ok-list.ensures ∙ ap sited_pair c.pair_in.ensures) room
          c.loop-place.invariant.1,
    )

pub returns : goal.returns
returns c =
    let n = length c.args.pairs.now in
    let all : c.loop-place.place ≡ n = omega arith in
    c.from_pairs.ensures ∙ ap clock_told (ap (λ m. take m c.loop-place.list) (sym all) ∙ c.loop-place.invariant.1
    ∙ ap (λ m. pairs_in (take m c.args.pairs.now)) all ∙ ap pairs_in (take_all n c.args.pairs.now (omega arith)))
