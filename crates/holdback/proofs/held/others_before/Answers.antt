use Rattle.std.proofs.Common.{eqb, sym, ap, ◌∙◌, arith, w32}
use lib.Count.{count_trailing_zeros}
use lib.Lanes.{chunk}
use Rattle.std.proofs.lemmas.Simd.{length-chunk, bitmask_splat, leading_from_mask_l, trailing_mask_l}
use Rattle.holdback.proofs.held.others_before.Goals as goal

pub returns-then-same-eq0 : goal.returns-then-same-eq0
returns-then-same-eq0 c =
    let block = chunk c.args.start 16 c.args.numbers.now in
    let long = length-chunk c.args.start 16 c.args.numbers.now c.requires in
    let same = bitmask_splat w32 eqb block 16 c.args.number long (omega arith) in
    sym (leading_from_mask_l (λ n. eqb n c.args.number) block (sym same ∙ c.if-same-eq0.true) ∙ long)

pub returns-else-same-eq0 : goal.returns-else-same-eq0
returns-else-same-eq0 c =
    let block = chunk c.args.start 16 c.args.numbers.now in
    let long = length-chunk c.args.start 16 c.args.numbers.now c.requires in
    let same = bitmask_splat w32 eqb block 16 c.args.number long (omega arith) in
    ap (count_trailing_zeros 64) same ∙ trailing_mask_l (λ n. eqb n c.args.number) 64 block (omega arith) (omega arith)
