use Rattle.std.proofs.Common.{Bool, ◌≤◌, eq-eqb, ◌==◌, ◌+◌, ◌*◌, ℕ, get_or, arith, length}
use Rattle.std.proofs.lemmas.Simd.{run_in_chunk_fails, run_in_chunk_stops}
use Rattle.std.proofs.lemmas.List.{get_or_default}
use Rattle.holdback.proofs.Numbers.{first_at, none_at_all, in_both}
use Rattle.holdback.proofs.held.place_of.Goals as goal

pub returns-then-before-lt-BLOCK : goal.returns-then-before-lt-BLOCK
returns-then-before-lt-BLOCK c =
    let ns = c.args.numbers.now in
    let start = c.loop-block.block * 16 in
    let before = c.others_before-before.result in
    let within : start + 16 ≤ length ns = omega (arith, c.loop-block-test.true) in
    let test : ℕ → Bool = λ n. n == c.args.number in
    first_at test ns (start + before) (get_or ns (start + before) 0) (omega (arith, within, c.if-before-lt-BLOCK.true))
    (get_or_default ns (start + before) 0 (get_or ns (start + before) 0) (omega (arith, within, c.if-before-lt-BLOCK.true)))
    (λ k d l. in_both test ns 0 start (start + before) (λ j e s m. c.loop-block.invariant j e m)
    (λ j e s m. run_in_chunk_fails test ns start 16 before e within c.others_before-before.ensures j s m) k d (omega arith) l)
    (run_in_chunk_stops test ns start 16 before 0 within c.others_before-before.ensures (omega (arith, c.if-before-lt-BLOCK.true)))

pub loop-block-preserved : goal.loop-block-preserved
loop-block-preserved c k d l =
    let ns = c.args.numbers.now in
    let start = c.loop-block.block * 16 in
    let before = c.others_before-before.result in
    let within : start + 16 ≤ length ns = omega (arith, c.loop-block-test.true) in
    let test : ℕ → Bool = λ n. n == c.args.number in
    in_both test ns 0 start (start + 16) (λ j e s m. c.loop-block.invariant j e m)
    (λ j e s m. run_in_chunk_fails test ns start 16 before e within c.others_before-before.ensures j s
    (omega (arith, m, c.if-before-lt-BLOCK.false)))
    k d (omega arith) (omega (arith, l))

pub returns-then-numbers-at : goal.returns-then-numbers-at
returns-then-numbers-at c =
    first_at (λ n. n == c.args.number) c.args.numbers.now c.loop-at.at (get_or c.args.numbers.now c.loop-at.at 0)
    (omega (arith, c.loop-at-test.true)) (get_or_default c.args.numbers.now c.loop-at.at 0
    (get_or c.args.numbers.now c.loop-at.at 0) (omega (arith, c.loop-at-test.true)))
    c.loop-at.invariant (eq-eqb (get_or c.args.numbers.now c.loop-at.at 0) c.args.number c.if-numbers-at.true)

pub returns : goal.returns
returns c = none_at_all (λ n. n == c.args.number) c.args.numbers.now c.loop-at.at 0
    (omega (arith, c.loop-at-test.false)) c.loop-at.invariant
