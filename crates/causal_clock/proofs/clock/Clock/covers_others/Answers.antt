use Rattle.std.proofs.Common.{rules, ◌≡◌, ◌∙◌, ◌%◌, ◌^◌, ℕ, List, length, take, ltb, ap, arith, w32}
use mathlib.Core.Path.{ap₂}
use lib.Lanes.{mask_l, zip2}
use Rattle.std.proofs.lemmas.List.{take_all}
use Rattle.std.proofs.lemmas.Simd.{tops_compared}
use Rattle.opid.specs.Clocks.{covers_others}
use Rattle.causal_clock.proofs.Sites.{covers_by_bits}
use Rattle.causal_clock.proofs.clock.Clock.covers_others.Goals as goal

pub returns : goal.returns
returns c =
    let xs = c.other.inside.counts in
    let ys = c.self.inside.counts in
    let lx : length xs ≡ 32 = search rules in
    let ly : length ys ≡ 32 = search rules in
    covers_by_bits c.number.result xs ys _ (omega (arith, c.number.ensures.range, c.number.ensures.value)) lx ly
    (ap (λ l. mask_l l % 2 ^ 64) (tops_compared w32 (λ (x y : ℕ). ltb x y) (take 32 ys) (take 32 xs)
    ∙ ap₂ (λ (x y : List ℕ). zip2 (λ (p q : ℕ). ltb p q) x y)
    (take_all 32 ys (omega (arith, ly))) (take_all 32 xs (omega (arith, lx)))))
    ∙ ap₂ (λ (own : ℕ) (x : List ℕ). covers_others own x ys) c.number.ensures.value c.other.view_is
    ∙ ap (covers_others c.args.own c.args.other.now) c.self.view_is
