use Rattle.std.proofs.Common.{rules, ◌≡◌, ◌∙◌, List, ℕ, length, take, not, eqb, ap, arith, w32, ◌%◌, ◌^◌}
use mathlib.Core.Path.{ap₂}
use lib.Lanes.{mask_l, zip2}
use Rattle.std.proofs.lemmas.List.{take_all}
use Rattle.std.proofs.lemmas.Simd.{tops_compared}
use Rattle.causal_clock.proofs.Picking.{compared}
use Rattle.causal_clock.proofs.clock.differing.Goals as goal

pub returns : goal.returns
returns c =
    let a = c.args.before.now in
    let b = c.args.counts.now in
    let la : length a ≡ 32 = search rules in
    let lb : length b ≡ 32 = search rules in
    compared a b _ la lb
    (ap (λ l. mask_l l % 2 ^ 64) (tops_compared w32 (λ (x y : ℕ). not (eqb x y)) (take 32 a) (take 32 b)
    ∙ ap₂ (λ (x y : List ℕ). zip2 (λ (p q : ℕ). not (eqb p q)) x y)
    (take_all 32 a (omega (arith, la))) (take_all 32 b (omega (arith, lb)))))
