use Rattle.std.proofs.Common.{rules, ◌≡◌, ◌∙◌, ◌+◌, ℕ, List, length, ap, arith, bytes_eq}
use mathlib.Core.Path.{ap₂}
use Rattle.opid.specs.Clocks.{entry, raised}
use Rattle.causal_clock.proofs.Raising.{raised_by_bits}
use Rattle.causal_clock.proofs.clock.Clock.is_raised.Goals as goal

pub returns : goal.returns
returns c =
    let xs = c.other.inside.counts in
    let ys = c.self.inside.counts in
    let lx : length xs ≡ 32 = search rules in
    let ly : length ys ≡ 32 = search rules in
    let next : entry xs c.number.result ≡ entry ys c.number.result + 1 = search (rules, arith) in
    raised_by_bits c.number.result xs ys c.differing.result (omega (arith, c.number.ensures.range, c.number.ensures.value)) lx ly
    c.differing.ensures next
    ∙ ap₂ (λ (own : ℕ) (x : List ℕ). bytes_eq x (raised ys own)) c.number.ensures.value c.other.view_is
    ∙ ap (λ (y : List ℕ). bytes_eq c.args.other.now (raised y c.args.site)) c.self.view_is
