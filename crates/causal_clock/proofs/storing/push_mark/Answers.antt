use Rattle.std.proofs.Common.{◌≡◌, ◌∙◌, ◌++◌, [], ℕ, List, Bool, true, false, replicate, length, ap, refl}
use Rattle.opid.specs.Clocks.{sites}
use Rattle.opid.specs.Delivery.{clock_of}
use Rattle.causal_clock.specs.Stored.{changes}
use Rattle.causal_clock.specs.Internal.Packed.{marks_of}
use Rattle.causal_clock.proofs.storing.push_mark.Goals as goal

zeros : replicate 32 0 ≡ clock_of []
unfolding sites
zeros = refl

-- the entries of a mark, where there is one
mark : (t : Bool) (before : List ℕ) → t ≡ true → changes false (replicate 32 0) before 32 ≡ marks_of t before
mark true before e = ap (λ (c : List ℕ). changes false c before 32) zeros
mark false before e = absurd (cc)

pub returns-clause-items : goal.returns-clause-items
returns-clause-items c =
    c.push_changes.ensures.items
    ∙ ap (λ (m : List (ℕ × ℕ)). c.args.marks.now.items ++ m) (mark c.args.marked c.args.before.now c.if-not-marked.false)

pub returns-clause-count : goal.returns-clause-count
returns-clause-count c = c.push_changes.ensures.count ∙ ap length (mark c.args.marked c.args.before.now c.if-not-marked.false)
