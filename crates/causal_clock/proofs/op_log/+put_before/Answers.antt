use Rattle.std.proofs.Common.{◌∙◌, ℕ, List, ap, sym}
use mathlib.Core.Path.{ap₂}
use Rattle.causal_clock.specs.declared.row.Row.{Row}
use Rattle.causal_clock.specs.Internal.Packed.{base_of, changes_of, fill}
use Rattle.causal_clock.proofs.op_log.+put_before.Goals as goal

pub returns-then-row-eq0-clause-counts : goal.returns-then-row-eq0-clause-counts
returns-then-row-eq0-clause-counts g t c k l e =
    ap (λ v. fill v (changes_of c.args.entries.now c.args.row.now))
    (c.put_in.ensures ∙ ap₂ (λ (v : List ℕ) (m : List (ℕ × ℕ)). fill v m) c.requires.zeros c.mark_of.ensures)
    ∙ ap (λ (r : Row). fill (base_of c.args.marks.now r) (changes_of c.args.entries.now r)) (sym e)
    ∙ sym ((c.requires.rows k l).base (ap (λ (r : Row). r.back) e ∙ c.if-row-eq0.true))
