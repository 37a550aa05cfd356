use Rattle.std.proofs.Common.{◌∙◌, ℕ, List, ap, sym}
use mathlib.Core.Path.{ap₂}
use Rattle.opid.specs.declared.kind.OpKind.{OpKind}
use Rattle.opid.specs.Operations.{Operation}
use Rattle.causal_clock.specs.Internal.Packed.{changes_of, fill}
use Rattle.causal_clock.proofs.Replaying.{op_read}
use Rattle.causal_clock.proofs.replay.op_after.Goals as goal

abbrev told : ℕ → List ℕ → OpKind → Operation
told site counts kind = record { site = site; clock = counts; kind = kind }

pub returns-clause-op : goal.returns-clause-op
returns-clause-op g c =
    let es = c.args.entries.now in
    let row = c.read.ensures.row in
    op_read es c.args.marks.now c.args.rows.now c.args.at c.read.result.0 c.filled-counts.result c.told.result
    c.requires.rows c.requires.within row
    (c.filled-counts.ensures ∙ ap (fill c.counts_after-before.result) (c.read.ensures.entries ∙ ap (changes_of es) (sym row))
    ∙ c.counts_after-before.ensures.counts c.args.at c.requires.within (sym row))
    (c.told.ensures ∙ ap₂ (told c.read.result.0.site) c.of_counts.ensures c.kind.ensures)
