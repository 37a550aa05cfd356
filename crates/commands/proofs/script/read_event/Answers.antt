-- A line is too long, has a form, or has none.
use Rattle.std.proofs.Common.{Err, refl, inl, inr}
use Rattle.opid.specs.declared.refusal.Refusal.TheVariants.{TooLong, BadField}
use Rattle.commands.proofs.script.read_event.Goals as goal

pub returns-then-line-gt-MAX_LINE_BYTES-clause-asked : goal.returns-then-line-gt-MAX_LINE_BYTES-clause-asked
returns-then-line-gt-MAX_LINE_BYTES-clause-asked c = (Err TooLong, inl (c.if-line-gt-MAX_LINE_BYTES.true, refl), inr refl)

pub returns-in-None-clause-asked : goal.returns-in-None-clause-asked
returns-in-None-clause-asked c = (Err BadField, inr (inr (c.if-line-gt-MAX_LINE_BYTES.false, c.in-None.ensures.none, refl)), inr refl)
