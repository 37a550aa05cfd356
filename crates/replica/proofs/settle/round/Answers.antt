-- One round is one of the definition.
use Rattle.std.proofs.Common.{◌≡◌, ◌∙◌, ◌∷◌, ◌+◌, ◌<◌, ◌≤◌, [], inl, inr, None, Some, ap, arith, length, sym}
use mathlib.Core.Path.{ap₂}
use Rattle.std.proofs.lemmas.List.{length-append}
use Rattle.opid.specs.Delivery.{clock_of}
use Rattle.versions.specs.Document as document
use Rattle.opid.specs.Delivered.{refusal_of}
use Rattle.replica.specs.Internal.Kept.{settling_of}
use Rattle.replica.proofs.Clocks.{clock_of-same, first_ready-same, without_first_ready-same}
use Rattle.replica.proofs.Rounds.{round-full, round-none, round-some}
use Rattle.replica.proofs.settle.round.Goals as goal

pub returns-then-version-ge-MAX_OPERATIONS-clause-next : goal.returns-then-version-ge-MAX_OPERATIONS-clause-next
returns-then-version-ge-MAX_OPERATIONS-clause-next c =
    let full : 131072 ≤ length c.args.log.now.log =
    omega (arith, ap (λ (r : document.Document). length r.log) c.doc.ensures.value) in
    sym (round-full (settling_of c.args.log.now c.args.held.now c.args.tally.now) full)

pub returns-in-None-clause-next : goal.returns-in-None-clause-next
returns-in-None-clause-next c =
    let log = c.args.log.now in
    let held = c.args.held.now in
    let clock = clock_of-same c.known.result.now _ log c.known.ensures c.doc-2.ensures.value in
    let none = first_ready-same c.known.result.now (clock_of log.log) held.ops None clock c.in-None.ensures.taken in
    let short : length log.log < 131072 = omega (arith, ap (λ (r : document.Document). length r.log) c.doc.ensures.value) in
    ap (λ h. settling_of log h c.args.tally.now) c.in-None.ensures.none
    ∙ sym (round-none (settling_of log held c.args.tally.now) short none)

pub returns-in-Ok-clause-next : goal.returns-in-Ok-clause-next
returns-in-Ok-clause-next c =
    let log = c.args.log.now in
    let held = c.args.held.now in
    let before = settling_of log held c.args.tally.now in
    let after = record c.args.tally.now { taken = c.args.tally.now.taken + 1 } in
    let clock = clock_of-same c.known.result.now _ log c.known.ensures c.doc-2.ensures.value in
    let some = first_ready-same c.known.result.now (clock_of log.log) held.ops (Some c.in-Some.op) clock c.in-Some.ensures.taken in
    let short : length log.log < 131072 = omega (arith, ap (λ (r : document.Document). length r.log) c.doc.ensures.value) in
    let others = without_first_ready-same c.known.result.now (clock_of log.log) held c.take_first_ready.new.self clock
    c.take_first_ready.ensures.others in
    ap₂ (λ l h. settling_of l h after) c.in-Ok.ensures.grown others
    ∙ sym (round-some before c.in-Some.op None short some c.in-Ok.ensures.ok)

pub returns-in-Err-clause-next : goal.returns-in-Err-clause-next
returns-in-Err-clause-next c =
    let log = c.args.log.now in
    let held = c.args.held.now in
    let before = settling_of log held c.args.tally.now in
    let after = record c.args.tally.now { dropped = c.args.tally.now.dropped + 1 } in
    let clock = clock_of-same c.known.result.now _ log c.known.ensures c.doc-2.ensures.value in
    let some = first_ready-same c.known.result.now (clock_of log.log) held.ops (Some c.in-Some.op) clock c.in-Some.ensures.taken in
    let short : length log.log < 131072 = omega (arith, ap (λ (r : document.Document). length r.log) c.doc.ensures.value) in
    let others = without_first_ready-same c.known.result.now (clock_of log.log) held c.take_first_ready.new.self clock
    c.take_first_ready.ensures.others in
    let refused : refusal_of log.log c.in-Some.op ≡ Some c.in-Err.field-0 = elim (c.in-Err.ensures.cause) [
      | inl q ↦ q
      | inr q ↦ absurd (omega (arith, q.1, c.requires.enough, c.in-Some.ensures.fewer, short))
    ] in
    ap₂ (λ l h. settling_of l h after) c.in-Err.ensures.err others
    ∙ sym (round-some before c.in-Some.op (Some c.in-Err.field-0) short some refused)

pub returns-in-Ok-clause-enough : goal.returns-in-Ok-clause-enough
returns-in-Ok-clause-enough c = omega (
  arith,
  ap (λ (d : document.Document). d.reserved) c.in-Ok.ensures.grown,
  ap (λ (d : document.Document). length d.log) c.in-Ok.ensures.grown,
  length-append c.args.log.now.log (c.in-Some.op ∷ []),
  c.in-Some.ensures.fewer,
  c.requires.enough,
)

pub returns-in-Err-clause-enough : goal.returns-in-Err-clause-enough
returns-in-Err-clause-enough c = omega (
  arith,
  ap (λ (d : document.Document). d.reserved) c.in-Err.ensures.err,
  ap (λ (d : document.Document). length d.log) c.in-Err.ensures.err,
  c.in-Some.ensures.fewer,
  c.requires.enough,
)
