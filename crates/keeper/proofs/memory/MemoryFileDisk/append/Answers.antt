-- What was written is one more call, in whole or in part.
use Rattle.std.proofs.Common.{◌≡◌, ◌++◌, take, length, sym, ap, ◌∙◌, arith}
use Rattle.std.proofs.Math.Seq.{take-length}
use Rattle.std.proofs.lemmas.Grind.{common_steps}
use Rattle.keeper.specs.Memory.{seen_after}
use Rattle.keeper.specs.declared.memory.Call.TheVariants.{Append}
use Rattle.keeper.proofs.Replays.{seen_more, elapses_to, append_torn}
use Rattle.keeper.proofs.memory.MemoryFileDisk.append.Goals as goal

pub returns-then-next-clause-keeps : goal.returns-then-next-clause-keeps
returns-then-next-clause-keeps c still =
    let self = c.args.self.now in
    let p = c.in_ok-push_append.ensures.ok in
    (p.0.items, ap (seen_after self.first.items) p.2 ∙ seen_more self.first.items self.calls.items (Append p.0))

pub returns-then-next-clause-crash : goal.returns-then-next-clause-crash
returns-then-next-clause-crash c still only d =
    let self = c.args.self.now in
    let p = c.in_ok-push_append.ensures.ok in
    let same : p.0.items ≡ take c.min.result c.args.bytes.now = grind (arith, common_steps) in
    append_torn c.min.result self.first.items self.calls.items c.push_append.new.calls.items p.0 c.args.bytes.now same p.2 only d

pub returns-then-next-clause-time : goal.returns-then-next-clause-time
returns-then-next-clause-time c still =
    let self = c.args.self.now in
    let p = c.in_ok-push_append.ensures.ok in
    elapses_to self.first.items self.calls.items c.push_append.new.calls.items (Append p.0) p.2

pub returns-clause-written : goal.returns-clause-written
returns-clause-written c still =
    let self = c.args.self.now in
    let p = c.in_ok-push_append-2.ensures.ok in
    ap (seen_after self.first.items) p.2 ∙ seen_more self.first.items self.calls.items (Append p.0)
    ∙ ap (λ t. seen_after self.first.items self.calls.items ++ t) p.1

pub returns-clause-keeps : goal.returns-clause-keeps
returns-clause-keeps c still =
    let self = c.args.self.now in
    let p = c.in_ok-push_append-2.ensures.ok in
    (p.0.items, ap (seen_after self.first.items) p.2 ∙ seen_more self.first.items self.calls.items (Append p.0))

pub returns-clause-crash : goal.returns-clause-crash
returns-clause-crash c still only d =
    let self = c.args.self.now in
    let bytes = c.args.bytes.now in
    let p = c.in_ok-push_append-2.ensures.ok in
    append_torn (length bytes) self.first.items self.calls.items c.push_append-2.new.calls.items p.0 bytes
    (p.1 ∙ sym (take-length bytes)) p.2 only d

pub returns-clause-time : goal.returns-clause-time
returns-clause-time c still =
    let self = c.args.self.now in
    let p = c.in_ok-push_append-2.ensures.ok in
    elapses_to self.first.items self.calls.items c.push_append-2.new.calls.items (Append p.0) p.2
