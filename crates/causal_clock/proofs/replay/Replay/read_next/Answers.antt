use Rattle.std.proofs.Common.{◌≡◌, ◌+◌, ◌<◌, ◌∷◌, ◌++◌, [], ◌∙◌, ap, sym, subst, arith, length}
use Rattle.opid.specs.Delivery.{count_of}
use Rattle.causal_clock.specs.Logged.{Walk}
use Rattle.causal_clock.specs.Internal.Packed.{logged}
use Rattle.causal_clock.specs.Internal.Replayed.{between, AreAllSeen}
use Rattle.causal_clock.proofs.Replaying.{left, left_within, passed_more, all_more}
use Rattle.causal_clock.proofs.replay.Replay.read_next.Goals as goal

pub op_after-requires-clause-within : goal.op_after-requires-clause-within
op_after-requires-clause-within g c =
    left_within c.self.inside.entries.now c.self.inside.rows.now c.self.inside.place c.args.self.now.left
    (ap (λ (w : Walk). w.left) c.self.view_is) c.requires

-- the same, after the call
within : (g : _) (c : goal.After-op_after g) → c.self.inside.place < length c.self.inside.rows.now
within g c =
    left_within c.self.inside.entries.now c.self.inside.rows.now c.self.inside.place c.args.self.now.left
    (ap (λ (w : Walk). w.left) c.self.view_is) c.requires

passed : (g : _) (c : goal.After-op_after g)
    → between c.self.inside.start (c.self.inside.place + 1) (logged c.self.inside.entries.now c.self.inside.rows.now)
    ≡ between c.self.inside.start c.self.inside.place (logged c.self.inside.entries.now c.self.inside.rows.now) ++ c.op_after.result ∷ []
passed g c =
    passed_more (logged c.self.inside.entries.now c.self.inside.rows.now) c.self.inside.start c.self.inside.place c.op_after.result
    c.self.invariant.order c.op_after.ensures.op

pub invariant_of-self : goal.invariant_of-self
invariant_of-self g c =
    let log = logged c.self.inside.entries.now c.self.inside.rows.now in
    let before = between c.self.inside.start c.self.inside.place log in
    let all : AreAllSeen c.op_after.new.seen (before ++ c.op_after.result ∷ []) =
    subst (λ v. AreAllSeen v (before ++ c.op_after.result ∷ [])) (sym c.op_after.ensures.kept.1)
    (all_more c.self.inside.seen before c.op_after.result c.op_after.ensures.kept.0 c.op_after.ensures.site c.self.invariant.all) in
    record {
      lines = c.self.invariant.lines;
      order = omega (arith, c.self.invariant.order);
      within = omega (arith, within g c);
      kept = c.op_after.ensures.seen;
      all = subst (AreAllSeen c.op_after.new.seen) (sym (passed g c)) all;
    }

-- what was left is the operation and what is left then
pub returns-clause-value : goal.returns-clause-value
returns-clause-value g c =
    sym (ap (λ (w : Walk). w.left) c.self.view_is)
    ∙ left c.self.inside.entries.now c.self.inside.rows.now c.self.inside.place c.op_after.result (within g c) c.op_after.ensures.op

pub returns-clause-passed : goal.returns-clause-passed
returns-clause-passed g c =
    passed g c ∙ ap (λ (w : Walk). w.passed ++ c.op_after.result ∷ []) c.self.view_is

pub returns-clause-next : goal.returns-clause-next
returns-clause-next g c many =
    let before = c.self.invariant.all c.op_after.result.site
    (omega (arith, many, ap (λ (w : Walk). count_of w.passed c.op_after.result.site) c.self.view_is)) in
    c.op_after.ensures.next before.0 before.1
