-- A write more sends some of what was left.
use Rattle.std.proofs.Common.{length, ◌<◌, ◌∙◌, arith}
use Rattle.std.proofs.lemmas.Bool.Decides.{nat_tests}
use Rattle.line_engine.specs.Calls.{of_bytes}
use Rattle.line_engine.proofs.Known.{wrote-more}
use Rattle.line_engine.proofs.Making.{writes_once, writes_more}
use Rattle.line_engine.proofs.counted.Counted.write_all.Goals as goal

pub loop-rest-preserved : goal.loop-rest-preserved
loop-rest-preserved g c =
    let i = c.loop-rest.invariant in (
      wrote-more _ _ _ _ _ _ _ c.in-Some.ensures.took.1 i.0.1 i.0.2 c.in-Some.ensures.took.2,
      c.in-Some.ensures.counted
          ∙ i.1,
      c.in-Some.ensures.reads ∙ i.2,
      writes_more (of_bytes g.W.Sink.writes) c.args.self.now.inner c.loop-rest.self.inner
          c.write.new.self.inner c.args.self.now.failures c.loop-rest.self.failures c.write.new.self.failures i.3
          (writes_once g.W.Sink.writes (length c.loop-rest.rest.now) (omega (arith, c.in-Some.ensures.took)) c.loop-rest.self.inner
          c.write.new.self.inner c.loop-rest.self.failures c.write.new.self.failures c.in-Some.ensures.made),
    )

pub returns-in-None-clause-made : goal.returns-in-None-clause-made
returns-in-None-clause-made g c =
    let i = c.loop-rest.invariant in
    let some : 0 < length c.loop-rest.rest.now = grind (arith, nat_tests) in
    writes_more (of_bytes g.W.Sink.writes) c.args.self.now.inner c.loop-rest.self.inner c.write.new.self.inner
    c.args.self.now.failures c.loop-rest.self.failures c.write.new.self.failures i.3
    (writes_once g.W.Sink.writes (length c.loop-rest.rest.now) some c.loop-rest.self.inner c.write.new.self.inner
    c.loop-rest.self.failures c.write.new.self.failures c.in-None.ensures.made)
