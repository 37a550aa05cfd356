-- A turn, for each way in which the next line comes.
use Rattle.std.proofs.Common.{◌<◌, arith}
use Rattle.line_engine.proofs.Arms.{arm_unread, arm_line, arm_long, arm_last, arm_last_long}
use Rattle.line_engine.proofs.engine.serve_next.Goals as goal

pub returns-in_default-clause-turn : goal.returns-in_default-clause-turn
returns-in_default-clause-turn g c =
    arm_unread g.P.Protocol.answers c.LIMIT.result c.args.state.now
    (g.R.Read.remaining c.args.input.now.inner) (g.R.Read.remaining c.next_line.new.input.inner)
    (g.W.Write.contents c.args.output.now.inner)
    c.args.window.now c.next_line.new.window c.in_default.ensures.cuts

pub returns-in-Line-clause-turn : goal.returns-in-Line-clause-turn
returns-in-Line-clause-turn g c =
    arm_line g.P.Protocol.answers c.LIMIT.result c.args.state.now c.serve_line-sent.new.state
    (g.R.Read.remaining c.args.input.now.inner) (g.R.Read.remaining c.next_line.new.input.inner)
    (g.W.Write.contents c.args.output.now.inner) (g.W.Write.contents c.serve_line-sent.new.output.inner)
    c.args.window.now c.next_line.new.window c.bytes.result.now c.advance.new.self c.in-Line.n c.serve_line-sent.result c.goes_on.result
    (rw c.in-Line.is at c.in-Some.ensures.cuts) c.bytes.ensures c.advance.ensures c.serve_line-sent.ensures.sent c.goes_on.ensures

pub returns-in-Long-clause-turn : goal.returns-in-Long-clause-turn
returns-in-Long-clause-turn g c =
    arm_long g.P.Protocol.answers c.LIMIT.result c.args.state.now
    (g.R.Read.remaining c.args.input.now.inner) (g.R.Read.remaining c.next_line.new.input.inner)
    (g.W.Write.contents c.args.output.now.inner) (g.W.Write.contents c.refuse_long.new.output.inner)
    c.args.window.now c.next_line.new.window c.refuse_long.result c.goes_on-in-Long.result
    (λ state line long. g.met.P.Protocol.refuses_long state line (omega (arith, c.LIMIT.ensures, long)))
    (rw c.in-Long.is at c.in-Some.ensures.cuts) c.refuse_long.ensures.sent c.goes_on-in-Long.ensures

pub returns-else-n-eq0-clause-turn : goal.returns-else-n-eq0-clause-turn
returns-else-n-eq0-clause-turn g c =
    let some : 0 < c.in-Last.n = omega arith in
    arm_last g.P.Protocol.answers c.LIMIT.result c.args.state.now c.serve_line.new.state
    (g.R.Read.remaining c.args.input.now.inner) (g.R.Read.remaining c.next_line.new.input.inner)
    (g.W.Write.contents c.args.output.now.inner) (g.W.Write.contents c.serve_line.new.output.inner)
    c.args.window.now c.next_line.new.window c.bytes-in-Last.result.now c.in-Last.n c.serve_line.result c.goes_on-in-Last.result
    (rw c.in-Last.is at c.in-Some.ensures.cuts) (rw c.in-Last.is at c.in-Some.ensures.ends) c.bytes-in-Last.ensures some
    c.serve_line.ensures.sent c.goes_on-in-Last.ensures

pub returns-in-LastLong-clause-turn : goal.returns-in-LastLong-clause-turn
returns-in-LastLong-clause-turn g c =
    arm_last_long g.P.Protocol.answers c.LIMIT.result c.args.state.now
    (g.R.Read.remaining c.args.input.now.inner) (g.R.Read.remaining c.next_line.new.input.inner)
    (g.W.Write.contents c.args.output.now.inner) (g.W.Write.contents c.refuse_long-in-LastLong.new.output.inner)
    c.args.window.now c.next_line.new.window c.refuse_long-in-LastLong.result c.goes_on-in-LastLong.result
    (λ state line long. g.met.P.Protocol.refuses_long state line (omega (arith, c.LIMIT.ensures, long)))
    (rw c.in-LastLong.is at c.in-Some.ensures.cuts) (rw c.in-LastLong.is at c.in-Some.ensures.ends)
    c.refuse_long-in-LastLong.ensures.sent c.goes_on-in-LastLong.ensures
