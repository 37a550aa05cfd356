-- The search behind the bytes that were seen is one over all bytes.
use Rattle.std.proofs.Common.{◌-◌, length, drop, arith, length-drop}
use Rattle.std.proofs.lemmas.List.{take_all}
use Rattle.line_engine.proofs.Held.{find_none, find_some}
use Rattle.line_engine.proofs.window.find_end.Goals as goal

pub returns-in-None : goal.returns-in-None
returns-in-None c =
    let bytes = c.args.bytes.now in
    find_none bytes _ c.args.from (take_all (length bytes - c.args.from) (drop c.args.from bytes)
    (omega (arith, length-drop c.args.from bytes))) c.requires.before c.in-None.ensures

pub returns-in-Some : goal.returns-in-Some
returns-in-Some c =
    let bytes = c.args.bytes.now in
    let f = c.in-Some.ensures in
    find_some bytes _ c.args.from c.in-Some.at c.requires.within
    (take_all (length bytes - c.args.from) (drop c.args.from bytes) (omega (arith, length-drop c.args.from bytes))) c.requires.before
    f.0.high f.0.before f.1
