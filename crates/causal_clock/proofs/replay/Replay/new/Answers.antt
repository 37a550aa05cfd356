use Rattle.std.proofs.Common.{None, arith, replicate}
use Rattle.causal_clock.specs.Internal.Packed.{logged}
use Rattle.causal_clock.specs.Internal.Replayed.{between}
use Rattle.causal_clock.proofs.Replaying.{none_seen, none_passed, all_none}
use Rattle.causal_clock.proofs.replay.Replay.new.Goals as goal

pub invariant_of-result : goal.invariant_of-result
invariant_of-result c =
    let log = logged c.args.entries.now c.args.rows.now in
    record {
      lines = c.requires.rows;
      order = omega arith;
      within = c.requires.place;
      kept = none_seen log c.args.place;
      all = all_none (replicate 32 None) (between c.args.place c.args.place log) (none_passed log c.args.place);
    }
