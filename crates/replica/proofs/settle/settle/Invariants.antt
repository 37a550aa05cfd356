-- What the loop of rounds keeps.
use Rattle.std.proofs.Common.{◌≡◌, ◌+◌, ◌-◌, ◌≤◌, length}
use Rattle.opid.specs.Lawful.{IsLawful}
use Rattle.opid.specs.Delivered.{rounds, settle}
use Rattle.replica.specs.Internal.Kept.{settling_of, HasReserved, start_of}
use Rattle.replica.proofs.settle.settle.Given as goal

-- as many rounds as are left lead to the end
abbrev pub invariant-rounds : goal.invariant-rounds
invariant-rounds l = record {
  leads : rounds (l._i-end - l._i) (settling_of l.log l.held l.tally) ≡ settle (start_of l.fn.log l.fn.held);
  enough : HasReserved (length l.held.ops) l.log;
  less : l.log.reserved + l.tally.taken ≡ l.fn.log.reserved + 1;
  longer : length l.log.log + 1 ≡ length l.fn.log.log + l.tally.taken;
  held : l.held.reserved ≡ l.fn.held.reserved;
  lawful : IsLawful l.log.log;
  taken : l.tally.taken ≤ l._i + 1;
  dropped : l.tally.dropped ≤ l._i;
}
