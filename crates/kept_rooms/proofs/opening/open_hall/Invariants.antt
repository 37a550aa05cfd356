-- The rooms so far have their replicas, no log has an operation of its site, and the other rooms are left.
use Rattle.std.proofs.Common.{◌≡◌, ◌+◌, length, map, take, drop, All}
use Rattle.std.specs.Vec.Iter.{into_iter_items, into_iter_len}
use Rattle.snapshot.specs.Snapshot.{LacksSite}
use Rattle.kept_rooms.specs.Openings.{replica_over}
use Rattle.kept_rooms.proofs.opening.open_hall.Given as goal

abbrev pub invariant-loop-place : goal.invariant-loop-place
invariant-loop-place l = record {
  rest : into_iter_items l.rest ≡ drop l.place l.fn.openings.items;
  left : into_iter_len l.rest + l.place ≡ length l.fn.openings.items;
  made : l.replicas.items ≡ map replica_over (take l.place l.fn.openings.items);
  unused : All (λ it. LacksSite it.site it.doc.log) (take l.place l.fn.openings.items);
}
