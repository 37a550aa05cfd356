-- The rooms so far have their items and passes, the other items are left, and no pass has seen more.
use Rattle.std.proofs.Common.{◌≡◌, ◌+◌, length, map, take, drop, All}
use Rattle.std.specs.List.{range_with_len}
use Rattle.std.specs.Vec.Iter.{into_iter_items, into_iter_len}
use Rattle.shared_room.specs.declared.pass.Pass.{Pass}
use Rattle.shared_room.specs.Views.{left as draws_of}
use Rattle.ws_server.specs.Halls.{IsHallPassOf}
use Rattle.kept_rooms.specs.declared.assigning.Assigned.{Assigned}
use Rattle.kept_rooms.specs.SeenLogs.{SeeAlike}
use Rattle.kept_rooms.proofs.assigning.assign_rooms.Given as goal

abbrev pub invariant-loop-place : goal.invariant-loop-place
invariant-loop-place g l = record {
  rest : into_iter_items l.rest ≡ drop l.place l.fn.items.items;
  left : into_iter_len l.rest + l.place ≡ length l.fn.items.items;
  pass : IsHallPassOf l.hall l.pass;
  seen : SeeAlike l.hall l.initial.pass l.pass;
  places : map (λ it. it.place) l.all.items ≡ range_with_len 0 l.place;
  items : map (λ it. it.item) l.all.items ≡ take l.place l.fn.items.items;
  passes : All (λ it. IsHallPassOf l.hall it.pass × SeeAlike l.hall l.initial.pass it.pass) l.all.items;
  draws : All (λ (it : Assigned g.row.T.Denot). All (λ (p : Pass). draws_of p ≡ l.count) it.pass.passes.items) l.all.items;
}
