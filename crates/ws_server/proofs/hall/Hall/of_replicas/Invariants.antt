use Rattle.std.proofs.Common.{◌≡◌, ◌+◌, length, map, take, drop, string_bytes}
use Rattle.std.specs.Vec.Iter.{into_iter_items, into_iter_len}
use Rattle.room_model.specs.Machine.{room_over}
use Rattle.shared_room.specs.Views.{view, opening}
use Rattle.ws_server.specs.Halls.{ArePassesOf, first_view}
use Rattle.ws_server.proofs.hall.Hall.of_replicas.Given as goal

-- the names so far have their rooms and passes, and the other replicas are left
abbrev pub invariant-loop-name : goal.invariant-loop-name
invariant-loop-name l = record {
  rest : into_iter_items l.rest ≡ drop l.name-index l.fn.replicas.items;
  left : into_iter_len l.rest + l.name-index ≡ length l.names;
  passes : ArePassesOf (map (λ e. e.1) l.rooms.entries) l.passes.items;
  names : map (λ e. string_bytes e.0) l.rooms.entries ≡ map string_bytes (take l.name-index l.names);
  opened : map opening (map (λ e. e.1) l.rooms.entries) ≡ map (λ r. room_over r.site r.log) (take l.name-index l.fn.replicas.items);
  views : map view l.passes.items ≡ map (λ name. first_view) (map string_bytes (take l.name-index l.names));
}
