use Rattle.std.proofs.Common.{◌≡◌, ◌+◌, ◌<◌, length, arith, ◌∷◌, [], map, take, string_bytes, refl, sym, ap, ◌∙◌}
use Rattle.std.proofs.lemmas.List.{map-append}
use Rattle.std.proofs.lemmas.Option.{slice_get_read}
use Rattle.std.proofs.lemmas.List.Elements.{All-head, All-same, All-drop}
use Rattle.std.specs.Vec.Iter.{into_iter_len}
use Rattle.indexmap.proofs.CallerLemmas.{insert_entry-new}
use Rattle.opid.specs.Delivered.{ReplicaState}
use Rattle.room_model.specs.Machine.{room_over}
use Rattle.shared_room.specs.Views.{view, opening}
use Rattle.ws_server.specs.Halls.{first_view}
use Rattle.ws_server.proofs.Passes.{hall_grows, map_grows, map_next}
use Rattle.ws_server.proofs.Opened.{left_after}
use Rattle.ws_server.proofs.hall.Hall.of_replicas.Goals as goal

pub over-requires : goal.over-requires
over-requires c =
    let P : ReplicaState → Type 0 = λ r. r.held ≡ [] in
    let replicas = c.args.replicas.items in
    let at = c.loop-name.name-index in
    let left = sym c.loop-name.invariant.rest ∙ c.in-Some.ensures.items in
    All-head P c.in-Some.replica _ (All-same P _ _ (sym left) (All-drop P at replicas c.requires.none_held))

pub loop-name-preserved : goal.loop-name-preserved
loop-name-preserved c =
    let es = c.loop-name.rooms.entries in
    let es' = c.insert.new.self.entries in
    let key = c.in_ok-clone.field-0 in
    let room = c.in_ok-room.room in
    let replicas = c.args.replicas.items in
    let at = c.loop-name.name-index in
    let here = left_after replicas at c.in-Some.replica _ (sym c.loop-name.invariant.rest ∙ c.in-Some.ensures.items) in
    let less : into_iter_len c.next.new.self + 1 ≡ into_iter_len c.loop-name.rest = c.in-Some.ensures.len in
    let grown = c.in_ok-insert.ensures.entries ∙ insert_entry-new _ c.loop-name.rooms key room
    (sym c.in_ok-insert.ensures.old ∙ c.in-None.is) in
    let names = map string_bytes (take at c.args.names.now) in
    let test = c.loop-name-test.true in
    let within : at < length c.args.names.now = omega arith in
    let next = map_next string_bytes c.args.names.now at c.name-item.result
    (slice_get_read c.args.names.now (length c.args.names.now) at c.name-item.result refl within c.name-item.is) in
    let name = string_bytes c.name-item.result in
    let same : string_bytes key ≡ name = c.in_ok-clone.ensures.cases in
    let opened : opening room ≡ room_over c.in-Some.replica.site c.in-Some.replica.log =
    c.in_ok-room.ensures.opening ∙ ap (λ a. a.opening) c.over.ensures in
    let ps = c.loop-name.passes.items in
    let rooms = map_grows (λ e. e.1) es es' (key, room) (map (λ e. e.1) es) room refl grown refl in
    record {
      rest = here.1;
      left = omega (arith, c.loop-name.invariant.left, less);
      passes = hall_grows es es' key room ps c.push.new.self.items c.in_ok-room.pass c.loop-name.invariant.passes grown
          c.in_ok-push.ensures.items c.in_ok-room.ensures.pass;
      names = map_grows (λ e. string_bytes e.0) es es' (key, room) names name c.loop-name.invariant.names grown same ∙ sym next;
      opened = map_grows opening (map (λ e. e.1) es) (map (λ e. e.1) es') room
          (map (λ r. room_over r.site r.log) (take at replicas)) (room_over c.in-Some.replica.site c.in-Some.replica.log)
          c.loop-name.invariant.opened rooms opened
          ∙ sym (map_next (λ r. room_over r.site r.log) replicas at c.in-Some.replica here.0);
      views = map_grows view ps c.push.new.self.items c.in_ok-room.pass
          (map (λ n. first_view) names) first_view c.loop-name.invariant.views c.in_ok-push.ensures.items c.in_ok-room.ensures.opened
          ∙ sym (ap (map (λ n. first_view)) next ∙ map-append (λ n. first_view) names (name ∷ []));
    }
