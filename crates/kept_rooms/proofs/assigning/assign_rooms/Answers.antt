-- Each item that is taken goes to the next room, with a pass that is split off.
use Rattle.std.proofs.Common.{◌≡◌, ◌+◌, ◌∷◌, ◌++◌, ◌∙◌, [], All, take, ap, sym, refl, arith}
use Rattle.std.proofs.lemmas.List.{take_more}
use Rattle.std.proofs.lemmas.Option.{slice_get_within, get_or_from_slice_get}
use Rattle.std.proofs.lemmas.List.Elements.{All-same, All-push}
use Rattle.std.specs.List.{range_with_len}
use Rattle.std.specs.Vec.Iter.{into_iter_len}
use Rattle.shared_room.specs.declared.pass.Pass.{Pass}
use Rattle.shared_room.specs.Views.{left}
use Rattle.ws_server.specs.Halls.{IsHallPassOf}
use Rattle.ws_server.proofs.Opened.{left_after}
use Rattle.ws_server.proofs.Passes.{map_grows}
use Rattle.kept_rooms.specs.declared.assigning.Assigned.{Assigned}
use Rattle.kept_rooms.specs.SeenLogs.{SeeAlike}
use Rattle.kept_rooms.proofs.Opened.{alike_split, draws_split, range_more}
use Rattle.kept_rooms.proofs.assigning.assign_rooms.Goals as goal

pub returns-in_default-push-clause-seen : goal.returns-in_default-push-clause-seen
returns-in_default-push-clause-seen g c =
    (alike_split c.args.hall.now c.args.pass.now c.loop-place.pass c.split.new.pass c.in-Ok.given c.args.count
    c.loop-place.invariant.seen c.in-Ok.ensures.split).0

pub loop-place-preserved : goal.loop-place-preserved
loop-place-preserved g c =
    let items = c.args.items.items in
    let at = c.loop-place.place in
    let before = c.loop-place.all.items in
    let Room : Type 0 = Assigned g.row.T.Denot in
    let room : Room = record { place = at; pass = c.in-Ok.given; item = c.in-Some.item } in
    let here = left_after items at c.in-Some.item _ (sym c.loop-place.invariant.rest ∙ c.in-Some.ensures.items) in
    let less : into_iter_len c.next.new.self + 1 ≡ into_iter_len c.loop-place.rest = c.in-Some.ensures.len in
    let next : take (at + 1) items ≡ take at items ++ c.in-Some.item ∷ [] =
    take_more items at c.in-Some.item (slice_get_within items at c.in-Some.item here.0)
    ∙ ap (λ (d : g.row.T.Denot). take at items ++ d ∷ []) (get_or_from_slice_get items at c.in-Some.item c.in-Some.item here.0) in
    let alike = alike_split c.args.hall.now c.args.pass.now c.loop-place.pass c.split.new.pass c.in-Ok.given c.args.count
    c.loop-place.invariant.seen c.in-Ok.ensures.split in
    let Draws : Room → Type 0 = λ it. All (λ (p : Pass). left p ≡ c.args.count) it.pass.passes.items in
    let P : Room → Type 0 = λ it. IsHallPassOf c.args.hall.now it.pass × SeeAlike c.args.hall.now c.args.pass.now it.pass in
    record {
      rest = here.1;
      left = omega (arith, c.loop-place.invariant.left, less);
      pass = c.in-Ok.ensures.passes.0;
      seen = alike.0;
      places = map_grows (λ (it : Room). it.place) before c.push.new.self.items room (range_with_len 0 at) at
          c.loop-place.invariant.places c.in-Ok-push.ensures.items refl ∙ sym (range_more at);
      items = map_grows (λ (it : Room). it.item) before c.push.new.self.items room (take at items) c.in-Some.item
          c.loop-place.invariant.items c.in-Ok-push.ensures.items refl ∙ sym next;
      passes = All-same P _ _ c.in-Ok-push.ensures.items
          (All-push P before room c.loop-place.invariant.passes (c.in-Ok.ensures.passes.1, alike.1));
      draws = All-same Draws _ _ c.in-Ok-push.ensures.items
          (All-push Draws before room c.loop-place.invariant.draws (draws_split c.args.count _ _ _ _ c.in-Ok.ensures.split));
    }
