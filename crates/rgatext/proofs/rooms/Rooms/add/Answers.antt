-- The document of each room has nothing reserved.
use Rattle.std.proofs.Common.{◌≡◌}
use Rattle.std.proofs.lemmas.List.Elements.{All-same, All-push}
use Rattle.kept_rooms.specs.declared.opening.Opening.{Opening}
use Rattle.rgatext.proofs.rooms.Rooms.add.Goals as goal

pub returns-clause-unreserved : goal.returns-clause-unreserved
returns-clause-unreserved c =
    All-same (λ (it : Opening). it.doc.reserved ≡ 0) _ _ c.in_ok-push-2.ensures.items
    (All-push (λ (it : Opening). it.doc.reserved ≡ 0) c.args.self.now.openings.items c.args.room.opening
    c.requires.unreserved c.requires.room)
