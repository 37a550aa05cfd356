-- Through a look a pass sees no less.
use Rattle.std.proofs.Common.{refl}
use Rattle.kept_rooms.proofs.Turned.{no_less_at}
use Rattle.kept_rooms.proofs.turn.glance.Goals as goal

pub returns-in-Ok-clause-no_less : goal.returns-in-Ok-clause-no_less
returns-in-Ok-clause-no_less g c = no_less_at c.args.hall.now c.args.at c.args.at 4294967295 c.args.pass.now c.look.new.pass c.look.result
    c.look.ensures.looked refl

pub returns-in-Err-clause-no_less : goal.returns-in-Err-clause-no_less
returns-in-Err-clause-no_less g c = no_less_at c.args.hall.now c.args.at c.args.at 4294967295 c.args.pass.now c.look.new.pass c.look.result
    c.look.ensures.looked refl
