-- What the look showed is what the file lacks of the log that is seen since.
use Rattle.std.proofs.Common.{inr, refl}
use Rattle.kept_rooms.specs.SeenLogs.{seen_log}
use Rattle.kept_rooms.proofs.Turned.{lacking, turned, tells, no_less_at}
use Rattle.kept_rooms.proofs.turn.keep_turn.Goals as goal

pub returns-in-Err-clause-turned : goal.returns-in-Err-clause-turned
returns-in-Err-clause-turned g c is =
    (is, inr refl, c.turns_follow.ensures.none c.args.file.now (seen_log c.args.hall.now c.args.file.now.room c.look.new.pass) is.keeps)

pub returns-in-Err-clause-no_less : goal.returns-in-Err-clause-no_less
returns-in-Err-clause-no_less g c = no_less_at c.args.hall.now c.room-at.result c.args.file.now.room c.version.result c.args.pass.now
    c.look.new.pass c.look.result c.look.ensures.looked c.room-at.ensures

pub returns-in-Ok-keep-clause-turned : goal.returns-in-Ok-keep-clause-turned
returns-in-Ok-keep-clause-turned g c is =
    turned g.D.Disk.honest g.D.Disk.seen g.D.Disk.may_leave g.D.Disk.fresh g.D.Disk.moment g.D.Disk.left_since c.args.hall.now
    c.look.new.pass c.args.file.now c.keep.new.self c.keep.ensures.room is.within is.over
    (c.keep.ensures.turned (seen_log c.args.hall.now c.args.file.now.room c.look.new.pass) is.keeps
    (lacking c.args.hall.now c.room-at.result c.args.file.now.room c.version.result c.args.file.now.mark.version c.args.pass.now
    c.look.new.pass c.in-Ok.look c.as_slice.result.now c.in-Ok.ensures.looked c.room-at.ensures c.version.ensures c.as_slice.ensures))

pub returns-in-Ok-keep-clause-kept : goal.returns-in-Ok-keep-clause-kept
returns-in-Ok-keep-clause-kept g c is =
    c.in-Ok-keep.ensures.kept (seen_log c.args.hall.now c.args.file.now.room c.look.new.pass) is.keeps
    (lacking c.args.hall.now c.room-at.result c.args.file.now.room c.version.result c.args.file.now.mark.version c.args.pass.now
    c.look.new.pass c.in-Ok.look c.as_slice.result.now c.in-Ok.ensures.looked c.room-at.ensures c.version.ensures c.as_slice.ensures)

pub returns-in-Ok-keep-clause-version : goal.returns-in-Ok-keep-clause-version
returns-in-Ok-keep-clause-version g c = tells c.args.hall.now c.room-at.result c.args.file.now.room c.version.result c.args.pass.now
    c.look.new.pass c.in-Ok.look c.in-Ok.ensures.looked c.room-at.ensures

pub returns-in-Ok-keep-clause-no_less : goal.returns-in-Ok-keep-clause-no_less
returns-in-Ok-keep-clause-no_less g c = no_less_at c.args.hall.now c.room-at.result c.args.file.now.room c.version.result c.args.pass.now
    c.look.new.pass c.look.result c.look.ensures.looked c.room-at.ensures

pub returns-in-Err-keep-clause-turned : goal.returns-in-Err-keep-clause-turned
returns-in-Err-keep-clause-turned g c is =
    turned g.D.Disk.honest g.D.Disk.seen g.D.Disk.may_leave g.D.Disk.fresh g.D.Disk.moment g.D.Disk.left_since c.args.hall.now
    c.look.new.pass c.args.file.now c.keep.new.self c.keep.ensures.room is.within is.over
    (c.keep.ensures.turned (seen_log c.args.hall.now c.args.file.now.room c.look.new.pass) is.keeps
    (lacking c.args.hall.now c.room-at.result c.args.file.now.room c.version.result c.args.file.now.mark.version c.args.pass.now
    c.look.new.pass c.in-Ok.look c.as_slice.result.now c.in-Ok.ensures.looked c.room-at.ensures c.version.ensures c.as_slice.ensures))

pub returns-in-Err-keep-clause-no_less : goal.returns-in-Err-keep-clause-no_less
returns-in-Err-keep-clause-no_less g c = no_less_at c.args.hall.now c.room-at.result c.args.file.now.room c.version.result c.args.pass.now
    c.look.new.pass c.look.result c.look.ensures.looked c.room-at.ensures
