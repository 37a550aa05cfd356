-- What the look showed is what the document lacks of the log that is seen since.
use Rattle.kept_rooms.proofs.SeenGrow.{grown}
use Rattle.kept_rooms.proofs.Followed.{followed, may_go_on, lacks_memory}
use Rattle.kept_rooms.proofs.following.follow.Goals as goal

pub returns-in-Err-clause-grows : goal.returns-in-Err-clause-grows
returns-in-Err-clause-grows g c = grown c.args.hall.now c.args.at c.version-version.result c.args.pass.now c.look.new.pass c.look.result
    c.look.ensures.looked

pub returns-in-Ok-append_operations-clause-grows : goal.returns-in-Ok-append_operations-clause-grows
returns-in-Ok-append_operations-clause-grows g c = grown c.args.hall.now c.args.at c.version-version.result c.args.pass.now c.look.new.pass
    c.look.result c.look.ensures.looked

pub returns-in-Ok-append_operations-clause-followed : goal.returns-in-Ok-append_operations-clause-followed
returns-in-Ok-append_operations-clause-followed g c begins = followed c.args.hall.now c.args.at c.version-version.result c.args.pass.now
    c.look.new.pass c.in-Ok.look c.args.doc.now.log c.append_operations.new.doc.log c.as_slice.result.now c.in-Ok.ensures.looked
    c.version-version.ensures.value c.as_slice.ensures c.in-Ok-append_operations.ensures.grown begins

pub returns-clause-grows : goal.returns-clause-grows
returns-clause-grows g c = grown c.args.hall.now c.args.at c.version-version.result c.args.pass.now c.look.new.pass c.look.result
    c.look.ensures.looked

pub returns-in-Err-clause-cause : goal.returns-in-Err-clause-cause
returns-in-Err-clause-cause g c over begins = c.in-Err.ensures.looked.6.cause

pub returns-clause-cause : goal.returns-clause-cause
returns-clause-cause g c over begins =
    lacks_memory c.args.doc.now.log c.as_slice.result.now c.in-Err-append_operations.why c.in-Err-append_operations.ensures.cause
    (may_go_on c.args.hall.now c.args.at c.version-version.result c.args.pass.now c.look.new.pass c.in-Ok.look c.args.doc.now.log
    c.as_slice.result.now c.in-Ok.ensures.looked c.look.ensures.pass c.version-version.ensures.value c.as_slice.ensures over begins)
