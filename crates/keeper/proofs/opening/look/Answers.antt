-- What was read is on the disk, and stands for the document's log.
use Rattle.std.proofs.Common.{◌≡◌, ◌∙◌, length, sym, ap}
use Rattle.keeper.proofs.Steps.{found_at}
use Rattle.keeper.proofs.opening.look.Goals as goal

pub returns-in-Ok-clause-found : goal.returns-in-Ok-clause-found
returns-in-Ok-clause-found g c b ended h held =
    let j = c.in-Ok.ensures in
    let is : c.as_slice.result.now ≡ c.in_ok-bytes.bytes.items = c.as_slice.ensures.value in
    found_at g.D.Disk.honest g.D.Disk.seen g.D.Disk.may_leave g.D.Disk.fresh
    c.args.disk.now c.sync.new.self c.read.new.self c.as_slice.result.now
    (record { version = c.version.result; length = c.in-Ok.journal.length; digest = c.in-Ok.journal.digest }) b
    c.in-Ok.journal.doc.log h held
    c.sync.ensures.honest c.sync.ensures.seen c.in_ok-sync.ensures.durable
    c.read.ensures.honest (λ h2. is ∙ c.in_ok-bytes.ensures.bytes h2) c.read.ensures.seen c.read.ensures.fresh c.read.ensures.crash
    j.stands j.ends j.digest c.version.ensures.value (λ e. ended e ∙ ap length (sym is))
