use Rattle.keeper.proofs.Steps.{keeps_longer}
use Rattle.keeper.proofs.laws.grows_with_its_log.Goals as goal

pub returns : goal.returns
returns g c file log more =
    keeps_longer g.D.Disk.honest g.D.Disk.seen g.D.Disk.may_leave g.D.Disk.fresh file.disk file.mark file.is_clean log more
