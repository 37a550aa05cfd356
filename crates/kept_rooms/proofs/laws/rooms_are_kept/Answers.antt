-- The first pass has seen no call, and one that is split off what the other has.
use Rattle.std.proofs.Common.{refl}
use Rattle.kept_rooms.proofs.Opened.{opened_file, alike_split, alike_file}
use Rattle.kept_rooms.proofs.Turned.{grown_file}
use Rattle.kept_rooms.proofs.laws.rooms_are_kept.Goals as goal

pub returns-clause-opened : goal.returns-clause-opened
returns-clause-opened g c = opened_file g.D.Disk.honest g.D.Disk.seen g.D.Disk.may_leave g.D.Disk.fresh

pub returns-clause-split : goal.returns-clause-split
returns-clause-split g c hall old new given count = alike_split hall old old new given count (λ at. refl)

pub returns-clause-alike : goal.returns-clause-alike
returns-clause-alike g c = alike_file g.D.Disk.honest g.D.Disk.seen g.D.Disk.may_leave g.D.Disk.fresh

pub returns-clause-grows : goal.returns-clause-grows
returns-clause-grows g c = grown_file g.D.Disk.honest g.D.Disk.seen g.D.Disk.may_leave g.D.Disk.fresh c.grows_with_its_log.ensures
