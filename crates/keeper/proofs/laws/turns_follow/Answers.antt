use Rattle.std.proofs.Common.{◌++◌, arith}
use Rattle.keeper.specs.Turn.{OpensAs}
use Rattle.keeper.proofs.Moments.{started, joined, weaker}
use Rattle.keeper.proofs.TornFiles.{opens_less, opens_longer}
use Rattle.keeper.proofs.laws.turns_follow.Goals as goal

pub returns-clause-none : goal.returns-clause-none
returns-clause-none g c file log k =
    started g.D.Disk.moment g.D.Disk.left_since file.disk (OpensAs file.mark.version log)
    (λ f left. k.opens f (g.met.D.Disk.only_now file.disk f k.is_honest left))

pub returns-clause-more : goal.returns-clause-more
returns-clause-more g c old mid new least next log more first second le =
    let d = g.D.Disk in
    let P = OpensAs least (log ++ more) in
    joined d.moment d.left_since old mid new P
    (weaker d.moment d.left_since old mid (OpensAs least log) P (λ f o. opens_longer least least log more f (omega arith) o) first)
    (weaker d.moment d.left_since mid new (OpensAs next (log ++ more)) P (λ f o. opens_less least next (log ++ more) f le o) second)
