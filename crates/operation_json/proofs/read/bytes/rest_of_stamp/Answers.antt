use Rattle.std.proofs.Common.{◌∙◌, sym}
use Rattle.operation_json.proofs.MemberTokens.{stamp_read}
use Rattle.operation_json.proofs.read.bytes.rest_of_stamp.Goals as goal

pub returns-in-Ok : goal.returns-in-Ok
returns-in-Ok c =
    stamp_read c.args.reader.now c.rest_of_pair.new.reader (c.in_ok-sum.sum, c.in_ok-sum.number) c.in-Ok.site c.in_ok-sum.ensures
    (sym c.in-Ok.is ∙ c.check_site.ensures)
