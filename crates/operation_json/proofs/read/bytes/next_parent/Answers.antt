use Rattle.std.proofs.Common.{None, sym, subst}
use Rattle.operation_json.specs.Internal.MemberTokens.{ReadsParent}
use Rattle.operation_json.proofs.MemberTokens.{no_parent}
use Rattle.operation_json.proofs.read.bytes.next_parent.Goals as goal

pub returns-then-take_null : goal.returns-then-take_null
returns-then-take_null c =
    subst (λ ts. ReadsParent ts None c.take_null.new.self) (sym (c.take_null.ensures.yes c.if-take_null.true))
    (no_parent c.take_null.new.self)
