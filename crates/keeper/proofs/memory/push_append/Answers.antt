use Rattle.std.proofs.Common.{◌≡◌, rules}
use Rattle.keeper.proofs.memory.push_append.Goals as goal

pub returns-clause-ok : goal.returns-clause-ok
returns-clause-ok c =
    let same : c.in_ok-copy.copy.items ≡ c.args.bytes.now = search rules in
    (c.in_ok-copy.copy, same, c.in_ok-push.ensures.items)
