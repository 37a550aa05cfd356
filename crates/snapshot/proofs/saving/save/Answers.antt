-- The text is a log's, which is read back as it.
use Rattle.std.proofs.Common.{◌≡◌, ◌≤◌, ap, subst, arith, length, string_bytes, IsUtf8, rules}
use Rattle.snapshot.specs.Snapshot.{AreInRange, log_text}
use Rattle.snapshot.proofs.Written.{stands_for}
use Rattle.snapshot.proofs.saving.save.Goals as goal

pub returns-clause-stands : goal.returns-clause-stands
returns-clause-stands c =
    let log = c.args.replica.now.log in
    let text : string_bytes c.push_str.new.self ≡ log_text log = search rules in
    let few : length log ≤ 131072 = omega (arith, ap length c.doc-doc.ensures.value, c.version.ensures.within) in
    stands_for log (string_bytes c.push_str.new.self) (subst AreInRange c.doc-doc.ensures.value c.in_ok-push_ops.ensures.in_range)
    c.doc-doc.ensures.lawful few (subst IsUtf8 c.as_str.ensures.value c.as_str.utf8) text
