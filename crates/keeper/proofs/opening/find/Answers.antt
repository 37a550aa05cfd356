-- The file is clean where nothing stands behind its mark.
use Rattle.std.proofs.Common.{◌≡◌, List, drop, nat_eq, arith, sym, ap, subst, ◌∙◌}
use Rattle.std.proofs.lemmas.Bool.Decides.{nat_tests}
use Rattle.keeper.specs.Kept.{KeepsAt}
use Rattle.keeper.specs.Tail.{IsCutShort, kept_of, tail_of}
use Rattle.keeper.specs.declared.kept.KeptFile.{KeptFile}
use Rattle.keeper.proofs.Tails.{cut_short}
use Rattle.keeper.proofs.opening.find.Goals as goal

pub returns-in-Ok-tail_behind-clause-found : goal.returns-in-Ok-tail_behind-clause-found
returns-in-Ok-tail_behind-clause-found g c h held =
    let d = g.D.Disk in
    let log = c.in-Ok.read.doc.log in
    let found =
    c.in-Ok.ensures.found (nat_eq c.in-Ok.read.mark.length c.len.result) (λ e. grind (arith, nat_tests, e, c.len.ensures)) h held in
    subst (λ (f : KeptFile _). KeepsAt d.honest d.seen d.may_leave d.fresh f.disk f.mark f.is_clean log)
    (sym (c.of-file.ensures.kept ∙ c.new-kept.ensures)) found

pub returns-in-Ok-tail_behind-clause-tail : goal.returns-in-Ok-tail_behind-clause-tail
returns-in-Ok-tail_behind-clause-tail g c h =
    let n = c.in-Ok.read.mark.length in
    let tail = c.in-Ok-tail_behind.tail.items in
    let seen = g.D.Disk.seen c.args.disk in
    let bytes : c.as_slice.result.now ≡ c.in-Ok.read.bytes.items = c.as_slice.ensures.value in
    let short : IsCutShort n tail seen =
    cut_short n tail c.in-Ok.read.bytes.items seen (c.in-Ok.ensures.bytes h) c.in-Ok.ensures.ends
    (subst (λ (f : List _). tail ≡ drop n f) bytes c.in-Ok-tail_behind.ensures.tail) c.in-Ok-tail_behind.ensures.short in
    let marked : (kept_of c.of-file.result).mark.length ≡ n =
    ap (λ (f : KeptFile _). f.mark.length) (c.of-file.ensures.kept ∙ c.new-kept.ensures) in
    subst (λ m. IsCutShort m (tail_of c.of-file.result) seen) (sym marked)
    (subst (λ (t : List _). IsCutShort n t seen) (sym c.of-file.ensures.tail) short)
