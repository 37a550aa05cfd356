-- The new document's operations are all that the file lacks, so it keeps all of its log.
use Rattle.std.proofs.Common.{◌≡◌, ◌≤◌, ◌∙◌, [], ℕ, length, drop, ap, sym, subst, arith}
use Rattle.std.proofs.lemmas.List.{take_all}
use Rattle.journal.specs.Journal.{StandsFor}
use Rattle.renewal.proofs.Written.{drop_none, copied_all}
use Rattle.renewal.proofs.file.renew_into.Goals as goal

pub returns-in-Ok-keep-clause-kept : goal.returns-in-Ok-keep-clause-kept
returns-in-Ok-keep-clause-kept g c is =
    let log = c.in-Ok.new.log in
    let none : c.args.file.now.mark.version ≡ 0 = omega (arith, is.front.begins) in
    let lacks : c.as_slice.result.now ≡ drop c.args.file.now.mark.version log =
    c.as_slice.ensures.value ∙ c.in-Ok-copy_ops.ensures ∙ copied_all log c.version.result c.version.ensures.value
    ∙ sym (drop_none log) ∙ ap (λ n. drop n log) (sym none) in
    (c.in-Ok-keep.ensures.turned log
    (c.grows_with_its_log.ensures c.args.file.now [] log is c.in-Ok.ensures.lawful (omega (arith, c.version.ensures.within))) lacks).0

pub returns-in-Ok-keep-clause-version : goal.returns-in-Ok-keep-clause-version
returns-in-Ok-keep-clause-version g c is =
    let log = c.in-Ok.new.log in
    let none : c.args.file.now.mark.version ≡ 0 = omega (arith, is.front.begins) in
    let lacks : c.as_slice.result.now ≡ drop c.args.file.now.mark.version log =
    c.as_slice.ensures.value ∙ c.in-Ok-copy_ops.ensures ∙ copied_all log c.version.result c.version.ensures.value
    ∙ sym (drop_none log) ∙ ap (λ n. drop n log) (sym none) in
    c.in-Ok-keep.ensures.kept log
    (c.grows_with_its_log.ensures c.args.file.now [] log is c.in-Ok.ensures.lawful (omega (arith, c.version.ensures.within))) lacks

pub returns-in-Ok-keep-clause-whole : goal.returns-in-Ok-keep-clause-whole
returns-in-Ok-keep-clause-whole g c is left may =
    let log = c.in-Ok.new.log in
    let opens = (returns-in-Ok-keep-clause-kept g c is).opens left may in
    let all = returns-in-Ok-keep-clause-version g c is in
    subst (StandsFor left) (take_all opens.count log (omega (arith, opens.at_least, all))) opens.stands
