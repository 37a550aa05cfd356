use Rattle.std.proofs.Common.{◌≡◌, ◌≤◌, inl, inr, ◌∙◌, ap, length, take, arith}
use Rattle.std.proofs.lemmas.List.{take_all}
use Rattle.std.proofs.lemmas.Result.{IfOk-weaker, IfErr-weaker}
use Rattle.std.specs.Str.{chars}
use Rattle.opid.specs.Reading.{reading}
use Rattle.renewal.proofs.Fewer.{reads_fewer}
use Rattle.renewal.proofs.renewal.renew.Goals as goal

pub returns-clause-shorter : goal.returns-clause-shorter
returns-clause-shorter c =
    let log = c.args.doc.now.log in
    let whole : take c.version.result log ≡ log = take_all c.version.result log (omega (arith, c.version.ensures.value)) in
    let text : chars c.as_str.result.now ≡ reading log = c.as_str.ensures.value ∙ c.in_ok-text.ensures.ok ∙ ap reading whole in
    IfOk-weaker c.type_text.result _ _ (λ new e. omega (arith, e, ap length text, reads_fewer log c.version.ensures.lawful))
    c.type_text.ensures.count

pub returns-clause-memory : goal.returns-clause-memory
returns-clause-memory c =
    let log = c.args.doc.now.log in
    let whole : take c.version.result log ≡ log = take_all c.version.result log (omega (arith, c.version.ensures.value)) in
    let text : chars c.as_str.result.now ≡ reading log = c.as_str.ensures.value ∙ c.in_ok-text.ensures.ok ∙ ap reading whole in
    let few : length (chars c.as_str.result.now) ≤ 131072 =
    omega (arith, ap length text, reads_fewer log c.version.ensures.lawful, c.version.ensures.within) in
    IfErr-weaker c.type_text.result _ _ (λ e h. elim h [
      | inl full ↦ absurd (omega (arith, few, full.1))
      | inr memory ↦ memory.0
    ]) c.type_text.ensures.cause
