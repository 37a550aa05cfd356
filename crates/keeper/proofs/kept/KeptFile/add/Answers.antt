-- The lines are those of a turn: all of a clean file was hashed before them.
use Rattle.std.proofs.Common.{◌≡◌, ◌⊎◌, ℕ, ◌++◌, List, inl, inr, length, take, string_bytes, arith, sym, ap, ◌∙◌, subst}
use Rattle.std.proofs.lemmas.List.{take_all}
use Rattle.std.proofs.lemmas.Result.{on_ok_weaker}
use Rattle.sha2.specs.Hashers.{Holds256}
use Rattle.journal.specs.Journal.{AreLinesOf}
use Rattle.journal.specs.declared.mark.Mark.{Mark}
use Rattle.keeper.proofs.Steps.{turn_is, one_or_other}
use Rattle.keeper.proofs.kept.KeptFile.add.Goals as goal

pub returns-clause-turned : goal.returns-clause-turned
returns-clause-turned g c clear log k is =
    let self = c.args.self.now in
    let file = g.D.Disk.seen self.disk in
    let next : Mark = record { version = c.saturating_add-version.result; length = c.in-Some.length; digest = c.in-Ok.lines.digest } in
    let whole : take self.mark.length file ≡ file = take_all self.mark.length file (omega (arith, (k.clean clear).whole)) in
    let held : Holds256 self.mark.digest file = subst (Holds256 self.mark.digest) whole k.hashed in
    let text : string_bytes c.in-Ok.lines.text ≡ c.as_bytes.result.now = sym c.as_bytes.ensures.value in
    let turn = turn_is file self.mark next log c.args.ops.now c.as_bytes.result.now
    (subst (λ (t : List ℕ). AreLinesOf file self.mark.version c.args.ops.now t) text (c.in-Ok.ensures.lines file held))
    (omega (arith, c.saturating_add-version.ensures, c.if-version-gt-MAX_OPERATIONS.false))
    (omega (arith, c.in-Some.ensures, c.len.ensures, c.as_bytes.ensures.len))
    (subst (λ (t : List ℕ). Holds256 c.in-Ok.lines.digest (file ++ t)) text (c.in-Ok.ensures.digest file held)) is k.front.begins in
    let both = c.write.ensures.keeps log k turn clear in
    let mark : (c.write.new.self.mark ≡ next) ⊎ (c.write.new.self.mark ≡ self.mark) =
    one_or_other c.write.result _ _ c.write.ensures.kept c.write.ensures.failed in (
      both.0,
      elim mark [ inl e ↦ inl (ap (λ (m : Mark). m.version) e ∙ turn.version) | inr e ↦ inr e ],
      both.1,
    )

pub returns-clause-written : goal.returns-clause-written
returns-clause-written g c =
    on_ok_weaker c.write.result (λ written clear log k.
    let self = c.args.self.now in
    let file = g.D.Disk.seen self.disk in
    let whole : take self.mark.length file ≡ file = take_all self.mark.length file (omega (arith, (k.clean clear).whole)) in
    let held : Holds256 self.mark.digest file = subst (Holds256 self.mark.digest) whole k.hashed in
    let text : string_bytes c.in-Ok.lines.text ≡ c.as_bytes.result.now = sym c.as_bytes.ensures.value in
    record {
      lines = c.as_bytes.result.now;
      are = subst (λ (f : List ℕ). AreLinesOf f self.mark.version c.args.ops.now c.as_bytes.result.now) (sym whole)
          (subst (λ (t : List ℕ). AreLinesOf file self.mark.version c.args.ops.now t) text (c.in-Ok.ensures.lines file held));
      is = written k.is_honest ∙ ap (λ (f : List ℕ). f ++ c.as_bytes.result.now) (sym whole);
    }) c.write.ensures.written
