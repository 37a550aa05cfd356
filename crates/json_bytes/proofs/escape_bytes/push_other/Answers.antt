use Rattle.std.proofs.Common.{◌≡◌, ◌∙◌, refl, sym, subst, arith}
use Rattle.std.proofs.lemmas.Grind.{common_steps}
use Rattle.json.specs.Print.{escape_letter}
use Rattle.json_bytes.proofs.Escapes.{escaped, ascii_escape, letter_escape, number_escape}
use Rattle.json_bytes.proofs.escape_bytes.push_other.Goals as goal

pub returns-then-ch-ge128 : goal.returns-then-ch-ge128
returns-then-ch-ge128 c =
    rw (escaped c.args.ch (omega (arith, c.if-ch-ge128.true)) (λ e. absurd (omega (arith, e, c.if-ch-ge128.true)))
    (λ e. absurd (omega (arith, e, c.if-ch-ge128.true)))) (grind (arith, common_steps))

pub returns-then-letter-gt0 : goal.returns-then-letter-gt0
returns-then-letter-gt0 c =
    rw (letter_escape c.args.ch c.short_escape-letter.result (omega (arith, c.if-ch-ge128.false)) (sym c.short_escape-letter.ensures)
    c.if-letter-gt0.true) (grind (arith, common_steps))

pub returns-then-ch-ge32 : goal.returns-then-ch-ge32
returns-then-ch-ge32 c =
    let quote : c.args.ch ≡ 34 → ⊥ = λ e.
    let some : escape_letter c.args.ch ≡ 34 = subst (λ x. escape_letter x ≡ 34) (sym e) refl in
    omega (arith, some, c.short_escape-letter.ensures, c.if-letter-gt0.false) in
    let backslash : c.args.ch ≡ 92 → ⊥ = λ e.
    let some : escape_letter c.args.ch ≡ 92 = subst (λ x. escape_letter x ≡ 92) (sym e) refl in
    omega (arith, some, c.short_escape-letter.ensures, c.if-letter-gt0.false) in
    rw (ascii_escape c.args.ch (omega (arith, c.if-ch-ge128.false)) c.if-ch-ge32.true quote backslash) (grind (arith, common_steps))

pub returns : goal.returns
returns c =
    let none : escape_letter c.args.ch ≡ 0 = sym c.short_escape-letter.ensures ∙ omega (arith, c.if-letter-gt0.false) in
    rw (number_escape c.args.ch (omega (arith, c.if-ch-ge32.false)) none) (grind (arith, common_steps))
