-- A plain numeral is read as the number that it writes.
use Rattle.std.proofs.Common.{◌≡◌, true, false, sym, subst, ◌∙◌, decimal, IsUtf8, List, ℕ, ◌<◌, ◌^◌, Result, Ok, Err, arith}
use Rattle.std.specs.Prelude.{IfOk, IfErr, IfSome, IfNone, Option}
use Rattle.std.specs.Result.{result_ok}
use Rattle.std.specs.Str.Parse.{ParsesUnsigned}
use Rattle.commands.specs.Internal.Words.{IsPlainNumber}
use Rattle.commands.proofs.Words.{decimal_is_plain, number_read, number_not_read}
use Rattle.operation_json.proofs.PackedUtf8.{number_text}
use Rattle.commands.proofs.script.read_number.Goals as goal

some_where_ok : {E : Type 0} (P : ℕ → Type 0) (r : Result ℕ E) (o : Option ℕ) → o ≡ result_ok r → IfOk r P → IfSome o P
some_where_ok P (Ok n) o e h = subst (λ (q : Option ℕ). IfSome q P) (sym e) h
some_where_ok P (Err d) o e h = subst (λ (q : Option ℕ). IfSome q P) (sym e) tt

none_where_err : {E : Type 0} (P : Type 0) (r : Result ℕ E) (o : Option ℕ) → o ≡ result_ok r → IfErr r (λ e. P) → IfNone o P
none_where_err P (Ok n) o e h = subst (λ (q : Option ℕ). IfNone q P) (sym e) tt
none_where_err P (Err d) o e h = subst (λ (q : Option ℕ). IfNone q P) (sym e) h

pub returns-then-not-is_plain_number-clause-none : goal.returns-then-not-is_plain_number-clause-none
returns-then-not-is_plain_number-clause-none c = λ n fits is.
    let plain : IsPlainNumber c.args.word.now = subst IsPlainNumber (sym is) (decimal_is_plain n fits) in
    let apart : true ≡ false = sym (c.is_plain_number.ensures.1 plain) ∙ c.if-not-is_plain_number.true in cc

pub returns-in-Ok-clause-some : goal.returns-in-Ok-clause-some
returns-in-Ok-clause-some c =
    let word = c.args.word.now in
    let same = c.in-Ok.ensures.cases.0 in
    let read : ParsesUnsigned 32 10 word c.parse.result =
    subst (λ (w : List ℕ). ParsesUnsigned 32 10 w c.parse.result) same c.parse.ensures.value.0 in
    let plain : IsPlainNumber word = c.is_plain_number.ensures.0 c.if-not-is_plain_number.false in
    some_where_ok (λ n. word ≡ decimal n) c.parse.result c.ok.result c.ok.ensures.value (number_read word c.parse.result plain read)

pub returns-in-Ok-clause-none : goal.returns-in-Ok-clause-none
returns-in-Ok-clause-none c =
    let word = c.args.word.now in
    let same = c.in-Ok.ensures.cases.0 in
    let read : ParsesUnsigned 32 10 word c.parse.result =
    subst (λ (w : List ℕ). ParsesUnsigned 32 10 w c.parse.result) same c.parse.ensures.value.0 in
    none_where_err ((n : ℕ) → n < 2 ^ 32 → word ≡ decimal n → ⊥) c.parse.result c.ok.result c.ok.ensures.value
    (number_not_read word c.parse.result read)

pub returns-in-Err-clause-none : goal.returns-in-Err-clause-none
returns-in-Err-clause-none c = λ n fits is. c.in-Err.ensures.cases.0 (subst IsUtf8 (sym is) (number_text n (omega (arith, fits))))
