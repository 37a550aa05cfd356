-- The text behind a character begins where a character does.
use Rattle.std.proofs.Common.{◌≡◌, ℕ, ◌∙◌, ◌++◌, List, [], ◌∷◌, ap, sym, refl, subst, length, drop, arith}
use Rattle.std.specs.Str.{IsCharBoundary, chars}
use lib.Utf8.{encode}
use Rattle.std.proofs.lemmas.Str.{chars-nil, chars_past_char, drop_past_char, length-encode, IsCharBoundary-at_seam, IsUtf8-past_char}
use Rattle.operation_json.proofs.read.run.split_first.Goals as goal

pub range_from-requires : goal.range_from-requires
range_from-requires c = λ _.
    let text = c.args.text.now in
    let rest = c.next.new.self.rest.now in
    let is : text ≡ encode c.in-Some.ch ++ rest = sym c.chars.ensures.rest ∙ c.in-Some.ensures.steps.0 in
    subst (IsCharBoundary text) (length-encode c.in-Some.ch ∙ sym c.len_utf8.ensures.value)
    (IsCharBoundary-at_seam text (encode c.in-Some.ch) rest is (IsUtf8-past_char text rest c.in-Some.ch c.utf8.text is))

pub returns-clause-some : goal.returns-clause-some
returns-clause-some c =
    let text = c.args.text.now in
    let rest = c.next.new.self.rest.now in
    let is : text ≡ encode c.in-Some.ch ++ rest = sym c.chars.ensures.rest ∙ c.in-Some.ensures.steps.0 in
    let behind : c.range_from.result.now ≡ rest =
    c.range_from.ensures.value ∙ ap (λ n. drop n text) (omega (arith, c.len_utf8.ensures.value))
    ∙ drop_past_char text rest 0 c.in-Some.ch is in
    chars_past_char text rest c.in-Some.ch c.utf8.text is ∙ ap (λ s. c.in-Some.ch ∷ chars s) (sym behind)

empty : (xs : List ℕ) → length xs ≡ 0 → xs ≡ []
empty [] e = refl
empty (x ∷ xs) e = absurd (omega (arith, e))

pub returns-in_default-clause-none : goal.returns-in_default-clause-none
returns-in_default-clause-none c =
    ap chars (sym c.chars.ensures.rest ∙ empty c.chars.result.rest.now c.in_default.ensures.steps.0.0) ∙ chars-nil
