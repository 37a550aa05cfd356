use Rattle.std.proofs.Common.{◌≡◌, ◌<◌, ◌≤◌, ◌+◌, ◌-◌, ◌∙◌, ◌++◌, true, List, ℕ, sym, ap, subst, arith, length, take, drop, slice_index}
use Rattle.std.specs.List.{list_all}
use Rattle.std.specs.Str.{IsCharBoundary}
use Rattle.std.proofs.lemmas.Str.{IsCharBoundary-after_ascii}
use Rattle.json.specs.Lex.{in_escape}
use Rattle.json.specs.Text.{after_backslash}
use Rattle.json_bytes.specs.Plain.{is_plain}
use Rattle.json_bytes.specs.Internal.Places.{WritesCharacter}
use Rattle.json_bytes.proofs.Plainly.{peeked}
use Rattle.json_bytes.proofs.PlainText.{text_ended, text_goes_on}
use Rattle.json_bytes.proofs.plain_text.text_at.Goals as goal

pub range-requires-clause-end_boundary : goal.range-requires-clause-end_boundary
range-requires-clause-end_boundary c =
    let end = c.behind_plain-end.result in
    let text = c.args.text.now in
    let same = c.as_bytes-bytes.ensures.value in
    let low : end - c.parts.at ≤ 256 → end < length text → slice_index text end < 128 =
    subst (λ (bs : List ℕ). end - c.parts.at ≤ 256 → end < length bs → slice_index bs end < 128) same c.behind_plain-end.ensures.stops in (
      omega (arith, c.behind_plain-end.ensures.within, ap length same),
      λ within high. absurd (omega (arith, low (omega arith) within, high)),
    )

pub returns-in-34 : goal.returns-in-34
returns-in-34 c =
    let end = c.behind_plain-end.result in
    let same = c.as_bytes-bytes.ensures.value in
    text_ended c.args.text.now c.parts.into.bytes c.try_push_str.new.self.bytes c.args.at c.parts.at end
    c.behind_plain-end.ensures.order
    (subst (λ (bs : List ℕ). list_all is_plain (take (end - c.parts.at) (drop c.parts.at bs)) ≡ true) same c.behind_plain-end.ensures.plain)
    c.parts.invariant.told c.parts.invariant.passed
    (c.in-Ok.ensures.ok ∙ ap (λ xs. c.parts.into.bytes ++ xs) c.range.ensures.value)
    (ap (λ (bs : List ℕ). slice_index bs end) (sym same) ∙ sym c.peek.ensures ∙ c.in-34.is)

pub escape_at-requires : goal.escape_at-requires
escape_at-requires c =
    let here = peeked c.as_bytes-bytes.result.now c.behind_plain-end.result 92 (sym c.peek.ensures ∙ c.in-92.is) (omega arith) in
    omega (arith, here.0)

pub parts-preserved : goal.parts-preserved
parts-preserved c =
    let end = c.behind_plain-end.result in
    let text = c.args.text.now in
    let same = c.as_bytes-bytes.ensures.value in
    let ch = c.in_ok-ch-in-92.ch in
    let next = c.in_ok-ch-in-92.next in
    let written : WritesCharacter after_backslash in_escape text (end + 1) ch next =
    subst (λ (bs : List ℕ). WritesCharacter after_backslash in_escape bs (end + 1) ch next) same c.in_ok-ch-in-92.ensures in
    let on = text_goes_on text c.parts.into.bytes c.try_push_str.new.self.bytes c.try_push.new.self.bytes c.args.at c.parts.at end ch next
    c.behind_plain-end.ensures.order
    (subst (λ (bs : List ℕ). list_all is_plain (take (end - c.parts.at) (drop c.parts.at bs)) ≡ true) same c.behind_plain-end.ensures.plain)
    c.parts.invariant.told c.parts.invariant.passed
    (c.in-Ok.ensures.ok ∙ ap (λ xs. c.parts.into.bytes ++ xs) c.range.ensures.value)
    (ap (λ (bs : List ℕ). slice_index bs end) (sym same) ∙ sym c.peek.ensures ∙ c.in-92.is) written c.in-Ok-try_push.ensures.ok in
    let back : next - 1 + 1 ≡ next = omega (arith, written.order) in
    record {
      told = on.0;
      passed = on.1;
      boundary = subst (IsCharBoundary text) back (IsCharBoundary-after_ascii text (next - 1) c.utf8.text
          (omega (arith, written.order, written.within)) written.ascii);
      within = written.within;
    }
