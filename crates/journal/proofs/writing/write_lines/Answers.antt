-- The next part is behind the operations so far.
use Rattle.std.proofs.Common.{◌≡◌, ℕ, ◌+◌, ◌-◌, ◌≤◌, ◌++◌, List, arith, length, take, drop, ap, sym, subst, ◌∙◌, append_assoc}
use Rattle.std.proofs.Common.{length-drop, string_bytes}
use Rattle.std.proofs.Math.Seq.{take-add}
use Rattle.std.proofs.lemmas.List.{length-take-le}
use Rattle.sha2.specs.Hashers.{Holds256}
use Rattle.journal.specs.Journal.{part_lines}
use Rattle.journal.proofs.WrittenLines.{lines_more}
use Rattle.journal.proofs.writing.write_lines.Goals as goal

pub parts-preserved : goal.parts-preserved
parts-preserved c =
    let ops = c.args.ops.now in
    let at = c.parts.at in
    let end = c.min-end.result in
    let part = take (end - at) (drop at ops) in
    let old = string_bytes c.parts.lines.text in
    let within : end ≤ length ops = omega (arith, c.min-end.ensures) in
    let up : end ≡ at + (end - at) = omega (arith, c.min-end.ensures, c.parts-test.true) in
    let size : length part ≡ end - at = length-take-le (end - at) (drop at ops) (omega (arith, length-drop at ops)) in
    let front : length (take at ops) ≡ at = length-take-le at ops c.parts.invariant.within in
    let added = c.in_ok-add_part.ensures in
    record {
      within = within;
      lines = λ bytes held. lines_more bytes c.args.from (take at ops) part (take end ops) (c.args.from + at) old
          (string_bytes c.add_part.new.self.text) (c.parts.invariant.lines bytes held)
          (record {
            some = omega (arith, size, c.min-end.ensures, c.parts-test.true);
            few = omega (arith, size, c.min-end.ensures);
            in_range = added.in_range.1;
          })
          (omega (arith, front)) (added.text (bytes ++ old) (c.parts.invariant.digest bytes held))
          (ap (λ n. take n ops) up ∙ take-add at (end - at) ops);
      digest = λ bytes held.
          let is = added.text (bytes ++ old) (c.parts.invariant.digest bytes held) in
          subst (Holds256 c.add_part.new.self.digest)
          (append_assoc bytes old (part_lines (bytes ++ old) (c.args.from + at) part) ∙ ap (λ (t : List ℕ). bytes ++ t) (sym is))
          (added.digest (bytes ++ old) (c.parts.invariant.digest bytes held));
    }
