-- The next line tells what follows the log, or else the bytes stand for none.
use Rattle.std.proofs.Common.{◌≡◌, ◌∙◌, ◌+◌, ◌-◌, inl, inr, List, ℕ, ◌++◌, arith, length, take, drop, ap, sym, subst, length-drop, rules}
use Rattle.std.proofs.lemmas.List.{take_all}
use Rattle.std.proofs.Math.Seq.{take-add}
use Rattle.sha2.specs.Hashers.{Holds256}
use Rattle.wire_json.specs.Line.{IsLine}
use Rattle.journal.proofs.ReadLines.{next_line, reads_more, reads_all, refuted, IsRefuted}
use Rattle.journal.proofs.reading.read_journal.Goals as goal

-- what is behind a place
behind : (bytes : List ℕ) (at : ℕ) → take (length bytes - at) (drop at bytes) ≡ drop at bytes
behind bytes at = take_all (length bytes - at) (drop at bytes) (omega (arith, length-drop at bytes))

-- a part from a place on
between : (bytes : List ℕ) (at len : ℕ) → take (at + len - at) (drop at bytes) ≡ take len (drop at bytes)
between bytes at len =
    let same : at + len - at ≡ len = omega arith in
    ap (λ n. take n (drop at bytes)) same

pub each_line-preserved : goal.each_line-preserved
each_line-preserved c =
    let bytes = c.args.bytes.now in
    let at = c.each_line.at in
    let len = c.in-Some.len in
    let cut = c.in-Some.ensures in
    let ok = c.in-Ok.ensures in
    let next = next_line bytes at len _ _ (behind bytes at) (between bytes at len) cut.0 cut.1 cut.2 in
    let grown = ok.grown (take at bytes) c.each_line.invariant.digest in
    let with_lf : at + len + 1 - at ≡ len + 1 = omega arith in
    record {
      reads = reads_more bytes at c.each_line.lines len _ c.each_line.doc.log grown.0 c.append_line.new.doc.log
          c.each_line.invariant.reads next grown.1 grown.2
          (ok.lawful c.each_line.invariant.reads.tells.lawful) (ok.few c.each_line.invariant.reads.tells.few);
      unreserved = ok.unreserved c.each_line.invariant.unreserved;
      digest = subst (Holds256 c.update.new.self)
          (ap (λ n. take at bytes ++ take n (drop at bytes)) with_lf ∙ sym (take-add at (len + 1) bytes))
          (c.update.ensures (take at bytes) c.each_line.invariant.digest);
    }

pub returns-in-Err : goal.returns-in-Err
returns-in-Err c =
    let bytes = c.args.bytes.now in
    let at = c.each_line.at in
    let len = c.in-Some.len in
    let cut = c.in-Some.ensures in
    let next = next_line bytes at len _ _ (behind bytes at) (between bytes at len) cut.0 cut.1 cut.2 in
    let r : IsRefuted bytes (c.each_line.lines + 1) =
    elim c.in-Err.ensures.cause [
      | inl m ↦ absurd (search (rules, m))
      | inr not ↦ refuted bytes at c.each_line.lines len _ c.each_line.doc.log c.each_line.invariant.reads next
          (not (take at bytes) c.each_line.invariant.digest)
    ] in
    record { stands = tt; unreserved = tt; ends = tt; digest = tt; cause = inr r.none; fault = r.fault }

pub returns-clause-stands : goal.returns-clause-stands
returns-clause-stands c =
    let bytes = c.args.bytes.now in
    reads_all bytes c.each_line.at c.each_line.lines c.each_line.doc.log c.each_line.invariant.reads
    (subst IsLine (behind bytes c.each_line.at) c.in_default.ensures)
