-- The text of the part and the digest of all up to there were added and hashed.
use Rattle.std.proofs.Common.{◌≡◌, ℕ, ◌++◌, List, [], string_bytes, refl, ap, ◌∙◌, subst, append_assoc}
use Rattle.sha2.specs.Hashers.{Holds256}
use Rattle.journal.specs.Journal.{with_end, part_lines}
use Rattle.journal.proofs.Digests.{part_added}
use Rattle.journal.proofs.writing.Lines.add_part.Goals as goal

pub returns-clause-text : goal.returns-clause-text
returns-clause-text c = λ bytes held.
    let told = c.as_str.result.now in
    part_added bytes (string_bytes c.args.self.now.text) (string_bytes c.add.new.self.text) (string_bytes c.add-2.new.self.text) c.args.from
    c.args.part.now told c.as_str-2.result.now (c.as_str.ensures.value ∙ c.in_ok-told.ensures.text) c.in_ok-add.ensures.text
    (c.as_str-2.ensures.value ∙ c.in_ok-digest.ensures (bytes ++ with_end told) (c.in_ok-add.ensures.digest bytes held))
    c.in_ok-add-2.ensures.text

pub returns-clause-digest : goal.returns-clause-digest
returns-clause-digest c = λ bytes held.
    let told = c.as_str.result.now in
    let digest = c.as_str-2.result.now in
    let mid = c.in_ok-add.ensures.digest bytes held in
    let is : with_end told ++ with_end digest ≡ part_lines bytes c.args.from c.args.part.now =
    part_added bytes [] (with_end told) (with_end told ++ with_end digest) c.args.from c.args.part.now told digest
    (c.as_str.ensures.value ∙ c.in_ok-told.ensures.text) refl
    (c.as_str-2.ensures.value ∙ c.in_ok-digest.ensures (bytes ++ with_end told) mid) refl in
    subst (Holds256 c.add-2.new.self.digest) (append_assoc bytes (with_end told) (with_end digest) ∙ ap (λ (t : List ℕ). bytes ++ t) is)
    (c.in_ok-add-2.ensures.digest (bytes ++ with_end told) mid)
