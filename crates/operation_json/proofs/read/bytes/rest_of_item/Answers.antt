use Rattle.std.proofs.Common.{◌≡◌, ◌∙◌, [], false, List, ℕ, refl, sym, ap, subst, drop, length, arith}
use Rattle.std.specs.Str.{chars}
use Rattle.std.proofs.lemmas.Str.{chars-nil}
use Rattle.serde_json.specs.Data as tree
use Rattle.json_bytes.specs.Plain.{Comes}
use Rattle.operation_json.proofs.ItemTokens.{insertion_item, run_item, deletion_item, item_as}
use Rattle.operation_json.proofs.read.bytes.rest_of_item.Goals as goal

pub returns-then-is_one-clause-told : goal.returns-then-is_one-clause-told
returns-then-is_one-clause-told c =
    let letter = sym c.as_str.ensures.value ∙ c.is_one.ensures c.if-is_one.true in
    item_as c.args.reader.now c.in_ok-first.first c.in_ok-first.first [] (drop 1 (chars c.rest_of_insertion.new.into.bytes)) false false
    c.rest_of_insertion.new.reader refl (sym c.in_ok-first.ensures.alone) refl
    (insertion_item c.args.reader.now c.next_clock.new.reader c.take_key.new.self c.next_text.new.self c.rest_of_insertion.new.reader
    c.in_ok-clock.clock c.in_ok-first.first c.in_ok-clock.ensures (c.take_key.ensures.yes c.if-not-take_key.false)
    (subst (λ s. Comes 1 c.take_key.new.self (tree.string s) c.next_text.new.self) letter (c.next_text.ensures c.if-not-next_text.false))
    c.in_ok-first.ensures.told c.in_ok-first.ensures.clock)

pub returns-then-is_one-2-clause-told : goal.returns-then-is_one-2-clause-told
returns-then-is_one-2-clause-told c =
    let letter = sym c.as_str-2.ensures.value ∙ c.is_one-2.ensures c.if-is_one-2.true in
    run_item c.args.reader.now c.next_clock.new.reader c.take_key.new.self c.next_text.new.self c.rest_of_run.new.reader
    c.in_ok-clock.clock c.in_ok-first-2.first (drop 1 (chars c.rest_of_run.new.into.bytes)) c.in_ok-clock.ensures
    (c.take_key.ensures.yes c.if-not-take_key.false)
    (subst (λ s. Comes 1 c.take_key.new.self (tree.string s) c.next_text.new.self) letter (c.next_text.ensures c.if-not-next_text.false))
    c.in_ok-first-2.ensures.told c.in_ok-first-2.ensures.clock

nothing : (bytes : List ℕ) → bytes ≡ [] → drop 1 (chars bytes) ≡ []
nothing bytes e = ap (λ bs. drop 1 (chars bs)) e ∙ ap (drop 1) chars-nil

pub returns-clause-told : goal.returns-clause-told
returns-clause-told c =
    let letter = sym c.as_str-3.ensures.value ∙ c.is_one-3.ensures c.if-not-is_one.false in
    item_as c.args.reader.now c.in_ok-first-3.first c.in_ok-first-3.first [] (drop 1 (chars c.clear.new.self.bytes)) false false
    c.rest_of_deletion.new.reader refl (nothing c.clear.new.self.bytes c.clear.ensures) refl
    (deletion_item c.args.reader.now c.next_clock.new.reader c.take_key.new.self c.next_text.new.self c.rest_of_deletion.new.reader
    c.in_ok-clock.clock c.in_ok-first-3.first c.in_ok-clock.ensures (c.take_key.ensures.yes c.if-not-take_key.false)
    (subst (λ s. Comes 1 c.take_key.new.self (tree.string s) c.next_text.new.self) letter (c.next_text.ensures c.if-not-next_text.false))
    c.in_ok-first-3.ensures.told c.in_ok-first-3.ensures.clock)

pub returns-clause-alone : goal.returns-clause-alone
returns-clause-alone c = λ _. nothing c.clear.new.self.bytes c.clear.ensures

pub returns-clause-counted : goal.returns-clause-counted
returns-clause-counted c =
    omega (arith, ap (length {A = ℕ}) (nothing c.clear.new.self.bytes c.clear.ensures), c.in_ok-first-3.ensures.told.few)
