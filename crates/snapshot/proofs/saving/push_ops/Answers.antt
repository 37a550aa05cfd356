-- Each operation joins the item, or ends it.
use Rattle.std.proofs.Common.{◌≡◌, ◌∙◌, ◌+◌, ◌++◌, ◌∷◌, ap, sym, refl, subst, arith, drop, codes, string_bytes}
use Rattle.std.specs.List.{AllByRecursion}
use Rattle.std.proofs.lemmas.Option.{get_or_from_slice_get, slice_get_within}
use Rattle.opid.proofs.Gathered.{take_none}
use Rattle.versions.proofs.Left.{left_after, some_left}
use Rattle.operation_json.specs.Packing.{Item}
use Rattle.operation_json.specs.Text.{IsOperationInRange, packed_text}
use Rattle.operation_json.proofs.Lists.{all_more}
use Rattle.snapshot.proofs.Joined.{rest_text, opened, joined_on, ended_on, closed}
use Rattle.snapshot.proofs.saving.push_ops.Goals as goal
use Rattle.snapshot.proofs.saving.push_ops.Goals.{then-is_joined_by+in_ok-push, else-is_joined_by+in_ok-push_item+in_ok-push_str-3}

pub packed-init : goal.packed-init
packed-init c =
    let log = c.args.doc.now.log in
    let x = c.next_op-first.result in
    let here = left_after log 0 x c.next_op-first.new.self.left (sym c.ops_from-rest.ensures.left ∙ c.next_op-first.ensures.value) in
    record {
      text = ap (λ (i : Item). string_bytes c.push_str-2.new.self ++ rest_text i (drop 1 log)) c.new-item.ensures
          ∙ opened (string_bytes c.args.text.now) (string_bytes c.push_str-2.new.self) log x here.0 c.in_ok-push_str-2.ensures.bytes;
      range = all_more IsOperationInRange log 0 x (slice_get_within log 0 x here.0)
          (subst (AllByRecursion IsOperationInRange) (sym (take_none log 0 refl)) tt)
          (subst IsOperationInRange (sym (get_or_from_slice_get log 0 x x here.0)) c.check_op.ensures);
      walk = here.1;
    }

pub packed-preserved : goal.packed-preserved
packed-preserved c =
    let log = c.args.doc.now.log in
    let k = c.packed._place in
    let y = c.next_op-op.result in
    let later = drop (k + 1) log in
    let total = string_bytes c.args.text.now ++ packed_text log in
    let t = string_bytes c.packed.text in
    let next = sym c.packed.invariant.walk ∙ c.next_op-op.ensures.value in
    let here = left_after log k y c.next_op-op.new.self.left next in
    let rest : drop k log ≡ y ∷ later = next ∙ ap (λ ys. y ∷ ys) here.1 in
    record {
      text = elim c.if-is_joined_by.branch [
        | then-is_joined_by+in_ok-push w ↦
            ap (λ s. string_bytes s ++ rest_text c.if-is_joined_by.item later) w.text-is
            ∙ ap (λ (i : Item). t ++ rest_text i later) (w.item-is ∙ w.in_ok-push.ensures)
            ∙ joined_on t total c.packed.item log k y rest (sym c.is_joined_by.ensures ∙ w.if-is_joined_by.true) c.packed.invariant.text
        | else-is_joined_by+in_ok-push_item+in_ok-push_str-3 w ↦
            ap (λ s. string_bytes s ++ rest_text c.if-is_joined_by.item later) w.text-is
            ∙ ap (λ (i : Item). string_bytes w.push_str-else-is_joined_by.new.self ++ rest_text i later)
            (w.item-is ∙ w.new-item-else-is_joined_by.ensures)
            ∙ ended_on t (string_bytes w.push_str-else-is_joined_by.new.self) total c.packed.item log k y rest
            (sym c.is_joined_by.ensures ∙ w.if-is_joined_by.false)
            (w.in_ok-push_str-3.ensures.bytes ∙ ap (λ s. s ++ codes ",") w.in_ok-push_item.ensures.text) c.packed.invariant.text
      ];
      range = all_more IsOperationInRange log k y (slice_get_within log k y here.0) c.packed.invariant.range
          (subst IsOperationInRange (sym (get_or_from_slice_get log k y y here.0)) c.check_op-in-packed.ensures);
      walk = here.1;
    }

pub returns-clause-text : goal.returns-clause-text
returns-clause-text c =
    let log = c.args.doc.now.log in
    closed (string_bytes c.packed.text) (string_bytes c.push_str-3.new.self) (string_bytes c.args.text.now ++ packed_text log)
    c.packed.item log c.packed._place (omega (arith, c.packed-test.false, c.version-place-end.ensures.value))
    (c.in_ok-push_str-4.ensures.bytes ∙ ap (λ s. s ++ codes "]") c.in_ok-push_item-2.ensures.text) c.packed.invariant.text

pub next_op-op-requires : goal.next_op-op-requires
next_op-op-requires c =
    some_left c.args.doc.now.log c.packed.rest.left c.packed._place c.packed.invariant.walk
    (omega (arith, c.packed-test.true, c.version-place-end.ensures.value))
