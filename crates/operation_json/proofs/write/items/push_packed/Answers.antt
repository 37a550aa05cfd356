-- Each operation joins the item, or ends it.
use Rattle.std.proofs.Common.{◌≡◌, ◌∙◌, ◌+◌, ◌-◌, ◌++◌, ◌∷◌, [], true, false, ap, sym, subst, take, drop, length}
use Rattle.operation_json.specs.Packing.{Item, joins, with_one_more, alone, last_typed, inserted_character}
use Rattle.operation_json.specs.Text.{IsOperationInRange, item_text, packed_text}
use Rattle.operation_json.proofs.Lists.{all_more}
use Rattle.operation_json.proofs.Packer.{pushed}
use Rattle.operation_json.proofs.ItemTexts.{listed, joined, ended, item_of, asked, same_item}
use Rattle.operation_json.proofs.write.items.push_packed.Goals as goal
use Rattle.operation_json.proofs.write.items.push_packed.Goals.{then-is_next_of_run, else-is_next_of_run+in_ok-push_item+in_ok-push-2}

pub loop-op-preserved : goal.loop-op-preserved
loop-op-preserved c =
    let rest = take (length c.args.ops.now - 1) (drop 1 c.args.ops.now) in
    let k = c.loop-op.op-index in
    let y = c.op-item.result in
    let all = c.args.out.now.items ++ packed_text c.args.ops.now in
    let first = c.loop-op.first.now in
    let more = c.loop-op.more.items in
    let i : Item = item_of first more in
    let b = c.if-is_next_of_run in
    let told : joins i y ≡ c.is_next_of_run.result = asked first c.loop-op.last.now y more c.as_slice.result.now c.is_next_of_run.result
    c.loop-op.invariant.last c.as_slice.ensures.value c.is_next_of_run.ensures in
    let j : Item = item_of b.first.now b.more.items in
    let tail = listed j (drop (k + 1) rest) ++ 93 ∷ [] in
    record {
      text = elim b.branch [
        | then-is_next_of_run w ↦
            let joins_it : joins i y ≡ true = told ∙ w.if-is_next_of_run.true in
            let longer : j ≡ with_one_more i y = same_item b.first.now first b.more.items (more ++ inserted_character y.kind ∷ [])
            (ap (λ v. v.now) w.first-is)
            (ap (λ v. v.items) w.more-is ∙ w.push-then-is_next_of_run.ensures.items ∙ ap (λ ch. more ++ ch ∷ []) w.character_of.ensures) in
            ap (λ v. v.items ++ tail) w.out-is
            ∙ joined i j rest k y c.loop-op.out.items all c.loop-op-test.true c.op-item.is joins_it longer c.loop-op.invariant.text
        | else-is_next_of_run+in_ok-push_item+in_ok-push-2 w ↦
            let apart : joins i y ≡ false = told ∙ w.if-is_next_of_run.false in
            let new : j ≡ alone y = same_item b.first.now y b.more.items [] (ap (λ v. v.now) w.first-is)
            (ap (λ v. v.items) w.more-is ∙ w.clear.ensures) in
            ap (λ v. v.items ++ tail) w.out-is
            ∙ ended i j rest k y c.loop-op.out.items w.push_item.new.out.items w.push-else-is_next_of_run.new.self.items all
            c.loop-op-test.true c.op-item.is apart new (w.in_ok-push_item.ensures
            ∙ ap (λ ds. c.loop-op.out.items ++ item_text (item_of first ds)) w.as_slice-else-is_next_of_run.ensures.value)
            w.in_ok-push-2.ensures.items
            c.loop-op.invariant.text
      ];
      last = elim b.branch [
        | then-is_next_of_run w ↦
            let joins_it : joins i y ≡ true = told ∙ w.if-is_next_of_run.true in
            ap (λ v. v.now) w.last-is
            ∙ pushed i y w.character_of.result b.more.items joins_it (sym w.character_of.ensures)
            (ap (λ v. v.items) w.more-is ∙ w.push-then-is_next_of_run.ensures.items)
            ∙ ap (λ x. last_typed x b.more.items) (sym (ap (λ v. v.now) w.first-is))
        | else-is_next_of_run+in_ok-push_item+in_ok-push-2 w ↦
            ap (λ v. v.now) w.last-is ∙ ap (λ x. last_typed x []) (sym (ap (λ v. v.now) w.first-is))
            ∙ ap (λ ds. last_typed b.first.now ds) (sym (ap (λ v. v.items) w.more-is ∙ w.clear.ensures))
      ];
      in_range = all_more IsOperationInRange rest k y c.loop-op-test.true c.loop-op.invariant.in_range
          (subst IsOperationInRange c.op-item.is c.check_op-in-loop-op.ensures);
    }
