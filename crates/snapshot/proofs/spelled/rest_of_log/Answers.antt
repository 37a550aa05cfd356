use Rattle.std.proofs.Common.{◌≡◌, ◌++◌, ◌∷◌, ◌∙◌, [], false, List, ℕ, ap, sym, subst, drop}
use Rattle.std.specs.Str.{chars}
use Rattle.std.proofs.lemmas.List.{flat_map_more}
use Rattle.operation_json.specs.Packing.{Item, typed_behind, unfolded, unfolded_all}
use Rattle.snapshot.specs.Internal.Coming.{TellsLog}
use Rattle.snapshot.proofs.Telling.{no_log, log_more}
use Rattle.snapshot.proofs.spelled.rest_of_log.Goals as goal
use Rattle.snapshot.proofs.spelled.rest_of_log.Goals.{else-item-via-then-item+else-not-runs, else-item-via-else-item}

pub loop-init : goal.loop-init
loop-init c = no_log c.args.runs c.args.reader.now _ (ap unfolded_all c.new-items.ensures.items)

pub loop-preserved : goal.loop-preserved
loop-preserved c =
    let item = c.in-Some.item in
    let single : c.args.runs ≡ false → item.is_run ≡ false =
    elim c.else-item.branch [
      | else-item-via-then-item+else-not-runs w ↦ λ no. (let yes = w.if-not-runs.false in cc)
      | else-item-via-else-item w ↦ λ no. w.if-item.false
    ] in
    let more = drop 1 (chars c.rest_of_item.new.into.bytes) in
    let behind : chars c.behind_first.result.now ≡ more =
    c.behind_first.ensures ∙ ap (λ (bs : List ℕ). drop 1 (chars bs)) c.as_str.ensures.value in
    let items = c.loop.items.items in
    log_more c.args.runs c.args.reader.now c.loop.reader c.take_begin_object.new.self c.rest_of_item.new.reader (unfolded_all items)
    (unfolded_all c.push.new.self.items) item.first more item.is_run c.loop.invariant
    (sym (c.take_end_array.ensures.no c.if-take_end_array.false) ∙ c.take_begin_object.ensures.yes c.if-not-take_begin_object.false)
    c.in-Some.ensures.told single c.in-Some.ensures.alone
    (ap unfolded_all c.in_ok-push.ensures.items
    ∙ sym (flat_map_more unfolded [] items c.in_ok-gathered.gathered)
    ∙ ap (λ (g : Item). unfolded_all items ++ unfolded g) c.in_ok-gathered.ensures.value
    ∙ ap (λ (cs : List ℕ). unfolded_all items ++ (item.first ∷ typed_behind item.first cs)) behind)

pub returns-then-take_end_array-clause-told : goal.returns-then-take_end_array-clause-told
returns-then-take_end_array-clause-told c =
    subst (TellsLog c.args.runs c.args.reader.now (unfolded_all c.loop.items.items)) (c.take_end_array.ensures.yes c.if-take_end_array.true)
    c.loop.invariant
