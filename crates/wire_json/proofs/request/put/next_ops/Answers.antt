use Rattle.std.proofs.Common.{◌≡◌, ◌∷◌, ◌∙◌, ◌++◌, List, ℕ, ap, sym, subst, arith, length, take, drop}
use Rattle.std.specs.Str.{chars}
use Rattle.opid.specs.Operations.{Operation}
use Rattle.operation_json.specs.Packing.{typed_behind}
use Rattle.operation_json.specs.PackedOperations.{concatenated}
use Rattle.wire_json.specs.Internal.CallTokens.{TellsOps}
use Rattle.operation_json.proofs.RunLoops.{few_kept}
use Rattle.wire_json.proofs.PutTokens.{no_ops, ops_more, ops_read}
use Rattle.wire_json.proofs.request.put.next_ops.Goals as goal

pub loop-init : goal.loop-init
loop-init c =
    subst (λ (xs : List Operation). TellsOps c.take_begin_array.new.self xs c.take_begin_array.new.self) (sym c.new-ops.ensures.items)
    (no_ops c.take_begin_array.new.self)

pub unfold_run-requires-clause-few : goal.unfold_run-requires-clause-few
unfold_run-requires-clause-few c =
    omega (arith, ap (length {A = Operation}) c.loop.invariant.kept, few_kept (concatenated c.loop.invariant.lists))

pub returns-then-take_end_array-clause-told : goal.returns-then-take_end_array-clause-told
returns-then-take_end_array-clause-told c =
    ops_read c.args.reader.now c.loop.reader c.take_begin_array.new.self c.take_end_array.new.self c.loop.ops.items
    (c.take_begin_array.ensures.yes c.if-not-take_begin_array.false) c.loop.invariant
    (c.take_end_array.ensures.yes c.if-take_end_array.true)

pub loop-preserved : goal.loop-preserved
loop-preserved c =
    let more = drop 1 (chars c.rest_of_item.new.into.bytes) in
    let behind : chars c.behind_first.result.now ≡ more =
    c.behind_first.ensures ∙ ap (λ (bs : List ℕ). drop 1 (chars bs)) c.as_str.ensures.value in
    ops_more c.take_begin_array.new.self c.loop.reader c.take_begin_object.new.self c.rest_of_item.new.reader c.loop.ops.items
    c.unfold_run.new.ops.items c.in-Some.item.first more c.in-Some.item.is_run c.loop.invariant
    (sym (c.take_end_array.ensures.no c.if-take_end_array.false) ∙ c.take_begin_object.ensures.yes c.if-not-take_begin_object.false)
    c.in-Some.ensures.told
    (c.in_ok-unfold_run.ensures.ok
    ∙ ap (λ (cs : List ℕ). take 65 (c.loop.ops.items ++ (c.in-Some.item.first ∷ typed_behind c.in-Some.item.first cs))) behind)
