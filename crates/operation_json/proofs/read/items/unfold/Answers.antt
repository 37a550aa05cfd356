use Rattle.std.proofs.Common.{rules, ◌≡◌, ◌++◌, ◌∷◌, Result, Ok, Err, List, take}
use Rattle.std.specs.Prelude.{OnOk}
use Rattle.opid.specs.declared.refusal.Refusal.{Refusal}
use Rattle.std.specs.Str.{chars}
use Rattle.opid.specs.Operations.{Operation}
use Rattle.operation_json.specs.Packing.{typed_behind}
use Rattle.operation_json.specs.PackedOperations.{item_operations}
use Rattle.operation_json.proofs.read.items.unfold.Goals as goal

pub returns-clause-ok : goal.returns-clause-ok
returns-clause-ok c = go c.unfold_run.result c.unfold_run.ensures.ok
  where
    told : item_operations c.args.offer.now ≡ Ok (c.in_ok-first.first ∷ typed_behind c.in_ok-first.first (chars c.offer.inside.more.now))
    told = search rules

    go : (r : Result (Unit {0}) Refusal)
        → OnOk r (c.unfold_run.new.ops.items ≡ take 65
        (c.args.ops.now.items ++ c.in_ok-first.first ∷ typed_behind c.in_ok-first.first (chars c.offer.inside.more.now)))
        → OnOk r ((xs : List Operation) × (item_operations c.args.offer.now ≡ Ok xs)
        × (c.unfold_run.new.ops.items ≡ take 65 (c.args.ops.now.items ++ xs)))
    go (Ok r) h = (c.in_ok-first.first ∷ typed_behind c.in_ok-first.first (chars c.offer.inside.more.now), told, h)
    go (Err e) h = tt
