use Rattle.std.proofs.Common.{Ok, Err, if◌then◌else◌, map, sym, ap, ◌∙◌}
use Rattle.opid.specs.declared.refusal.Refusal.TheVariants.{BadField}
use Rattle.wire_json.proofs.FlatObjects.{only_of}
use Rattle.wire_json.proofs.request.fields.check_members.Goals as goal

pub returns-then-are_of : goal.returns-then-are_of
returns-then-are_of c =
    sym (only_of (map (λ name. name.now) c.args.row.now) c.args.members.now
    ∙ ap (λ b. if b then Ok tt else Err BadField) (sym c.if-are_of.ensures))

pub returns-else-are_of : goal.returns-else-are_of
returns-else-are_of c =
    sym (only_of (map (λ name. name.now) c.args.row.now) c.args.members.now
    ∙ ap (λ b. if b then Ok tt else Err BadField) (sym c.if-are_of.ensures))
