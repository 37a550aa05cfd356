use Rattle.std.proofs.Common.{◌≡◌, ◌∙◌, ◌-◌, true, Some, ap, sym, arith, rules, length, vec_len}
use Rattle.std.specs.Prelude.{slice_get}
use Rattle.opid.specs.declared.edit.Edit.{Edit}
use Rattle.opid.specs.Edits.{edits_in}
use Rattle.versions.specs.Document.{Document}
use Rattle.versions.proofs.Changes.{edits-at}
use Rattle.versions.proofs.Integrated.{kept_length, kept_at}
use Rattle.versions.proofs.doc.Doc.edit_units.Goals as goal

some_same : (a b : Edit) → Some a ≡ Some b → a ≡ b
some_same a b h = cc

pub index-requires : goal.index-requires
index-requires c =
    let size : vec_len c.self.inside.edits ≡ length c.self.inside.edits.items = search rules in
    omega (
      arith,
      size,
      kept_length true c.self.inside.log.ops c.self.inside.edits.items c.self.invariant.0.edited,
      ap (λ (r : Document). length r.log) c.self.view_is,
      c.requires.first,
      c.requires.last,
    )

value : (c : goal.After-edit) → slice_get (edits_in true c.args.self.now.log) (c.args.n - 1) ≡ Some c.edit.result
value c =
    ap (λ (r : Document). slice_get (edits_in true r.log) (c.args.n - 1)) (sym c.self.view_is)
    ∙ kept_at true c.self.inside.log.ops c.self.inside.edits.items (c.args.n - 1) c.index.result.now c.self.invariant.0.edited
    (omega (arith, ap (λ (r : Document). length r.log) c.self.view_is, c.requires.first, c.requires.last)) c.index.ensures
    ∙ ap (λ (e : Edit). Some e) (sym c.edit.ensures)

pub returns-clause-value : goal.returns-clause-value
returns-clause-value c = value c

pub returns-clause-after : goal.returns-clause-after
returns-clause-after c x h = some_same _ _ (sym (value c) ∙ edits-at true c.args.self.now.log (c.args.n - 1) x h)
