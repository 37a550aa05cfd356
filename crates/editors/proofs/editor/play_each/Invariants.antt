use Rattle.std.proofs.Common.{◌≡◌, ◌+◌, Some, take}
use Rattle.opid.specs.Splice.{play_in}
use Rattle.editors.proofs.editor.play_each.Given as goal

-- the edits so far were played
abbrev pub invariant-loop-edit : goal.invariant-loop-edit
invariant-loop-edit g l = record {
  text : play_in g.T.EditedText.units (g.T.EditedText.items l.initial.text) (take l.edit-index l.es) ≡ Some (g.T.EditedText.items l.text);
  version : l.version ≡ l.initial.version + l.edit-index;
}
