-- What the loop over the places keeps.
use Rattle.std.proofs.Common.{◌≡◌, ◌-◌, ◌++◌, take, drop}
use Rattle.versions.proofs.doc.Doc.copy_ops.Given as goal

-- the operations so far, with those that are left; the walk has all from the place on
abbrev pub invariant-told : goal.invariant-told
invariant-told l = record {
  gathered : l.ops.items ++ take (l.end - l._place) (drop l._place l.self.log) ≡ take (l.end - l.from) (drop l.from l.self.log);
  walk : l.rest.left ≡ drop l._place l.self.log;
}
