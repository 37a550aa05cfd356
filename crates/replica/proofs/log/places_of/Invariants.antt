use Rattle.std.proofs.Common.{◌≡◌, take, drop}
use Rattle.replica.specs.Internal.Numbered.{AreNumbered}
use Rattle.replica.proofs.log.places_of.Given as goal

-- the operations so far stand in their sites' rows, and the walk has those that are left
abbrev pub invariant-told : goal.invariant-told
invariant-told l = record {
  numbered : AreNumbered (take l.place l.doc.log) l.places.rows;
  walk : l.rest.left ≡ drop l.place l.doc.log;
}
