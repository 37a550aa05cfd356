-- How a room opens over what was found in its file. The rules are the server's own.
use Rattle.std.specs.Prelude.{[]}
use Rattle.opid.specs.Delivered.{ReplicaState}
use Rattle.kept_rooms.specs.declared.opening.Opening.{Opening}

-- the replica of the site over the document's log, which holds nothing back
abbrev pub replica_over : Opening → ReplicaState
replica_over it = record { site = it.site; log = it.doc.log; held = []; reserved = 0 }
