use Rattle.std.proofs.Common.{◌≡◌, replicate}
use Rattle.ws_server.proofs.Opened.{empty_replica}
use Rattle.ws_server.proofs.hall.empty_replicas.Given as goal

abbrev pub invariant-loop-place : goal.invariant-loop-place
invariant-loop-place l = l.replicas.items ≡ replicate l._place (empty_replica l.site)
