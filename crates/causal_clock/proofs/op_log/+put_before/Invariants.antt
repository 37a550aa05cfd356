use Rattle.causal_clock.proofs.op_log.+put_before.Given as goal

abbrev pub decreases-put_before : goal.decreases-put_before
decreases-put_before g l = l.row.now.back
