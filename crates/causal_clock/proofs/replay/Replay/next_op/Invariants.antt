use Rattle.causal_clock.proofs.replay.Replay.next_op.Given as goal

-- the ledger of the blank that is made for the call
abbrev pub ghosts-next_over : goal.ghosts-next_over
ghosts-next_over a = record { name = a.blank.name; parts = a.blank.parts }
