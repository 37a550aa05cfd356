use Rattle.versions.proofs.read_op.read_op.Given as goal

-- the ledger of the blank that is made for the call
abbrev pub ghosts-read_over : goal.ghosts-read_over
ghosts-read_over a = record { name = a.blank.name; parts = a.blank.parts }
