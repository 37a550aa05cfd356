use Rattle.library_tests.proofs.clocks.is_log_of.Given as goal

-- the ledger of the blank that is made for the call
abbrev pub ghosts-get_at : goal.ghosts-get_at
ghosts-get_at a = record { name = a.blank.name; parts = a.blank.parts }
