use Rattle.library_tests.proofs.trees.recursive.Recursive.+insert_in.Given as goal

-- a level less at each call
abbrev pub decreases-insert_in : goal.decreases-insert_in
decreases-insert_in l = l.levels
