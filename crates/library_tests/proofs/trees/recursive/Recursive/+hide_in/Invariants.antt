use Rattle.library_tests.proofs.trees.recursive.Recursive.+hide_in.Given as goal

-- a level less at each call
abbrev pub decreases-hide_in : goal.decreases-hide_in
decreases-hide_in l = l.levels
