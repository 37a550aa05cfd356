-- Why the recursion of the plain program ends.
use Rattle.library_tests.proofs.plain.+preorder.Given as goal

-- the depth that is left
abbrev pub decreases-preorder : goal.decreases-preorder
decreases-preorder l = l.depth
