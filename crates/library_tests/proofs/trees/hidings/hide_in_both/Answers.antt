use Rattle.std.proofs.Common.{sym, ap, ◌∙◌}
use Rattle.std.specs.List.{slice_get}
use Rattle.counted_tree.specs.Entry.{visible}
use Rattle.counted_tree.specs.Versions.{version_list, newest_list}
use Rattle.counted_tree.proofs.Splits.{shows_found}
use Rattle.library_tests.proofs.trees.hidings.hide_in_both.Goals as goal

pub hide_ranked-ranks-requires-clause-shown : goal.hide_ranked-ranks-requires-clause-shown
hide_ranked-ranks-requires-clause-shown c =
    let tree = c.args.tree.now in
    let here = c.in-Some.ensures.found ∙ ap (λ v. slice_get (visible (version_list tree v)) c.args.k) c.newest-before.ensures.value in
    shows_found (newest_list tree) c.args.k c.in-Some.e (sym here)
