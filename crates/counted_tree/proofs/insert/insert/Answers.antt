use Rattle.std.proofs.Common.{◌≡◌, ℕ, ◌<◌, ◌∷◌, length, arith, sym, ap, ◌∙◌, subst, None, [], ◌++◌}
use Rattle.counted_tree.specs.Internal.Tree.{entries}
use Rattle.counted_tree.specs.Internal.Change.{tree_in, Adds}
use Rattle.counted_tree.specs.Changes.{Lists}
use Rattle.counted_tree.specs.Internal.Keys.{IsKnown}
use Rattle.counted_tree.specs.Internal.Store.{Store}
use Rattle.counted_tree.proofs.NodeKeys.{known_pushed}
use Rattle.counted_tree.proofs.Newest.{own_new, kept_push, points_push}
use Rattle.std.proofs.lemmas.Grind.{common_steps}
use Rattle.std.proofs.lemmas.List.{length_push}
use Rattle.counted_tree.specs.Internal.Table.{AreOwn, IsKept, PointsTo}
use Rattle.counted_tree.proofs.insert.insert.Goals as goal

pub insert_in-requires-clause-own : goal.insert_in-requires-clause-own
insert_in-requires-clause-own c =
    let t = tree_in c.args.nodes.now c.args.link in
    let tb = c.args.table.now.items in
    let row = c.new.result in
    let pushed : c.push_reserved.new.self.items ≡ tb ++ row ∷ [] = grind (arith, common_steps) in
    let rows : c.deref_mut.result.now ≡ tb ++ row ∷ [] = c.deref_mut.ensures.value ∙ pushed in
    let same : tree_in c.push_key_and_width.new.self c.args.link ≡ t =
    ap (λ (s : Store). tree_in s c.args.link) c.push_key_and_width.ensures in
    let new = c.args.entry in
    subst (λ u. AreOwn (length c.deref_mut.result.now) (new ∷ entries u)) (sym same)
    (own_new (length tb) (length c.deref_mut.result.now) new (entries t)
    (omega (arith, c.requires.number, c.requires.newest.each)) (ap length rows ∙ length_push tb row) c.requires.newest.own)

pub insert_in-requires-clause-kept : goal.insert_in-requires-clause-kept
insert_in-requires-clause-kept c =
    let t = tree_in c.args.nodes.now c.args.link in
    let tb = c.args.table.now.items in
    let row = c.new.result in
    let pushed : c.push_reserved.new.self.items ≡ tb ++ row ∷ [] = grind (arith, common_steps) in
    let rows : c.deref_mut.result.now ≡ tb ++ row ∷ [] = c.deref_mut.ensures.value ∙ pushed in
    let same : tree_in c.push_key_and_width.new.self c.args.link ≡ t =
    ap (λ (s : Store). tree_in s c.args.link) c.push_key_and_width.ensures in
    subst (IsKept c.deref_mut.result.now) (sym same) (subst (λ u. IsKept u t) (sym rows) (kept_push t tb row c.requires.newest.kept))

pub insert_in-requires-clause-top : goal.insert_in-requires-clause-top
insert_in-requires-clause-top c =
    let t = tree_in c.args.nodes.now c.args.link in
    let tb = c.args.table.now.items in
    let row = c.new.result in
    let pushed : c.push_reserved.new.self.items ≡ tb ++ row ∷ [] = grind (arith, common_steps) in
    let rows : c.deref_mut.result.now ≡ tb ++ row ∷ [] = c.deref_mut.ensures.value ∙ pushed in
    let same : tree_in c.push_key_and_width.new.self c.args.link ≡ t =
    ap (λ (s : Store). tree_in s c.args.link) c.push_key_and_width.ensures in
    subst (λ u. PointsTo c.deref_mut.result.now u None) (sym same)
    (subst (λ u. PointsTo u t None) (sym rows) (points_push t tb row None c.requires.newest.top))

pub insert_in-requires-clause-all : goal.insert_in-requires-clause-all
insert_in-requires-clause-all c =
    let t = tree_in c.args.nodes.now c.args.link in
    let same : tree_in c.push_key_and_width.new.self c.args.link ≡ t =
    ap (λ (s : Store). tree_in s c.args.link) c.push_key_and_width.ensures in
    subst (λ u. (e : ℕ) → e < length (entries u) → Lists e (entries u)) (sym same)
    (λ e h. c.requires.newest.all e (omega (arith, h, c.requires.newest.each)))

pub insert_in-requires-clause-known : goal.insert_in-requires-clause-known
insert_in-requires-clause-known c =
    let new = c.args.entry in
    let a = c.args.nodes.now in
    subst (λ (s : Store). IsKnown s.keys_and_widths new) (sym c.push_key_and_width.ensures)
    (known_pushed a.keys_and_widths new c.requires.known (omega (arith, c.requires.number, c.requires.few)) c.requires.key)

pub returns-clause-adds : goal.returns-clause-adds
returns-clause-adds c = subst (λ (s : Store). Adds s c.insert_in.new.nodes 28)
    c.push_key_and_width.ensures c.insert_in.ensures.adds
