use Rattle.std.proofs.Common.{rules, ◌≡◌, ℕ, ◌+◌, ◌<◌, ◌∷◌, refl, length, Option, ap, ◌∙◌, arith, length-append}
use Rattle.counted_tree.specs.Internal.Tree.{entries}
use Rattle.counted_tree.specs.Internal.Tree.Tree.{Fork}
use Rattle.counted_tree.specs.Internal.Change.{tree_in}
use Rattle.counted_tree.proofs.EarlierTrees.{linked_balanced}
use Rattle.counted_tree.proofs.Branches.{sides}
use Rattle.counted_tree.proofs.TableChanges.{hangs_both}
use Rattle.counted_tree.proofs.Turns.{left_low, left_top, left_whole, left_parts}
use Rattle.counted_tree.proofs.Sizes.{through_fork, through_small, beyond_fork, left_within}
use Rattle.counted_tree.proofs.Leans.{once_left, twice_left, sides_few}
use Rattle.counted_tree.proofs.insert.rotation.lean_left.Goals as goal

pub returns-then-inner-outer : goal.returns-then-inner-outer
returns-then-inner-outer c =
    let a = c.args.nodes.now in
    let n = c.look-node.result in
    let outer = c.branch_of-outer.result in
    let inner = c.branch_of-inner.result in
    let s = sides a c.args.left.link c.in-Some.at n outer inner c.in-Some.is c.look-node.ensures.tree c.look-node.ensures.balanced
    c.look-node.ensures.size c.branch_of-outer.ensures.link c.branch_of-inner.ensures.link in
    let keeps = c.fork-low.ensures.adds.same outer.link c.branch_of-outer.ensures.branch.link in
    let now : tree_in c.fork.new.nodes c.fork.result.link ≡ Fork (tree_in a outer.link) n.entry
    (Fork (tree_in a inner.link) c.args.entry (tree_in a c.args.right.link)) = cc (c.fork.ensures.tree, c.fork-low.ensures.tree, keeps) in
    let tb = c.args.table.now in
    let t = tree_in a c.args.right.link in
    let k = rw (keeps, c.fork-low.ensures.tree) at c.fork.ensures.hangs in
    record {
      adds = search rules;
      branch = search rules;
      rebuilt = once_left _ _ _ _ _ n.entry c.args.entry s.whole now s.balanced
          (linked_balanced a.nodes c.args.right.link c.requires.sound c.requires.right.link) c.requires.two_higher
          (omega (
            arith,
            c.branch_of-inner.ensures.branch.tells.height,
            c.branch_of-outer.ensures.branch.tells.height,
            c.if-inner-outer.true,
          ));
      hangs = rw now (left_whole tb c.fork-low.new.table c.fork.new.table (tree_in a outer.link)
          (tree_in a inner.link) t n.entry c.args.entry c.fork-low.ensures.hangs k);
      cost = omega (
        arith,
        c.look-node.ensures.cost,
        c.branch_of-outer.ensures.cost,
        c.branch_of-inner.ensures.cost,
        c.fork-low.ensures.count,
        c.fork.ensures.count,
      );
      counts_on = omega (
        arith,
        c.look-node.ensures.step,
        c.branch_of-outer.ensures.counts_on,
        c.branch_of-inner.ensures.counts_on,
      );
    }

pub fork-requires-2 : goal.fork-requires-2
fork-requires-2 c =
    let a = c.args.nodes.now in
    let n = c.look-node.result in
    let m = c.look-middle.result in
    let d = c.fork-low_right.new.nodes in
    let low_left : Option ℕ = c.fork-low_left.result.link in
    let low_right : Option ℕ = c.fork-low_right.result.link in
    let outer = c.branch_of-outer.result in
    let inner = c.branch_of-inner.result in
    let s = sides a c.args.left.link c.in-Some.at n outer inner c.in-Some.is c.look-node.ensures.tree c.look-node.ensures.balanced
    c.look-node.ensures.size c.branch_of-outer.ensures.link c.branch_of-inner.ensures.link in
    let u = c.branch_of-middle_left.result in
    let v = c.branch_of-middle_right.result in
    let q = sides a inner.link c.in-Some-link.below m u v c.in-Some-link.is c.look-middle.ensures.tree c.look-middle.ensures.balanced
    c.look-middle.ensures.size c.branch_of-middle_left.ensures.link c.branch_of-middle_right.ensures.link in
    let p_is : tree_in d low_left ≡ Fork (tree_in a outer.link) n.entry (tree_in a u.link) =
    c.fork-low_right.ensures.adds.same low_left c.fork-low_left.ensures.branch.link ∙ c.fork-low_left.ensures.tree in
    let e1 = c.fork-low_left.ensures.adds.same v.link c.branch_of-middle_right.ensures.branch.link in
    let e2 = c.fork-low_left.ensures.adds.same c.args.right.link c.requires.right.link in
    let q_is : tree_in d low_right ≡ Fork (tree_in a v.link) c.args.entry (tree_in a c.args.right.link) =
    cc (c.fork-low_right.ensures.tree, e1, e2) in
    let turned = twice_left _ _ _ _ _ _ _ _ n.entry m.entry c.args.entry s.whole q.whole s.balanced
    (linked_balanced a.nodes c.args.right.link c.requires.sound c.requires.right.link) c.requires.two_higher
    (omega (arith, c.branch_of-inner.ensures.branch.tells.height, c.branch_of-outer.ensures.branch.tells.height, c.if-inner-outer.false))
    p_is q_is in
    let tb = c.args.table.now in
    let t = tree_in a c.args.right.link in
    let ps = left_parts tb (tree_in a c.args.left.link) (tree_in a inner.link) (tree_in a outer.link) (tree_in a u.link)
    (tree_in a v.link) t n.entry m.entry c.args.entry s.whole q.whole c.requires.ready in
    let hq = rw (e1, e2) at c.fork-low_right.ensures.hangs in
    record {
      sound = search rules;
      left = search rules;
      right = search rules;
      reserved = search rules;
      known = search rules;
      size = through_fork c.through-top_size.result n.left_size m.left_size _ (tree_in a outer.link) (tree_in a u.link) n.entry p_is
          c.through-top_size.ensures s.size q.size;
      balanced = (turned.balanced.2, turned.balanced.3);
      few = sides_few _ _ _ _ m.entry c.args.entry 131072 turned c.requires.few;
      ready = rw (p_is, q_is) (ps.third c.fork-low_left.new.table c.fork-low_right.new.table c.fork-low_left.ensures.hangs hq);
    }

pub returns : goal.returns
returns c =
    let a = c.args.nodes.now in
    let n = c.look-node.result in
    let m = c.look-middle.result in
    let d = c.fork-low_right.new.nodes in
    let low_left : Option ℕ = c.fork-low_left.result.link in
    let low_right : Option ℕ = c.fork-low_right.result.link in
    let outer = c.branch_of-outer.result in
    let inner = c.branch_of-inner.result in
    let s = sides a c.args.left.link c.in-Some.at n outer inner c.in-Some.is c.look-node.ensures.tree c.look-node.ensures.balanced
    c.look-node.ensures.size c.branch_of-outer.ensures.link c.branch_of-inner.ensures.link in
    let u = c.branch_of-middle_left.result in
    let v = c.branch_of-middle_right.result in
    let q = sides a inner.link c.in-Some-link.below m u v c.in-Some-link.is c.look-middle.ensures.tree c.look-middle.ensures.balanced
    c.look-middle.ensures.size c.branch_of-middle_left.ensures.link c.branch_of-middle_right.ensures.link in
    let p_is : tree_in d low_left ≡ Fork (tree_in a outer.link) n.entry (tree_in a u.link) =
    c.fork-low_right.ensures.adds.same low_left c.fork-low_left.ensures.branch.link ∙ c.fork-low_left.ensures.tree in
    let e1 = c.fork-low_left.ensures.adds.same v.link c.branch_of-middle_right.ensures.branch.link in
    let e2 = c.fork-low_left.ensures.adds.same c.args.right.link c.requires.right.link in
    let q_is : tree_in d low_right ≡ Fork (tree_in a v.link) c.args.entry (tree_in a c.args.right.link) =
    cc (c.fork-low_right.ensures.tree, e1, e2) in
    let turned = twice_left _ _ _ _ _ _ _ _ n.entry m.entry c.args.entry s.whole q.whole s.balanced
    (linked_balanced a.nodes c.args.right.link c.requires.sound c.requires.right.link) c.requires.two_higher
    (omega (arith, c.branch_of-inner.ensures.branch.tells.height, c.branch_of-outer.ensures.branch.tells.height, c.if-inner-outer.false))
    p_is q_is in
    let tb = c.args.table.now in
    let t = tree_in a c.args.right.link in
    let hq = rw (e1, e2) at c.fork-low_right.ensures.hangs in
    let ht = rw (p_is, q_is) at c.fork-2.ensures.hangs in
    record {
      adds = search rules;
      branch = search rules;
      rebuilt = rw c.fork-2.ensures.tree turned;
      hangs = rw (c.fork-2.ensures.tree, p_is, q_is) (hangs_both tb c.fork-low_left.new.table c.fork-low_right.new.table c.fork-2.new.table
          (Fork (tree_in a outer.link) n.entry (tree_in a u.link))
          (Fork (tree_in a v.link) c.args.entry t) m.entry c.fork-low_left.ensures.hangs hq ht);
      cost = omega (
        arith,
        c.look-node.ensures.cost,
        c.branch_of-outer.ensures.cost,
        c.branch_of-inner.ensures.cost,
        c.look-middle.ensures.cost,
        c.branch_of-middle_left.ensures.cost,
        c.branch_of-middle_right.ensures.cost,
        c.fork-low_left.ensures.count,
        c.fork-low_right.ensures.count,
        c.fork-2.ensures.count,
      );
      counts_on = omega (
        arith,
        c.look-node.ensures.step,
        c.look-middle.ensures.step,
        c.branch_of-outer.ensures.counts_on,
        c.branch_of-inner.ensures.counts_on,
        c.branch_of-middle_left.ensures.counts_on,
        c.branch_of-middle_right.ensures.counts_on,
      );
    }

pub fork-low-requires-clause-ready : goal.fork-low-requires-clause-ready
fork-low-requires-clause-ready c =
    let a = c.args.nodes.now in
    let tb = c.args.table.now in
    let n = c.look-node.result in
    let t = tree_in a c.args.right.link in
    let outer = c.branch_of-outer.result in
    let inner = c.branch_of-inner.result in
    let s = sides a c.args.left.link c.in-Some.at n outer inner c.in-Some.is c.look-node.ensures.tree c.look-node.ensures.balanced
    c.look-node.ensures.size c.branch_of-outer.ensures.link c.branch_of-inner.ensures.link in
    left_low tb (tree_in a c.args.left.link) (tree_in a outer.link) (tree_in a inner.link) t n.entry c.args.entry s.whole c.requires.ready

pub fork-requires-clause-ready : goal.fork-requires-clause-ready
fork-requires-clause-ready c =
    let a = c.args.nodes.now in
    let tb = c.args.table.now in
    let n = c.look-node.result in
    let t = tree_in a c.args.right.link in
    let outer = c.branch_of-outer.result in
    let inner = c.branch_of-inner.result in
    let s = sides a c.args.left.link c.in-Some.at n outer inner c.in-Some.is c.look-node.ensures.tree c.look-node.ensures.balanced
    c.look-node.ensures.size c.branch_of-outer.ensures.link c.branch_of-inner.ensures.link in
    let keeps = c.fork-low.ensures.adds.same outer.link c.branch_of-outer.ensures.branch.link in
    rw (keeps, c.fork-low.ensures.tree) (left_top tb c.fork-low.new.table (tree_in a c.args.left.link) (tree_in a outer.link)
    (tree_in a inner.link) t n.entry c.args.entry s.whole c.requires.ready c.fork-low.ensures.hangs)

pub fork-low_left-requires-clause-ready : goal.fork-low_left-requires-clause-ready
fork-low_left-requires-clause-ready c =
    let a = c.args.nodes.now in
    let tb = c.args.table.now in
    let n = c.look-node.result in
    let t = tree_in a c.args.right.link in
    let outer = c.branch_of-outer.result in
    let inner = c.branch_of-inner.result in
    let s = sides a c.args.left.link c.in-Some.at n outer inner c.in-Some.is c.look-node.ensures.tree c.look-node.ensures.balanced
    c.look-node.ensures.size c.branch_of-outer.ensures.link c.branch_of-inner.ensures.link in
    let m = c.look-middle.result in
    let u = c.branch_of-middle_left.result in
    let v = c.branch_of-middle_right.result in
    let q = sides a inner.link c.in-Some-link.below m u v c.in-Some-link.is c.look-middle.ensures.tree c.look-middle.ensures.balanced
    c.look-middle.ensures.size c.branch_of-middle_left.ensures.link c.branch_of-middle_right.ensures.link in
    let ps = left_parts tb (tree_in a c.args.left.link) (tree_in a inner.link) (tree_in a outer.link) (tree_in a u.link)
    (tree_in a v.link) t n.entry m.entry c.args.entry s.whole q.whole c.requires.ready in
    ps.first

pub fork-low_right-requires : goal.fork-low_right-requires
fork-low_right-requires c =
    let a = c.args.nodes.now in
    let tb = c.args.table.now in
    let n = c.look-node.result in
    let t = tree_in a c.args.right.link in
    let outer = c.branch_of-outer.result in
    let inner = c.branch_of-inner.result in
    let s = sides a c.args.left.link c.in-Some.at n outer inner c.in-Some.is c.look-node.ensures.tree c.look-node.ensures.balanced
    c.look-node.ensures.size c.branch_of-outer.ensures.link c.branch_of-inner.ensures.link in
    let m = c.look-middle.result in
    let u = c.branch_of-middle_left.result in
    let v = c.branch_of-middle_right.result in
    let q = sides a inner.link c.in-Some-link.below m u v c.in-Some-link.is c.look-middle.ensures.tree c.look-middle.ensures.balanced
    c.look-middle.ensures.size c.branch_of-middle_left.ensures.link c.branch_of-middle_right.ensures.link in
    let ps = left_parts tb (tree_in a c.args.left.link) (tree_in a inner.link) (tree_in a outer.link) (tree_in a u.link)
    (tree_in a v.link) t n.entry m.entry c.args.entry s.whole q.whole c.requires.ready in
    let e1 = c.fork-low_left.ensures.adds.same v.link c.branch_of-middle_right.ensures.branch.link in
    let e2 = c.fork-low_left.ensures.adds.same c.args.right.link c.requires.right.link in
    let f1 = ap (λ t. length (entries t)) s.whole in
    let f2 = ap (λ t. length (entries t)) q.whole in
    let sized = beyond_fork c.beyond-inner_size.result c.args.left_size n.left_size (tree_in a c.args.left.link) (tree_in a outer.link)
    (tree_in a inner.link) (tree_in a inner.link) n.entry s.whole refl c.beyond-inner_size.ensures c.requires.size s.size in
    record {
      sound = search rules;
      left = search rules;
      right = search rules;
      reserved = search rules;
      known = search rules;
      size = beyond_fork c.beyond-low_size.result c.beyond-inner_size.result m.left_size (tree_in a inner.link) (tree_in a u.link)
          (tree_in a v.link) _ m.entry q.whole e1 c.beyond-low_size.ensures sized q.size;
      balanced = search rules;
      few = rw (e1, e2) (omega (
        arith,
        f1,
        f2,
        c.requires.few,
        length-append (entries (tree_in a outer.link)) (n.entry ∷ entries (tree_in a inner.link)),
        length-append (entries (tree_in a u.link)) (m.entry ∷ entries (tree_in a v.link)),
      ));
      ready = rw (e1, e2) (ps.second c.fork-low_left.new.table c.fork-low_left.ensures.hangs);
    }

pub beyond-low_size-requires : goal.beyond-low_size-requires
beyond-low_size-requires c =
    let a = c.args.nodes.now in
    let n = c.look-node.result in
    let outer = c.branch_of-outer.result in
    let inner = c.branch_of-inner.result in
    let s = sides a c.args.left.link c.in-Some.at n outer inner c.in-Some.is c.look-node.ensures.tree c.look-node.ensures.balanced
    c.look-node.ensures.size c.branch_of-outer.ensures.link c.branch_of-inner.ensures.link in
    let m = c.look-middle.result in
    let u = c.branch_of-middle_left.result in
    let v = c.branch_of-middle_right.result in
    let q = sides a inner.link c.in-Some-link.below m u v c.in-Some-link.is c.look-middle.ensures.tree c.look-middle.ensures.balanced
    c.look-middle.ensures.size c.branch_of-middle_left.ensures.link c.branch_of-middle_right.ensures.link in
    let sized = beyond_fork c.beyond-inner_size.result c.args.left_size n.left_size (tree_in a c.args.left.link) (tree_in a outer.link)
    (tree_in a inner.link) (tree_in a inner.link) n.entry s.whole refl c.beyond-inner_size.ensures c.requires.size s.size in
    let small = left_within c.beyond-inner_size.result m.left_size (tree_in a inner.link) (tree_in a u.link)
    (tree_in a v.link) m.entry q.whole sized q.size in
    record { shown = small.0; units = small.1 }

pub through-top_size-requires : goal.through-top_size-requires
through-top_size-requires c =
    let a = c.args.nodes.now in
    let n = c.look-node.result in
    let outer = c.branch_of-outer.result in
    let inner = c.branch_of-inner.result in
    let s = sides a c.args.left.link c.in-Some.at n outer inner c.in-Some.is c.look-node.ensures.tree c.look-node.ensures.balanced
    c.look-node.ensures.size c.branch_of-outer.ensures.link c.branch_of-inner.ensures.link in
    let m = c.look-middle.result in
    let u = c.branch_of-middle_left.result in
    let v = c.branch_of-middle_right.result in
    let q = sides a inner.link c.in-Some-link.below m u v c.in-Some-link.is c.look-middle.ensures.tree c.look-middle.ensures.balanced
    c.look-middle.ensures.size c.branch_of-middle_left.ensures.link c.branch_of-middle_right.ensures.link in
    let f1 = ap (λ t. length (entries t)) s.whole in
    let f2 = ap (λ t. length (entries t)) q.whole in
    let few : length (entries (tree_in a outer.link)) + length (entries (tree_in a u.link)) < 131072 = omega (
      arith,
      f1,
      f2,
      c.requires.few,
      length-append (entries (tree_in a outer.link)) (n.entry ∷ entries (tree_in a inner.link)),
      length-append (entries (tree_in a u.link)) (m.entry ∷ entries (tree_in a v.link)),
    ) in
    let small = through_small n.left_size m.left_size (entries (tree_in a outer.link)) (entries (tree_in a u.link)) n.entry
    s.size q.size few in
    record { shown = small.0; units = small.1 }
