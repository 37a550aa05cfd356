-- The parent is refused exactly where the definition refuses it.
use Rattle.std.proofs.Common.{◌≡◌, ◌∙◌, sym, true, false, rules}
use Rattle.opid.specs.Stamps.{is_before}
use Rattle.rga_list.proofs.Ordered.{has_stamp-some, has_stamp-none}
use Rattle.rga_list.proofs.Refused.{parent_refusal-unknown, parent_refusal-younger, parent_refusal-none}
use Rattle.rga_list.proofs.rga.Rga.parent_of.Goals as goal

pub returns-in-None-elem_of-clause-cause : goal.returns-in-None-elem_of-clause-cause
returns-in-None-elem_of-clause-cause c =
    rw c.in-Some.is (parent_refusal-unknown c.args.self.now.entries c.in-Some.parent c.args.stamp.now
    (has_stamp-none c.in-Some.parent c.args.self.now.entries (sym c.elem_of.ensures.value ∙ c.in-None-elem_of.is)))

pub returns-then-lt-clause-ok : goal.returns-then-lt-clause-ok
returns-then-lt-clause-ok c =
    let older : is_before c.in-Some.parent c.args.stamp.now ≡ true = search rules in
    rw c.in-Some.is (parent_refusal-none c.args.self.now.entries c.in-Some.parent c.args.stamp.now
    (has_stamp-some c.in-Some.parent c.args.self.now.entries c.in-Some-elem_of.elem
    (sym c.elem_of.ensures.value ∙ c.in-Some-elem_of.is)) older)

pub returns-else-lt-clause-cause : goal.returns-else-lt-clause-cause
returns-else-lt-clause-cause c =
    let younger : is_before c.in-Some.parent c.args.stamp.now ≡ false = search rules in
    rw c.in-Some.is (parent_refusal-younger c.args.self.now.entries c.in-Some.parent c.args.stamp.now
    (has_stamp-some c.in-Some.parent c.args.self.now.entries c.in-Some-elem_of.elem
    (sym c.elem_of.ensures.value ∙ c.in-Some-elem_of.is)) younger)
