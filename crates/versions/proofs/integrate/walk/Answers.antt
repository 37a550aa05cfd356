-- Where the element right behind isn't passed, or there is none, the way ends at once.
use Rattle.std.proofs.Common.{◌≡◌, ◌∙◌, sym, false, rules}
use Rattle.opid.specs.Stamps.{is_before}
use Rattle.rga_list.specs.Entries.{Entry}
use Rattle.versions.proofs.Walks.{none-behind, not-passed}
use Rattle.versions.proofs.integrate.walk.Goals as goal

pub returns-in_default-clause-stands : goal.returns-in_default-clause-stands
returns-in_default-clause-stands c =
    none-behind c.args.from c.args.key c.args.list.now.entries _ c.requires.there (sym c.next.ensures.value ∙ c.in_default.is)
    c.requires.same

pub returns-then-not-is_before-clause-stands : goal.returns-then-not-is_before-clause-stands
returns-then-not-is_before-clause-stands c =
    let other : Entry = record {
      elem = c.in-Some.next;
      stamp = c.get-other.result.0;
      ch = c.get-other.result.1;
      shown = c.get-other.result.2;
    } in
    let behind : is_before c.args.stamp c.get-other.result.0 ≡ false = sym c.is_before.ensures ∙ c.if-not-is_before.true in
    not-passed c.args.from c.in-Some.next c.args.key c.args.stamp other c.args.list.now.entries _ (search rules) (search rules)
    c.len.ensures.own (sym c.next.ensures.value ∙ c.in-Some.is) c.get-other.ensures behind c.requires.key c.requires.same
