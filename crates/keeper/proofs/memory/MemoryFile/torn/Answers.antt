-- The last call is done in part.
use Rattle.std.proofs.Common.{◌≡◌, ◌≤◌, ◌++◌, ◌∷◌, [], ◌-◌, take, length, replicate, min, sym, ap, ◌∙◌, arith}
use Rattle.std.proofs.lemmas.Grind.{common_steps}
use Rattle.std.proofs.lemmas.List.{length-append, length-take}
use Rattle.keeper.specs.Memory.{seen_after}
use Rattle.keeper.specs.declared.memory.Call.{Call}
use Rattle.keeper.proofs.Replays.{torn_is, torn_left, torn_same, same_append}
use Rattle.keeper.proofs.memory.MemoryFile.torn.Goals as goal

pub returns-in-Some-Append-default-clause-left : goal.returns-in-Some-Append-default-clause-left
returns-in-Some-Append-default-clause-left c =
    let self = c.args.self.now in
    let some = c.in-Some-Append-default in
    let all = c.extend_from_slice.new.self.items in
    let m = c.saturating_add.result in
    let n = c.min.result in
    let grown : all ≡ seen_after self.first.items some.before.now ++ take n some.more.items = grind (arith, common_steps) in
    let long : length all ≤ m = omega arith in
    let made : c.resize.new.self.items ≡ take m all ++ replicate (m - length all) 0 = grind (arith, common_steps) in
    torn_left n (m - length all) self.first.items self.calls.items some.before.now some.field-0-0.now some.more c.resize.new.self.items
    (sym c.deref.ensures.value ∙ some.ensures.cases.0) some.field-0-0-is (torn_is m (seen_after self.first.items some.before.now)
    (take n some.more.items) all c.resize.new.self.items grown long made)

pub returns-in-Some-Append-default-clause-torn : goal.returns-in-Some-Append-default-clause-torn
returns-in-Some-Append-default-clause-torn c others other is room =
    let self = c.args.self.now in
    let some = c.in-Some-Append-default in
    let all = c.extend_from_slice.new.self.items in
    let m = c.saturating_add.result in
    let n = c.min.result in
    let seen = seen_after self.first.items some.before.now in
    let more = some.more.items in
    let grown : all ≡ seen ++ take n more = grind (arith, common_steps) in
    let long : length all ≤ m = omega arith in
    let made : c.resize.new.self.items ≡ take m all ++ replicate (m - length all) 0 = grind (arith, common_steps) in
    let last = ap (λ (x : Call). some.before.now ++ x ∷ []) (sym some.field-0-0-is) in
    let same = same_append self.first.items some.before.now others some.more other
    (last ∙ sym (sym c.deref.ensures.value ∙ some.ensures.cases.0) ∙ is) in
    let few : n ≡ min (length more) c.args.size = grind (arith, common_steps) in
    let both = length-append seen (take n more) in
    let part = length-take n more in
    let fills : m - length all ≡ c.args.zeros = omega (arith, room, ap length same.0, ap length same.1, ap length grown, both, part) in
    torn_same n c.args.size c.args.zeros (m - length all) seen (seen_after self.first.items others) more other.items c.resize.new.self.items
    few fills same.0 same.1 (torn_is m seen (take n more) all c.resize.new.self.items grown long made)

pub returns-in-Some-Append-default-clause-whole : goal.returns-in-Some-Append-default-clause-whole
returns-in-Some-Append-default-clause-whole c none =
    let some = c.in-Some-Append-default in
    absurd (none some.before.now some.more
    ((sym c.deref.ensures.value ∙ some.ensures.cases.0) ∙ ap (λ (x : Call). some.before.now ++ x ∷ []) some.field-0-0-is))
