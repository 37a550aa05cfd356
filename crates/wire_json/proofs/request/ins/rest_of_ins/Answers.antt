use Rattle.std.proofs.Common.{◌≡◌, ◌∙◌, ◌∷◌, [], ℕ, List, ap, sym, subst, take}
use Rattle.std.specs.Str.{chars}
use Rattle.room_model.specs.declared.call.Call.TheVariants.{Ins}
use Rattle.wire_json.specs.Internal.CallTokens.{ReadsRest}
use Rattle.wire_json.proofs.CallTokens.{ins_rest}
use Rattle.wire_json.proofs.request.ins.rest_of_ins.Goals as goal

pub returns-clause-told : goal.returns-clause-told
returns-clause-told c =
    let text : take 65 (chars c.next_text.new.into.bytes) ≡ c.in_ok-x.x =
    ap (λ (bs : List ℕ). take 65 (chars bs)) (sym c.as_str.ensures.value) ∙ sym c.first_characters.ensures ∙ sym c.in_ok-x.ensures.value in
    subst (λ (x : List ℕ). ReadsRest (105 ∷ 110 ∷ 115 ∷ []) c.args.reader.now (Ins c.in-Some.s c.in-Some.n c.in-Some.v c.in-Some.k x)) text
    (ins_rest c.args.reader.now c.next_place.new.reader c.take_key.new.self c.next_text.new.self c.in-Some.s c.in-Some.n
    c.in-Some.v c.in-Some.k
    c.next_text.new.into.bytes c.in-Some.ensures (c.take_key.ensures.yes c.if-not-take_key.false)
    (c.next_text.ensures c.if-not-next_text.false) (c.is_closed.ensures c.if-not-is_closed.false))
