-- What an opening is answered.
use Rattle.std.proofs.Common.{◌≡◌, ℕ, Option, Some, None, refl, sym, ap, subst, ◌∙◌, string_bytes}
use Rattle.opid.specs.declared.refusal.Refusal.TheVariants as Why
use Rattle.room_model.specs.declared.reply.Reply.TheVariants.{No}
use Rattle.wire_json.specs.Text.{text}
use Rattle.ws_server.specs.Halls.{place_named}
use Rattle.ws_server.specs.Frames.{OpensAt, opened_text}
use Rattle.ws_server.proofs.Opening.{opens_at, opens_refused}
use Rattle.ws_server.proofs.frame.open.Goals as goal

pub returns-in-Err-clause-opened : goal.returns-in-Err-clause-opened
returns-in-Err-clause-opened c = (
  text (No c.in-Err.why),
  opens_refused c.args.hall.now c.args.bytes.now c.in-Err.why _ c.args.opened.now c.requires c.in-Err.is c.read_open.ensures.too_long
      c.in-Err.ensures.asked,
  c.refusal.ensures.line,
)

pub returns-in-Some-clause-opened : goal.returns-in-Some-clause-opened
returns-in-Some-clause-opened c =
    let place : place_named c.args.hall.now (string_bytes c.in-Ok.name) ≡ Some c.in-Some.at =
    sym (c.in-Some.ensures.place ∙ ap (place_named c.args.hall.now) c.as_str.ensures.value) in
    let P : Option ℕ → Type 0 = λ o. OpensAt o opened_text (Some c.in-Some.at) in (
      opened_text,
      opens_at c.args.hall.now c.args.bytes.now (string_bytes c.in-Ok.name) opened_text (Some c.in-Some.at) c.in-Ok.ensures.asked
          (subst P (sym place) (refl, refl)),
      refl,
    )

pub returns-clause-opened : goal.returns-clause-opened
returns-clause-opened c =
    let place : place_named c.args.hall.now (string_bytes c.in-Ok.name) ≡ None =
    sym (c.in-None.ensures.place ∙ ap (place_named c.args.hall.now) c.as_str.ensures.value) in
    let answer = text (No Why.NoRoom) in
    let P : Option ℕ → Type 0 = λ o. OpensAt o answer c.args.opened.now in (
      answer,
      opens_at c.args.hall.now c.args.bytes.now (string_bytes c.in-Ok.name) answer c.args.opened.now c.in-Ok.ensures.asked
          (subst P (sym place) (refl, c.requires)),
      c.refusal-in-None.ensures.line,
    )
