-- How an opening is answered.
use Rattle.std.proofs.Common.{◌≡◌, ℕ, ◌<◌, List, length, Option, None, Result, Ok, Err, ◌⊎◌, inl, inr, refl, sym, ap, subst}
use Rattle.opid.specs.declared.refusal.Refusal.{Refusal}
use Rattle.opid.specs.declared.refusal.Refusal.TheVariants as Why
use Rattle.room_model.specs.declared.reply.Reply.TheVariants.{No}
use Rattle.wire_json.specs.Request.{room_asked_for}
use Rattle.wire_json.specs.Text.{text as text_of}
use Rattle.ws_server.specs.declared.hall.Hall.{Hall}
use Rattle.ws_server.specs.Halls.{place_named}
use Rattle.ws_server.specs.Frames.{OpensAt, OpensAsked, OpensRoom}
use Rattle.line_engine.proofs.Answering.{within_limit}

pub opens_refused : {String : Type 0} (hall : Hall) (line : List ℕ) (refusal : Refusal) (asked : Result String Refusal) (opened : Option ℕ)
    → opened ≡ None → asked ≡ Err refusal → (65536 < length line → asked ≡ Err Why.TooLong)
    → (refusal ≡ Why.Memory) ⊎ (room_asked_for line ≡ Err refusal) → OpensRoom hall line (text_of (No refusal)) opened
opens_refused hall line refusal asked opened none same long (inl e) =
    inr (within_limit line refusal asked same e long, ap (λ t. text_of (No t)) e, none)
opens_refused hall line refusal asked opened none same long (inr is) =
    let P : Result (List ℕ) Refusal → Type 0 = λ r. OpensAsked hall r (text_of (No refusal)) opened in inl (subst P (sym is) (refl, none))

pub opens_at : (hall : Hall) (line name answer : List ℕ) (opened : Option ℕ) → room_asked_for line ≡ Ok name
    → OpensAt (place_named hall name) answer opened → OpensRoom hall line answer opened
opens_at hall line name answer opened is h =
    let P : Result (List ℕ) Refusal → Type 0 = λ r. OpensAsked hall r answer opened in inl (subst P (sym is) h)
