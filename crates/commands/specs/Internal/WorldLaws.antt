-- That a line above a script's limit is refused.
use Rattle.std.proofs.Common.{ℕ, ◌<◌, List, length, Err, refl, inl}
use Rattle.opid.specs.declared.refusal.Refusal.TheVariants.{TooLong}
use Rattle.room_model.specs.History.{Account}
use Rattle.room_model.specs.declared.reply.Reply.TheVariants.{No}
use Rattle.wire_json.specs.Text.{text}
use Rattle.commands.specs.Worlds.{AnswersLine}

-- a line that is too long is answered so
pub AnswersLine-long : (world : List Account) (line : List ℕ) → 65600 < length line → AnswersLine world line (text (No TooLong)) world
AnswersLine-long world line long = inl (Err TooLong, inl (long, refl), (refl, refl))
