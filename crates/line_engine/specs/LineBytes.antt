-- The bytes of an answer's line, and which answers need no memory: those that tell refusals. They are the server's own.
use Rattle.std.specs.Prelude.{◌≢◌, ℕ, List, string_bytes}
use Rattle.opid.specs.declared.refusal.Refusal.{Refusal}
use Rattle.room_model.specs.declared.reply.Reply.TheVariants.{No}
use Rattle.wire_json.specs.Text.{text}
use Rattle.line_engine.specs.declared.reply_line.ReplyLine.{ReplyLine}
use Rattle.line_engine.specs.declared.reply_line.ReplyLine.TheVariants.{Made, Fixed}

-- the bytes that are sent, with the LF
abbrev pub line_bytes : ReplyLine → List ℕ
line_bytes (Made line) = string_bytes line
line_bytes (Fixed line) = line.now

-- the line stands in the program, and took no memory
abbrev pub IsFixed : ReplyLine → Type 0
IsFixed (Made line) = ⊥
IsFixed (Fixed line) = Unit {0}

-- the answer is no refusal's
abbrev pub TellsNoRefusal : List ℕ → Type 0
TellsNoRefusal answer = (why : Refusal) → answer ≢ text (No why)
