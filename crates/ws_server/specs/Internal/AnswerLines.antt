-- The line that stands for an answer until it is sent.
use Rattle.std.specs.Prelude.{◌≡◌, ◌⊎◌, ℕ, List}
use Rattle.line_engine.specs.LineBytes.{line_bytes, IsFixed, TellsNoRefusal}
use Rattle.line_engine.specs.Lines.{ended}
use Rattle.line_engine.specs.declared.reply_line.ReplyLine.{ReplyLine}

-- the line is that of the answer, and was made only where that is no refusal's
abbrev pub IsLineOf : List ℕ → ReplyLine → Type 0
IsLineOf answer line = (line_bytes line ≡ ended answer) × (IsFixed line ⊎ TellsNoRefusal answer)
