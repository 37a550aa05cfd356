-- What a world answers to the lines of a script, and what is written after them. The forms are the server's own.
use Rattle.std.specs.Prelude.{◌≡◌, ◌⊎◌, ℕ, ◌≤◌, List, [], length, Option, Some, None, Result, Ok, Err, codes, decimal}
use Rattle.std.specs.List.{flat_map}
use Rattle.opid.specs.Clocks.{sites}
use Rattle.opid.specs.Reading.{reading}
use Rattle.opid.specs.declared.refusal.Refusal.{Refusal}
use Rattle.opid.specs.declared.refusal.Refusal.TheVariants.{Memory}
use Rattle.room_model.specs.History.{Account}
use Rattle.room_model.specs.declared.reply.Reply.TheVariants as reply
use Rattle.room_model.specs.declared.event.Event.{Event}
use Rattle.room_model.specs.declared.world_reply.WorldReply.{WorldReply}
use Rattle.room_model.specs.declared.world_reply.WorldReply.TheVariants.{Room, Forked, No}
use Rattle.room_model.specs.World.{room_of, step}
use Rattle.wire_json.specs.Text.{text}
use Rattle.json_bytes.specs.Quote.{quote}
use Rattle.line_engine.specs.Lines.{ended}
use Rattle.commands.specs.Script.{spaced, Asks}

-- the text of a world's reply
abbrev pub reply_text : WorldReply → List ℕ
reply_text (Room r) = text r
reply_text Forked = codes "{\"r\":\"forked\"}"
reply_text (No why) = text (reply.No why)

-- an event is answered by the world, which goes a step; or memory was refused, and it doesn't
abbrev pub AnswersEvent : List Account → Event → List ℕ → List Account → Type 0
AnswersEvent old event answer new =
    ((answer ≡ reply_text (step old event).reply) × (new ≡ (step old event).world))
    ⊎ ((answer ≡ text (reply.No Memory)) × (new ≡ old))

-- the line's event is answered; a refused line leaves the world as it was
abbrev pub AnswersEventAsked : List Account → Result Event Refusal → List ℕ → List Account → Type 0
AnswersEventAsked old (Ok event) answer new = AnswersEvent old event answer new
AnswersEventAsked old (Err why) answer new = (answer ≡ text (reply.No why)) × (new ≡ old)

-- the answer to a line of a script; the reading of one that isn't too long may find no memory
abbrev pub AnswersLine : List Account → List ℕ → List ℕ → List Account → Type 0
AnswersLine old line answer new =
    ((asked : Result Event Refusal) × Asks line asked × AnswersEventAsked old asked answer new)
    ⊎ ((length line ≤ 65600) × (answer ≡ text (reply.No Memory)) × (new ≡ old))

-- ---- after the lines

-- a room's site, its version and its text in quotes
abbrev pub room_line : Account → List ℕ
room_line a = ended (spaced (decimal a.state.site) (spaced (decimal (length a.state.log)) (quote (reading a.state.log))))

-- the line of a site's room, if it has one
abbrev pub site_lines : Option Account → List ℕ
site_lines None = []
site_lines (Some a) = room_line a

-- a line for each site that has a room, by rising sites
abbrev pub readings : List Account → List ℕ
readings world = flat_map (λ site. site_lines (room_of site world)) sites
