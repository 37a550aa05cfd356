-- The text of a reply that is no refusal is none of a refusal, so what the line of a reply lacks memory for is none.
use Rattle.std.proofs.Common.{◌≡◌, ◌≢◌, ℕ, List, ◌∷◌, Result, Ok, Err, IfOk, MatchResult, IsOkAnd, arith, ap, refl}
use Rattle.std.proofs.Common.{◌⊎◌, inl, inr}
use Rattle.opid.specs.declared.refusal.Refusal.{Refusal}
use Rattle.room_model.specs.declared.reply.Reply.{Reply}
use Rattle.room_model.specs.declared.reply.Reply.TheVariants as replies
use Rattle.wire_json.specs.Text.{text}
use Rattle.line_engine.specs.declared.reply_line.ReplyLine.{ReplyLine}
use Rattle.line_engine.specs.declared.reply_line.ReplyLine.TheVariants.{Made, Fixed}
use Rattle.line_engine.specs.LineBytes.{line_bytes, IsFixed, TellsNoRefusal}
use Rattle.line_engine.specs.Lines.{ended}

-- the first letter of the first key
abbrev third : List ℕ → ℕ
third (a ∷ b ∷ c ∷ rest) = c
third rest = 0

pub tells_none : (reply : Reply) → ((why : Refusal) → reply ≢ replies.No why) → TellsNoRefusal (text reply)
tells_none (replies.Joined s v x) other why is = let e : 114 ≡ 110 = ap third is in omega (arith, e)
tells_none (replies.Ok start to) other why is = let e : 102 ≡ 110 = ap third is in omega (arith, e)
tells_none (replies.Edits start es) other why is = let e : 101 ≡ 110 = ap third is in omega (arith, e)
tells_none replies.Left other why is = let e : 114 ≡ 110 = ap third is in omega (arith, e)
tells_none (replies.Ops start ops) other why is = let e : 102 ≡ 110 = ap third is in omega (arith, e)
tells_none (replies.Put os) other why is = let e : 111 ≡ 110 = ap third is in omega (arith, e)
tells_none (replies.Text v x) other why is = let e : 114 ≡ 110 = ap third is in omega (arith, e)
tells_none (replies.No refusal) other why is = absurd (other refusal refl)

-- the line of a reply, or what memory was wanted for
pub made_or_wanted : {E : Type 0} (reply : Reply) (made : Result ReplyLine E) → IfOk made (λ line. line_bytes line ≡ ended (text reply))
    → ((why : Refusal) → reply ≡ replies.No why → IsOkAnd made IsFixed)
    → MatchResult made (λ line. line_bytes line ≡ ended (text reply)) (λ _. TellsNoRefusal (text reply))
made_or_wanted reply (Ok line) is fixed = is
made_or_wanted reply (Err why) is fixed = tells_none reply fixed

-- a line that was made is of a reply that is no refusal
pub fixed_or_none : (reply : Reply) (line : ReplyLine) → ((why : Refusal) → reply ≡ replies.No why → IsFixed line)
    → IsFixed line ⊎ TellsNoRefusal (text reply)
fixed_or_none reply (Made line) fixed = inr (tells_none reply fixed)
fixed_or_none reply (Fixed line) fixed = inl tt
