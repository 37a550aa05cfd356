-- One turn, for each way in which the next line comes.
use Rattle.std.proofs.Common.{◌≡◌, ℕ, ◌+◌, ◌<◌, List, [], ◌∷◌, ◌++◌, length, take, drop, Option, None, Some, Bool, true, false, Result, Err}
use Rattle.std.proofs.Common.{sym, ap, subst, ◌∙◌, arith}
use Rattle.std.specs.Io.KnownBytes.{Consumes, Appends, IsAtEnd}
use Rattle.std.proofs.Math.Seq.{take-append_seam, drop-append-add}
use Rattle.wire_json.specs.Text.{text as text_of}
use Rattle.line_engine.specs.Internal.Turns.{Turn, Cuts, SentOn, after_sending}
use Rattle.room_model.specs.declared.reply.Reply.TheVariants.{No}
use Rattle.opid.specs.declared.refusal.Refusal.TheVariants.{TooLong}
use Rattle.line_engine.specs.declared.fault.ServeFault.{ServeFault}
use Rattle.line_engine.specs.declared.fault.ServeFault.TheVariants.{Read}
use Rattle.line_engine.specs.declared.window.Next.TheVariants.{Line, Long, Last, LastLong}
use Rattle.line_engine.proofs.Known.{Appends-none}
use Rattle.line_engine.proofs.Serving.{Turn-line, Turn-last, Turn-unread}

pub arm_unread : {S : Type 0} (answers : S → List ℕ → List ℕ → S → Type 0) (limit : ℕ) (old : S) (a b p : Option (List ℕ))
    (start held : List ℕ)
    → ((got : List ℕ) × Consumes a b got × Cuts limit (start ++ got) None held)
    → (got : List ℕ) × (written : List ℕ) × Consumes a b got × Appends p p written
    × Turn answers old (start ++ got) b held written (Err Read) old
arm_unread answers limit old a b p start held (got, c, plain) =
    (got, [], c, Appends-none p, Turn-unread answers old (start ++ got) b held plain)

pub arm_line : {S T : Type 0} (answers : S → List ℕ → List ℕ → S → Type 0) (limit : ℕ) (old new : S) (a b p q : Option (List ℕ))
    (start held bytes held' : List ℕ) (n : ℕ) (sent : Result T ServeFault) (r : Result Bool ServeFault)
    → ((got : List ℕ) × Consumes a b got × Cuts limit (start ++ got) (Some (Line n)) held) → bytes ≡ held → held' ≡ drop (n + 1) held
    → ((text : List ℕ) × answers old (take n bytes) text new × SentOn p q text sent) → r ≡ after_sending sent true
    → (got : List ℕ) × (written : List ℕ) × Consumes a b got × Appends p q written × Turn answers old (start ++ got) b held' written r new
arm_line {S} answers limit old new a b p q start held bytes held' n sent r (got, c, (stays, low, (line, more, is, plain, size))) same adv
    (text, said, s) e =
    let whole : held ≡ line ++ 10 ∷ more = stays ∙ is in
    let front : take n bytes ≡ line =
    ap (take n) (same ∙ whole) ∙ ap (λ k. take k (line ++ 10 ∷ more)) (sym size) ∙ take-append_seam line (10 ∷ more) in
    let behind : held' ≡ more =
    adv ∙ ap (drop (n + 1)) whole ∙ ap (λ k. drop (k + 1) (line ++ 10 ∷ more)) (sym size) ∙ drop-append-add line (10 ∷ more) 1 in
    let P : List ℕ → Type 0 = λ t. answers old t text new in
    let t = Turn-line answers old new (start ++ got) b line held' text p q sent (is ∙ ap (λ m. line ++ 10 ∷ m) (sym behind)) plain
    (subst P front said) s in (
      got,
      t.0,
      c,
      t.1,
      (let Q : Result Bool ServeFault → Type 0 =
          λ x. Turn answers old (start ++ got) b held' t.0 x new in subst Q (sym e) t.2),
    )

pub arm_long : {S T : Type 0} (answers : S → List ℕ → List ℕ → S → Type 0) (limit : ℕ) (old : S) (a b p q : Option (List ℕ))
    (start held : List ℕ) (sent : Result T ServeFault) (r : Result Bool ServeFault)
    → ((s : S) (line : List ℕ) → limit < length line → answers s line (text_of (No TooLong)) s)
    → ((got : List ℕ) × Consumes a b got × Cuts limit (start ++ got) (Some Long) held)
    → SentOn p q (text_of (No TooLong)) sent → r ≡ after_sending sent true
    → (got : List ℕ) × (written : List ℕ) × Consumes a b got × Appends p q written × Turn answers old (start ++ got) b held written r old
arm_long answers limit old a b p q start held sent r refuses (got, c, (line, is, plain, long)) s e =
    let t = Turn-line answers old old (start ++ got) b line held (text_of (No TooLong)) p q sent is plain (refuses old line long) s in (
      got,
      t.0,
      c,
      t.1,
      (let Q : Result Bool ServeFault → Type 0 =
          λ x. Turn answers old (start ++ got) b held t.0 x old in subst Q (sym e) t.2),
    )

pub arm_last : {S T : Type 0} (answers : S → List ℕ → List ℕ → S → Type 0) (limit : ℕ) (old new : S) (a b p q : Option (List ℕ))
    (start held bytes : List ℕ) (n : ℕ) (sent : Result T ServeFault) (r : Result Bool ServeFault)
    → ((got : List ℕ) × Consumes a b got × Cuts limit (start ++ got) (Some (Last n)) held) → IsAtEnd b → bytes ≡ held → 0 < n
    → ((text : List ℕ) × answers old bytes text new × SentOn p q text sent) → r ≡ after_sending sent false
    → (got : List ℕ) × (written : List ℕ) × Consumes a b got × Appends p q written × Turn answers old (start ++ got) b held written r new
arm_last {S} answers limit old new a b p q start held bytes n sent r (got, c, (stays, plain, size)) end same some (text, said, s) e =
    let P : List ℕ → Type 0 = λ t. answers old t text new in
    let byte : 0 < length (start ++ got) = omega (arith, size, some) in
    let t = Turn-last answers old new (start ++ got) b held text p q sent byte plain end (subst P (same ∙ stays) said) s in (
      got,
      t.0,
      c,
      t.1,
      (let Q : Result Bool ServeFault → Type 0 =
          λ x. Turn answers old (start ++ got) b held t.0 x new in subst Q (sym e) t.2),
    )

pub arm_last_long : {S T : Type 0} (answers : S → List ℕ → List ℕ → S → Type 0) (limit : ℕ) (old : S) (a b p q : Option (List ℕ))
    (start held : List ℕ) (sent : Result T ServeFault) (r : Result Bool ServeFault)
    → ((s : S) (line : List ℕ) → limit < length line → answers s line (text_of (No TooLong)) s)
    → ((got : List ℕ) × Consumes a b got × Cuts limit (start ++ got) (Some LastLong) held)
    → IsAtEnd b → SentOn p q (text_of (No TooLong)) sent → r ≡ after_sending sent false
    → (got : List ℕ) × (written : List ℕ) × Consumes a b got × Appends p q written × Turn answers old (start ++ got) b held written r old
arm_last_long answers limit old a b p q start held sent r refuses (got, c, (plain, long)) end s e =
    let byte : 0 < length (start ++ got) = omega (arith, long) in
    let t = Turn-last answers old old (start ++ got) b held (text_of (No TooLong)) p q sent byte plain end
    (refuses old (start ++ got) long) s in (
      got,
      t.0,
      c,
      t.1,
      (let Q : Result Bool ServeFault → Type 0 =
          λ x. Turn answers old (start ++ got) b held t.0 x old in subst Q (sym e) t.2),
    )
