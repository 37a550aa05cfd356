-- What is served one turn after another.
use Rattle.std.proofs.Common.{◌≡◌, ℕ, ◌<◌, length, arith, List, [], ◌∷◌, ◌++◌, All, Option, true, false, Result, Ok, Err, inl, inr, refl}
use Rattle.std.proofs.Common.{sym, ap, subst, ◌∙◌, append_assoc, length-append}
use Rattle.std.specs.List.{flat_map}
use Rattle.std.proofs.lemmas.List.Elements.{All-append, All-nil}
use Rattle.wire_json.specs.Line.{IsLine}
use Rattle.line_engine.specs.Lines.{FallsShort, ended, cut}
use Rattle.line_engine.specs.ServedLines.{AreAnswered, Serves, ServesPart, Reaches}
use Rattle.line_engine.specs.Internal.Turns.{Turn, SentOn, after_sending}
use Rattle.std.specs.Io.KnownBytes.{Appends, IsAtEnd}
use Rattle.std.proofs.lemmas.List.{append-nil}
use Rattle.line_engine.specs.declared.fault.ServeFault.{ServeFault}
use Rattle.line_engine.specs.declared.fault.ServeFault.TheVariants.{Read, Write, Memory}
use Rattle.line_engine.proofs.Cutting.{cut-lines, cut_one, ended-append, ended-more}

pub AreAnswered-append : {S : Type 0} (answers : S → List ℕ → List ℕ → S → Type 0) (old mid new : S)
    (lines more texts others : List (List ℕ))
    → AreAnswered answers old lines texts mid → AreAnswered answers mid more others new
    → AreAnswered answers old (lines ++ more) (texts ++ others) new
AreAnswered-append {S} answers old mid new [] more [] others h k =
    let P : S → Type 0 = λ s. AreAnswered answers s more others new in subst P h k
AreAnswered-append answers old mid new [] more (text ∷ texts) others h k = absurd h
AreAnswered-append answers old mid new (line ∷ lines) more [] others h k = absurd h
AreAnswered-append answers old mid new (line ∷ lines) more (text ∷ texts) others h k =
    (h.0, h.1, AreAnswered-append answers h.0 mid new lines more texts others h.2 k)

pub AreAnswered-one : {S : Type 0} (answers : S → List ℕ → List ℕ → S → Type 0) (old new : S) (line text : List ℕ)
    → answers old line text new → AreAnswered answers old (line ∷ []) (text ∷ []) new
AreAnswered-one answers old new line text h = (new, h, refl)

-- lines before those that the bytes behind reach
Reaches-after : (left : Option (List ℕ)) (all : List ℕ) (lines first : List (List ℕ)) (line : List ℕ) → All IsLine lines
    → Reaches left all first line
    → Reaches left (flat_map ended lines ++ all) (lines ++ first) line
Reaches-after left all lines first line each (each', plain, inl (rest, is)) = (
  All-append IsLine lines first each each',
  plain,
  inl (
    rest,
    ap (λ t. flat_map ended lines ++ t) is ∙ sym (append_assoc (flat_map ended lines) (flat_map ended first) (line ++ 10 ∷ rest))
        ∙ ap (λ t. t ++ (line ++ 10 ∷ rest)) (sym (ended-append lines first)),
  ),
)
Reaches-after left all lines first line each (each', plain, inr (some, is, end)) = (
  All-append IsLine lines first each each',
  plain,
  inr (
    some,
    ap (λ t. flat_map ended lines ++ t) is ∙ sym (append_assoc (flat_map ended lines) (flat_map ended first) line)
        ∙ ap (λ t. t ++ line) (sym (ended-append lines first)),
    end,
  ),
)

-- what was served before, and a part of what is served of the bytes behind
ServesPart-after : {S : Type 0} (answers : S → List ℕ → List ℕ → S → Type 0) (old mid new : S) (lines texts : List (List ℕ)) (all : List ℕ)
    (left : Option (List ℕ)) (written text sent : List ℕ)
    → All IsLine lines → AreAnswered answers old lines texts mid → ServesPart answers mid all left written text sent new
    → ServesPart answers old (flat_map ended lines ++ all) left (flat_map ended texts ++ written) text sent new
ServesPart-after answers old mid new lines texts all left written text sent each h (first, line, others, between, is, k, a, w, short) = (
  lines ++ first,
  line,
  texts ++ others,
  between,
  Reaches-after left all lines first line each is,
  AreAnswered-append answers old mid between lines first texts others h k,
  a,
  ap (λ t. flat_map ended texts ++ t) w ∙ sym (append_assoc (flat_map ended texts) (flat_map ended others) sent)
      ∙ ap (λ t. t ++ sent) (sym (ended-append texts others)),
  short,
)

-- what was served before, and what is served of the bytes behind
pub Serves-after : {S T : Type 0} (answers : S → List ℕ → List ℕ → S → Type 0) (old mid new : S) (lines texts : List (List ℕ))
    (all : List ℕ) (left : Option (List ℕ)) (written : List ℕ) (r : Result T ServeFault)
    → All IsLine lines → AreAnswered answers old lines texts mid → Serves answers mid all left written r new
    → Serves answers old (flat_map ended lines ++ all) left (flat_map ended texts ++ written) r new
Serves-after answers old mid new lines texts all left written (Ok done) each h (k, end) = (
  (
    texts ++ k.0,
    rw (cut-lines lines all each) (AreAnswered-append answers old mid new lines (cut all) texts k.0 h k.1),
    ap (λ t. flat_map ended texts ++ t) k.2 ∙ sym (ended-append texts k.0),
  ),
  end,
)
Serves-after answers old mid new lines texts all left written (Err Read) each h (more, rest, others, each', partial, is, k, w) = (
  lines ++ more,
  rest,
  texts ++ others,
  All-append IsLine lines more each each',
  partial,
  ap (λ t. flat_map ended lines ++ t) is ∙ sym (append_assoc (flat_map ended lines) (flat_map ended more) rest)
      ∙ ap (λ t. t ++ rest) (sym (ended-append lines more)),
  AreAnswered-append answers old mid new lines more texts others h k,
  ap (λ t. flat_map ended texts ++ t) w ∙ sym (ended-append texts others),
)
Serves-after answers old mid new lines texts all left written (Err Write) each h (text, sent, part) =
    (text, sent, ServesPart-after answers old mid new lines texts all left written text sent each h part)
Serves-after answers old mid new lines texts all left written (Err Memory) each h (text, other, part) =
    (text, other, ServesPart-after answers old mid new lines texts all left written text [] each h part)

-- nothing of a line was sent
ended-missing : (text : List ℕ) → FallsShort [] (ended text)
ended-missing text = (ended text, refl, (let e = length-append text (10 ∷ []) in omega (arith, e)))

-- a turn that serves a line with its LF
pub Turn-line : {S T : Type 0} (answers : S → List ℕ → List ℕ → S → Type 0) (old new : S)
    (all : List ℕ) (left : Option (List ℕ)) (line held text : List ℕ) (before after : Option (List ℕ)) (sent : Result T ServeFault)
    → all ≡ line ++ 10 ∷ held → IsLine line → answers old line text new → SentOn before after text sent
    → (written : List ℕ) × Appends before after written × Turn answers old all left held written (after_sending sent true) new
Turn-line answers old new all left line held text before after (Ok done) is plain a s = (ended text, s, (line, text, is, plain, a, refl))
Turn-line answers old new all left line held text before after (Err Read) is plain a s = absurd s
Turn-line answers old new all left line held text before after (Err Write) is plain a s =
    (s.0, s.1, (text, s.0, ([], line, [], old, (All-nil IsLine, plain, inl (held, is)), refl, a, refl, s.2)))
Turn-line answers old new all left line held text before after (Err Memory) is plain a s =
    ([], s.0, (text, s.1, ([], line, [], old, (All-nil IsLine, plain, inl (held, is)), refl, a, refl, ended-missing text)))

-- a turn that serves the last line, without LF
pub Turn-last : {S T : Type 0} (answers : S → List ℕ → List ℕ → S → Type 0) (old new : S)
    (line : List ℕ) (left : Option (List ℕ)) (held text : List ℕ) (before after : Option (List ℕ)) (sent : Result T ServeFault)
    → 0 < length line → IsLine line → IsAtEnd left → answers old line text new → SentOn before after text sent
    → (written : List ℕ) × Appends before after written × Turn answers old line left held written (after_sending sent false) new
Turn-last answers old new line left held text before after (Ok done) some plain end a s = (
  ended text,
  s,
  (
    (
      text ∷ [],
      rw (cut_one line some plain) (AreAnswered-one answers old new line text a),
      sym (append-nil (ended text)),
    ),
    end,
  ),
)
Turn-last answers old new line left held text before after (Err Read) some plain end a s = absurd s
Turn-last answers old new line left held text before after (Err Write) some plain end a s =
    (s.0, s.1, (text, s.0, ([], line, [], old, (All-nil IsLine, plain, inr (some, refl, end)), refl, a, refl, s.2)))
Turn-last answers old new line left held text before after (Err Memory) some plain end a s =
    ([], s.0, (text, s.1, ([], line, [], old, (All-nil IsLine, plain, inr (some, refl, end)), refl, a, refl, ended-missing text)))

-- a turn whose read failed
pub Turn-unread : {S : Type 0} (answers : S → List ℕ → List ℕ → S → Type 0) (old : S) (line : List ℕ) (left : Option (List ℕ))
    (held : List ℕ)
    → IsLine line → Turn answers old line left held [] (Err Read) old
Turn-unread answers old line left held plain = ([], line, [], All-nil IsLine, plain, refl, refl, refl)

-- one more line
pub AreAnswered-more : {S : Type 0} (answers : S → List ℕ → List ℕ → S → Type 0) (old mid new : S) (lines texts : List (List ℕ))
    (line text : List ℕ)
    → AreAnswered answers old lines texts mid → answers mid line text new
    → AreAnswered answers old (lines ++ line ∷ []) (texts ++ text ∷ []) new
AreAnswered-more answers old mid new lines texts line text h a =
    AreAnswered-append answers old mid new lines (line ∷ []) texts (text ∷ []) h (AreAnswered-one answers mid new line text a)

-- the bytes that were read, once a line more was cut off
pub ended-cut : (lines : List (List ℕ)) (line held got held' : List ℕ) → held ++ got ≡ line ++ 10 ∷ held'
    → (flat_map ended lines ++ held) ++ got ≡ flat_map ended (lines ++ line ∷ []) ++ held'
ended-cut lines line held got held' is =
    append_assoc (flat_map ended lines) held got ∙ ap (λ t. flat_map ended lines ++ t) (is ∙ sym (append_assoc line (10 ∷ []) held'))
    ∙ sym (append_assoc (flat_map ended lines) (ended line) held') ∙ ap (λ t. t ++ held') (sym (ended-more lines line))
