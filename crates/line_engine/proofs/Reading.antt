-- What a read that goes on gives.
use Rattle.std.proofs.Common.{◌≡◌, ◌≢◌, ℕ, ◌+◌, ◌<◌, List, [], ◌∷◌, ◌++◌, length, take, drop, Option, None, Some, sym, ap, ◌∙◌}
use Rattle.std.proofs.Common.{append_assoc, arith, length-append}
use Rattle.std.specs.Io.KnownBytes.{Consumes}
use Rattle.std.proofs.lemmas.List.{take_at}
use Rattle.std.proofs.lemmas.List.Elements.{All-append, All-same}
use Rattle.wire_json.specs.Line.{IsLine}
use Rattle.line_engine.specs.Internal.Turns.{Skips, Cuts}
use Rattle.line_engine.specs.declared.window.Next.{Next}
use Rattle.line_engine.specs.declared.window.Next.TheVariants.{Line, Long, Last, LastLong}
use Rattle.line_engine.proofs.Known.{Consumes-then}

plain_append : (xs ys : List ℕ) → IsLine xs → IsLine ys → IsLine (xs ++ ys)
plain_append xs ys h k = All-append (λ byte. byte ≢ 10) xs ys h k

plain_same : (xs ys : List ℕ) → xs ≡ ys → IsLine ys → IsLine xs
plain_same xs ys e h = All-same (λ byte. byte ≢ 10) xs ys e h

-- an LF ends the line that is skipped
pub skip_done : (a b d : Option (List ℕ)) (skipped held got filled bytes held' : List ℕ) (at : ℕ)
    → Consumes a b skipped → IsLine skipped → held ≡ [] → Consumes b d got → filled ≡ held ++ got → bytes ≡ filled
    → IsLine (take at bytes) → bytes ≡ take at bytes ++ 10 ∷ drop (at + 1) bytes → held' ≡ drop (at + 1) filled
    → (all : List ℕ) × Consumes a d all × ((line : List ℕ) × (all ≡ line ++ 10 ∷ held') × IsLine line)
skip_done a b d skipped held got filled bytes held' at c plain none c' f e front is adv =
    let fg : filled ≡ got = f ∙ ap (λ t. t ++ got) none in
    let bg : bytes ≡ got = e ∙ fg in
    let hd : drop (at + 1) bytes ≡ held' = ap (drop (at + 1)) e ∙ sym adv in (
      skipped ++ got,
      Consumes-then a b d skipped got c c',
      (
        skipped ++ take at bytes,
        ap (λ t. skipped ++ t) (sym bg ∙ is ∙ ap (λ t. take at bytes ++ 10 ∷ t) hd)
            ∙ sym (append_assoc skipped (take at bytes) (10 ∷ held')),
        plain_append skipped (take at bytes) plain front,
      ),
    )

-- no LF was read
pub skip_more : (a b d : Option (List ℕ)) (skipped held got filled bytes : List ℕ)
    → Consumes a b skipped → IsLine skipped → held ≡ [] → Consumes b d got → filled ≡ held ++ got → bytes ≡ filled → IsLine bytes
    → (all : List ℕ) × Consumes a d all × IsLine all
skip_more a b d skipped held got filled bytes c plain none c' f e front =
    let gb : got ≡ bytes = sym (e ∙ f ∙ ap (λ t. t ++ got) none) in
    (skipped ++ got, Consumes-then a b d skipped got c c', plain_append skipped got plain (plain_same got bytes gb front))

-- more was read behind bytes that have no LF
pub line_more : (a b d : Option (List ℕ)) (start got window more new bytes : List ℕ) (seen : ℕ)
    → Consumes a b got → window ≡ start ++ got → Consumes b d more → new ≡ window ++ more → bytes ≡ window → IsLine bytes
    → seen ≡ length window
    → ((all : List ℕ) × Consumes a d all × (new ≡ start ++ all)) × IsLine (take seen new)
line_more a b d start got window more new bytes seen c w c' e same plain s = (
  (got ++ more, Consumes-then a b d got more c c', e ∙ ap (λ t. t ++ more) w ∙ append_assoc start got more),
  plain_same (take seen new) bytes (ap (take seen) e ∙ take_at window more seen (sym s) ∙ sym same) plain,
)

-- the bytes at hand were too many for a line, and the rest of it was skipped
pub long_skipped : (limit : ℕ) (a b d : Option (List ℕ)) (start got window bytes held : List ℕ) (r : Option Next)
    → Consumes a b got → window ≡ start ++ got → bytes ≡ window → IsLine bytes → limit < length window
    → ((more : List ℕ) × Consumes b d more × Skips more r held)
    → (all : List ℕ) × Consumes a d all × Cuts limit (start ++ all) r held
long_skipped limit a b d start got window bytes held None c w e plain long (more, c', s) =
    let front : IsLine (start ++ got) = plain_same (start ++ got) bytes (sym w ∙ sym e) plain in (
      got ++ more,
      Consumes-then a b d got more c c',
      plain_same (start ++ (got ++ more)) ((start ++ got) ++ more) (sym (append_assoc start got more))
          (plain_append (start ++ got) more front s),
    )
long_skipped limit a b d start got window bytes held (Some Long) c w e plain long (more, c', (line, is, p)) =
    let size : length ((start ++ got) ++ line) ≡ length window + length line =
    length-append (start ++ got) line ∙ ap (λ t. length t + length line) (sym w) in (
      got ++ more,
      Consumes-then a b d got more c c',
      (
        (start ++ got) ++ line,
        sym (append_assoc start got more) ∙ ap (λ t. (start ++ got) ++ t) is ∙ sym (append_assoc (start ++ got) line (10 ∷ held)),
        plain_append (start ++ got) line (plain_same (start ++ got) bytes (sym w ∙ sym e) plain) p,
        omega arith,
      ),
    )
long_skipped limit a b d start got window bytes held (Some LastLong) c w e plain long (more, c', s) =
    let front : IsLine (start ++ got) = plain_same (start ++ got) bytes (sym w ∙ sym e) plain in
    let size : length (start ++ (got ++ more)) ≡ length window + length more =
    ap length (sym (append_assoc start got more)) ∙ length-append (start ++ got) more ∙ ap (λ t. length t + length more) (sym w) in (
      got ++ more,
      Consumes-then a b d got more c c',
      (
        plain_same (start ++ (got ++ more)) ((start ++ got) ++ more) (sym (append_assoc start got more))
            (plain_append (start ++ got) more front s),
        omega arith,
      ),
    )
long_skipped limit a b d start got window bytes held (Some (Line n)) c w e plain long (more, c', s) = absurd s
long_skipped limit a b d start got window bytes held (Some (Last n)) c w e plain long (more, c', s) = absurd s

-- the bytes held were kept, and more were read
pub kept_more : (a b d : Option (List ℕ)) (start got kept window bytes kept' cleared new more : List ℕ)
    → Consumes a b got → start ++ got ≡ kept ++ window → bytes ≡ window → kept' ≡ kept ++ bytes → cleared ≡ [] → Consumes b d more
    → new ≡ cleared ++ more
    → (x : List ℕ) × Consumes a d x × (start ++ x ≡ kept' ++ new)
kept_more a b d start got kept window bytes kept' cleared new more c all same is none c' filled = (
  got ++ more,
  Consumes-then a b d got more c c',
  sym (append_assoc start got more) ∙ ap (λ t. t ++ more) (all ∙ ap (λ t. kept ++ t) (sym same) ∙ sym is)
      ∙ ap (λ t. kept' ++ t) (sym (filled ∙ ap (λ t. t ++ more) none)),
)

-- bytes without LF, with more of them
pub plain_more : (kept kept' bytes : List ℕ) → kept' ≡ kept ++ bytes → IsLine kept → IsLine bytes → IsLine kept'
plain_more kept kept' bytes is h k = plain_same kept' (kept ++ bytes) is (plain_append kept bytes h k)
