-- A text is cut behind so many characters.
use Rattle.std.proofs.Common.{◌≡◌, ◌∙◌, ◌≤◌, ◌-◌, ◌++◌, ℕ, List, length, take, drop, sym, ap, subst, arith}
use Rattle.std.specs.Str.{chars, IsUtf8, IsCharBoundary}
use lib.Utf8.{encodes}
use Rattle.std.proofs.lemmas.List.{length-append, take-append-drop, take_all, take_at}
use Rattle.std.proofs.lemmas.Str.{encodes-append, encodes-chars, chars_from_encodes, length-le-encodes, IsCharBoundary-at_seam, IsUtf8-take}

-- the first of the characters, and a text that has the others
parted : (bs rest : List ℕ) (n : ℕ) → IsUtf8 bs → IsUtf8 rest → chars rest ≡ drop n (chars bs)
    → bs ≡ encodes (take n (chars bs)) ++ rest
parted bs rest n u v e =
    let cs = chars bs in
    sym (encodes-chars bs u) ∙ ap encodes (sym (take-append-drop n cs)) ∙ encodes-append (take n cs) (drop n cs)
    ∙ ap (λ ds. encodes (take n cs) ++ encodes ds) (sym e) ∙ ap (λ ds. encodes (take n cs) ++ ds) (encodes-chars rest v)

pub no_longer : (bs rest : List ℕ) (n : ℕ) → IsUtf8 bs → IsUtf8 rest → chars rest ≡ drop n (chars bs) → length rest ≤ length bs
no_longer bs rest n u v e =
    let front = encodes (take n (chars bs)) in
    omega (arith, ap length (parted bs rest n u v e), length-append front rest)

-- how long the first are
before : (bs rest : List ℕ) (n : ℕ) → IsUtf8 bs → IsUtf8 rest → chars rest ≡ drop n (chars bs)
    → length (encodes (take n (chars bs))) ≡ length bs - length rest
before bs rest n u v e =
    let front = encodes (take n (chars bs)) in
    omega (arith, ap length (parted bs rest n u v e), length-append front rest)

pub may_be_cut : (bs rest : List ℕ) (n : ℕ) → IsUtf8 bs → IsUtf8 rest → chars rest ≡ drop n (chars bs)
    → IsCharBoundary bs (length bs - length rest)
may_be_cut bs rest n u v e =
    subst (IsCharBoundary bs) (before bs rest n u v e)
    (IsCharBoundary-at_seam bs (encodes (take n (chars bs))) rest (parted bs rest n u v e) v)

-- what is left of the text when the others are cut off
pub cut_off : (bs rest : List ℕ) (n : ℕ) → IsUtf8 bs → IsUtf8 rest → chars rest ≡ drop n (chars bs)
    → chars (take (length bs - length rest) bs) ≡ take n (chars bs)
cut_off bs rest n u v e =
    let front = encodes (take n (chars bs)) in
    let place = length bs - length rest in
    let first : take place bs ≡ front =
    ap (take place) (parted bs rest n u v e) ∙ take_at front rest place (before bs rest n u v e) in
    sym (chars_from_encodes (take n (chars bs)) (take place bs) (IsUtf8-take bs place u (may_be_cut bs rest n u v e)) (sym first))

-- a text of as few bytes is left whole
pub whole : (bs : List ℕ) (n : ℕ) → IsUtf8 bs → length bs ≤ n → chars bs ≡ take n (chars bs)
whole bs n u few =
    sym (take_all n (chars bs) (omega (arith, few, length-le-encodes (chars bs), ap length (encodes-chars bs u))))
