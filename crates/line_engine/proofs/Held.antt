-- The part of a buffer that is held.
use lib.Dec.{eqb}
use Rattle.std.proofs.Common.{true, suc, ◌≡◌, ◌≢◌, ℕ, ◌+◌, ◌-◌, ◌<◌, ◌≤◌, List, ◌∷◌, ◌++◌, length, take, drop, get_or, Option, min, sym, ap}
use Rattle.std.proofs.Common.{◌∙◌, arith, add-one, length-drop, drop-cons}
use Rattle.std.proofs.Math.Seq.{take-add}
use Rattle.std.proofs.lemmas.List.{drop-drop, get_or-take, get_or-drop, length-take, take-append-drop, drop-take}
use Rattle.std.proofs.lemmas.Grind.{common_steps}
use Rattle.std.proofs.lemmas.Bool.{eq-eqb, eqb-true}
use Rattle.std.proofs.lemmas.List.Elements.{All-from_get_or, All-append, All-same}
use Rattle.std.specs.Io.KnownBytes.{Consumes, IsAtEnd}
use Rattle.wire_json.specs.Line.{IsLine}

-- the part of the buffer from `start` on, of this length
abbrev pub part : ℕ → ℕ → List ℕ → List ℕ
part start len buf = take len (drop start buf)

pub length-part : (start len : ℕ) (buf : List ℕ) → start + len ≤ length buf → length (part start len buf) ≡ len
length-part start len buf h = grind (arith, common_steps)

-- its first bytes left out
pub part_advanced : (start len n : ℕ) (buf : List ℕ) → n ≤ len → start + len ≤ length buf
    → part (start + n) (len - n) buf ≡ drop n (part start len buf)
part_advanced start len n buf h k =
    let e : len ≡ n + (len - n) = omega arith in
    let d : drop n (drop start buf) ≡ drop (start + n) buf = drop-drop n start buf in
    ap (λ t. take (len - n) t) (sym d) ∙ sym (drop-take n (len - n) (drop start buf)) ∙ ap (λ t. drop n (take t (drop start buf))) (sym e)

-- with what was read behind it
pub part_grown : (start len n : ℕ) (old new : List ℕ) → take (start + len) new ≡ take (start + len) old
    → part start (len + n) new ≡ part start len old ++ take n (drop (start + len) new)
part_grown start len n old new e =
    let front : take len (drop start new) ≡ take len (drop start old) =
    sym (drop-take start len new) ∙ ap (λ t. drop start t) e ∙ drop-take start len old in
    take-add len n (drop start new)
    ∙ ap (λ t. t ++ take n (drop len (drop start new))) front
    ∙ ap (λ t. take len (drop start old) ++ take n t) (drop-drop len start new)

-- the search behind the first bytes found none
pub find_none : (bytes rest : List ℕ) (from : ℕ) → rest ≡ drop from bytes → IsLine (take from bytes)
    → ((k : ℕ) → 0 ≤ k → k < length rest → eqb (get_or rest k 0) 10 ≡ true → ⊥) → IsLine bytes
find_none bytes rest from is before nowhere =
    let behind : IsLine rest = All-from_get_or (λ byte. byte ≢ 10) rest 0 (λ i h e. nowhere i (omega arith) h (eq-eqb _ _ e)) in
    let joined : bytes ≡ take from bytes ++ rest = sym (take-append-drop from bytes) ∙ ap (λ t. take from bytes ++ t) (sym is) in
    All-same (λ byte. byte ≢ 10) bytes (take from bytes ++ rest) joined (All-append (λ byte. byte ≢ 10) _ _ before behind)

-- the search behind the first bytes found this one
pub find_some : (bytes rest : List ℕ) (from at : ℕ) → from ≤ length bytes → rest ≡ drop from bytes → IsLine (take from bytes)
    → at < length rest → ((k : ℕ) → 0 ≤ k → k < at → eqb (get_or rest k 0) 10 ≡ true → ⊥) → eqb (get_or rest at 0) 10 ≡ true
    → (from + at < length bytes) × IsLine (take (from + at) bytes) × (bytes ≡ take (from + at) bytes ++ 10 ∷ drop (from + at + 1) bytes)
find_some bytes rest from at within is before low none here =
    let size : length rest ≡ length bytes - from = ap length is ∙ length-drop from bytes in
    let lt : from + at < length bytes = omega arith in
    let front : IsLine (take at rest) = All-from_get_or (λ byte. byte ≢ 10) (take at rest) 0
    (λ i h e. let small : i < at = omega (arith, length-take at rest) in
    none i (omega arith) small (eq-eqb _ _ (sym (get_or-take at rest i 0 small) ∙ e))) in
    let joined : take (from + at) bytes ≡ take from bytes ++ take at rest =
    take-add from at bytes ∙ ap (λ t. take from bytes ++ take at t) (sym is) in
    let byte : get_or bytes (from + at) 0 ≡ 10 = sym (ap (λ t. get_or t at 0) is ∙ get_or-drop from bytes at 0) ∙ eqb-true _ _ here in (
      lt,
      All-same (λ byte. byte ≢ 10) _ _ joined (All-append (λ byte. byte ≢ 10) _ _ before front),
      sym (take-append-drop (from + at) bytes) ∙ ap (λ t. take (from + at) bytes ++ t)
          (drop-cons bytes (from + at) 0 lt ∙ ap (λ t. t ∷ drop (suc (from + at)) bytes) byte
          ∙ ap (λ n. 10 ∷ drop n bytes) (sym (add-one (from + at)))),
    )

min_le : (n m : ℕ) → n ≤ m → min n m ≡ n
min_le n m h = omega arith

-- a read into what is free behind the part
pub fill_some : (a d : Option (List ℕ)) (start len n : ℕ) (held moved slice new : List ℕ)
    → part start len moved ≡ held → slice ≡ moved → take (start + len) new ≡ take (start + len) slice
    → (start + len + n ≤ length new) × Consumes a d (take n (drop (start + len) new)) × (n ≡ 0 → IsAtEnd d)
    → (x : List ℕ) × Consumes a d x × (part start (len + n) new ≡ held ++ x) × (length x ≡ n) × (n ≡ 0 → IsAtEnd d)
fill_some a d start len n held moved slice new is same front (within, c, ends) =
    let x : List ℕ = take n (drop (start + len) new) in (
      x,
      c,
      part_grown start len n slice new front ∙ ap (λ t. t ++ x) (ap (part start len) same ∙ is),
      length-take n (drop (start + len) new) ∙ min_le n _ (omega (arith, length-drop (start + len) new)),
      ends,
    )
