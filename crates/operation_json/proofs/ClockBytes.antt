-- The pairs of a clock, put one before another, and the text of an operation round them.
use Rattle.std.proofs.Common.{◌≡◌, ℕ, ◌+◌, ◌-◌, ◌<◌, ◌≤◌, zero, suc, List, [], ◌∷◌, ◌++◌, map, length, take, drop}
use Rattle.std.proofs.Common.{slice_index, get_or, refl, sym, ap, ◌∙◌, arith, append_assoc, lt-ltb, codes}
use Rattle.std.specs.Prelude.{nat_lt, filter}
use Rattle.std.proofs.lemmas.List.{append-nil, get_or-drop, length-drop, take_all}
use Rattle.std.specs.List.{range_with_len}
use Rattle.opid.specs.Clocks.{sites, entry}
use Rattle.operation_json.specs.Text.{more, in_brackets, pair_text, pairs_of, clock_text}

-- the pairs of n sites from a on
abbrev pub pairs_from : List ℕ → ℕ → ℕ → List (ℕ × ℕ)
pairs_from clock a n = filter (λ p. nat_lt 0 p.1) (map (λ site. (site, entry clock site)) (range_with_len a n))

-- their texts with a comma before each, and what stands behind them
abbrev pub behind_pairs : List ℕ → ℕ → ℕ → List ℕ → List ℕ
behind_pairs clock a n rest = more (map pair_text (pairs_from clock a n)) ++ rest

one_before : (clock : List ℕ) (a n : ℕ) (rest new : List ℕ) (count : ℕ) → count ≡ entry clock a
    → (0 < count → new ≡ 44 ∷ (pair_text (a, count) ++ behind_pairs clock (a + 1) n rest))
    → (count ≡ 0 → new ≡ behind_pairs clock (a + 1) n rest) → new ≡ behind_pairs clock a (suc n) rest
one_before clock a n rest new zero is some none = rw (sym is) (none refl)
one_before clock a n rest new (suc m) is some none =
    rw (sym is, lt-ltb 0 (suc m) (omega arith)) (some (omega arith) ∙ ap (λ l. 44 ∷ l)
    (sym (append_assoc (pair_text (a, suc m)) (more (map pair_text (pairs_from clock (a + 1) n))) rest)))

pub pair_before : (clock : List ℕ) (done n count : ℕ) (rest old new : List ℕ) → n + done ≡ 31 → count ≡ entry clock n
    → old ≡ behind_pairs clock (32 - done) done rest → (0 < count → new ≡ 44 ∷ (pair_text (n, count) ++ old))
    → (count ≡ 0 → new ≡ old) → new ≡ behind_pairs clock (32 - (done + 1)) (done + 1) rest
pair_before clock done n count rest old new place is so_far some none =
    let here : 32 - (done + 1) ≡ n = omega (arith, place) in
    let next : 32 - done ≡ n + 1 = omega (arith, place) in
    let old_is : old ≡ behind_pairs clock (n + 1) done rest = so_far ∙ ap (λ a. behind_pairs clock a done rest) next in
    let more_left : done + 1 ≡ suc done = omega arith in
    rw here (rw more_left (one_before clock n done rest new count is
    (λ h. some h ∙ ap (λ l. 44 ∷ (pair_text (n, count) ++ l)) old_is) (λ h. none h ∙ old_is)))

-- ---- the bracket before them

peeked : (bytes : List ℕ) (at c : ℕ) → slice_index bytes at ≡ c → 0 < c → drop at bytes ≡ c ∷ drop (at + 1) bytes
peeked [] at c e h = let none : 0 ≡ c = e in absurd (omega (arith, none, h))
peeked (x ∷ xs) zero c e h = ap (λ d. d ∷ xs) e
peeked (x ∷ xs) (suc at) c e h =
    let next : suc at + 1 ≡ suc (at + 1) = omega arith in
    peeked xs at c e h ∙ ap (λ n. c ∷ drop n (x ∷ xs)) (sym next)

opened_some : (xs : List (List ℕ)) (rest left : List ℕ) → 44 ∷ left ≡ more xs ++ 93 ∷ rest → 91 ∷ left ≡ in_brackets xs ++ rest
opened_some [] rest left e = cc
opened_some (x ∷ xs) rest left e = ap (λ l. 91 ∷ drop 1 l) e ∙ ap (λ l. 91 ∷ l) (sym (append_assoc (x ++ more xs) (93 ∷ []) rest))

opened_none : (xs : List (List ℕ)) (rest s : List ℕ) → s ≡ more xs ++ 93 ∷ rest → (get_or s 0 0 ≡ 44 → ⊥) → 91 ∷ s ≡ in_brackets xs ++ rest
opened_none [] rest s e other = ap (λ l. 91 ∷ l) e
opened_none (x ∷ xs) rest s e other = absurd (other (ap (λ l. get_or l 0 0) e))

all_pairs : (clock : List ℕ) (done : ℕ) (s rest : List ℕ) → done ≤ 32 → 32 ≤ done
    → s ≡ behind_pairs clock (32 - done) done (93 ∷ rest) → s ≡ more (map pair_text (pairs_of clock)) ++ 93 ∷ rest
unfolding sites
all_pairs clock done s rest most least is =
    let all : done ≡ 32 = omega arith in is ∙ ap (λ n. behind_pairs clock (32 - n) n (93 ∷ rest)) all

pub closed_some : (clock bytes rest new : List ℕ) (done at : ℕ) → done ≤ 32 → 32 ≤ done
    → drop at bytes ≡ behind_pairs clock (32 - done) done (93 ∷ rest) → slice_index bytes at ≡ 44 → new ≡ 91 ∷ drop (at + 1) bytes
    → new ≡ clock_text clock ++ rest
closed_some clock bytes rest new done at most least is here new_is =
    new_is ∙ opened_some (map pair_text (pairs_of clock)) rest (drop (at + 1) bytes)
    (sym (peeked bytes at 44 here (omega arith)) ∙ all_pairs clock done (drop at bytes) rest most least is)

pub closed_none : (clock bytes rest new : List ℕ) (done at : ℕ) → done ≤ 32 → 32 ≤ done
    → drop at bytes ≡ behind_pairs clock (32 - done) done (93 ∷ rest) → (slice_index bytes at ≡ 44 → ⊥) → new ≡ 91 ∷ drop at bytes
    → new ≡ clock_text clock ++ rest
closed_none clock bytes rest new done at most least is other new_is =
    let first : get_or (drop at bytes) 0 0 ≡ slice_index bytes at = get_or-drop at bytes 0 0 ∙ ap (λ n. get_or bytes n 0) (omega arith) in
    new_is ∙ opened_none (map pair_text (pairs_of clock)) rest (drop at bytes)
    (all_pairs clock done (drop at bytes) rest most least is) (λ e. other (sym first ∙ e))

-- ---- the pieces of a deletion

regrouped : (a b c d e f g h : List ℕ) → a ++ (b ++ (c ++ (d ++ (e ++ (f ++ (g ++ h)))))) ≡ a ++ b ++ c ++ d ++ e ++ f ++ g ++ h
regrouped a b c d e f g h = simp append_assoc

pub deletion_put : (clock number stamp rest n1 n2 n3 n4 n5 n6 n7 : List ℕ) → n1 ≡ 125 ∷ rest → n2 ≡ stamp ++ n1
    → n3 ≡ codes ",\"t\":" ++ n2 → n4 ≡ number ++ n3 → n5 ≡ codes ",\"k\":\"d\",\"s\":" ++ n4 → n6 ≡ clock ++ n5
    → n7 ≡ codes "{\"c\":" ++ n6
    → n7 ≡ codes "{\"c\":" ++ clock ++ codes ",\"k\":\"d\",\"s\":" ++ number ++ codes ",\"t\":" ++ stamp ++ codes "}" ++ rest
deletion_put clock number stamp rest n1 n2 n3 n4 n5 n6 n7 e1 e2 e3 e4 e5 e6 e7 =
    e7 ∙ ap (λ l. codes "{\"c\":" ++ l) (e6 ∙ ap (λ l. clock ++ l) (e5 ∙ ap (λ l. codes ",\"k\":\"d\",\"s\":" ++ l)
    (e4 ∙ ap (λ l. number ++ l) (e3 ∙ ap (λ l. codes ",\"t\":" ++ l) (e2 ∙ ap (λ l. stamp ++ l) e1)))))
    ∙ regrouped (codes "{\"c\":") clock (codes ",\"k\":\"d\",\"s\":") number (codes ",\"t\":") stamp (codes "}") rest

-- ---- what is put is copied

copied : (bytes : List ℕ) (at : ℕ) → length bytes ≡ 896 → take (896 - at) (drop at bytes) ≡ drop at bytes
copied bytes at long = take_all (896 - at) (drop at bytes) (omega (arith, length-drop at bytes, long))

pub deletion_pushed : (bytes clock number stamp rest old new made count : List ℕ) (at : ℕ) → length bytes ≡ 896
    → drop at bytes ≡ codes "{\"c\":" ++ made ++ codes ",\"k\":\"d\",\"s\":" ++ count ++ codes ",\"t\":" ++ stamp ++ codes "}" ++ rest
    → rest ≡ [] → made ≡ clock → count ≡ number → new ≡ old ++ take (896 - at) (drop at bytes)
    → new ≡ old ++ (codes "{\"c\":" ++ clock ++ codes ",\"k\":\"d\",\"s\":" ++ number ++ codes ",\"t\":" ++ stamp ++ codes "}")
deletion_pushed bytes clock number stamp rest old new made count at long told none same_clock same_number is =
    let text = codes "{\"c\":" ++ made ++ codes ",\"k\":\"d\",\"s\":" ++ count ++ codes ",\"t\":" ++ stamp ++ codes "}" in
    rw (sym same_clock) (rw (sym same_number)
    (is ∙ ap (λ l. old ++ l) (copied bytes at long ∙ told ∙ ap (λ l. text ++ l) none ∙ append-nil text)))

joined : (a b c d e f g h old quoted end : List ℕ) → old ++ (a ++ b ++ c ++ (d ++ e ++ f ++ g ++ h)) ++ quoted ++ end
    ≡ old ++ (a ++ b ++ (c ++ d) ++ e ++ f ++ g ++ h ++ quoted ++ end)
joined a b c d e f g h old quoted end = simp append_assoc

pub typed_pushed : (bytes clock parent number rest quoted old first second new made count : List ℕ) (letter at : ℕ) → length bytes ≡ 896
    → drop at bytes ≡ codes "{\"c\":" ++ made ++ codes ",\"k\":\"" ++ letter ∷ (codes "\",\"p\":" ++ parent ++ codes ",\"s\":"
    ++ count ++ codes ",\"x\":" ++ rest)
    → rest ≡ [] → made ≡ clock → count ≡ number → first ≡ old ++ take (896 - at) (drop at bytes) → second ≡ first ++ quoted
    → new ≡ second ++ codes "}"
    → new ≡ old ++ (codes "{\"c\":" ++ clock ++ (codes ",\"k\":\"" ++ letter ∷ codes "\",\"p\":") ++ parent ++ codes ",\"s\":"
    ++ number ++ codes ",\"x\":" ++ quoted ++ codes "}")
typed_pushed bytes clock parent number rest quoted old first second new made count letter at long told none same_clock same_number
    one two three =
    let behind = codes "\",\"p\":" ++ parent ++ codes ",\"s\":" ++ count ++ codes ",\"x\":" in
    let head = codes "{\"c\":" ++ made ++ codes ",\"k\":\"" in
    let put : drop at bytes ≡ head ++ letter ∷ behind =
    told ∙ ap (λ l. head ++ letter ∷ l) (ap (λ l. behind ++ l) none ∙ append-nil behind) in
    rw (sym same_clock) (rw (sym same_number)
    (three ∙ ap (λ l. l ++ codes "}") (two ∙ ap (λ l. l ++ quoted) (one ∙ ap (λ l. old ++ l) (copied bytes at long ∙ put)))
    ∙ joined (codes "{\"c\":") made (codes ",\"k\":\"") (letter ∷ codes "\",\"p\":") parent (codes ",\"s\":") count (codes ",\"x\":")
    old quoted (codes "}")))
