-- The first operation with a number, sought among the numbers of all.
use Rattle.std.proofs.Common.{◌≡◌, ℕ, zero, suc, ◌+◌, ◌*◌, ◌/◌, ◌%◌, ◌<◌, ◌≤◌, MatchOption, Bool, true, false, cond, Option}
use Rattle.std.proofs.Common.{Some, None, Ok, Err, List, [], ◌∷◌, length, map, get_or, refl, ap, ◌∙◌}
use Rattle.std.proofs.Common.{sym, arith, position, lt-ltb, eqb-true, eq-eqb, ◌==◌, ◌&&◌, inl, inr}
use mathlib.Core.Path.{ap₂}
use Rattle.std.specs.Prelude.{not, nat_lt, slice_get, is_some}
use Rattle.std.specs.List.{position_or_len, remove}
use Rattle.std.proofs.lemmas.Bool.{cases_lt, and_from, and_parts}
use Rattle.std.proofs.lemmas.Bool.Decides.{nat_tests}
use Rattle.std.proofs.lemmas.List.{get_or_default, get_or-map, length-map}
use Rattle.std.proofs.lemmas.List.Folds.{find_at}
use Rattle.std.proofs.lemmas.List.Quantifiers.{position-Some}
use Rattle.std.proofs.lemmas.List.Sums.{position_or_len_is}
use Rattle.std.proofs.lemmas.Option.{slice_get-get_or, slice_get_cases}
use Rattle.opid.specs.Clocks.{entry, covers_others, is_next}
use Rattle.opid.specs.declared.kind.OpKind.TheVariants.{Del}
use Rattle.opid.specs.Operations.{Operation, number_of}
use Rattle.opid.specs.declared.refusal.Refusal.TheVariants.{Conflict}
use Rattle.opid.specs.Held.{is_same_operation}
use Rattle.opid.specs.Held.{with_number, is_same_number, compared, look_for}
use Rattle.holdback.specs.Internal.Packed.{unpacked, AreDue, NoneDue, NoneReadyIn, IsFirstReadyIn}

-- an operation for places past the end
no_op : Operation
no_op = record { site = 0; clock = []; kind = Del (record { sum = 0; site = 0 }) }

mapped : {A B : Type 0} (f : A → B) (p : B → Bool) (xs : List A) → position_or_len p (map f xs) ≡ position_or_len (λ x. p (f x)) xs
mapped f p [] = refl
mapped f p (x ∷ xs) = ap (λ n. cond (not (p (f x))) (1 + n) 0) (mapped f p xs)

-- a place among what each is mapped to is one among them
position-mapped : {A B : Type 0} (f : A → B) (p : B → Bool) (xs : List A) → position p (map f xs) ≡ position (λ x. p (f x)) xs
position-mapped f p xs =
    ap₂ (λ (k : ℕ) (n : ℕ). cond (nat_lt k n) (Some k) None) (mapped f p xs) (length-map xs f)

-- as many packed numbers as operations
pub as_many : (ns : List ℕ) (xs : List Operation) → map unpacked ns ≡ map number_of xs → length ns ≡ length xs
as_many ns xs e = sym (length-map ns unpacked) ∙ ap length e ∙ length-map xs number_of

pub found : (n : ℕ × ℕ) (xs : List Operation) (i : ℕ) (d : Operation) → Some i ≡ position (λ m. is_same_number n m) (map number_of xs)
    → with_number n xs ≡ Some (get_or xs i d)
found n xs i d e =
    let test : Operation → Bool = λ x. is_same_number n (number_of x) in
    let here = position-Some test xs i d (sym (position-mapped number_of (λ m. is_same_number n m) xs) ∙ sym e) in
    find_at test xs
    ∙ ap (slice_get xs) (position_or_len_is test xs i d (omega (arith, here.0)) here.2 (λ l. here.1))
    ∙ slice_get-get_or xs i d here.0

within : (n : ℕ × ℕ) (xs : List Operation) (i : ℕ) (d : Operation) → Some i ≡ position (λ m. is_same_number n m) (map number_of xs)
    → i < length xs
within n xs i d e =
    (position-Some (λ x. is_same_number n (number_of x)) xs i d (sym (position-mapped number_of (λ m. is_same_number n m) xs) ∙ sym e)).0

past : (k n : ℕ) → None ≡ cond (nat_lt k n) (Some k) None → n ≤ k
past k n e = go (nat_lt k n) refl e
  where
    go : (t : Bool) → nat_lt k n ≡ t → None ≡ cond t (Some k) None → n ≤ k
    go true h e = cc
    go false h e = grind (arith, nat_tests)

pub missing : (n : ℕ × ℕ) (xs : List Operation) → None ≡ position (λ m. is_same_number n m) (map number_of xs) → with_number n xs ≡ None
missing n xs e =
    let test : Operation → Bool = λ x. is_same_number n (number_of x) in
    let end : length xs ≤ position_or_len test xs =
    past (position_or_len test xs) (length xs) (e ∙ position-mapped number_of (λ m. is_same_number n m) xs) in
    find_at test xs ∙ elim (slice_get_cases xs (position_or_len test xs)).1 [ inl h ↦ absurd (omega (arith, h.1, end)) | inr h ↦ h.1 ]

-- ---- the first place where a test holds

pub first_at : {A : Type 0} (test : A → Bool) (xs : List A) (i : ℕ) (x : A) → i < length xs → x ≡ get_or xs i x
    → ((k : ℕ) (d : A) → k < i → test (get_or xs k d) ≡ false) → test x ≡ true → Some i ≡ position test xs
first_at test xs i x l e before h =
    let at : position_or_len test xs ≡ i =
    position_or_len_is test xs i x (omega (arith, l)) (λ k m. before k x m) (λ m. ap test (sym e) ∙ h) in
    sym (ap (λ k. cond (nat_lt k (length xs)) (Some k) None) at ∙ ap (λ b. cond b (Some i) None) (lt-ltb i (length xs) l))

none_up_to : (n : ℕ) → nat_lt n n ≡ false
none_up_to n = grind (arith, nat_tests)

pub none_at_all : {A : Type 0} (test : A → Bool) (xs : List A) (i : ℕ) (x : A) → length xs ≤ i
    → ((k : ℕ) (d : A) → k < i → test (get_or xs k d) ≡ false) → None ≡ position test xs
none_at_all test xs i x l before =
    let at : position_or_len test xs ≡ length xs =
    position_or_len_is test xs (length xs) x (omega arith) (λ k m. before k x (omega (arith, l, m)))
    (λ m. absurd (omega (arith, m))) in
    sym (ap (λ k. cond (nat_lt k (length xs)) (Some k) None) at ∙ ap (λ b. cond b (Some (length xs)) None) (none_up_to (length xs)))

-- none in two neighbouring parts
pub in_both : {A : Type 0} (test : A → Bool) (xs : List A) (start middle end : ℕ)
    → ((k : ℕ) (d : A) → start ≤ k → k < middle → test (get_or xs k d) ≡ false)
    → ((k : ℕ) (d : A) → middle ≤ k → k < end → test (get_or xs k d) ≡ false)
    → (k : ℕ) (d : A) → start ≤ k → k < end → test (get_or xs k d) ≡ false
in_both test xs start middle end before behind k d s l = elim (cases_lt k middle) [
  | inl m ↦ before k d s m
  | inr m ↦ behind k d m l
]

-- ---- the first that is ready

-- an operation whose number isn't its site's next one isn't ready
pub not_due : (clock : List ℕ) (x : Operation) (n : ℕ × ℕ) → n ≡ number_of x → (n.1 == entry clock n.0 + 1) ≡ false
    → is_next x.site x.clock clock ≡ false
not_due clock x n e h =
    ap (λ b. b && covers_others x.site x.clock clock) (sym (ap (λ (m : ℕ × ℕ). m.1 == entry clock m.0 + 1) e) ∙ h)

-- nor is one whose packed number isn't the table's
other_count : (due n e : ℕ) → due ≡ n % 32 + (e + 1) * 32 → (due == n) ≡ false → (n / 32 == e + 1) ≡ false
other_count due n e t h = go (n / 32 == e + 1) refl
  where
    go : (b : Bool) → (n / 32 == e + 1) ≡ b → b ≡ false
    go true k =
        let count : n / 32 ≡ e + 1 = eqb-true (n / 32) (e + 1) k in
        let same : due ≡ n = omega (arith, t, count) in
        sym (eq-eqb due n same) ∙ h
    go false k = refl

pub none_due : (clock due ns : List ℕ) (xs : List Operation) (start end : ℕ) → AreDue clock due → map unpacked ns ≡ map number_of xs
    → end ≤ length xs → NoneDue due ns start end → NoneReadyIn clock xs start end
none_due clock due ns xs start end table same within none k d s l =
    let n : ℕ = get_or ns k 0 in
    let number : unpacked n ≡ number_of (get_or xs k d) =
    sym (get_or-map unpacked ns k 0 (unpacked n) (omega (arith, as_many ns xs same, within, l)))
    ∙ ap (λ ms. get_or ms k (unpacked n)) same ∙ get_or-map number_of xs k d (unpacked n) (omega (arith, within, l)) in
    not_due clock (get_or xs k d) (unpacked n) number
    (other_count (get_or due (n % 32) 0) n (entry clock (n % 32)) (table (n % 32) (omega arith)) (none k s l))

pub first_in : (clock : List ℕ) (xs : List Operation) (start end i : ℕ) → end ≤ length xs → NoneReadyIn clock xs 0 start
    → IsFirstReadyIn clock xs start end i → Some i ≡ position (λ y. is_next y.site y.clock clock) xs
first_in clock xs start end i within before h =
    let test : Operation → Bool = λ y. is_next y.site y.clock clock in
    first_at test xs i (get_or xs i no_op) (omega (arith, h.high, within))
    (get_or_default xs i no_op (get_or xs i no_op) (omega (arith, h.high, within)))
    (λ k d l. in_both test xs 0 start i before h.before k d (omega arith) l) (h.ready no_op)

pub first_of : (clock : List ℕ) (xs : List Operation) (start : ℕ) (end : ℕ) (r : Option ℕ) → end ≡ length xs → NoneReadyIn clock xs 0 start
    → MatchOption r (NoneReadyIn clock xs start end) (IsFirstReadyIn clock xs start end)
    → r ≡ position (λ y. is_next y.site y.clock clock) xs
first_of clock xs start end None e before h =
    none_at_all (λ y. is_next y.site y.clock clock) xs end no_op (omega (arith, e))
    (λ k d l. in_both (λ y. is_next y.site y.clock clock) xs 0 start end before h k d (omega arith) l)
first_of clock xs start end (Some i) e before h = first_in clock xs start end i (omega (arith, e)) before h

-- found within a part, and not found there
pub found_in : (clock : List ℕ) (xs : List Operation) (start end : ℕ) (r : Option ℕ) → end ≤ length xs → NoneReadyIn clock xs 0 start
    → MatchOption r (NoneReadyIn clock xs start end) (IsFirstReadyIn clock xs start end) → is_some r ≡ true
    → r ≡ position (λ y. is_next y.site y.clock clock) xs
found_in clock xs start end None within before h e = cc
found_in clock xs start end (Some i) within before h e = first_in clock xs start end i within before h

pub not_found_in : (clock : List ℕ) (xs : List Operation) (start end : ℕ) (r : Option ℕ)
    → MatchOption r (NoneReadyIn clock xs start end) (IsFirstReadyIn clock xs start end) → is_some r ≡ false
    → NoneReadyIn clock xs start end
not_found_in clock xs start end None h e = h
not_found_in clock xs start end (Some i) h e = cc

-- ---- whether an operation is among others

-- two packed numbers are one where their sites and their counts are
same_packed : (m n : ℕ) → (n == m) ≡ is_same_number (unpacked m) (unpacked n)
same_packed m n = go (n == m) refl
  where
    go : (b : Bool) → (n == m) ≡ b → b ≡ is_same_number (unpacked m) (unpacked n)
    go true e =
        let same : n ≡ m = eqb-true n m e in
        sym (and_from _ _ (eq-eqb (m % 32) (n % 32) (ap (λ k. k % 32) (sym same))) (eq-eqb (m / 32) (n / 32) (ap (λ k. k / 32) (sym same))))
    go false e = sym (apart (is_same_number (unpacked m) (unpacked n)) refl)
      where
        apart : (b : Bool) → is_same_number (unpacked m) (unpacked n) ≡ b → b ≡ false
        apart true h =
            let parts : ((m % 32 == n % 32) ≡ true) × ((m / 32 == n / 32) ≡ true) = and_parts (m % 32 == n % 32) (m / 32 == n / 32) h in
            let sites : m % 32 ≡ n % 32 = eqb-true (m % 32) (n % 32) parts.0 in
            let counts : m / 32 ≡ n / 32 = eqb-true (m / 32) (n / 32) parts.1 in
            let same : n ≡ m = omega (arith, sites, counts) in
            sym (eq-eqb n m same) ∙ e
        apart false h = refl

same_places : (m : ℕ) (ns : List ℕ) → position_or_len (λ n. n == m) ns ≡ position_or_len (λ n. is_same_number (unpacked m) (unpacked n)) ns
same_places m [] = refl
same_places m (n ∷ ns) = ap₂ (λ (t : Bool) (k : ℕ). cond (not t) (1 + k) 0) (same_packed m n) (same_places m ns)

moved : (x : Operation) (xs : List Operation) (m : ℕ) (ns : List ℕ) (r : Option ℕ) → unpacked m ≡ number_of x
    → map unpacked ns ≡ map number_of xs → r ≡ position (λ n. n == m) ns
    → r ≡ position (λ n. is_same_number (number_of x) n) (map number_of xs)
moved x xs m ns r e f h =
    h ∙ ap (λ k. cond (nat_lt k (length ns)) (Some k) None) (same_places m ns)
    ∙ sym (position-mapped unpacked (λ n. is_same_number (unpacked m) n) ns)
    ∙ ap₂ (λ (k : ℕ × ℕ) (ks : List (ℕ × ℕ)). position (λ n. is_same_number k n) ks) e f

pub not_among : (x : Operation) (xs : List Operation) (m : ℕ) (ns : List ℕ) → unpacked m ≡ number_of x → map unpacked ns ≡ map number_of xs
    → None ≡ position (λ n. n == m) ns → Ok false ≡ look_for x xs
not_among x xs m ns e f h = sym (ap (compared x) (missing (number_of x) xs (moved x xs m ns None e f h)))

pub among : (x y : Operation) (xs : List Operation) (m : ℕ) (ns : List ℕ) (i : ℕ) (b : Bool) → unpacked m ≡ number_of x
    → map unpacked ns ≡ map number_of xs → Some i ≡ position (λ n. n == m) ns → y ≡ get_or xs i y → b ≡ is_same_operation x y
    → cond b (Ok true) (Err Conflict) ≡ look_for x xs
among x y xs m ns i b e f h g s =
    ap (λ c. cond c (Ok true) (Err Conflict)) s ∙ ap (λ (z : Operation). compared x (Some z)) g
    ∙ sym (ap (compared x) (found (number_of x) xs i y (moved x xs m ns (Some i) e f h)))

-- ---- what is taken out of both

pub one_removed : {A B : Type 0} (f : A → B) (xs : List A) (i : ℕ) → map f (remove xs i) ≡ remove (map f xs) i
one_removed f [] zero = refl
one_removed f [] (suc i) = refl
one_removed f (x ∷ xs) zero = refl
one_removed f (x ∷ xs) (suc i) = ap (λ ys. f x ∷ ys) (one_removed f xs i)

pub both_removed : (ns : List ℕ) (xs : List Operation) (i : ℕ) → map unpacked ns ≡ map number_of xs
    → map unpacked (remove ns i) ≡ map number_of (remove xs i)
both_removed ns xs i e = one_removed unpacked ns i ∙ ap (λ ms. remove ms i) e ∙ sym (one_removed number_of xs i)

pub no_more : {A : Type 0} (xs : List A) (i : ℕ) → length (remove xs i) ≤ length xs
no_more [] zero = omega arith
no_more [] (suc i) = omega arith
no_more (x ∷ xs) zero = omega arith
no_more (x ∷ xs) (suc i) = omega (arith, no_more xs i)
