-- Unfolding items one after another, as loops do.
use Rattle.std.proofs.Common.{◌≡◌, ◌+◌, ◌<◌, ◌≤◌, ℕ, zero, suc, List, [], ◌∷◌, ◌++◌, length, take, drop, get_or, Result, Ok, Err, refl, sum}
use Rattle.std.proofs.Common.{Bool, true, false, cond}
use Rattle.std.specs.Prelude.{nat_le}
use Rattle.std.proofs.Common.{sym, ap, ◌∙◌, arith, append_assoc, add-one, drop-cons}
use Rattle.std.proofs.lemmas.List.{append-nil, drop_all, take_all, length-append, length-take}
use Rattle.std.proofs.Math.Seq.{take-append_seam}
use Rattle.serde_json.specs.Data.{Data}
use Rattle.opid.specs.declared.refusal.Refusal.{Refusal}
use Rattle.opid.specs.declared.refusal.Refusal.TheVariants.{BadClock}
use Rattle.opid.specs.Operations.{Operation}
use Rattle.opid.proofs.Gathered.{rest_at}
use Rattle.operation_json.specs.Members.{◌>>=◌}
use Rattle.operation_json.specs.Operations.{Offer, each, sited, operation}
use Rattle.operation_json.specs.Packing.{typed_next, typed_behind}
use Rattle.operation_json.specs.PackedOperations.{ItemOffer, item_offer_of, item_sited, unfolded_if_counted, item_operations}
use Rattle.operation_json.specs.PackedOperations.{item_ops_of, concatenated, all_operations}
use Rattle.operation_json.proofs.Loops.{with_front}

-- ---- the insertions of a run

pub follows_more : (x : Operation) (items : List Operation) (cs : List ℕ) (i c : ℕ) (total : List Operation) → i < length cs
    → c ≡ get_or cs i c
    → items ++ typed_behind x (drop i cs) ≡ total
    → (items ++ typed_next x c ∷ []) ++ typed_behind (typed_next x c) (drop (i + 1) cs) ≡ total
follows_more x items cs i c total h e so_far =
    append_assoc items (typed_next x c ∷ []) (typed_behind (typed_next x c) (drop (i + 1) cs))
    ∙ ap (λ ds. items ++ typed_behind x ds) (sym rest) ∙ so_far
  where
    rest : drop i cs ≡ c ∷ drop (i + 1) cs
    rest = drop-cons cs i c h ∙ ap (λ d. d ∷ drop (suc i) cs) (sym e) ∙ ap (λ n. c ∷ drop n cs) (sym (add-one i))

pub follows_all : (x : Operation) (items : List Operation) (cs : List ℕ) (i : ℕ) (total : List Operation) → length cs ≤ i
    → items ++ typed_behind x (drop i cs) ≡ total → items ≡ total
follows_all x items cs i total h so_far = sym (append-nil items) ∙ ap (λ ds. items ++ typed_behind x ds) (sym (drop_all i cs h)) ∙ so_far

-- ---- the operations of items

one_more_item : (x : ItemOffer) (xs : List ItemOffer)
    → all_operations (x ∷ xs) ≡ (item_operations x >>= λ ys. with_front ys (all_operations xs))
one_more_item x xs = go (item_operations x) (each item_operations xs)
  where
    go : (a : Result (List Operation) Refusal) (b : Result (List (List Operation)) Refusal)
        → ((a >>= λ y. b >>= λ ys. Ok (y ∷ ys)) >>= λ lists. Ok (concatenated lists))
        ≡ (a >>= λ ys. with_front ys (b >>= λ lists. Ok (concatenated lists)))
    go (Ok a) (Ok b) = refl
    go (Ok a) (Err e) = refl
    go (Err e) b = refl

regroup : (front ys : List Operation) (r : Result (List Operation) Refusal)
    → with_front front (with_front ys r) ≡ with_front (front ++ ys) r
regroup front ys (Ok zs) = ap Ok (sym (append_assoc front ys zs))
regroup front ys (Err e) = refl

stepped : (front : List Operation) (xs : List ItemOffer) (i : ℕ) (x : ItemOffer) (r : Result (List Operation) Refusal) → i < length xs
    → x ≡ get_or xs i x → item_operations x ≡ r
    → with_front front (all_operations (drop i xs)) ≡ with_front front (r >>= λ ys. with_front ys (all_operations (drop (i + 1) xs)))
stepped front xs i x r h e is =
    ap (λ zs. with_front front (all_operations zs)) (rest_at xs i x h e)
    ∙ ap (with_front front) (one_more_item x (drop (i + 1) xs) ∙ ap (λ s. s >>= λ ys. with_front ys (all_operations (drop (i + 1) xs))) is)

pub all_goes_on : (front : List Operation) (xs : List ItemOffer) (i : ℕ) (x : ItemOffer) (ys : List Operation)
    (total : Result (List Operation) Refusal) → i < length xs → x ≡ get_or xs i x → item_operations x ≡ Ok ys
    → with_front front (all_operations (drop i xs)) ≡ total → with_front (front ++ ys) (all_operations (drop (i + 1) xs)) ≡ total
all_goes_on front xs i x ys total h e is so_far =
    sym (stepped front xs i x (Ok ys) h e is ∙ regroup front ys (all_operations (drop (i + 1) xs))) ∙ so_far

-- ---- how many operations an item has

length-typed_behind : (x : Operation) (cs : List ℕ) → length (typed_behind x cs) ≡ length cs
length-typed_behind x [] = refl
length-typed_behind x (c ∷ cs) = omega (arith, length-typed_behind (typed_next x c) cs)

pub item_length : (o : ItemOffer) (xs : List Operation) → item_operations o ≡ Ok xs → length xs ≡ length o.more + 1
item_length o xs e = go (operation o.first) e
  where
    counted : (x : Operation) (t : Bool) → cond t (Ok (x ∷ typed_behind x o.more)) (Err BadClock) ≡ Ok xs → length xs ≡ length o.more + 1
    counted x true e =
        let same : x ∷ typed_behind x o.more ≡ xs = cc in
        omega (arith, ap (length {A = Operation}) same, length-typed_behind x o.more)
    counted x false e = cc

    go : (r : Result Operation Refusal) → (r >>= λ x. unfolded_if_counted x o.more) ≡ Ok xs → length xs ≡ length o.more + 1
    go (Ok x) e = counted x (nat_le (sum x.clock + length o.more) 131072) e
    go (Err f) e = cc

-- ---- the first 65 of them

pub first_kept : (xs ys : List Operation) → length xs ≤ 65 → 65 ≤ length xs → xs ≡ take 65 (xs ++ ys)
first_kept xs ys h k =
    let e : length xs ≡ 65 = omega (arith, h, k) in
    sym (take-append_seam xs ys) ∙ ap (λ n. take n (xs ++ ys)) e

pub all_kept : (xs : List Operation) → length xs ≤ 65 → xs ≡ take 65 xs
all_kept xs h = sym (take_all 65 xs h)

-- what was kept of a beginning and goes on is kept of the whole
pub kept_on : (front kept ys : List Operation) → kept ≡ take 65 front → take 65 (kept ++ ys) ≡ take 65 (front ++ ys)
kept_on front kept ys e = ap (λ zs. take 65 (zs ++ ys)) e ∙ go front 65
  where
    go : (front : List Operation) (n : ℕ) → take n (take n front ++ ys) ≡ take n (front ++ ys)
    go front zero = refl
    go [] (suc n) = refl
    go (x ∷ front) (suc n) = ap (λ zs. x ∷ zs) (go front n)

pub few_kept : (front : List Operation) → length (take 65 front) ≤ 65
few_kept front = omega (arith, length-take 65 front)

pub one_kept : (xs : List Operation) (x : Operation) (items : List Operation) → items ≡ xs ++ x ∷ [] → length xs < 65 → length items ≤ 65
one_kept xs x items e h = omega (arith, ap length e, length-append xs (x ∷ []), h)

-- ---- one item by itself

pub item_told : (d : Data) (o : ItemOffer) (first : Offer) (xs ys : List Operation) → item_offer_of d ≡ Ok o → sited o.first ≡ Ok first
    → item_operations (record { first = first; more = o.more }) ≡ Ok xs → length o.more < 64 → ys ≡ take 65 xs → item_ops_of d ≡ Ok ys
item_told d o first xs ys e f g few kept =
    ap (λ r. r >>= λ p. item_sited p >>= item_operations) e
    ∙ ap (λ r. (r >>= λ s. Ok (record { first = s; more = o.more })) >>= item_operations) f
    ∙ g ∙ ap Ok (sym (kept ∙ take_all 65 xs (omega (arith, few, item_length (record { first = first; more = o.more }) xs g))))
