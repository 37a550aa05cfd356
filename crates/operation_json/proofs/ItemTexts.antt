-- Items with commas between them, one after another.
use Rattle.std.proofs.Common.{◌≡◌, ℕ, ◌+◌, ◌<◌, Bool, true, false, cond, List, [], ◌∷◌, ◌++◌, map, length, drop, get_or, refl, sym, ap, ap₂}
use Rattle.std.proofs.Common.{◌∙◌, append_assoc, ◌&&◌}
use Rattle.std.specs.Prelude.{nat_lt}
use Rattle.std.proofs.lemmas.List.{drop_more}
use Rattle.opid.specs.Operations.{Operation}
use Rattle.operation_json.specs.Packing.{Item, joins, alone, with_one_more, packed_behind, is_typed_next, last_typed}
use Rattle.operation_json.specs.Text.{more, in_brackets, item_text}

-- ---- items

-- the texts of the items that come of an item and the operations behind it, with commas between them
abbrev pub listed : Item → List Operation → List ℕ
listed i ys = drop 1 (more (map item_text (packed_behind i ys)))

comma : (i : Item) (ys : List Operation) → more (map item_text (packed_behind i ys)) ≡ 44 ∷ listed i ys
comma i [] = refl
comma i (y ∷ ys) = go (joins i y) (comma (with_one_more i y) ys)
  where
    go : (t : Bool) → more (map item_text (packed_behind (with_one_more i y) ys)) ≡ 44 ∷ listed (with_one_more i y) ys
        → more (map item_text (cond t (packed_behind (with_one_more i y) ys) (i ∷ packed_behind (alone y) ys)))
        ≡ 44 ∷ drop 1 (more (map item_text (cond t (packed_behind (with_one_more i y) ys) (i ∷ packed_behind (alone y) ys))))
    go true h = h
    go false h = refl

pub bracketed : (i : Item) (ys : List Operation) → in_brackets (map item_text (packed_behind i ys)) ≡ 91 ∷ (listed i ys ++ 93 ∷ [])
bracketed i [] = refl
bracketed i (y ∷ ys) = go (joins i y) (bracketed (with_one_more i y) ys)
  where
    go : (t : Bool)
        → in_brackets (map item_text (packed_behind (with_one_more i y) ys)) ≡ 91 ∷ (listed (with_one_more i y) ys ++ 93 ∷ [])
        → in_brackets (map item_text (cond t (packed_behind (with_one_more i y) ys) (i ∷ packed_behind (alone y) ys)))
        ≡ 91 ∷ (drop 1 (more (map item_text (cond t (packed_behind (with_one_more i y) ys) (i ∷ packed_behind (alone y) ys)))) ++ 93 ∷ [])
    go true h = h
    go false h = refl

-- an operation that joins the item
pub joined : (i j : Item) (ys : List Operation) (k : ℕ) (y : Operation) (text all : List ℕ) → k < length ys → y ≡ get_or ys k y
    → joins i y ≡ true → j ≡ with_one_more i y → text ++ (listed i (drop k ys) ++ 93 ∷ []) ≡ all
    → text ++ (listed j (drop (k + 1) ys) ++ 93 ∷ []) ≡ all
joined i j ys k y text all h e joins is so_far =
    let here : drop k ys ≡ y ∷ drop (k + 1) ys = drop_more ys k y h ∙ ap (λ d. d ∷ drop (k + 1) ys) (sym e) in
    let next : listed i (drop k ys) ≡ listed j (drop (k + 1) ys) =
    ap (listed i) here ∙ rw joins refl ∙ ap (λ n. listed n (drop (k + 1) ys)) (sym is) in
    ap (λ l. text ++ (l ++ 93 ∷ [])) (sym next) ∙ so_far

-- an operation that ends the item
pub ended : (i j : Item) (ys : List Operation) (k : ℕ) (y : Operation) (old text new all : List ℕ) → k < length ys → y ≡ get_or ys k y
    → joins i y ≡ false → j ≡ alone y → text ≡ old ++ item_text i → new ≡ text ++ 44 ∷ []
    → old ++ (listed i (drop k ys) ++ 93 ∷ []) ≡ all → new ++ (listed j (drop (k + 1) ys) ++ 93 ∷ []) ≡ all
ended i j ys k y old text new all h e apart is item more_is so_far =
    let here : drop k ys ≡ y ∷ drop (k + 1) ys = drop_more ys k y h ∙ ap (λ d. d ∷ drop (k + 1) ys) (sym e) in
    let left = listed (alone y) (drop (k + 1) ys) in
    let next : listed i (drop k ys) ≡ item_text i ++ 44 ∷ left =
    ap (listed i) here ∙ rw apart refl ∙ ap (λ l. item_text i ++ l) (comma (alone y) (drop (k + 1) ys)) in
    ap (λ n. new ++ (listed n (drop (k + 1) ys) ++ 93 ∷ [])) is
    ∙ ap (λ l. l ++ (left ++ 93 ∷ [])) (more_is ∙ ap (λ l. l ++ 44 ∷ []) item)
    ∙ regrouped old (item_text i) left ∙ ap (λ l. old ++ (l ++ 93 ∷ [])) (sym next) ∙ so_far
  where
    regrouped : (a b c : List ℕ) → (a ++ b) ++ 44 ∷ [] ++ (c ++ 93 ∷ []) ≡ a ++ ((b ++ 44 ∷ c) ++ 93 ∷ [])
    regrouped a b c = simp append_assoc

-- ---- the item by its first operation, the last one so far, and its characters

abbrev pub item_of : Operation → List ℕ → Item
item_of first more = record { first = first; more = more }

pub asked : (first last y : Operation) (more cs : List ℕ) (t : Bool) → last ≡ last_typed first more → cs ≡ more
    → t ≡ (nat_lt (length cs + 1) 64 && is_typed_next last y) → joins (item_of first more) y ≡ t
asked first last y more cs t is e told =
    sym (told ∙ ap₂ (λ (ds : List ℕ) (x : Operation). nat_lt (length ds + 1) 64 && is_typed_next x y) e is)

pub same_item : (a b : Operation) (xs ys : List ℕ) → a ≡ b → xs ≡ ys → item_of a xs ≡ item_of b ys
same_item a b xs ys e f = rw e (rw f refl)
