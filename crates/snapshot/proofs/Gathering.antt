-- Gathered objects, integrated one after another.
use Rattle.std.proofs.Common.{◌≡◌, ◌≤◌, ◌<◌, ◌+◌, ◌++◌, ◌∙◌, ℕ, List, length, drop, get_or, sym, ap, append_assoc, append-nil}
use Rattle.std.proofs.lemmas.List.{drop_all}
use Rattle.opid.specs.Operations.{Operation}
use Rattle.opid.specs.Lawful.{IsLawful, GoesOn}
use Rattle.opid.proofs.Gathered.{rest_at}
use Rattle.operation_json.specs.Packing.{Item, unfolded, unfolded_all}
use Rattle.snapshot.proofs.Loaded.{no_part}

pub one_more : (front : List Operation) (items : List Item) (i : ℕ) (g : Item) (total : List Operation) → i < length items
    → g ≡ get_or items i g → front ++ unfolded_all (drop i items) ≡ total
    → (front ++ unfolded g) ++ unfolded_all (drop (i + 1) items) ≡ total
one_more front items i g total h at so_far =
    append_assoc front (unfolded g) (unfolded_all (drop (i + 1) items))
    ∙ ap (λ gs. front ++ unfolded_all gs) (sym (rest_at items i g h at)) ∙ so_far

pub all_integrated : (front : List Operation) (items : List Item) (i : ℕ) (total : List Operation) → length items ≤ i
    → front ++ unfolded_all (drop i items) ≡ total → front ≡ total
all_integrated front items i total h so_far =
    sym (append-nil front) ∙ ap (λ gs. front ++ unfolded_all gs) (sym (drop_all i items h)) ∙ so_far

-- an object whose operations may not follow is none of a lawful log's
pub item_refuted : (front : List Operation) (items : List Item) (i : ℕ) (g : Item) → i < length items → g ≡ get_or items i g
    → front ++ unfolded_all (drop i items) ≡ unfolded_all items
    → (GoesOn front (unfolded g) → length front + length (unfolded g) ≤ 131072 → ⊥)
    → IsLawful (unfolded_all items) → length (unfolded_all items) ≤ 131072 → ⊥
item_refuted front items i g h at so_far not lawful few =
    no_part front (unfolded g) (unfolded_all (drop (i + 1) items)) (unfolded_all items)
    (one_more front items i g (unfolded_all items) h at so_far) lawful few not
