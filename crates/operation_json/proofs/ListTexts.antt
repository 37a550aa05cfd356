-- The compact texts of lists, from those of their items.
use Rattle.std.proofs.Common.{◌≡◌, ℕ, List, [], ◌∷◌, ◌++◌, map, true, refl, ap₂, ◌∙◌, append_assoc}
use Rattle.serde_json.specs.Data.{Data, array}
use Rattle.serde_json.specs.Written.{compact_text, items_text}
use Rattle.operation_json.specs.Text.{more, in_brackets}
use Rattle.operation_json.specs.Internal.Values.{each_data}

pub regroup_3 : (a b c : List ℕ) → a ++ (b ++ c) ≡ a ++ b ++ c
regroup_3 a b c = simp append_assoc

pub regroup_5 : (a b c d e : List ℕ) → a ++ (b ++ (c ++ (d ++ e))) ≡ a ++ b ++ c ++ d ++ e
regroup_5 a b c d e = simp append_assoc

pub regroup_7 : (a b c d e f g : List ℕ) → a ++ (b ++ (c ++ (d ++ (e ++ (f ++ g))))) ≡ a ++ b ++ c ++ d ++ e ++ f ++ g
regroup_7 a b c d e f g = simp append_assoc

-- ---- lists: each value's compact text is its text, so the list's is too

regroup_item : (c x m : List ℕ) → c ++ (x ++ (m ++ 93 ∷ [])) ≡ (c ++ x ++ m) ++ 93 ∷ []
regroup_item c x m = simp append_assoc

more_compact : {A : Type 0} (f : A → Data) (t : A → List ℕ) → ((x : A) → compact_text (f x) ≡ t x) → (xs : List A)
    → items_text true (each_data f xs) ≡ more (map t xs) ++ 93 ∷ []
more_compact f t e [] = refl
more_compact f t e (x ∷ xs) = ap₂ (λ y m. 44 ∷ (y ++ m)) (e x) (more_compact f t e xs) ∙ regroup_item (44 ∷ []) (t x) (more (map t xs))

pub list_compact : {A : Type 0} (f : A → Data) (t : A → List ℕ) → ((x : A) → compact_text (f x) ≡ t x) → (xs : List A)
    → compact_text (array (each_data f xs)) ≡ in_brackets (map t xs)
list_compact f t e [] = refl
list_compact f t e (x ∷ xs) = ap₂ (λ y m. 91 ∷ (y ++ m)) (e x) (more_compact f t e xs) ∙ regroup_first (t x) (more (map t xs))
  where
    regroup_first : (y m : List ℕ) → 91 ∷ (y ++ (m ++ 93 ∷ [])) ≡ 91 ∷ ((y ++ m) ++ 93 ∷ [])
    regroup_first y m = simp append_assoc
