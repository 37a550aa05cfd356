-- The operations of a whole log.
use Rattle.std.proofs.Common.{◌≡◌, ℕ, ◌-◌, List, [], ◌∷◌, take, drop, refl, ap, ◌∙◌, length, arith}
use Rattle.std.proofs.lemmas.List.{take_all}

pub drop_none : {X : Type 0} (xs : List X) → drop 0 xs ≡ xs
drop_none [] = refl
drop_none (x ∷ xs) = refl

pub copied_all : {X : Type 0} (xs : List X) (n : ℕ) → n ≡ length xs → take (n - 0) (drop 0 xs) ≡ xs
copied_all xs n e = ap (take (n - 0)) (drop_none xs) ∙ take_all (n - 0) xs (omega (arith, e))
