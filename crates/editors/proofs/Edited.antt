-- A text after edits that are played one after another.
use Rattle.std.proofs.Common.{◌≡◌, ℕ, suc, ◌+◌, ◌<◌, ◌⊎◌, Bool, inl, inr, Option, Some, None, List, [], ◌∷◌, ◌++◌, length, take, drop}
use Rattle.std.proofs.Common.{get_or, refl, ap, ◌∙◌, sym, drop-cons}
use Rattle.std.specs.Prelude.{option_and_then}
use Rattle.std.proofs.lemmas.List.{take_more, take-append-drop}
use Rattle.opid.specs.declared.edit.Edit.{Edit}
use Rattle.opid.specs.declared.edit.Edit.TheVariants.{Ins, Del, DelUnits, Nop}
use Rattle.opid.specs.declared.refusal.Refusal.{Refusal}
use Rattle.opid.specs.declared.refusal.Refusal.TheVariants.{BadPlace, Memory}
use Rattle.opid.specs.Splice.{apply_in, play_in}
use Rattle.splice.specs.Causes.{MayRefuse}

play-append : (b : Bool) (t : List ℕ) (xs ys : List Edit)
    → play_in b t (xs ++ ys) ≡ option_and_then (λ u. play_in b u ys) (play_in b t xs)
play-append b t [] ys = refl
play-append b t (e ∷ xs) ys = on (apply_in b t e) (λ u. play-append b u xs ys)
  where
    on : (o : Option (List ℕ)) → ((u : List ℕ) → play_in b u (xs ++ ys) ≡ option_and_then (λ v. play_in b v ys) (play_in b u xs))
        → option_and_then (λ u. play_in b u (xs ++ ys)) o
        ≡ option_and_then (λ u. play_in b u ys) (option_and_then (λ u. play_in b u xs) o)
    on None ih = refl
    on (Some u) ih = ih u

-- one edit more
pub plays_on : (b : Bool) (t u v : List ℕ) (es : List Edit) (i : ℕ) (d : Edit) → i < length es → play_in b t (take i es) ≡ Some u
    → apply_in b u (get_or es i d) ≡ Some v → play_in b t (take (i + 1) es) ≡ Some v
plays_on b t u v es i d h p a =
    ap (play_in b t) (take_more es i d h)
    ∙ play-append b t (take i es) (get_or es i d ∷ [])
    ∙ ap (option_and_then (λ w. play_in b w (get_or es i d ∷ []))) p
    ∙ ap (option_and_then (λ w. Some w)) a

-- an edit that lies outside the text stops them all
stops : (b : Bool) (t u : List ℕ) (es : List Edit) (i : ℕ) (d : Edit) → i < length es → play_in b t (take i es) ≡ Some u
    → apply_in b u (get_or es i d) ≡ None → play_in b t es ≡ None
stops b t u es i d h p a =
    let rest : List Edit = drop (suc i) es in
    ap (play_in b t) (sym (take-append-drop i es) ∙ ap (λ x. take i es ++ x) (drop-cons es i d h))
    ∙ play-append b t (take i es) (get_or es i d ∷ rest)
    ∙ ap (option_and_then (λ w. play_in b w (get_or es i d ∷ rest))) p
    ∙ ap (option_and_then (λ w. play_in b w rest)) a

-- why an edit is refused, and then all of them
pub refused : (b : Bool) (t u : List ℕ) (es : List Edit) (i : ℕ) (d : Edit) (why : Refusal) → i < length es
    → play_in b t (take i es) ≡ Some u → MayRefuse (get_or es i d) why → (why ≡ BadPlace → apply_in b u (get_or es i d) ≡ None)
    → ((why ≡ BadPlace) × (play_in b t es ≡ None)) ⊎ (why ≡ Memory)
refused b t u es i d why h p m n = by (cause (get_or es i d) m)
  where
    cause : (e : Edit) → MayRefuse e why → (why ≡ BadPlace) ⊎ (why ≡ Memory)
    cause (Ins k c) m = m
    cause (Del k) m = inl m
    cause (DelUnits k w) m = inl m
    cause Nop m = absurd m

    by : (why ≡ BadPlace) ⊎ (why ≡ Memory) → ((why ≡ BadPlace) × (play_in b t es ≡ None)) ⊎ (why ≡ Memory)
    by (inl q) = inl (q, stops b t u es i d h p (n q))
    by (inr m) = inr m
