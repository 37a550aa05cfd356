-- A text with a character put in, or taken out, between two parts, as it is counted.
use Rattle.std.proofs.Common.{◌≡◌, ℕ, zero, suc, ◌+◌, Bool, true, false, not, Option, Some, List, [], ◌∷◌, ◌++◌, length, drop, refl, ap}
use Rattle.std.proofs.Common.{ap₂}
use Rattle.std.proofs.Common.{◌∙◌, sym, arith, append_assoc, eq-eqb, inl, inr}
use Rattle.std.specs.Option.{option_map_or}
use Rattle.std.specs.Char.Utf16.{is_low_surrogate}
use Rattle.std.proofs.lemmas.Bool.{cond-true, cond-false, le-leb, lt-ltb, and_from}
use Rattle.std.proofs.lemmas.List.{length-append, take_at, drop_at}
use Rattle.opid.specs.declared.edit.Edit.TheVariants.{Ins, Del, DelUnits}
use Rattle.opid.specs.Units.{units_of, items_of, text_in}
use Rattle.opid.specs.Splice.{is_inside, width_at, apply_in, apply}
use Rattle.opid.proofs.Units.{shape, units-some, text_in-append, text_in-cons, get_behind, is_inside-seam}

-- a text with a character put in between two parts
pub put_between : (u : Bool) (a b : List ℕ) (c k : ℕ) → k ≡ length (text_in u a)
    → apply_in u (text_in u (a ++ b)) (Ins k c) ≡ Some (text_in u (a ++ c ∷ b))
put_between u a b c k e =
    ap (λ t. apply_in u t (Ins k c)) (text_in-append u a b)
    ∙ cond-true _ _ _ (and_from _ _ (ap not (is_inside-seam u (text_in u a) b k e))
    (le-leb k (length (text_in u a ++ text_in u b)) (omega (arith, e, length-append (text_in u a) (text_in u b)))))
    ∙ ap₂ (λ (x y : List ℕ). Some (x ++ (items_of u c ++ y))) (take_at (text_in u a) (text_in u b) k (sym e))
    (drop_at (text_in u a) (text_in u b) k (sym e))
    ∙ ap Some (sym (text_in-append u a (c ∷ b) ∙ ap (λ r. text_in u a ++ r) (text_in-cons u c b)))

-- a text with the character between two parts taken out
pub taken_between : (a b : List ℕ) (c k : ℕ) → k ≡ length a → apply (a ++ c ∷ b) (Del k) ≡ Some (a ++ b)
taken_between a b c k e =
    cond-true _ _ _ (lt-ltb k (length (a ++ c ∷ b)) (omega (arith, e, length-append a (c ∷ b))))
    ∙ ap₂ (λ (x y : List ℕ). Some (x ++ y)) (take_at a (c ∷ b) k (sym e)) (behind a k e)
  where
    behind : (a : List ℕ) (k : ℕ) → k ≡ length a → drop (suc k) (a ++ c ∷ b) ≡ b
    behind [] zero e = drop_at [] b 0 refl
    behind [] (suc k) e = absurd (omega (arith, e))
    behind (x ∷ a) zero e = absurd (omega (arith, e))
    behind (x ∷ a) (suc k) e = behind a k (omega (arith, e))

-- the character between two parts has as many code units as it is found to have there
width-between : (a : List ℕ) (c : ℕ) (b : List ℕ) (k : ℕ) → k ≡ length a
    → width_at (a ++ (units_of c ++ text_in true b)) k ≡ length (units_of c)
width-between a c b k e = elim (shape c) [
  | inl s ↦ (
      ap (λ (us : List ℕ). width_at (a ++ (us ++ text_in true b)) k) s.1
      ∙ cond-false _ 2 1 (ap (λ t. is_inside true t (k + 1)) (sym (append_assoc a (s.0 ∷ []) (text_in true b)))
      ∙ is_inside-seam true (a ++ s.0 ∷ []) b (k + 1) (omega (arith, e, length-append a (s.0 ∷ []))))
      ∙ sym (ap length s.1))
  | inr s ↦ (
      ap (λ (us : List ℕ). width_at (a ++ (us ++ text_in true b)) k) s.2
      ∙ cond-true _ 2 1 (ap (λ t. is_inside true t (k + 1)) (sym (append_assoc a (s.0 ∷ []) (s.1 ∷ text_in true b)))
      ∙ ap (λ (o : Option ℕ). option_map_or is_low_surrogate o false) (get_behind (a ++ s.0 ∷ []) (s.1 ∷ text_in true b) (k + 1) 0
      (omega (arith, e, length-append a (s.0 ∷ [])))) ∙ s.4)
      ∙ sym (ap length s.2))
]

-- the same of a text that is counted in code units
pub units_taken_between : (a b : List ℕ) (c k w : ℕ) → k ≡ length (text_in true a) → w ≡ length (units_of c)
    → apply_in true (text_in true (a ++ c ∷ b)) (DelUnits k w) ≡ Some (text_in true (a ++ b))
units_taken_between a b c k w e f =
    ap (λ t. apply_in true t (DelUnits k w)) (text_in-append true a (c ∷ b))
    ∙ cond-true _ _ _ (and_from _ _ (ap not (is_inside-seam true (text_in true a) (c ∷ b) k e)) (and_from _ _
    (lt-ltb k (length (text_in true a ++ (units_of c ++ text_in true b))) (omega (
      arith,
      e,
      units-some c,
      length-append (text_in true a) (units_of c ++ text_in true b),
      length-append (units_of c) (text_in true b),
    )))
    (eq-eqb w (width_at (text_in true a ++ (units_of c ++ text_in true b)) k) (f ∙ sym (width-between (text_in true a) c b k e)))))
    ∙ ap₂ (λ (x y : List ℕ). Some (x ++ y)) (take_at (text_in true a) (units_of c ++ text_in true b) k (sym e))
    (ap (drop (k + w)) (sym (append_assoc (text_in true a) (units_of c) (text_in true b)))
    ∙ drop_at (text_in true a ++ units_of c) (text_in true b) (k + w) (omega (arith, e, f, length-append (text_in true a) (units_of c))))
    ∙ ap Some (sym (text_in-append true a b))
