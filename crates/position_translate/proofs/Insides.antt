-- A version by its places: what is told of a unit, and where a place is inside a pair.
use Rattle.std.proofs.Common.{◌≡◌, ℕ, Bool, true, false, ◌&&◌, cond, Option, Some, None, List, take, refl, ap, ◌∙◌, sym}
use Rattle.std.specs.Prelude.{slice_get, option_map, nat_eq}
use Rattle.std.specs.Option.{option_map_or}
use Rattle.std.specs.Char.Utf16.{is_low_surrogate}
use Rattle.opid.specs.declared.stamp.Stamp.{Stamp}
use Rattle.opid.specs.Operations.{Operation, Insertion}
use Rattle.opid.specs.Reading.{visible_in_at, reading_in_at}
use Rattle.opid.specs.Splice.{is_inside}
use Rattle.opid.proofs.Counted.{reading_in-visible}
use Rattle.versions.proofs.Joins.{get-map}

-- what a document tells of a unit: its stamp, and 1 for the second of a pair
abbrev unit_told : Insertion → Stamp × ℕ
unit_told x = (x.stamp, cond (is_low_surrogate x.ch) 1 0)

-- the second of a pair stands at the place, where units are counted
abbrev pub is_second : Bool → List Insertion → ℕ → Bool
is_second u xs k = u && option_map_or (λ (x : Insertion). is_low_surrogate x.ch) (slice_get xs k) false

-- a place is inside a pair where the unit there is the second of one
inside_is : (log : List Operation) (v k : ℕ)
    → is_inside true (reading_in_at true log v) k
    ≡ option_map_or (λ (x : Insertion). is_low_surrogate x.ch) (slice_get (visible_in_at true log v) k) false
inside_is log v k =
    ap (λ (text : List ℕ). option_map_or is_low_surrogate (slice_get text k) false) (reading_in-visible true (take v log))
    ∙ ap (λ (o : Option ℕ). option_map_or is_low_surrogate o false) (get-map (λ x. x.ch) (visible_in_at true log v) k)
    ∙ go (slice_get (visible_in_at true log v) k)
  where
    go : (o : Option Insertion) → option_map_or is_low_surrogate (option_map (λ (x : Insertion). x.ch) o) false
        ≡ option_map_or (λ (x : Insertion). is_low_surrogate x.ch) o false
    go None = refl
    go (Some x) = refl

pub inside_where_told : (log : List Operation) (v k : ℕ) (s : Stamp) (n : ℕ)
    → Some (s, n) ≡ option_map unit_told (slice_get (visible_in_at true log v) k) → nat_eq n 1 ≡ is_inside true (reading_in_at true log v) k
inside_where_told log v k s n h = go (slice_get (visible_in_at true log v) k) h ∙ sym (inside_is log v k)
  where
    own : (m : ℕ) (t : Bool) → m ≡ cond t 1 0 → nat_eq m 1 ≡ t
    own m true e = ap (λ i. nat_eq i 1) e
    own m false e = ap (λ i. nat_eq i 1) e

    same : (a b : Stamp × ℕ) → Some a ≡ Some b → a ≡ b
    same a b e = cc

    go : (o : Option Insertion) → Some (s, n) ≡ option_map unit_told o
        → nat_eq n 1 ≡ option_map_or (λ (x : Insertion). is_low_surrogate x.ch) o false
    go None e = cc
    go (Some x) e = own n (is_low_surrogate x.ch) (ap (λ (p : Stamp × ℕ). p.1) (same (s, n) (unit_told x) e))

pub outside_where_none : (log : List Operation) (v k : ℕ) → None ≡ option_map unit_told (slice_get (visible_in_at true log v) k)
    → false ≡ is_inside true (reading_in_at true log v) k
outside_where_none log v k h = go (slice_get (visible_in_at true log v) k) h ∙ sym (inside_is log v k)
  where
    go : (o : Option Insertion) → None ≡ option_map unit_told o → false ≡ option_map_or (λ (x : Insertion). is_low_surrogate x.ch) o false
    go None e = refl
    go (Some x) e = cc

pub inside_second : (u : Bool) (log : List Operation) (v k : ℕ)
    → is_inside u (reading_in_at u log v) k ≡ is_second u (visible_in_at u log v) k
inside_second false log v k = refl
inside_second true log v k = inside_is log v k
