-- The UTF-16 units that a version's list tells are those of the log's version.
use Rattle.std.proofs.Common.{◌≡◌, ℕ, ◌<◌, ◌≤◌, Bool, true, false, cond, not, inl, inr, Option, Some, None, List, [], ◌∷◌, ◌++◌, map}
use Rattle.std.proofs.Common.{length}
use Rattle.std.proofs.Common.{take, refl, ap, ap₂, ◌∙◌, sym, subst, arith}
use Rattle.std.specs.Prelude.{filter, slice_get, option_map}
use Rattle.std.specs.List.{AllByRecursion as Each}
use Rattle.std.specs.Char.Utf16.{is_low_surrogate}
use Rattle.std.proofs.lemmas.Bool.{cond-true, cond-false}
use Rattle.std.proofs.lemmas.List.{length-map, map-append}
use Rattle.opid.specs.declared.stamp.Stamp.{Stamp}
use Rattle.opid.specs.Operations.{Operation, Insertion, insertions, is_deleted}
use Rattle.opid.specs.Tree.{all}
use Rattle.opid.specs.Units.{units_of, parts_of, items_in}
use Rattle.opid.specs.Reading.{visible_at, visible_in, visible_in_at}
use Rattle.opid.specs.Edits.{place_of}
use Rattle.opid.specs.Lawful.{IsLawful}
use Rattle.opid.proofs.Walk.{Each-append}
use Rattle.opid.proofs.Runs.{Each-some}
use Rattle.opid.proofs.Units.{shape}
use Rattle.rga_list.specs.Entries.{Entry, AreOfOwn, entry_of}
use Rattle.rga_list.specs.Listed.{entry_for, listed}
use Rattle.counted_tree.specs.Entry.{units}
use Rattle.counted_tree.specs.Versions.{Versions, version_list}
use Rattle.versions.specs.Internal.Joined.{is_wide, plain, list_of, TellsVersions}
use Rattle.versions.proofs.Widths.{width}
use Rattle.versions.proofs.Joins.{get-map}
use Rattle.versions.proofs.Versions.{number_at, IsFound, found_each, same_stamp}

-- ---- wide characters

narrow : (ch a : ℕ) → units_of ch ≡ a ∷ [] → is_wide ch ≡ false
narrow ch a e = go (is_wide ch) (sym (width ch) ∙ ap length e)
  where
    go : (w : Bool) → cond {A = ℕ} w 2 1 ≡ 1 → w ≡ false
    go true h = absurd (omega (arith, h))
    go false h = refl

wide : (ch a b : ℕ) → units_of ch ≡ a ∷ b ∷ [] → is_wide ch ≡ true
wide ch a b e = go (is_wide ch) (sym (width ch) ∙ ap length e)
  where
    go : (w : Bool) → cond {A = ℕ} w 2 1 ≡ 2 → w ≡ true
    go true h = refl
    go false h = absurd (omega (arith, h))

-- ---- the units of a list

-- the number of a unit's element, and 1 where the unit is the second of a pair
abbrev unit_of : List Operation → Insertion → ℕ × ℕ
unit_of ops y = (place_of y.stamp (insertions ops), cond (is_low_surrogate y.ch) 1 0)

parts_told : (ops : List Operation) (x : Insertion)
    → cond (is_wide x.ch) ((place_of x.stamp (insertions ops), 0) ∷ (place_of x.stamp (insertions ops), 1) ∷ [])
    ((place_of x.stamp (insertions ops), 0) ∷ []) ≡ map (unit_of ops) (parts_of x)
parts_told ops x =
    let e : ℕ = place_of x.stamp (insertions ops) in
    elim (shape x.ch) [
      | inl s ↦ cond-false _ _ _ (narrow x.ch s.0 s.1)
          ∙ sym (ap (λ (us : List ℕ). map (unit_of ops) (map (λ n. record x { ch = n }) us)) s.1
          ∙ ap (λ (b : Bool). (e, cond b 1 0) ∷ []) s.2)
      | inr s ↦ cond-true _ _ _ (wide x.ch s.0 s.1 s.2)
          ∙ sym (ap (λ (us : List ℕ). map (unit_of ops) (map (λ n. record x { ch = n }) us)) s.2
          ∙ ap₂ (λ (b c : Bool). (e, cond b 1 0) ∷ (e, cond c 1 0) ∷ []) s.3 s.4)
    ]

units_each : (ops : List Operation) (xs : List Insertion) → units (map plain (map (entry_for ops) xs))
    ≡ map (unit_of ops) (items_in true (filter (λ y. not (is_deleted ops y.stamp)) xs))
units_each ops [] = refl
units_each ops (x ∷ xs) = go (not (is_deleted ops x.stamp)) (units_each ops xs)
  where
    go : (s : Bool) → units (map plain (map (entry_for ops) xs))
        ≡ map (unit_of ops) (items_in true (filter (λ y. not (is_deleted ops y.stamp)) xs))
        → cond s (cond (is_wide x.ch) ((place_of x.stamp (insertions ops), 0) ∷ (place_of x.stamp (insertions ops), 1) ∷ [])
        ((place_of x.stamp (insertions ops), 0) ∷ [])) [] ++ units (map plain (map (entry_for ops) xs))
        ≡ map (unit_of ops) (items_in true (cond s (x ∷ filter (λ y. not (is_deleted ops y.stamp)) xs)
        (filter (λ y. not (is_deleted ops y.stamp)) xs)))
    go true ih =
        ap₂ (λ (a b : List (ℕ × ℕ)). a ++ b) (parts_told ops x) ih
        ∙ sym (map-append (unit_of ops) (parts_of x) (items_in true (filter (λ y. not (is_deleted ops y.stamp)) xs)))
    go false ih = ih

-- what a version's list tells are the units of what the operations show, by their elements' numbers
pub units_shown : (ops : List Operation) → units (list_of ops) ≡ map (unit_of ops) (visible_in true ops)
units_shown ops = units_each ops (all ops)

-- ---- those of a version

pub units_counted : (log : List Operation) (tree : Versions) (v : ℕ) → TellsVersions log tree → v ≤ length log
    → length (units (version_list tree v)) ≡ length (visible_in_at true log v)
units_counted log tree v t h = ap (λ l. length (units l)) (t.each v h) ∙ ap length (units_shown (take v log))
    ∙ length-map (visible_in_at true log v) (unit_of (take v log))

finds_unit : (log : List Operation) (tree : Versions) (v k : ℕ) → TellsVersions log tree → v ≤ length log
    → slice_get (units (version_list tree v)) k ≡ option_map (unit_of (take v log)) (slice_get (visible_in_at true log v) k)
finds_unit log tree v k t h = ap (λ l. slice_get (units l) k) (t.each v h) ∙ ap (λ l. slice_get l k) (units_shown (take v log))
    ∙ get-map (unit_of (take v log)) (visible_in_at true log v) k

-- the number of a unit's element names an entry with its stamp in the whole list
record IsNamed (log : List Operation) (v : ℕ) (y : Insertion) : Type 0 where
  pub named : Entry
  pub entry : entry_of (number_at log v y) (listed log) ≡ Some named
  pub stamp : named.stamp ≡ y.stamp
  pub within : number_at log v y < length (listed log)

named_each : (log : List Operation) (v : ℕ) (xs : List Insertion) → Each (λ (y : Insertion). IsFound log v y) xs
    → Each (λ (y : Insertion). IsNamed log v y) (items_in true xs)
named_each log v [] h = tt
named_each log v (x ∷ xs) h =
    Each-append (λ (y : Insertion). IsNamed log v y) (parts_of x) (items_in true xs) (own (units_of x.ch)) (named_each log v xs h.1)
  where
    own : (us : List ℕ) → Each (λ (y : Insertion). IsNamed log v y) (map (λ n. record x { ch = n }) us)
    own [] = tt
    own (n ∷ us) = (record { named = entry_for log x; entry = h.0.entry; stamp = refl; within = h.0.within }, own us)

same_unit : (a b : ℕ × ℕ) → Some a ≡ Some b → a ≡ b
same_unit a b h = cc

unit_found : (log : List Operation) (tree : Versions) (v k : ℕ) (found : ℕ × ℕ) → IsLawful log → AreOfOwn (listed log)
    → TellsVersions log tree → v ≤ length log → Some found ≡ slice_get (units (version_list tree v)) k
    → (y : Insertion) × (slice_get (visible_in_at true log v) k ≡ Some y) × (found ≡ unit_of (take v log) y) × IsNamed log v y
unit_found log tree v k found l o t h f = go (slice_get (visible_in_at true log v) k) refl (f ∙ finds_unit log tree v k t h)
  where
    go : (r : Option Insertion) → slice_get (visible_in_at true log v) k ≡ r
        → Some found ≡ option_map (unit_of (take v log)) (slice_get (visible_in_at true log v) k)
        → (y : Insertion) × (slice_get (visible_in_at true log v) k ≡ Some y) × (found ≡ unit_of (take v log) y) × IsNamed log v y
    go None q g = absurd (none (g ∙ ap (option_map (unit_of (take v log))) q))
      where
        none : Some found ≡ None → ⊥
        none r = cc
    go (Some y) q g = (
      y,
      q,
      same_unit _ _ (g ∙ ap (option_map (unit_of (take v log))) q),
      Each-some (λ (z : Insertion). IsNamed log v z) (visible_in_at true log v) k y
          (named_each log v (visible_at log v) (found_each log v l o)) q,
    )

-- the stamp of a unit's element, and 1 where the unit is the second of a pair
abbrev pub told_of : Insertion → Stamp × ℕ
told_of x = (x.stamp, cond (is_low_surrogate x.ch) 1 0)

pub unit_told : (log : List Operation) (tree : Versions) (entries : List Entry) (v k e second : ℕ) (st : Stamp) (ch : ℕ) (shown : Bool)
    → IsLawful log → TellsVersions log tree → entries ≡ listed log → AreOfOwn entries → v ≤ length log
    → Some (e, second) ≡ slice_get (units (version_list tree v)) k
    → entry_of e entries ≡ Some (record { elem = e; stamp = st; ch = ch; shown = shown })
    → Some (st, second) ≡ option_map told_of (slice_get (visible_in_at true log v) k)
unit_told log tree entries v k e second st ch shown l t s o h f g =
    let r = unit_found log tree v k (e, second) l (subst AreOfOwn s o) t h f in
    let number : e ≡ number_at log v r.0 = ap (λ (p : ℕ × ℕ). p.0) r.2 in
    let same : st ≡ r.0.stamp = sym (same_stamp r.3.named (record { elem = e; stamp = st; ch = ch; shown = shown })
    (sym r.3.entry ∙ ap (λ (i : ℕ). entry_of i (listed log)) (sym number) ∙ ap (entry_of e) (sym s) ∙ g)) ∙ r.3.stamp in
    ap₂ (λ (u : Stamp) (n : ℕ). Some (u, n)) same (ap (λ (p : ℕ × ℕ). p.1) r.2)
    ∙ sym (ap (option_map told_of) r.1)

pub unit_within : (log : List Operation) (tree : Versions) (entries : List Entry) (v k e second : ℕ) → IsLawful log
    → TellsVersions log tree → entries ≡ listed log → AreOfOwn entries → v ≤ length log
    → Some (e, second) ≡ slice_get (units (version_list tree v)) k → e < length entries
unit_within log tree entries v k e second l t s o h f =
    let r = unit_found log tree v k (e, second) l (subst AreOfOwn s o) t h f in
    omega (arith, ap (λ (p : ℕ × ℕ). p.0) r.2, r.3.within, ap length s)

pub no_unit : (log : List Operation) (tree : Versions) (v k : ℕ) → TellsVersions log tree → v ≤ length log
    → None ≡ slice_get (units (version_list tree v)) k
    → None ≡ option_map told_of (slice_get (visible_in_at true log v) k)
no_unit log tree v k t h f = go (slice_get (visible_in_at true log v) k) (f ∙ finds_unit log tree v k t h)
  where
    go : (r : Option Insertion) → None ≡ option_map (unit_of (take v log)) r
        → None ≡ option_map told_of r
    go None q = refl
    go (Some y) q = cc
