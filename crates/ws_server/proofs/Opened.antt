-- Replicas that become rooms one after another, and rooms over empty logs.
use Rattle.std.proofs.Common.{◌≡◌, ℕ, zero, suc, ◌+◌, List, [], ◌∷◌, length, map, drop, replicate, Some, slice_get, refl, ap, sym, ◌∙◌}
use Rattle.std.proofs.Common.{arith}
use Rattle.opid.specs.Delivered.{ReplicaState}
use Rattle.room_model.specs.Machine.{room_over, empty_room}

-- what is left from a place on has the item at that place, and then those behind it
pub left_after : {A : Type 0} (xs : List A) (at : ℕ) (x : A) (rest : List A) → drop at xs ≡ x ∷ rest
    → (slice_get xs at ≡ Some x) × (rest ≡ drop (at + 1) xs)
left_after [] zero x rest e = absurd (cc e)
left_after [] (suc at) x rest e = absurd (cc e)
left_after (y ∷ ys) zero x rest e = (ap Some (let same : y ≡ x = cc e in same), (let same : rest ≡ ys = cc e in same))
left_after {A} (y ∷ ys) (suc at) x rest e =
    let more = left_after ys at x rest e in
    let next : (n : ℕ) → n ≡ suc (at + 1) → drop n (y ∷ ys) ≡ drop (at + 1) ys = λ n is. ap (λ k. drop k (y ∷ ys)) is in
    (more.0, more.1 ∙ sym (next (suc at + 1) (omega arith)))

-- the replica of a site that has no operation yet
abbrev pub empty_replica : ℕ → ReplicaState
empty_replica site = record { site = site; log = []; held = []; reserved = 0 }

over_empty : {A : Type 0} (site : ℕ) (asked : List A)
    → map (λ (r : ReplicaState). room_over r.site r.log) (replicate (length asked) (empty_replica site))
    ≡ map (λ name. empty_room site) asked
over_empty site [] = refl
over_empty site (name ∷ names) = ap (λ l. empty_room site ∷ l) (over_empty site names)

-- rooms over empty logs are empty rooms
pub over_none : {A : Type 0} (site count : ℕ) (asked : List A) (made : List ReplicaState) → count ≡ length asked
    → made ≡ replicate count (empty_replica site)
    → map (λ (r : ReplicaState). room_over r.site r.log) made ≡ map (λ name. empty_room site) asked
over_none site count asked made same is =
    ap (map (λ (r : ReplicaState). room_over r.site r.log)) (is ∙ ap (λ n. replicate n (empty_replica site)) same) ∙ over_empty site asked
