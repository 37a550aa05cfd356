-- An operation's JSON value is read back as that operation.
use Rattle.std.proofs.Common.{◌≡◌, ℕ, ◌<◌, ◌^◌, List, [], ◌∷◌, Some, None, Result, Ok, refl, ap, ◌∙◌, arith}
use Rattle.std.specs.List.{AllByRecursion as Each}
use Rattle.std.proofs.lemmas.Bool.{lt-ltb}
use Rattle.std.proofs.lemmas.Str.{chars-encodes}
use Rattle.opid.specs.declared.refusal.Refusal.{Refusal}
use Rattle.opid.specs.declared.stamp.Stamp.{Stamp}
use Rattle.opid.specs.declared.kind.OpKind.{OpKind}
use Rattle.opid.specs.declared.kind.OpKind.TheVariants.{Ins, Del}
use Rattle.opid.specs.Clocks.{entry}
use Rattle.opid.specs.Operations.{Operation}
use Rattle.opid.specs.Kinds.{IsClock, IsOperation}
use Rattle.operation_json.specs.Members.{◌>>=◌}
use Rattle.operation_json.specs.Operations.{Offer, each, items_told, pair_of, stamp_told, parent_of, offer_of, site_of, sited_pair}
use Rattle.operation_json.specs.Operations.{sited_kind, sited, with_clock, operation, op_of}
use Rattle.operation_json.specs.Text.{IsStampInRange, IsKindInRange, pairs_of}
use Rattle.operation_json.specs.Internal.Values.{each_data, two_data, pair_data, stamp_data, op_data_of, op_data}
use Rattle.causal_clock.specs.Listing.{clock_told}
use Rattle.causal_clock.proofs.Listings.{tells}
use Rattle.operation_json.proofs.Pairs.{listing_of, clock_with_pairs, pairs_sited, pairs_small}

two_back : (m n : ℕ) → m < 2 ^ 32 → n < 2 ^ 32 → pair_of (two_data m n) ≡ Ok (m, n)
two_back m n h k = rw (lt-ltb m (2 ^ 32) h) (rw (lt-ltb n (2 ^ 32) k) refl)

pub pairs_back : (ps : List (ℕ × ℕ)) → Each (λ p. (p.0 < 2 ^ 32) × (p.1 < 2 ^ 32)) ps
    → each pair_of (items_told (each_data pair_data ps)) ≡ Ok ps
pairs_back [] h = refl
pairs_back (p ∷ ps) h = step (pairs_back ps h.1)
  where
    step : each pair_of (items_told (each_data pair_data ps)) ≡ Ok ps
        → each pair_of (items_told (each_data pair_data (p ∷ ps))) ≡ Ok (p ∷ ps)
    step rest =
        ap (λ r. r >>= λ y. each pair_of (items_told (each_data pair_data ps)) >>= λ ys. Ok (y ∷ ys)) (two_back p.0 p.1 h.0.0 h.0.1)
        ∙ ap (λ r. r >>= λ ys. Ok (p ∷ ys)) rest

stamp_back : (s : Stamp) → IsStampInRange s → stamp_told (stamp_data s) ≡ Ok s
stamp_back s h = ap (λ r. r >>= λ p. Ok (record { sum = p.0; site = p.1 })) (two_back s.sum s.site h.0 (omega (arith, h.1)))

pub parent_back : (s : Stamp) → IsStampInRange s → parent_of (stamp_data s) ≡ Ok (Some s)
parent_back s h = ap (λ r. r >>= λ p. Ok (Some p)) (stamp_back s h)

abbrev pub offer_with : ℕ → List ℕ → OpKind → Offer
offer_with s clock kind = record { site = s; pairs = pairs_of clock; kind = kind }

pub offer_back : (s : ℕ) (clock : List ℕ) (kind : OpKind) → s < 32 → IsClock clock → IsKindInRange kind
    → offer_of (op_data_of s clock kind) ≡ Ok (offer_with s clock kind)
offer_back s clock (Ins None c) h k r =
    rw (pairs_back (pairs_of clock) (pairs_small clock k)) (rw (lt-ltb s (2 ^ 32) (omega arith)) (rw (chars-encodes (c ∷ []) r) refl))
offer_back s clock (Ins (Some p) c) h k r =
    rw (pairs_back (pairs_of clock) (pairs_small clock k)) (rw (parent_back p r.0)
    (rw (lt-ltb s (2 ^ 32) (omega arith)) (rw (chars-encodes (c ∷ []) r.1) refl)))
offer_back s clock (Del t) h k r =
    rw (pairs_back (pairs_of clock) (pairs_small clock k)) (rw (lt-ltb s (2 ^ 32) (omega arith)) (rw (stamp_back t r) refl))

-- ---- sites

site_back : (n : ℕ) → n < 32 → site_of n ≡ Ok n
site_back n h = rw (lt-ltb n 32 h) refl

sited_pairs_back : (ps : List (ℕ × ℕ)) → Each (λ p. p.0 < 32) ps → each sited_pair ps ≡ Ok ps
sited_pairs_back [] h = refl
sited_pairs_back (p ∷ ps) h = step (sited_pairs_back ps h.1)
  where
    step : each sited_pair ps ≡ Ok ps → each sited_pair (p ∷ ps) ≡ Ok (p ∷ ps)
    step rest =
        ap (λ r. (r >>= λ s. Ok (s, p.1)) >>= λ y. each sited_pair ps >>= λ ys. Ok (y ∷ ys)) (site_back p.0 h.0)
        ∙ ap (λ r. r >>= λ ys. Ok (p ∷ ys)) rest

sited_kind_back : (kind : OpKind) → IsKindInRange kind → sited_kind kind ≡ Ok kind
sited_kind_back (Ins None c) r = refl
sited_kind_back (Ins (Some p) c) r =
    ap (λ m. (m >>= λ n. Ok (record { sum = p.sum; site = n })) >>= λ s. Ok (Ins (Some s) c)) (site_back p.site r.0.1)
sited_kind_back (Del t) r = ap (λ m. (m >>= λ n. Ok (record { sum = t.sum; site = n })) >>= λ s. Ok (Del s)) (site_back t.site r.1)

abbrev sited_with : ℕ → List (ℕ × ℕ) → OpKind → Result Offer Refusal
sited_with s ps kind = Ok (record { site = s; pairs = ps; kind = kind })

pub sited_back : (s : ℕ) (clock : List ℕ) (kind : OpKind) → s < 32 → IsKindInRange kind
    → sited (offer_with s clock kind) ≡ Ok (offer_with s clock kind)
sited_back s clock kind h r =
    ap (λ m. m >>= λ n. each sited_pair (pairs_of clock) >>= λ ps. sited_kind kind >>= λ k. sited_with n ps k) (site_back s h)
    ∙ ap (λ m. m >>= λ ps. sited_kind kind >>= λ k. sited_with s ps k) (sited_pairs_back (pairs_of clock) (pairs_sited clock))
    ∙ ap (λ m. m >>= λ k. sited_with s (pairs_of clock) k) (sited_kind_back kind r)

-- ---- clocks

clock_back : (clock : List ℕ) → IsClock clock → clock_told (pairs_of clock) ≡ Ok clock
clock_back clock h = rw (tells (pairs_of clock) (listing_of clock h)) (ap Ok (clock_with_pairs clock h))

with_clock_back : (s : ℕ) (clock : List ℕ) (kind : OpKind) → 0 < entry clock s
    → with_clock s clock kind ≡ Ok (record { site = s; clock = clock; kind = kind })
with_clock_back s clock kind h = rw (lt-ltb 0 (entry clock s) h) refl

pub operation_back : (s : ℕ) (clock : List ℕ) (kind : OpKind) → IsClock clock → 0 < entry clock s
    → operation (offer_with s clock kind) ≡ Ok (record { site = s; clock = clock; kind = kind })
operation_back s clock kind h own = ap (λ m. m >>= λ c. with_clock s c kind) (clock_back clock h) ∙ with_clock_back s clock kind own

pub op_back : (x : Operation) → IsOperation x → IsKindInRange x.kind → op_of (op_data x) ≡ Ok x
op_back x h r =
    let clock : IsClock x.clock = record { width = h.width; limit = h.limit } in
    ap (λ m. m >>= λ o. sited o >>= λ p. operation p) (offer_back x.site x.clock x.kind h.site clock r)
    ∙ ap (λ m. m >>= λ p. operation p) (sited_back x.site x.clock x.kind h.site r)
    ∙ operation_back x.site x.clock x.kind clock h.own
