-- The sites of more pairs than there are sites can't rise.
use Rattle.std.proofs.Common.{◌≡◌, ℕ, ◌+◌, ◌<◌, ◌≤◌, List, [], ◌∷◌, length, Err, refl, arith}
use Rattle.std.specs.List.{AllByRecursion}
use Rattle.std.proofs.lemmas.Bool.{false_from_ne_true}
use Rattle.opid.specs.declared.refusal.Refusal.TheVariants.{BadClock}
use Rattle.causal_clock.specs.Listing.{tells_clock, clock_told}
use Rattle.opid.specs.Internal.RisingPairs.{AreRising}
use Rattle.causal_clock.proofs.Listings.{listing}

-- the sites rise from the first, below 32
short : (p : ℕ × ℕ) (ps : List (ℕ × ℕ)) → AllByRecursion (λ q. q.0 < 32) (p ∷ ps) → AreRising (p ∷ ps) → p.0 + length (p ∷ ps) ≤ 32
short p [] s h = omega (arith, s.0)
short p (q ∷ ps) s h = omega (arith, h.0.0, short q ps s.1 h.1)

pub too_many : (ps : List (ℕ × ℕ)) → AllByRecursion (λ q. q.0 < 32) ps → 32 < length ps → clock_told ps ≡ Err BadClock
too_many [] s more = absurd (omega arith)
too_many (p ∷ ps) s more = rw (false_from_ne_true (tells_clock (p ∷ ps))
    (λ t. omega (arith, short p ps s (listing (p ∷ ps) t).rising))) refl
