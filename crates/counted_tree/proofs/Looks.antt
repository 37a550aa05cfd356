-- How many nodes a walk looks at that leaves out what shows nothing.
use Rattle.std.proofs.Common.{ℕ, ◌+◌, ◌*◌, ◌<◌, ◌≤◌, arith}
use Rattle.std.proofs.Math.Nat.{mul-le-mul_left, mul-le-mul_right}

-- a fork and its two sides, of which each costs at most its height for each element that it shows
pub few_below : (s sl sr hl hr h : ℕ) → 0 < s → sl + sr ≤ s → hl ≤ h → hr ≤ h → 1 + sl * hl + sr * hr ≤ s * (h + 1)
few_below s sl sr hl hr h some both l r =
    let left : sl * hl ≤ sl * h = mul-le-mul_left sl l in
    let right : sr * hr ≤ sr * h = mul-le-mul_left sr r in
    let sides : (sl + sr) * h ≤ s * h = mul-le-mul_right h both in
    omega (arith, left, right, sides, some)
