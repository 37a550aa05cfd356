-- The last operation of a site before an end, in a log that grows.
use Rattle.std.proofs.Common.{◌≡◌, ℕ, ◌+◌, ◌<◌, ◌≤◌, ◌⊎◌, inl, inr, List, ◌++◌, length, ap, ◌∙◌, sym, arith}
use Rattle.std.proofs.lemmas.Bool.{cases_eq}
use Rattle.std.proofs.lemmas.List.{get_or_append_left}
use Rattle.opid.specs.Operations.{Operation}
use Rattle.causal_clock.specs.Internal.Packed.{no_op, operation_at, IsLastBefore}

kept_at : (ops more : List Operation) (k : ℕ) → k < length ops → operation_at (ops ++ more) k ≡ operation_at ops k
kept_at ops more k l = get_or_append_left ops more no_op k l

-- it stays the last one before that end
pub last-grown : (ops more : List Operation) (site end place : ℕ) → end ≤ length ops → IsLastBefore ops site end place
    → IsLastBefore (ops ++ more) site end place
last-grown ops more site end place l p = record {
  before = p.before;
  own = ap (λ (v : Operation). v.site) (kept_at ops more place (omega (arith, l, p.before))) ∙ p.own;
  last = λ j a b e. p.last j a b (sym (ap (λ (v : Operation). v.site) (kept_at ops more j (omega (arith, l, b)))) ∙ e);
}

-- it stays the last one behind another site's operation
pub last-other : (ops : List Operation) (site end place : ℕ) → ((operation_at ops end).site ≡ site → ⊥) → IsLastBefore ops site end place
    → IsLastBefore ops site (end + 1) place
last-other ops site end place d p = record {
  before = omega (arith, p.before);
  own = p.own;
  last = λ j a b e. go j a b e (cases_eq j end);
}
  where
    go : (j : ℕ) → place < j → j < end + 1 → (operation_at ops j).site ≡ site → (j ≡ end) ⊎ (j ≡ end → ⊥) → ⊥
    go j a b e (inl here) = d (ap (λ i. (operation_at ops i).site) (sym here) ∙ e)
    go j a b e (inr other) = p.last j a (beneath j end b other) e
      where
        beneath : (i n : ℕ) → i < n + 1 → (i ≡ n → ⊥) → i < n
        beneath i n u v = grind (arith)

-- the site's own operation is the last one behind it
pub last-own : (ops : List Operation) (site end : ℕ) → (operation_at ops end).site ≡ site → IsLastBefore ops site (end + 1) end
last-own ops site end e = record { before = omega arith; own = e; last = λ j a b _. absurd (omega (arith, a, b)) }
