-- What is told by a clock, told by an equal one.
use Rattle.std.proofs.Common.{◌≡◌, ℕ, Bool, List, Option, ap, ◌∙◌, sym}
use Rattle.opid.specs.Operations.{Operation}
use Rattle.opid.specs.Clocks.{is_next}
use Rattle.opid.specs.Delivery.{clock_of, is_ready}
use Rattle.opid.specs.Held.{first_ready, without_first_ready}
use Rattle.opid.specs.Held as holding
use Rattle.versions.specs.Document as document

-- it is the clock of an equal document
pub clock_of-same : (clock : List ℕ) (d e : document.Document) → clock ≡ clock_of d.log → d ≡ e → clock ≡ clock_of e.log
clock_of-same clock d e f g = f ∙ ap (λ (r : document.Document). clock_of r.log) g

-- whether an operation is ready
pub is_ready-same : (known : List ℕ) (log : List Operation) (x : Operation) (ready : Bool) → known ≡ clock_of log
    → ready ≡ is_next x.site x.clock known → is_ready log x ≡ ready
is_ready-same known log x ready e f = sym (f ∙ ap (is_next x.site x.clock) e)

-- the first that is ready
pub first_ready-same : (known clock : List ℕ) (ops : List Operation) (o : Option Operation) → known ≡ clock → o ≡ first_ready known ops
    → first_ready clock ops ≡ o
first_ready-same known clock ops o e f = sym (f ∙ ap (λ k. first_ready k ops) e)

-- what is held back without it
pub without_first_ready-same : (known clock : List ℕ) (held new : holding.HeldOperations) → known ≡ clock
    → new ≡ record held { ops = without_first_ready known held.ops } → new ≡ record held { ops = without_first_ready clock held.ops }
without_first_ready-same known clock held new e f =
    f ∙ ap (λ k. let h : holding.HeldOperations = record held { ops = without_first_ready k held.ops } in h) e
