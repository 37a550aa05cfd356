-- Operations from elsewhere that are handed over one after another: each is delivered, whatever became of those before
-- (Roh and others 2011).
use Rattle.std.specs.Prelude.{ℕ, Result, Ok, Err, List, [], ◌∷◌}
use Rattle.opid.specs.declared.refusal.Refusal.{Refusal}
use Rattle.opid.specs.Operations.{Operation}
use Rattle.opid.specs.declared.delivery.Delivery.{Delivery}
use Rattle.opid.specs.declared.delivery.Delivery.TheVariants as deliveries
use Rattle.opid.specs.Delivered.{Delivered, deliver}
use Rattle.room_model.specs.declared.outcome.Outcome.{Outcome}
use Rattle.room_model.specs.declared.outcome.Outcome.TheVariants.{Took, Kept, Again, No}

-- what a `put` tells of a delivery
abbrev pub outcome_of : Result Delivery Refusal → Outcome
outcome_of (Ok (deliveries.Took taken dropped)) = Took taken dropped
outcome_of (Ok deliveries.Kept) = Kept
outcome_of (Ok deliveries.Again) = Again
outcome_of (Err e) = No e

-- the outcomes, one for each operation, and the log and what is held after them
pub record Handed : Type 0 where
  pub outcomes : List Outcome
  pub log : List Operation
  pub held : List Operation

-- the outcome of the first operation stands before those of the rest
abbrev pub after_first : Delivered → Handed → Handed
after_first d rest = record rest { outcomes = outcome_of d.outcome ∷ rest.outcomes }

-- at the replica of a site
abbrev pub hand_over : ℕ → List Operation → List Operation → List Operation → Handed
hand_over site log held [] = record { outcomes = []; log = log; held = held }
hand_over site log held (x ∷ ops) =
    after_first (deliver site log held x) (hand_over site (deliver site log held x).log (deliver site log held x).held ops)
