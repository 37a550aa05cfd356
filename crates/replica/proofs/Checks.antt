-- Each way through the checks of a delivery, and where it leads.
use Rattle.std.proofs.Common.{◌≡◌, ℕ, Bool, true, false, cond, Option, Some, None, Ok, Err, Result, List, [], ◌∷◌, ◌++◌, length, refl, ap}
use Rattle.std.proofs.Common.{◌∙◌, ◌<◌, sym, arith}
use Rattle.std.specs.Prelude.{nat_lt}
use Rattle.std.specs.Option.{option_or}
use Rattle.std.proofs.lemmas.Bool.{cond-true, cond-false}
use Rattle.std.proofs.lemmas.Bool.Decides.{nat_tests}
use Rattle.std.proofs.lemmas.List.Folds.{find-append}
use Rattle.opid.specs.declared.refusal.Refusal.{Refusal}
use Rattle.opid.specs.declared.refusal.Refusal.TheVariants.{OwnSite, Conflict, HoldFull}
use Rattle.opid.specs.Operations.{Operation, number_of}
use Rattle.opid.specs.Delivery.{is_ready}
use Rattle.opid.specs.declared.arrival.Arrival.{Arrival}
use Rattle.opid.specs.declared.arrival.Arrival.TheVariants as arrivals
use Rattle.opid.specs.Held.{is_same_operation}
use Rattle.opid.specs.Held.{look_for, compared, with_number, is_same_number, offered, arrival_of}
use Rattle.opid.specs.declared.delivery.Delivery.TheVariants.{Kept, Again}
use Rattle.opid.specs.Delivered.{refusal_of}
use Rattle.opid.specs.Delivered.{settle}
use Rattle.opid.specs.Delivered.{Delivered, unchanged, settled, integrate, deliver_found, claims_site, deliver}

-- by an equal answer
pub look_for-same : (ops : List Operation) (x : Operation) (found there : Bool) → Ok found ≡ look_for x ops → found ≡ there
    → look_for x ops ≡ Ok there
look_for-same ops x found there e f = sym e ∙ ap Ok f

compared-Ok : (x y : Operation) → compared x (Some y) ≡ Ok false → {P : Type 0} → P
compared-Ok x y e {P} = go (is_same_operation x y) e
  where
    go : (t : Bool) → cond t (Ok true) (Err Conflict) ≡ Ok false → P
    go true e = cc
    go false e = cc

-- what isn't in the log is looked for among what is held
not_in_log : (log held : List Operation) (x : Operation) → look_for x log ≡ Ok false → look_for x (log ++ held) ≡ look_for x held
not_in_log log held x e = ap (compared x) (find-append (λ y. is_same_number (number_of x) (number_of y)) log held)
    ∙ go (with_number (number_of x) log) e
  where
    go : (o : Option Operation) → compared x o ≡ Ok false → compared x (option_or o (with_number (number_of x) held)) ≡ look_for x held
    go None e = refl
    go (Some y) e = compared-Ok x y e

in_log : (log held : List Operation) (x : Operation) → look_for x log ≡ Ok true → look_for x (log ++ held) ≡ Ok true
in_log log held x e = ap (compared x) (find-append (λ y. is_same_number (number_of x) (number_of y)) log held)
    ∙ go (with_number (number_of x) log) e
  where
    go : (o : Option Operation) → compared x o ≡ Ok true → compared x (option_or o (with_number (number_of x) held)) ≡ Ok true
    go None e = cc
    go (Some y) e = e

other_in_log : (log held : List Operation) (x : Operation) (r : Refusal) → look_for x log ≡ Err r → look_for x (log ++ held) ≡ Err r
other_in_log log held x r e = ap (compared x) (find-append (λ y. is_same_number (number_of x) (number_of y)) log held)
    ∙ go (with_number (number_of x) log) e
  where
    go : (o : Option Operation) → compared x o ≡ Err r → compared x (option_or o (with_number (number_of x) held)) ≡ Err r
    go None e = cc
    go (Some y) e = e

-- an operation that doesn't claim the site
found : (site : ℕ) (log held : List Operation) (x : Operation) (r : Result Bool Refusal) → claims_site site log x ≡ false
    → look_for x (log ++ held) ≡ r → deliver site log held x ≡ deliver_found r log held x
found site log held x r c e = cond-false _ _ _ c ∙ ap (λ v. deliver_found v log held x) e

pub deliver-own : (site : ℕ) (log held : List Operation) (x : Operation) → claims_site site log x ≡ true
    → deliver site log held x ≡ unchanged (Err OwnSite) log held
deliver-own site log held x c = cond-true _ _ _ c

pub deliver-in_log : (site : ℕ) (log held : List Operation) (x : Operation) → claims_site site log x ≡ false → look_for x log ≡ Ok true
    → deliver site log held x ≡ unchanged (Ok Again) log held
deliver-in_log site log held x c e = found site log held x (Ok true) c (in_log log held x e)

pub deliver-other_in_log : (site : ℕ) (log held : List Operation) (x : Operation) (r : Refusal) → claims_site site log x ≡ false
    → look_for x log ≡ Err r → deliver site log held x ≡ unchanged (Err r) log held
deliver-other_in_log site log held x r c e = found site log held x (Err r) c (other_in_log log held x r e)

pub deliver-held : (site : ℕ) (log held : List Operation) (x : Operation) → claims_site site log x ≡ false → look_for x log ≡ Ok false
    → look_for x held ≡ Ok true → deliver site log held x ≡ unchanged (Ok Again) log held
deliver-held site log held x c e f = found site log held x (Ok true) c (not_in_log log held x e ∙ f)

pub deliver-other_held : (site : ℕ) (log held : List Operation) (x : Operation) (r : Refusal) → claims_site site log x ≡ false
    → look_for x log ≡ Ok false → look_for x held ≡ Err r → deliver site log held x ≡ unchanged (Err r) log held
deliver-other_held site log held x r c e f = found site log held x (Err r) c (not_in_log log held x e ∙ f)

-- what isn't ready is offered to what is held
abbrev of_arrival : Result Arrival Refusal → List Operation → List Operation → Operation → Delivered
of_arrival (Err r) log held x = unchanged (Err r) log held
of_arrival (Ok arrivals.Kept) log held x = record { outcome = Ok Kept; log = log; held = held ++ x ∷ [] }
of_arrival (Ok arrivals.Again) log held x = unchanged (Ok Again) log held

waits : (site : ℕ) (log held : List Operation) (x : Operation) → claims_site site log x ≡ false → look_for x log ≡ Ok false
    → is_ready log x ≡ false → deliver site log held x ≡ of_arrival (offered x held) log held x
waits site log held x c e w = found site log held x (look_for x held) c (not_in_log log held x e) ∙ go (look_for x held)
  where
    full : (t : Bool) → cond t (record { outcome = Ok Kept; log = log; held = held ++ x ∷ [] }) (unchanged (Err HoldFull) log held)
        ≡ of_arrival (cond t (Ok arrivals.Kept) (Err HoldFull)) log held x
    full true = refl
    full false = refl

    go : (r : Result Bool Refusal) → deliver_found r log held x ≡ of_arrival (arrival_of r (length held)) log held x
    go (Err r) = refl
    go (Ok true) = refl
    go (Ok false) = cond-false _ _ _ w ∙ full (nat_lt (length held) 1024)

pub deliver-kept : (site : ℕ) (log held : List Operation) (x : Operation) → claims_site site log x ≡ false → look_for x log ≡ Ok false
    → is_ready log x ≡ false → offered x held ≡ Ok arrivals.Kept
    → deliver site log held x ≡ record { outcome = Ok Kept; log = log; held = held ++ x ∷ [] }
deliver-kept site log held x c e w f = waits site log held x c e w ∙ ap (λ r. of_arrival r log held x) f

pub deliver-kept_again : (site : ℕ) (log held : List Operation) (x : Operation) → claims_site site log x ≡ false → look_for x log ≡ Ok false
    → is_ready log x ≡ false → offered x held ≡ Ok arrivals.Again
    → deliver site log held x ≡ unchanged (Ok Again) log held
deliver-kept_again site log held x c e w f = waits site log held x c e w ∙ ap (λ r. of_arrival r log held x) f

pub deliver-not_kept : (site : ℕ) (log held : List Operation) (x : Operation) (r : Refusal) → claims_site site log x ≡ false
    → look_for x log ≡ Ok false → is_ready log x ≡ false → offered x held ≡ Err r
    → deliver site log held x ≡ unchanged (Err r) log held
deliver-not_kept site log held x r c e w f = waits site log held x c e w ∙ ap (λ o. of_arrival o log held x) f

-- what is ready
goes : (site : ℕ) (log held : List Operation) (x : Operation) (r : Option Refusal) → claims_site site log x ≡ false
    → look_for x log ≡ Ok false → look_for x held ≡ Ok false → is_ready log x ≡ true → refusal_of log x ≡ r
    → deliver site log held x ≡ integrate r log held x
goes site log held x r c e f w a =
    found site log held x (Ok false) c (not_in_log log held x e ∙ f) ∙ cond-true _ _ _ w ∙ ap (λ o. integrate o log held x) a

pub deliver-refused : (site : ℕ) (log held : List Operation) (x : Operation) (r : Refusal) → claims_site site log x ≡ false
    → look_for x log ≡ Ok false → look_for x held ≡ Ok false → is_ready log x ≡ true
    → refusal_of log x ≡ Some r → deliver site log held x ≡ unchanged (Err r) log held
deliver-refused site log held x r c e f w a = goes site log held x (Some r) c e f w a

pub deliver-took : (site : ℕ) (log held : List Operation) (x : Operation) → claims_site site log x ≡ false → look_for x log ≡ Ok false
    → look_for x held ≡ Ok false → is_ready log x ≡ true
    → refusal_of log x ≡ None → deliver site log held x ≡ settled
    (settle (record { log = log ++ x ∷ []; held = held; taken = 1; dropped = 0 }))
deliver-took site log held x c e f w a = goes site log held x None c e f w a

-- what is kept finds fewer than 1,024
pub kept-few : (held : List Operation) (x : Operation) → offered x held ≡ Ok arrivals.Kept → length held < 1024
kept-few held x e = go (look_for x held) e
  where
    few : (t : Bool) → nat_lt (length held) 1024 ≡ t → cond t (Ok arrivals.Kept) (Err HoldFull) ≡ Ok arrivals.Kept → length held < 1024
    few true h e = grind (arith, nat_tests)
    few false h e = cc

    go : (r : Result Bool Refusal) → arrival_of r (length held) ≡ Ok arrivals.Kept → length held < 1024
    go (Err r) e = cc
    go (Ok true) e = cc
    go (Ok false) e = few (nat_lt (length held) 1024) refl e
