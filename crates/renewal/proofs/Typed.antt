-- What a site types into no text.
use Rattle.std.proofs.Common.{◌≡◌, ℕ, ◌+◌, ◌<◌, ◌≤◌, suc, Option, Some, None, List, [], ◌∷◌, ◌++◌, length, map, drop, get_or}
use Rattle.std.proofs.Common.{refl, ap, ap₂, ◌∙◌, sym, subst, arith, append_assoc, append-nil}
use Rattle.std.specs.List.{AllByRecursion}
use Rattle.std.proofs.lemmas.List.{drop_all}
use Rattle.opid.specs.declared.stamp.Stamp.{Stamp}
use Rattle.opid.specs.declared.kind.OpKind.TheVariants.{Ins}
use Rattle.opid.specs.Clocks.{raised}
use Rattle.opid.specs.Operations.{Operation, stamp_at, stamp_of, insertions}
use Rattle.opid.specs.Delivery.{clock_of}
use Rattle.opid.specs.Reading.{reading}
use Rattle.opid.specs.Lawful.{IsLawful, MayFollow}
use Rattle.opid.specs.Asked.{insertion_run}
use Rattle.opid.proofs.Counts.{clock_of-push}
use Rattle.opid.proofs.Gathered.{rest_at}
use Rattle.opid.proofs.Logs.{goes_on_after}
use Rattle.opid.proofs.Runs.{insertions_go_on}
use Rattle.opid.proofs.Placing.{asked_insertions-placed}
use Rattle.renewal.specs.Typing.{typing_of}

-- ---- one character more

-- the site's next operation, which puts the character in
abbrev pub next_typed : List Operation → ℕ → Option Stamp → ℕ → Operation
next_typed log site parent c = record { site = site; clock = raised (clock_of log) site; kind = Ins parent c }

-- what was typed, with the run of the rest
abbrev pub with_rest : ℕ → List ℕ → List Operation → Option Stamp → ℕ → List Operation
with_rest site cs log parent n = log ++ insertion_run site (clock_of log) parent (drop n cs)

one_of_rest : (log : List Operation) (site : ℕ) (parent : Option Stamp) (cs : List ℕ) (n c : ℕ) → n < length cs → c ≡ get_or cs n c
    → with_rest site cs log parent n
    ≡ log ++ next_typed log site parent c ∷ insertion_run site (raised (clock_of log) site)
    (Some (stamp_at site (raised (clock_of log) site))) (drop (n + 1) cs)
one_of_rest log site parent cs n c h at =
    ap (λ ds. log ++ insertion_run site (clock_of log) parent ds) (rest_at cs n c h at)

typed_next : (log : List Operation) (site : ℕ) (parent : Option Stamp) (cs : List ℕ) (n c : ℕ) → site < 32 → n < length cs
    → c ≡ get_or cs n c
    → with_rest site cs (log ++ next_typed log site parent c ∷ []) (Some (stamp_of (next_typed log site parent c))) (n + 1)
    ≡ with_rest site cs log parent n
typed_next log site parent cs n c b h at =
    let next : Operation = next_typed log site parent c in
    ap (λ (w : List ℕ). (log ++ next ∷ []) ++ insertion_run site w (Some (stamp_of next)) (drop (n + 1) cs)) (clock_of-push log next b)
    ∙ append_assoc log (next ∷ []) (insertion_run site (raised (clock_of log) site) (Some (stamp_of next)) (drop (n + 1) cs))
    ∙ sym (one_of_rest log site parent cs n c h at)

pub typed_more : (log log' : List Operation) (site : ℕ) (parent parent' : Option Stamp) (cs : List ℕ) (n c : ℕ) (op : Operation)
    (whole : List Operation)
    → site < 32 → n < length cs → c ≡ get_or cs n c → op ≡ next_typed log site parent c → parent' ≡ Some (stamp_of op)
    → log' ≡ log ++ op ∷ [] → with_rest site cs log parent n ≡ whole → with_rest site cs log' parent' (n + 1) ≡ whole
typed_more log log' site parent parent' cs n c op whole b h at is names grown so_far =
    ap₂ (λ (l : List Operation) (p : Option Stamp). with_rest site cs l p (n + 1)) (grown ∙ ap (λ (x : Operation). log ++ x ∷ []) is)
    (names ∙ ap (λ (x : Operation). Some (stamp_of x)) is)
    ∙ typed_next log site parent cs n c b h at
    ∙ so_far

pub typed_all : (log : List Operation) (site : ℕ) (parent : Option Stamp) (cs : List ℕ) (n : ℕ) (whole : List Operation)
    → length cs ≤ n → with_rest site cs log parent n ≡ whole → log ≡ whole
typed_all log site parent cs n whole h so_far =
    sym (append-nil log) ∙ ap (λ (ds : List ℕ). log ++ insertion_run site (clock_of log) parent ds) (sym (drop_all n cs h)) ∙ so_far

-- ---- lawful

pub typing-lawful : (site : ℕ) (cs : List ℕ) → site < 32 → IsLawful (typing_of site cs)
typing-lawful site cs b = insertions_go_on [] site None cs tt b tt

-- the next operation may follow
pub typed_follows : (log : List Operation) (site : ℕ) (parent : Option Stamp) (cs : List ℕ) (n c : ℕ) (op : Operation)
    → site < 32 → n < length cs → c ≡ get_or cs n c → op ≡ next_typed log site parent c
    → with_rest site cs log parent n ≡ typing_of site cs → MayFollow log op
typed_follows log site parent cs n c op b h at is so_far =
    subst (MayFollow log) (sym is)
    (goes_on_after [] log (next_typed log site parent c ∷ insertion_run site (raised (clock_of log) site)
    (Some (stamp_at site (raised (clock_of log) site))) (drop (n + 1) cs))
    (subst IsLawful (sym so_far ∙ one_of_rest log site parent cs n c h at) (typing-lawful site cs b))).0

-- ---- the text

run-characters : (site : ℕ) (clock : List ℕ) (parent : Option Stamp) (cs : List ℕ)
    → map (λ x. x.ch) (insertions (insertion_run site clock parent cs)) ≡ cs
run-characters site clock parent [] = refl
run-characters site clock parent (c ∷ cs) =
    ap (λ r. c ∷ r) (run-characters site (raised clock site) (Some (stamp_at site (raised clock site))) cs)

pub typing-reading : (site : ℕ) (cs : List ℕ) → site < 32 → reading (typing_of site cs) ≡ cs
typing-reading site cs b =
    ap (map (λ x. x.ch)) (asked_insertions-placed [] site 0 0 cs tt b (omega arith) ∙ append-nil (insertions (typing_of site cs)))
    ∙ run-characters site (clock_of []) None cs

-- ---- how many, and whose

run-length : (site : ℕ) (clock : List ℕ) (parent : Option Stamp) (cs : List ℕ) → length (insertion_run site clock parent cs) ≡ length cs
run-length site clock parent [] = refl
run-length site clock parent (c ∷ cs) =
    ap suc (run-length site (raised clock site) (Some (stamp_at site (raised clock site))) cs)

pub typing-length : (site : ℕ) (cs : List ℕ) → length (typing_of site cs) ≡ length cs
typing-length site cs = run-length site (clock_of []) None cs

run-site : (site : ℕ) (clock : List ℕ) (parent : Option Stamp) (cs : List ℕ)
    → AllByRecursion (λ x. x.site ≡ site) (insertion_run site clock parent cs)
run-site site clock parent [] = tt
run-site site clock parent (c ∷ cs) = (refl, run-site site (raised clock site) (Some (stamp_at site (raised clock site))) cs)

pub typing-site : (site : ℕ) (cs : List ℕ) → AllByRecursion (λ x. x.site ≡ site) (typing_of site cs)
typing-site site cs = run-site site (clock_of []) None cs
