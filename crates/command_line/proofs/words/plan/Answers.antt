-- What `clap` says of the command line, said of `rgatext`.
use Rattle.std.proofs.Common.{◌≡◌, ◌∙◌, List, [], Option, true, false, refl, sym, ap, subst, inl, inr, map, string_bytes}
use Rattle.std.specs.Prelude.{◌⊎◌}
use Rattle.std.proofs.lemmas.Result.{IfErr-weaker, IfOk-weaker}
use Rattle.clap.specs.Words.{App, HasKind, IsAmong, Kinds, Row, Text, fault_of, is_simple, is_simple_and_free, kind_of, subcommand_of}
use Rattle.clap.specs.Words.{subcommand_rows_of}
use Rattle.clap.specs.declared.error.ErrorKind.{ErrorKind}
use Rattle.clap.specs.declared.error.ErrorKind.TheVariants as kind
use Rattle.plans.specs.declared.fault.PlanFault.{PlanFault}
use Rattle.plans.specs.declared.fault.PlanFault.TheVariants.{Help, Words, Memory}
use Rattle.command_line.specs.CommandLine.{rgatext, lines_command, text_command, world_command, serve_command, AsksForPlan}
use Rattle.command_line.specs.CommandLine.{Refuses, ToldBy, shows_text, blames_words}
use Rattle.command_line.proofs.words.plan.Goals as goal

of_error : (kinds : Kinds) (met : Option (Text × List Row)) (k : ErrorKind) (fault : PlanFault) → (k ≡ kind.OutOfMemory) ⊎ IsAmong k kinds
    → ToldBy k fault → Refuses kinds met fault
of_error kinds met k Memory among told = tt
of_error kinds met k (Help t) (inr among) told = (k, among, told)
of_error kinds met k (Words t) (inr among) told = inl (k, among, told)
of_error kinds met k (Help t) (inl e) told = let apart : false ≡ true = ap shows_text (sym e) ∙ told in cc
of_error kinds met k (Words t) (inl e) told = let apart : false ≡ true = ap blames_words (sym e) ∙ told in cc

of_none : (kinds : Kinds) (met met' : Option (Text × List Row)) (fault : PlanFault) → kinds ≡ [] → met ≡ met' → Refuses [] met fault
    → Refuses kinds met' fault
of_none kinds met met' fault e f h =
    let P : Kinds → Type 0 = λ k. Refuses k met fault in
    let Q : Option (Text × List Row) → Type 0 = λ m. Refuses kinds m fault in
    subst Q f (subst P (sym e) h)

pub returns-in-Err-clause-refused : goal.returns-in-Err-clause-refused
unfolding rgatext lines_command text_command world_command serve_command
returns-in-Err-clause-refused c =
    let words = map string_bytes c.args.words.now in
    let P : App → Type 0 = λ a. is_simple_and_free a ≡ true → HasKind (fault_of a words) c.in-Err.error in
    of_error (fault_of rgatext words) (subcommand_of rgatext words) (kind_of c.in-Err.error) c.told.result
    (subst P c.in_ok-command.ensures c.in-Err.ensures.kinds refl) c.told.ensures

pub returns-in-Ok-clause-planned : goal.returns-in-Ok-clause-planned
unfolding rgatext lines_command text_command world_command serve_command
returns-in-Ok-clause-planned c =
    let words = map string_bytes c.args.words.now in
    let Q : App → Type 0 = λ a. is_simple a ≡ true → subcommand_rows_of c.in-Ok.matches ≡ subcommand_of a words in
    let met : subcommand_rows_of c.in-Ok.matches ≡ subcommand_of rgatext words =
    subst Q c.in_ok-command.ensures (λ h. (c.in-Ok.ensures.matches h).1) refl in
    IfOk-weaker c.read_plan.result _ _ (λ plan h. subst (λ (m : Option (Text × List Row)). AsksForPlan m plan) met h)
    c.read_plan.ensures.planned

pub returns-in-Ok-clause-refused : goal.returns-in-Ok-clause-refused
unfolding rgatext lines_command text_command world_command serve_command
returns-in-Ok-clause-refused c =
    let words = map string_bytes c.args.words.now in
    let P : App → Type 0 = λ a. is_simple_and_free a ≡ true → fault_of a words ≡ [] in
    let Q : App → Type 0 = λ a. is_simple a ≡ true → subcommand_rows_of c.in-Ok.matches ≡ subcommand_of a words in
    let none : fault_of rgatext words ≡ [] = subst P c.in_ok-command.ensures c.in-Ok.ensures.kinds refl in
    let met : subcommand_rows_of c.in-Ok.matches ≡ subcommand_of rgatext words =
    subst Q c.in_ok-command.ensures (λ h. (c.in-Ok.ensures.matches h).1) refl in
    IfErr-weaker c.read_plan.result _ _ (λ fault h. of_none _ _ _ fault none met h) c.read_plan.ensures.refused
