-- The values that the subcommand's rows have are those that were read.
use Rattle.std.proofs.Common.{◌∙◌, ℕ, List, Option, Some, sym, subst, codes}
use Rattle.clap.specs.Words.{found_of, rows_of}
use Rattle.clap.proofs.WalkLemmas.{first_value-rows}
use Rattle.command_line.specs.CommandLine.{ReadsTo}
use Rattle.command_line.proofs.Planning.{lines_nothing, text_nothing, world_nothing}
use Rattle.command_line.proofs.words.plan_named.Goals as goal

pub returns-in-Some-clause-some : goal.returns-in-Some-clause-some
returns-in-Some-clause-some c =
    let at = c.get_str.ensures ∙ first_value-rows (found_of c.args.used.now) (codes "site") in (
      c.in-lines.is,
      subst (λ (t : Option (List ℕ)). ReadsTo 31 t (Some c.in-Some.site)) at c.in-Some.ensures.some,
      c.flag.ensures,
      c.flag-in-Some.ensures,
    )

pub returns-in-None-clause-none : goal.returns-in-None-clause-none
returns-in-None-clause-none c =
    let at = c.get_str.ensures ∙ first_value-rows (found_of c.args.used.now) (codes "site") in
    lines_nothing c.args.name.now (rows_of (found_of c.args.used.now)) c.in-lines.is
    (λ site h. c.in-None.ensures.none site (subst (λ (t : Option (List ℕ)). ReadsTo 31 t (Some site)) (sym at) h))

pub returns-in-Some-version_in-clause-some : goal.returns-in-Some-version_in-clause-some
returns-in-Some-version_in-clause-some c =
    let at = c.get_str-in-text.ensures ∙ first_value-rows (found_of c.args.used.now) (codes "number") in
    (c.in-text.is, subst (λ (t : Option (List ℕ)). ReadsTo 4294967295 t c.in-Some-version_in.version) at c.in-Some-version_in.ensures.some)

pub returns-in-None-version_in-clause-none : goal.returns-in-None-version_in-clause-none
returns-in-None-version_in-clause-none c =
    let at = c.get_str-in-text.ensures ∙ first_value-rows (found_of c.args.used.now) (codes "number") in
    text_nothing c.args.name.now (rows_of (found_of c.args.used.now)) c.in-text.is
    (λ version h. c.in-None-version_in.ensures.none version (subst (λ (t : Option (List ℕ)). ReadsTo 4294967295 t version) (sym at) h))

pub returns-in-Some-sites_in-clause-some : goal.returns-in-Some-sites_in-clause-some
returns-in-Some-sites_in-clause-some c =
    let at = c.get_str-in-world.ensures ∙ first_value-rows (found_of c.args.used.now) (codes "sites") in
    let read = c.in-Some-sites_in.ensures.some in
    (c.in-world.is, read.0, subst (λ (t : Option (List ℕ)). ReadsTo 32 t (Some c.in-Some-sites_in.sites)) at read.1)

pub returns-in-None-sites_in-clause-none : goal.returns-in-None-sites_in-clause-none
returns-in-None-sites_in-clause-none c =
    let at = c.get_str-in-world.ensures ∙ first_value-rows (found_of c.args.used.now) (codes "sites") in
    world_nothing c.args.name.now (rows_of (found_of c.args.used.now)) c.in-world.is
    (λ sites some h. c.in-None-sites_in.ensures.none sites some (subst (λ (t : Option (List ℕ)). ReadsTo 32 t (Some sites)) (sym at) h))
