-- The values that the subcommand's rows have are those that were read.
use Rattle.std.proofs.Common.{◌∙◌, ℕ, List, [], Option, Some, sym, ap, subst, codes, refl, unwrap_or}
use Rattle.clap.specs.Words.{found_of, rows_of}
use Rattle.clap.proofs.WalkLemmas.{first_value-rows, raw_values-rows}
use Rattle.command_line.specs.CommandLine.{ReadsTo}
use Rattle.command_line.proofs.Planning.{serve_no_port, serve_no_site, serve_no_conns, serve_no_every, serve_no_names}
use Rattle.command_line.proofs.serve_words.serve_plan.Goals as goal

pub returns-clause-some : goal.returns-clause-some
returns-clause-some c =
    let port = c.get_str.ensures ∙ first_value-rows (found_of c.args.used.now) (codes "port") in
    let site = c.get_str-2.ensures ∙ first_value-rows (found_of c.args.used.now) (codes "site") in
    let conns = c.get_str-3.ensures ∙ first_value-rows (found_of c.args.used.now) (codes "conns") in
    let every = c.get_str-4.ensures ∙ first_value-rows (found_of c.args.used.now) (codes "every") in
    let origins = c.get_strs-2.ensures ∙ raw_values-rows (found_of c.args.used.now) (codes "origin") in
    let names = c.in-Some-get_strs.ensures ∙ raw_values-rows (found_of c.args.used.now) (codes "name") in
    let keep = c.get_str-5.ensures ∙ first_value-rows (found_of c.args.used.now) (codes "keep") in (
      refl,
      c.in-Some.ensures.some.0,
      subst (λ (t : Option (List ℕ)). ReadsTo 65535 t (Some c.in-Some.port)) port c.in-Some.ensures.some.1,
      subst (λ (t : Option (List ℕ)). ReadsTo 31 t c.in-Some-asked_site_in.site) site c.in-Some-asked_site_in.ensures.some,
      c.in-Some-asked_count_in.ensures.some.0,
      subst (λ (t : Option (List ℕ)). ReadsTo 65536 t c.in-Some-asked_count_in.conns) conns c.in-Some-asked_count_in.ensures.some.1,
      c.in_ok-keep.ensures ∙ keep,
      c.in-Some-asked_count_in-2.ensures.some.0,
      subst (λ (t : Option (List ℕ)). ReadsTo 3600 t c.in-Some-asked_count_in-2.every) every c.in-Some-asked_count_in-2.ensures.some.1,
      c.flag.ensures,
      c.in_ok-origins.ensures ∙ ap (λ (o : Option (List (List ℕ))). unwrap_or o []) origins,
      c.flag-2.ensures,
      sym names ∙ ap Some (sym c.in_ok-names.ensures),
    )

pub returns-in_default-get_strs-clause-none : goal.returns-in_default-get_strs-clause-none
returns-in_default-get_strs-clause-none c =
    serve_no_names (rows_of (found_of c.args.used.now)) (sym
    (c.in_default-get_strs.ensures ∙ raw_values-rows (found_of c.args.used.now) (codes "name")))

pub returns-in_default-asked_count_in-2-clause-none : goal.returns-in_default-asked_count_in-2-clause-none
returns-in_default-asked_count_in-2-clause-none c =
    let at = c.get_str-4.ensures ∙ first_value-rows (found_of c.args.used.now) (codes "every") in
    serve_no_every (rows_of (found_of c.args.used.now))
    (λ every some h. c.in_default-asked_count_in-2.ensures.none every some
    (subst (λ (t : Option (List ℕ)). ReadsTo 3600 t every) (sym at) h))

pub returns-in_default-asked_count_in-clause-none : goal.returns-in_default-asked_count_in-clause-none
returns-in_default-asked_count_in-clause-none c =
    let at = c.get_str-3.ensures ∙ first_value-rows (found_of c.args.used.now) (codes "conns") in
    serve_no_conns (rows_of (found_of c.args.used.now))
    (λ conns some h. c.in_default-asked_count_in.ensures.none conns some
    (subst (λ (t : Option (List ℕ)). ReadsTo 65536 t conns) (sym at) h))

pub returns-in_default-asked_site_in-clause-none : goal.returns-in_default-asked_site_in-clause-none
returns-in_default-asked_site_in-clause-none c =
    let at = c.get_str-2.ensures ∙ first_value-rows (found_of c.args.used.now) (codes "site") in
    serve_no_site (rows_of (found_of c.args.used.now))
    (λ site h. c.in_default-asked_site_in.ensures.none site (subst (λ (t : Option (List ℕ)). ReadsTo 31 t site) (sym at) h))

pub returns-in_default-clause-none : goal.returns-in_default-clause-none
returns-in_default-clause-none c =
    let at = c.get_str.ensures ∙ first_value-rows (found_of c.args.used.now) (codes "port") in
    serve_no_port (rows_of (found_of c.args.used.now))
    (λ port some h. c.in_default.ensures.none port some (subst (λ (t : Option (List ℕ)). ReadsTo 65535 t (Some port)) (sym at) h))
