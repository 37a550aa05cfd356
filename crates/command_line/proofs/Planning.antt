-- Which plan the rows of a subcommand ask for, and when they ask for none.
use Rattle.std.proofs.Common.{◌≡◌, ℕ, ◌≤◌, List, Option, None, Some, refl, sym, ap}
use Rattle.std.proofs.Common.{◌∙◌, arith, codes, slice_index, IfSome}
use Rattle.clap.specs.Words.{Row, all_of, first_of}
use Rattle.plans.specs.declared.plan.Plan.TheVariants.{Lines, Text as TextOf, Serve, World}
use Rattle.command_line.specs.CommandLine.{AsksNothing, ReadsTo}

-- texts whose first bytes differ are two
two_names : (name a b : List ℕ) (x y : ℕ) → slice_index a 0 ≡ x → slice_index b 0 ≡ y → (x ≡ y → ⊥) → name ≡ a → name ≡ b → ⊥
two_names name a b x y first second apart is named =
    apart (sym first ∙ ap (λ (t : List ℕ). slice_index t 0) (sym is ∙ named) ∙ second)

-- `lines` with no site
pub lines_nothing : (name : List ℕ) (rows : List Row) → name ≡ codes "lines"
    → ((site : ℕ) → ReadsTo 31 (first_of (codes "site") rows) (Some site) → ⊥) → AsksNothing (Some (name, rows))
lines_nothing name rows is none (Lines site resume snapshot) (named, read, r, s) = none site read
lines_nothing name rows is none (TextOf version) (named, read) =
    absurd (two_names name (codes "lines") (codes "text") 108 116 refl refl (λ e. omega (arith, e)) is named)
lines_nothing name rows is none (Serve port site conns keep every renew origins report names) h =
    absurd (two_names name (codes "lines") (codes "serve") 108 115 refl refl (λ e. omega (arith, e)) is h.0)
lines_nothing name rows is none (World sites) (named, some, read) =
    absurd (two_names name (codes "lines") (codes "world") 108 119 refl refl (λ e. omega (arith, e)) is named)

-- `text` with a version that isn't read
pub text_nothing : (name : List ℕ) (rows : List Row) → name ≡ codes "text"
    → ((version : Option ℕ) → ReadsTo 4294967295 (first_of (codes "number") rows) version → ⊥) → AsksNothing (Some (name, rows))
text_nothing name rows is none (TextOf version) (named, read) = none version read
text_nothing name rows is none (Lines site resume snapshot) (named, read, r, s) =
    absurd (two_names name (codes "text") (codes "lines") 116 108 refl refl (λ e. omega (arith, e)) is named)
text_nothing name rows is none (Serve port site conns keep every renew origins report names) h =
    absurd (two_names name (codes "text") (codes "serve") 116 115 refl refl (λ e. omega (arith, e)) is h.0)
text_nothing name rows is none (World sites) (named, some, read) =
    absurd (two_names name (codes "text") (codes "world") 116 119 refl refl (λ e. omega (arith, e)) is named)

-- `world` with a count of sites that isn't read
pub world_nothing : (name : List ℕ) (rows : List Row) → name ≡ codes "world"
    → ((sites : ℕ) → 1 ≤ sites → ReadsTo 32 (first_of (codes "sites") rows) (Some sites) → ⊥) → AsksNothing (Some (name, rows))
world_nothing name rows is none (World sites) (named, some, read) = none sites some read
world_nothing name rows is none (Lines site resume snapshot) (named, read, r, s) =
    absurd (two_names name (codes "world") (codes "lines") 119 108 refl refl (λ e. omega (arith, e)) is named)
world_nothing name rows is none (TextOf version) (named, read) =
    absurd (two_names name (codes "world") (codes "text") 119 116 refl refl (λ e. omega (arith, e)) is named)
world_nothing name rows is none (Serve port site conns keep every renew origins report names) h =
    absurd (two_names name (codes "world") (codes "serve") 119 115 refl refl (λ e. omega (arith, e)) is h.0)

-- `serve` with no port
pub serve_no_port : (rows : List Row) → ((port : ℕ) → 1 ≤ port → ReadsTo 65535 (first_of (codes "port") rows) (Some port) → ⊥)
    → AsksNothing (Some (codes "serve", rows))
serve_no_port rows none (Serve port site conns keep every renew origins report names)
    (_, some, read, _, _, _, _, _, _, _, _, _, _) = none port some read
serve_no_port rows none (Lines site resume snapshot) h =
    absurd (two_names (codes "serve") (codes "serve") (codes "lines") 115 108 refl refl (λ e. omega (arith, e)) refl h.0)
serve_no_port rows none (World sites) h =
    absurd (two_names (codes "serve") (codes "serve") (codes "world") 115 119 refl refl (λ e. omega (arith, e)) refl h.0)
serve_no_port rows none (TextOf version) h =
    absurd (two_names (codes "serve") (codes "serve") (codes "text") 115 116 refl refl (λ e. omega (arith, e)) refl h.0)

-- with no site
pub serve_no_site : (rows : List Row) → ((site : Option ℕ) → ReadsTo 31 (first_of (codes "site") rows) site → ⊥)
    → AsksNothing (Some (codes "serve", rows))
serve_no_site rows none (Serve port site conns keep every renew origins report names)
    (_, _, _, at, _, _, _, _, _, _, _, _, _) = none site at
serve_no_site rows none (Lines site resume snapshot) h =
    absurd (two_names (codes "serve") (codes "serve") (codes "lines") 115 108 refl refl (λ e. omega (arith, e)) refl h.0)
serve_no_site rows none (World sites) h =
    absurd (two_names (codes "serve") (codes "serve") (codes "world") 115 119 refl refl (λ e. omega (arith, e)) refl h.0)
serve_no_site rows none (TextOf version) h =
    absurd (two_names (codes "serve") (codes "serve") (codes "text") 115 116 refl refl (λ e. omega (arith, e)) refl h.0)

-- with no number of connections
pub serve_no_conns : (rows : List Row)
    → ((conns : Option ℕ) → IfSome conns (λ n. 1 ≤ n) → ReadsTo 65536 (first_of (codes "conns") rows) conns → ⊥) → AsksNothing (Some (codes "serve", rows))
serve_no_conns rows none (Serve port site conns keep every renew origins report names)
    (_, _, _, _, one, many, _, _, _, _, _, _, _) = none conns one many
serve_no_conns rows none (Lines site resume snapshot) h =
    absurd (two_names (codes "serve") (codes "serve") (codes "lines") 115 108 refl refl (λ e. omega (arith, e)) refl h.0)
serve_no_conns rows none (World sites) h =
    absurd (two_names (codes "serve") (codes "serve") (codes "world") 115 119 refl refl (λ e. omega (arith, e)) refl h.0)
serve_no_conns rows none (TextOf version) h =
    absurd (two_names (codes "serve") (codes "serve") (codes "text") 115 116 refl refl (λ e. omega (arith, e)) refl h.0)

-- with no number of seconds
pub serve_no_every : (rows : List Row) → ((every : Option ℕ) → IfSome every (λ n. 1 ≤ n) → ReadsTo 3600 (first_of (codes "every") rows) every → ⊥)
    → AsksNothing (Some (codes "serve", rows))
serve_no_every rows none (Serve port site conns keep every renew origins report names)
    (_, _, _, _, _, _, _, turn, wait, _, _, _, _) = none every turn wait
serve_no_every rows none (Lines site resume snapshot) h =
    absurd (two_names (codes "serve") (codes "serve") (codes "lines") 115 108 refl refl (λ e. omega (arith, e)) refl h.0)
serve_no_every rows none (World sites) h =
    absurd (two_names (codes "serve") (codes "serve") (codes "world") 115 119 refl refl (λ e. omega (arith, e)) refl h.0)
serve_no_every rows none (TextOf version) h =
    absurd (two_names (codes "serve") (codes "serve") (codes "text") 115 116 refl refl (λ e. omega (arith, e)) refl h.0)

-- with no names
pub serve_no_names : (rows : List Row) → all_of (codes "name") rows ≡ None → AsksNothing (Some (codes "serve", rows))
serve_no_names rows none (Serve port site conns keep every renew origins report names)
    (_, _, _, _, _, _, _, _, _, _, _, _, all) = absurd (cc (sym none ∙ all))
serve_no_names rows none (Lines site resume snapshot) h =
    absurd (two_names (codes "serve") (codes "serve") (codes "lines") 115 108 refl refl (λ e. omega (arith, e)) refl h.0)
serve_no_names rows none (World sites) h =
    absurd (two_names (codes "serve") (codes "serve") (codes "world") 115 119 refl refl (λ e. omega (arith, e)) refl h.0)
serve_no_names rows none (TextOf version) h =
    absurd (two_names (codes "serve") (codes "serve") (codes "text") 115 116 refl refl (λ e. omega (arith, e)) refl h.0)
