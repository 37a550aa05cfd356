-- The command line, as `clap` reads it: `rgatext lines [--site N] [--resume] [--snapshot]`, `rgatext text [--version V]`,
-- `rgatext world [--sites N]` and `rgatext serve --port P [--site N] [--conns C] [--keep FOLDER] [--every SECONDS] [--renew]
-- [--origin ORIGIN]... [--report] NAME...`.
use Rattle.std.specs.Prelude.{◌≡◌, ◌≤◌, ◌⊎◌, ℕ, Bool, false, List, [], ◌∷◌, Option, Some, None, bytes_eq, codes, true, pos, map, option_map}
use Rattle.std.specs.Prelude.{string_bytes, IfSome}
use Rattle.std.specs.Option.{unwrap_or}
use Rattle.std.specs.Str.Parse.{IsNumeral, digits_value, without_leading_plus}
use Rattle.clap.specs.Words.{App, IsAmong, Kinds, Row, Rule, Text, all_of, first_of, new_app, new_rule, with_rule, with_subcommand}
use Rattle.clap.specs.declared.builder.action.ArgAction.TheVariants.{Append, SetTrue}
use Rattle.clap.specs.declared.builder.value_parser.ValueParser.TheVariants as vp
use Rattle.clap.specs.declared.error.ErrorKind.{ErrorKind}
use Rattle.clap.specs.declared.error.ErrorKind.TheVariants as kind
use Rattle.plans.specs.declared.plan.Plan.{Plan}
use Rattle.plans.specs.declared.fault.PlanFault.{PlanFault}
use Rattle.plans.specs.declared.fault.PlanFault.TheVariants.{Help, Words, Memory}
use Rattle.plans.specs.declared.plan.Plan.TheVariants.{Lines, Text as TextOf, Serve, World}

-- `--NAME` with a value
abbrev pub valued_option : Text → Rule
valued_option name = record (new_rule name) { long = Some name; value_names = 1 }

-- `--site N`, a whole number from 0 to 31
abbrev pub site_option : Rule
site_option = record (valued_option (codes "site")) { parser = Some (vp.Signed (pos 0) (pos 31)) }

-- the same, or 0
abbrev pub site_or_zero_option : Rule
site_or_zero_option = record site_option { defaults = codes "0" ∷ [] }

-- `--version V`, a whole number of 32 bits; to `clap` it has another name, since an option of that name is its own
abbrev pub version_option : Rule
version_option = record (valued_option (codes "number")) {
  long = Some (codes "version");
  parser = Some (vp.Signed (pos 0) (pos 4294967295));
}

-- `--sites N`, a whole number from 1 to 32, or 2
abbrev pub sites_option : Rule
sites_option = record (valued_option (codes "sites")) { parser = Some (vp.Signed (pos 1) (pos 32)); defaults = codes "2" ∷ [] }

-- `--port P`, a whole number from 1 to 65535, which has to be there
abbrev pub port_option : Rule
port_option = record (valued_option (codes "port")) { required = true; parser = Some (vp.Signed (pos 1) (pos 65535)) }

-- `--conns C`, a whole number from 1 to 65,536
abbrev pub conns_option : Rule
conns_option = record (valued_option (codes "conns")) { parser = Some (vp.Signed (pos 1) (pos 65536)) }

-- `--keep FOLDER`
abbrev pub keep_option : Rule
keep_option = valued_option (codes "keep")

-- `--every SECONDS`, a whole number from 1 to 3600
abbrev pub every_option : Rule
every_option = record (valued_option (codes "every")) { parser = Some (vp.Signed (pos 1) (pos 3600)) }

-- `--origin ORIGIN`, again and again
abbrev pub origin_option : Rule
origin_option = record (valued_option (codes "origin")) { action = Some Append }

-- the names, of which there is at least one
abbrev pub name_words : Rule
name_words = record (new_rule (codes "name")) { action = Some Append; required = true; value_names = 1 }

-- a word that is there or isn't
abbrev pub flag_option : Text → Rule
flag_option name = record (new_rule name) { long = Some name; action = Some SetTrue }

-- the subcommand `lines`
unfoldable pub lines_command : App
lines_command =
    with_rule (with_rule (with_rule (new_app (codes "lines")) site_or_zero_option) (flag_option (codes "resume"))) (flag_option (codes "snapshot"))

-- the subcommand `text`
unfoldable pub text_command : App
text_command = with_rule (new_app (codes "text")) version_option

-- the subcommand `world`
unfoldable pub world_command : App
world_command = with_rule (new_app (codes "world")) sites_option

-- the subcommand `serve`
unfoldable pub serve_command : App
serve_command =
    with_rule (with_rule (with_rule (with_rule (with_rule (with_rule (with_rule (with_rule (with_rule (new_app (codes "serve")) port_option)
    site_option) conns_option) keep_option) every_option) (flag_option (codes "renew"))) origin_option) (flag_option (codes "report"))) name_words

-- the program, which asks for a subcommand, and tells its version
unfoldable pub rgatext : App
rgatext =
    let a = with_subcommand (with_subcommand (with_subcommand (with_subcommand (new_app (codes "rgatext")) lines_command.top)
    text_command.top) world_command.top) serve_command.top in
    record a { top = record a.top { subcommand_required = true; has_version = true } }

-- the number that a text of decimal digits is
abbrev pub number_in : Text → ℕ
number_in t = digits_value 10 (without_leading_plus t)

-- an option's value is this number, at most the greatest; or there is none
abbrev pub ReadsTo : ℕ → Option Text → Option ℕ → Type 0
ReadsTo most (Some t) (Some n) = IsNumeral 10 (without_leading_plus t) × (number_in t ≡ n) × (n ≤ most)
ReadsTo most None None = Unit {0}
ReadsTo most (Some t) None = ⊥
ReadsTo most None (Some n) = ⊥

-- a flag's value says that it is there
abbrev pub is_set : Option Text → Bool
is_set (Some t) = bytes_eq t (codes "true")
is_set None = false

-- the rows of this subcommand ask for the plan
abbrev pub AsksIn : Text → List Row → Plan → Type 0
AsksIn name rows (Lines site resume snapshot) = (name ≡ codes "lines") × ReadsTo 31 (first_of (codes "site") rows) (Some site)
    × (resume ≡ is_set (first_of (codes "resume") rows)) × (snapshot ≡ is_set (first_of (codes "snapshot") rows))
AsksIn name rows (TextOf version) = (name ≡ codes "text") × ReadsTo 4294967295 (first_of (codes "number") rows) version
AsksIn name rows (World sites) = (name ≡ codes "world") × (1 ≤ sites) × ReadsTo 32 (first_of (codes "sites") rows) (Some sites)
AsksIn name rows (Serve port site conns keep every renew origins report names) = (name ≡ codes "serve")
    × (1 ≤ port) × ReadsTo 65535 (first_of (codes "port") rows) (Some port) × ReadsTo 31 (first_of (codes "site") rows) site
    × IfSome conns (λ count. 1 ≤ count) × ReadsTo 65536 (first_of (codes "conns") rows) conns
    × (option_map string_bytes keep ≡ first_of (codes "keep") rows)
    × IfSome every (λ seconds. 1 ≤ seconds) × ReadsTo 3600 (first_of (codes "every") rows) every
    × (renew ≡ is_set (first_of (codes "renew") rows))
    × (map string_bytes origins.items ≡ unwrap_or (all_of (codes "origin") rows) [])
    × (report ≡ is_set (first_of (codes "report") rows))
    × (all_of (codes "name") rows ≡ Some (map string_bytes names.items))

-- the subcommand that was met asks for the plan
abbrev pub AsksForPlan : Option (Text × List Row) → Plan → Type 0
AsksForPlan None plan = ⊥
AsksForPlan (Some met) plan = AsksIn met.0 met.1 plan

-- no plan is asked for; `clap` lets no such words through
abbrev pub AsksNothing : Option (Text × List Row) → Type 0
AsksNothing met = (plan : Plan) → AsksForPlan met plan → ⊥

-- `clap` answers by a text that was asked for
abbrev pub shows_text : ErrorKind → Bool
shows_text kind.DisplayHelp = true
shows_text kind.DisplayVersion = true
shows_text _ = false

-- `clap` finds a fault in the words
abbrev pub blames_words : ErrorKind → Bool
blames_words kind.DisplayHelp = false
blames_words kind.DisplayVersion = false
blames_words kind.OutOfMemory = false
blames_words _ = true

-- how a kind of `clap` is told
abbrev pub ToldBy : ErrorKind → PlanFault → Type 0
ToldBy k (Help t) = shows_text k ≡ true
ToldBy k (Words t) = blames_words k ≡ true
ToldBy k Memory = Unit {0}

-- why there is no plan: one of the kinds that `clap` finds, or no plan
abbrev pub Refuses : Kinds → Option (Text × List Row) → PlanFault → Type 0
Refuses kinds met (Help t) = (k : ErrorKind) × IsAmong k kinds × ToldBy k (Help t)
Refuses kinds met (Words t) = ((k : ErrorKind) × IsAmong k kinds × ToldBy k (Words t)) ⊎ AsksNothing met
Refuses kinds met Memory = Unit {0}
