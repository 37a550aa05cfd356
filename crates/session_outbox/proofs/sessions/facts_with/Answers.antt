use Rattle.std.proofs.Common.{◌≡◌, ◌∙◌, nat_eq, ap}
use Rattle.std.specs.Map.{lookup}
use Rattle.std.specs.Option.{option_map}
use Rattle.session_outbox.specs.Internal.Kept.{session_of}
use Rattle.session_outbox.proofs.Entries.{found}
use Rattle.session_outbox.proofs.sessions.facts_with.Goals as goal

pub returns : goal.returns
returns c =
    let e : c.copied.result ≡ lookup (nat_eq c.args.s) c.args.facts.now.entries = cc in
    ap (option_map (λ w. session_of (c.args.s, w))) e ∙ found c.args.s c.args.facts.now.entries
