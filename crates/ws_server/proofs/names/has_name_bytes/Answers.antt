-- `all` over the list answers its test at each.
use Rattle.std.proofs.Common.{rules, tests}
use Rattle.std.proofs.lemmas.Iterator.{YieldsList-from_slice}
use Rattle.std.proofs.lemmas.Iterator.Search.{all_from_yields_List}
use Rattle.ws_server.specs.Names.{is_name_byte}
use Rattle.ws_server.proofs.names.has_name_bytes.Goals as goal

pub returns : goal.returns
returns c = all_from_yields_List is_name_byte _ _ _ c.all.ensures.ran (YieldsList-from_slice c.args.name.now cc)
    (λ x b q k. search (rules, tests))
