-- `all` over the list answers its test at each.
use Rattle.std.proofs.Common.{rules, tests, string_bytes}
use Rattle.std.proofs.lemmas.Iterator.{YieldsList-from_slice}
use Rattle.std.proofs.lemmas.Iterator.Search.{all_from_yields_List}
use Rattle.ws_server.specs.Names.{is_name}
use Rattle.ws_server.proofs.names.are_names.Goals as goal

pub returns : goal.returns
returns c = all_from_yields_List (λ name. is_name (string_bytes name)) _ _ _ c.all.ensures.ran (YieldsList-from_slice c.args.names.now cc)
    (λ x b q k. search (rules, tests))
