-- The item's text comes behind what stands there.
use Rattle.std.proofs.Common.{◌∙◌, ◌++◌, ap, string_bytes}
use Rattle.snapshot.proofs.saving.push_item.Goals as goal

pub returns-clause-text : goal.returns-clause-text
returns-clause-text c =
    c.in_ok-push_str.ensures.bytes
    ∙ ap (λ bytes. string_bytes c.args.text.now ++ bytes) (c.as_str.ensures.value ∙ c.in_ok-written.ensures.text)
