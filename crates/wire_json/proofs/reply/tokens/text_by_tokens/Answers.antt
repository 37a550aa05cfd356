-- The compact text of a reply's value is the reply's text.
use Rattle.std.proofs.Common.{◌∙◌}
use Rattle.wire_json.specs.Internal.Values.{data_of}
use Rattle.wire_json.proofs.TokenTexts.{print-tokens_of}
use Rattle.wire_json.proofs.Texts.{compact}
use Rattle.wire_json.proofs.reply.tokens.text_by_tokens.Goals as goal

pub returns-clause-text : goal.returns-clause-text
returns-clause-text c =
    let reply = c.args.reply.now in
    c.text_of.ensures ∙ print-tokens_of (data_of reply) _ _ c.in_ok-out.ensures.tokens c.in_ok-append_reply.ensures.tokens ∙ compact reply
