-- A text of few bytes has as few characters.
use Rattle.wire_json.proofs.TextCuts.{whole}
use Rattle.wire_json.proofs.request.ins.first_characters.Goals as goal

pub returns-then-text-le-MOST : goal.returns-then-text-le-MOST
returns-then-text-le-MOST c = whole c.args.text.now 65 c.utf8.text c.if-text-le-MOST.true
