use Rattle.std.proofs.Common.{◌∙◌, sym}
use Rattle.position_translate.proofs.Insides.{inside_where_told, outside_where_none}
use Rattle.position_translate.proofs.places.is_second.Goals as goal

pub returns-in-Some : goal.returns-in-Some
returns-in-Some c =
    inside_where_told c.args.doc.now.log c.args.version c.args.place c.in-Some.field-0-0 c.in-Some.second (sym c.in-Some.is
    ∙ c.unit_at.ensures)

pub returns-in-None : goal.returns-in-None
returns-in-None c = outside_where_none c.args.doc.now.log c.args.version c.args.place (sym c.in-None.is ∙ c.unit_at.ensures)
