-- A deletion hides the element that the table names for its stamp.
use Rattle.std.proofs.Common.{◌∙◌, refl, sym}
use Rattle.rga_list.proofs.Ordered.{has_stamp-some, has_stamp-none}
use Rattle.rga_list.proofs.rga.Rga.integrate_del.Goals as goal

pub returns-in-None-clause-cause : goal.returns-in-None-clause-cause
returns-in-None-clause-cause c = (refl, has_stamp-none c.args.target c.args.self.now.entries (sym c.elem_of.ensures.value ∙ c.in-None.is))

pub returns-in-Some-clause-list : goal.returns-in-Some-clause-list
returns-in-Some-clause-list c = c.hide.ensures.list c.args.target (sym c.elem_of.ensures.value ∙ c.in-Some.is)

pub returns-in-Some-clause-shown : goal.returns-in-Some-clause-shown
returns-in-Some-clause-shown c = c.hide.ensures.shown c.args.target (sym c.elem_of.ensures.value ∙ c.in-Some.is)

pub returns-in-Some-clause-shows : goal.returns-in-Some-clause-shows
returns-in-Some-clause-shows c = c.hide.ensures.shows c.args.target (sym c.elem_of.ensures.value ∙ c.in-Some.is)

pub returns-in-Some-clause-ok : goal.returns-in-Some-clause-ok
returns-in-Some-clause-ok c = has_stamp-some c.args.target c.args.self.now.entries c.in-Some.elem
    (sym c.elem_of.ensures.value ∙ c.in-Some.is)
