-- The place stands behind those of its site.
use Rattle.std.proofs.Common.{◌<◌, ◌∙◌, ap, arith, length}
use Rattle.replica.specs.Internal.Numbered.{AllPlaces, PlacesOfOne}
use Rattle.replica.proofs.SitePlaces.{pushed}
use Rattle.replica.proofs.places.Places.push.Goals as goal

pub returns-clause-rows : goal.returns-clause-rows
returns-clause-rows c =
    let within : c.from.result < length c.self.inside.rows = omega (arith, c.from.ensures, c.number.ensures.range) in
    pushed c.self.inside.rows c.args.self.now.rows c.from.result c.args.site c.args.place c.index-self-from.result c.push.new.self
    (ap (λ (r : AllPlaces). r.rows) c.self.view_is) (c.from.ensures ∙ c.number.ensures.value) within
    (ap (λ (r : PlacesOfOne). r.places) c.push.ensures)
