-- A row that gets memory keeps its places; one whose memory is refused stays.
use Rattle.std.proofs.Common.{◌≡◌, ◌∙◌, ◌<◌, ◌≤◌, length, ap, sym, arith}
use Rattle.replica.specs.Internal.Numbered.{PlacesOfOne}
use Rattle.replica.proofs.SitePlaces.{kept_places, kept_reserved, each_row, enough_more}
use Rattle.replica.proofs.places.reserve_each.Goals as goal

pub returns-in_err-reserve-clause-kept : goal.returns-in_err-reserve-clause-kept
returns-in_err-reserve-clause-kept c reserved h =
    let within : c.loop-row.row-index < length c.loop-row.rows = omega arith in
    let same : c.reserve.new.self ≡ c.row-item.result = c.in_err-reserve.ensures.err ∙ sym c.row-item.is in
    let no_less : c.row-item.result.reserved ≤ c.reserve.new.self.reserved = omega (arith, ap (λ (r : PlacesOfOne). r.reserved) same) in
    kept_reserved c.loop-row.rows c.loop-row.row-index reserved c.row-item.result c.reserve.new.self within c.row-item.is no_less
    (c.loop-row.invariant.kept reserved h)

pub loop-row-preserved : goal.loop-row-preserved
loop-row-preserved c =
    let within : c.loop-row.row-index < length c.loop-row.rows = omega arith in
    let places : c.reserve.new.self.places ≡ c.row-item.result.places =
    ap (λ (r : PlacesOfOne). r.places) (c.in_ok-reserve.ensures.ok) ∙ ap (λ (r : PlacesOfOne). r.places) (sym c.row-item.is) in
    let before : c.row-item.result.reserved ≤ c.reserve.new.self.reserved =
    omega (arith, ap (λ (r : PlacesOfOne). r.reserved) c.in_ok-reserve.ensures.ok, ap (λ (r : PlacesOfOne). r.reserved) c.row-item.is) in
    let asked : c.args.n ≤ c.reserve.new.self.reserved = omega (arith, ap (λ (r : PlacesOfOne). r.reserved) c.in_ok-reserve.ensures.ok) in
    record {
      same = kept_places c.loop-row.rows c.loop-row.row-index c.row-item.result c.reserve.new.self within c.row-item.is places
          ∙ c.loop-row.invariant.same;
      kept = λ k h. kept_reserved c.loop-row.rows c.loop-row.row-index k c.row-item.result c.reserve.new.self within c.row-item.is before
          (c.loop-row.invariant.kept k h);
      enough = enough_more c.loop-row.rows c.loop-row.row-index c.args.n c.reserve.new.self within asked c.loop-row.invariant.enough;
    }

pub returns-clause-ok : goal.returns-clause-ok
returns-clause-ok c = each_row c.loop-row.rows c.args.n (λ k d l. c.loop-row.invariant.enough k d (omega arith))
