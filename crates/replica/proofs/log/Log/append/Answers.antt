-- What is appended may follow, and its place stands in its site's row.
use Rattle.std.proofs.Common.{◌≡◌, ◌<◌, true, ap, sym, subst, arith, sum}
use Rattle.opid.specs.declared.stamp.Stamp.{Stamp}
use Rattle.opid.specs.Delivery.{is_ready}
use Rattle.opid.specs.Lawful.{IsLawful, IsRisingAt, MayFollow}
use Rattle.opid.proofs.Logs.{IsLawful-push}
use Rattle.versions.specs.Document.{Document}
use Rattle.versions.proofs.Integrated.{may_follow}
use Rattle.replica.specs.Internal.Numbered.{AllPlaces, AreNumbered}
use Rattle.replica.proofs.Numbers.{AreNumbered-push}
use Rattle.replica.proofs.log.Log.append.Goals as goal

pub invariant_of-self-2 : goal.invariant_of-self-2
invariant_of-self-2 c =
    let log = c.self.inside.doc.log in
    let x = c.args.op.now in
    let ready : is_ready log x ≡ true = subst (λ (r : Document). is_ready r.log x ≡ true) (sym c.self.view_is) c.requires in
    let above : c.last_sum.result < sum x.clock = omega (arith, ap (λ (s : Stamp). s.sum) c.stamp.ensures) in
    let rising : IsRisingAt log x = c.last_sum.ensures.rising x (sym c.site-site.ensures.value) above in
    let follows : MayFollow log x = may_follow log x c.site-site.ensures.kept ready rising c.in_ok-integrate.ensures.ok in
    let sited : c.site-site.result < 32 = omega (arith, c.site-site.ensures.value, c.site-site.ensures.kept.site) in
    let rows : AreNumbered log c.reserve.new.self.rows =
    subst (λ (r : AllPlaces). AreNumbered log r.rows) (sym c.in_ok-reserve.ensures.ok) c.self.invariant.numbered in
    record {
      lawful = subst (λ (r : Document). IsLawful r.log) (sym c.in_ok-integrate.ensures.grown)
          (IsLawful-push log x c.self.invariant.lawful follows);
      numbered = subst (λ (r : Document). AreNumbered r.log c.push.new.self.rows) (sym c.in_ok-integrate.ensures.grown)
          (AreNumbered-push log c.reserve.new.self.rows c.push.new.self.rows x c.site-site.result c.version-place.result rows
          c.site-site.ensures.value sited c.version-place.ensures.value c.push.ensures.rows);
      reserved = omega (
        arith,
        ap (λ (r : Document). r.reserved) c.in_ok-integrate.ensures.grown,
        ap (λ (r : AllPlaces). r.reserved) c.in_ok-reserve.ensures.ok,
        c.push.ensures.reserved,
        c.self.invariant.reserved,
      );
    }

pub returns-clause-lawful : goal.returns-clause-lawful
returns-clause-lawful c = (invariant_of-self-2 c).lawful
