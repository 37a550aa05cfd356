use Rattle.std.proofs.Common.{◌≡◌, ◌∙◌, ◌+◌, ◌<◌, false, not, eqb, eqb-true, ap, arith, sym, subst, length, refl}
use Rattle.std.proofs.Common.{string_bytes, Option, Some, None, ℕ}
use Rattle.std.specs.Prelude.{IfSome}
use Rattle.std.specs.Option.{option_eq}
use Rattle.std.proofs.lemmas.Bool.{not-false}
use Rattle.versions.proofs.Shown.{least_further, least_known, fewer}
use Rattle.versions.proofs.text.push_run.Goals as goal
use Rattle.versions.proofs.text.push_run.Goals.{else-run-test, then-run-test+in_ok-next+then-ne}

-- a link that doesn't differ is the same
same_link : (o : Option ℕ) (k : ℕ) → false ≡ not (option_eq eqb o (Some k)) → o ≡ Some k
same_link None k e = cc
same_link (Some x) k e = ap Some (eqb-true x k (not-false (eqb x k) (sym e)))

pub run-init : goal.run-init
run-init c = record { next = refl; text = λ least w. w }

pub run-preserved : goal.run-preserved
run-preserved c = record {
  next = same_link c.in_ok-next.next (c.run.elem + 1) (sym c.if-ne.false ∙ c.ne.ensures);
  text = λ least w. fewer _ _ _ _ _ (least_further c.args.list.now.entries c.run.next c.in_ok-next.next least
      (string_bytes c.run.text) (string_bytes c.push_if_shown.new.text) c.run.elem
      c.len-end.ensures.own (c.run.invariant.text least w) c.run.invariant.next c.in_ok-next.ensures.bytes
      c.in_ok-next.ensures.next c.in_ok-next.ensures.within) (omega arith);
}

pub returns : goal.returns
returns c = λ least w.
    elim c.run-test.branch [
      | else-run-test o ↦ absurd (omega (
        arith,
        least_known c.args.list.now.entries c.run.next least
            (string_bytes c.run.text) c.run.elem (c.run.invariant.text least w) c.run.invariant.next,
        o.run-test.false,
        c.len-end.ensures.value,
      ))
      | then-run-test+in_ok-next+then-ne o ↦
          least_further c.args.list.now.entries c.run.next c.run-test.next least
          (string_bytes c.run.text) (string_bytes c.run-test.text) c.run.elem
          c.len-end.ensures.own (c.run.invariant.text least w) c.run.invariant.next
          (λ e found. ap string_bytes o.text-is ∙ o.in_ok-next.ensures.bytes e found)
          (o.next-is ∙ o.in_ok-next.ensures.next)
          (subst (λ (m : Option ℕ). IfSome m (λ k. k < length c.args.list.now.entries)) (sym o.next-is)
          o.in_ok-next.ensures.within)
    ]
