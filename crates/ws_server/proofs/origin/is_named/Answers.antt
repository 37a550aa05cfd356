-- The next name is the one, or isn't.
use Rattle.std.proofs.Common.{◌≡◌, map, string_bytes, arith, sym, ap, ◌∙◌, below_more, refl}
use Rattle.std.specs.Prelude.{slice_index_or}
use Rattle.std.proofs.lemmas.List.{get_or-map, length-map}
use Rattle.std.proofs.lemmas.Slice.Eq.{bytes_eq-Decides}
use Rattle.ws_server.proofs.origin.is_named.Goals as goal

pub returns-then-eq : goal.returns-then-eq
returns-then-eq c =
    let named = c.args.named.now in
    let origin = c.args.origin.now in
    let at = c.loop-name.name-index in
    let same : c.as_bytes.result.now ≡ origin =
    (bytes_eq-Decides c.as_bytes.result.now origin).0 (sym c.eq.ensures ∙ c.if-eq.true) in
    let is : slice_index_or (map string_bytes named) at origin ≡ origin =
    get_or-map string_bytes named at c.name-item.result origin c.loop-name-test.true ∙ ap string_bytes (sym c.name-item.is)
    ∙ sym c.as_bytes.ensures.value ∙ same in (
      λ yes. (at, omega (arith, c.loop-name-test.true, length-map named string_bytes), is),
      λ there. refl,
    )

pub loop-name-preserved : goal.loop-name-preserved
loop-name-preserved c =
    let named = c.args.named.now in
    let origin = c.args.origin.now in
    let at = c.loop-name.name-index in
    below_more _ _ c.loop-name.invariant (λ same.
    let is : c.as_bytes.result.now ≡ origin =
    c.as_bytes.ensures.value ∙ ap string_bytes c.name-item.is
    ∙ sym (get_or-map string_bytes named at c.name-item.result origin c.loop-name-test.true) ∙ same in
    let yes = (bytes_eq-Decides c.as_bytes.result.now origin).1 is in
    let no = sym c.eq.ensures ∙ c.if-eq.false in
    cc)
