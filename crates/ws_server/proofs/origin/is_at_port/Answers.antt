-- What stands behind the page's origin is the port.
use Rattle.std.proofs.Common.{◌≡◌, ◌++◌, ℕ, List, length, take, drop, sym, ap, ◌∙◌, subst}
use Rattle.std.proofs.lemmas.List.{take-append-drop}
use Rattle.std.proofs.Math.Seq.{take-append_seam, drop-append_seam}
use Rattle.std.proofs.lemmas.Slice.Eq.{bytes_eq-Decides}
use Rattle.ws_server.specs.Origins.{IsPort}
use Rattle.ws_server.proofs.origin.is_at_port.Goals as goal

pub returns-in-Some : goal.returns-in-Some
returns-in-Some c =
    let page = c.args.page.now in
    let origin = c.args.origin.now in
    let found = c.in-Some.ensures.cases in
    let begins : take (length page) origin ≡ page = (bytes_eq-Decides (take (length page) origin) page).0 found.0 in
    let is : origin ≡ page ++ c.in-Some.port.now =
    sym (take-append-drop (length page) origin) ∙ ap (λ (t : List ℕ). t ++ drop (length page) origin) begins
    ∙ ap (λ (t : List ℕ). page ++ t) (sym found.1) in (
      λ yes. (c.in-Some.port.now, is, c.is_port.ensures.0 yes),
      λ at.
          let rest : at.0 ≡ c.in-Some.port.now =
          sym (drop-append_seam page at.0) ∙ ap (drop (length page)) (sym at.1) ∙ sym found.1 in
          c.is_port.ensures.1 (subst IsPort rest at.2),
    )

pub returns-in-None : goal.returns-in-None
returns-in-None c =
    let page = c.args.page.now in
    let origin = c.args.origin.now in (
      λ no. cc,
      λ at.
          let begins : take (length page) origin ≡ page = ap (take (length page)) at.1 ∙ take-append_seam page at.0 in
          let yes = (bytes_eq-Decides (take (length page) origin) page).1 begins in
          let no = c.in-None.ensures.cases in
          cc,
    )
