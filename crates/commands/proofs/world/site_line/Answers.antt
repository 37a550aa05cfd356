-- A site's number, version and text with one space between, and LF.
use Rattle.std.proofs.Common.{◌≡◌, ◌∙◌, ℕ, List, [], ◌∷◌, ◌++◌, sym, ap, append_assoc, decimal, string_bytes}
use Rattle.std.proofs.lemmas.Result.{IfOk-weaker}
use Rattle.line_engine.specs.Lines.{ended}
use Rattle.commands.specs.Script.{spaced}
use Rattle.commands.proofs.world.site_line.Goals as goal

in_order : (site version text quoted : List ℕ) → text ≡ quoted
    → site ++ 32 ∷ (version ++ 32 ∷ (text ++ 10 ∷ [])) ≡ ended (spaced site (spaced version quoted))
in_order site version text quoted is =
    ap (λ t. site ++ 32 ∷ (version ++ 32 ∷ (t ++ 10 ∷ []))) is
    ∙ ap (λ t. site ++ 32 ∷ t) (sym (append_assoc version (32 ∷ quoted) (10 ∷ [])))
    ∙ sym (append_assoc site (32 ∷ (version ++ 32 ∷ quoted)) (10 ∷ []))

pub returns : goal.returns
returns c =
    IfOk-weaker c.format.result _ _
    (λ s h. h ∙ in_order (decimal c.args.number) (decimal c.args.version) (string_bytes c.in_ok-text.text) _ c.in_ok-text.ensures)
    c.format.ensures.ok
