-- A line whose first word names no form has none.
use lib.Dec.{eqb}
use lib.Pointwise.{pointwise}
use Rattle.std.proofs.Common.{◌≡◌, ℕ, List, Bool, true, false, ◌∙◌, sym, codes, arith}
use Rattle.std.proofs.lemmas.Bool.Decides.{Decides-eqb}
use Rattle.std.proofs.lemmas.Slice.Eq.{slice_eq-Decides}
use Rattle.commands.specs.declared.script.Form.{Form}
use Rattle.commands.specs.declared.script.Form.TheVariants.{Call, Carry, Fork}
use Rattle.commands.specs.Script.{spaced, IsForm}
use Rattle.commands.specs.Internal.Words.{IsWord}
use Rattle.commands.proofs.Words.{one_cut}
use Rattle.commands.proofs.script.read_form.Goals as goal

is_word_call : IsWord (codes "call")
is_word_call = (λ e. omega (arith, e), (λ e. omega (arith, e), (λ e. omega (arith, e), (λ e. omega (arith, e), tt))))

is_word_carry : IsWord (codes "carry")
is_word_carry = (
  λ e. omega (arith, e),
  (
    λ e. omega (arith, e),
    (λ e. omega (arith, e), (λ e. omega (arith, e), (λ e. omega (arith, e), tt))),
  ),
)

is_word_fork : IsWord (codes "fork")
is_word_fork = (λ e. omega (arith, e), (λ e. omega (arith, e), (λ e. omega (arith, e), (λ e. omega (arith, e), tt))))

no_form : (line name rest : List ℕ) → IsWord name → line ≡ spaced name rest
    → (name ≡ codes "call" → ⊥) → (name ≡ codes "carry" → ⊥) → (name ≡ codes "fork" → ⊥) → (form : Form) → IsForm line form → ⊥
no_form line name rest word at call carry fork (Call site bytes) h =
    call (one_cut name (codes "call") rest _ word is_word_call (sym at ∙ h.0)).0
no_form line name rest word at call carry fork (Carry start n to) h =
    carry (one_cut name (codes "carry") rest _ word is_word_carry (sym at ∙ h.0)).0
no_form line name rest word at call carry fork (Fork new start n) h =
    fork (one_cut name (codes "fork") rest _ word is_word_fork (sym at ∙ h.0)).0

differs : (r : Bool) (a b p : List ℕ) → r ≡ pointwise eqb a b → r ≡ false → b ≡ p → a ≡ p → ⊥
differs r a b p e fails is same =
    let yes = (slice_eq-Decides Decides-eqb _ _ _ e).1 (same ∙ sym is) in let apart : false ≡ true = sym fails ∙ yes in cc

pub returns-else-eq-3-clause-none : goal.returns-else-eq-3-clause-none
returns-else-eq-3-clause-none c =
    let cut = c.in_ok-name.ensures.some in
    let name = c.in_ok-name.name.now in
    no_form c.args.line.now name c.in_ok-name.rest.now cut.0 cut.1
    (differs c.eq.result name c.as_slice.result.now (codes "call") c.eq.ensures c.if-eq.false c.as_slice.ensures)
    (differs c.eq-else-eq.result name c.as_slice-else-eq.result.now
    (codes "carry") c.eq-else-eq.ensures c.if-eq-2.false c.as_slice-else-eq.ensures)
    (differs c.eq-else-eq-2.result name c.as_slice-else-eq-2.result.now
    (codes "fork") c.eq-else-eq-2.ensures c.if-eq-3.false c.as_slice-else-eq-2.ensures)
