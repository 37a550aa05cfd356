-- The test of sameness is equality.
use Rattle.std.proofs.Common.{◌≡◌, ℕ, true, ◌&&◌, eqb, eqb-true, eq-eqb, List, [], ◌∷◌, refl, ap, ◌∙◌, subst}
use mathlib.Core.Path.{ap₂}
use Rattle.std.proofs.lemmas.Bool.{and_from, and_parts}
use Rattle.opid.specs.declared.kind.OpKind.{OpKind}
use Rattle.opid.specs.declared.kind.OpKind.TheVariants.{Ins, Del}
use Rattle.opid.specs.Stamps.{is_same_parent}
use Rattle.opid.specs.Operations.{Operation}
use Rattle.opid.proofs.Order.{is_same-eq, is_same-refl, is_same_parent-eq, is_same_parent-refl}
use Rattle.opid.specs.Held.{is_same_clock, is_same_kind, is_same_operation}

clocks : (a b : List ℕ) → is_same_clock a b ≡ true → a ≡ b
clocks [] [] h = refl
clocks [] (n ∷ b) h = cc
clocks (m ∷ a) [] h = cc
clocks (m ∷ a) (n ∷ b) h =
    let parts : (eqb m n ≡ true) × (is_same_clock a b ≡ true) = and_parts (eqb m n) (is_same_clock a b) h in
    ap₂ (λ (v : ℕ) (w : List ℕ). v ∷ w) (eqb-true m n parts.0) (clocks a b parts.1)

clock_itself : (a : List ℕ) → is_same_clock a a ≡ true
clock_itself [] = refl
clock_itself (m ∷ a) = and_from _ _ (eq-eqb m m refl) (clock_itself a)

kinds : (a b : OpKind) → is_same_kind a b ≡ true → a ≡ b
kinds (Ins p c) (Ins q d) h =
    let parts : (is_same_parent p q ≡ true) × (eqb c d ≡ true) = and_parts (is_same_parent p q) (eqb c d) h in
    ap₂ Ins (is_same_parent-eq p q parts.0) (eqb-true c d parts.1)
kinds (Ins p c) (Del t) h = cc
kinds (Del s) (Ins q d) h = cc
kinds (Del s) (Del t) h = ap Del (is_same-eq s t h)

kind_itself : (a : OpKind) → is_same_kind a a ≡ true
kind_itself (Ins p c) = and_from _ _ (is_same_parent-refl p) (eq-eqb c c refl)
kind_itself (Del s) = is_same-refl s

pub same-equal : (x y : Operation) → is_same_operation x y ≡ true → x ≡ y
same-equal x y h =
    let most : ((eqb x.site y.site && is_same_clock x.clock y.clock) ≡ true) × (is_same_kind x.kind y.kind ≡ true) =
    and_parts _ (is_same_kind x.kind y.kind) h in
    let parts : (eqb x.site y.site ≡ true) × (is_same_clock x.clock y.clock ≡ true) =
    and_parts (eqb x.site y.site) (is_same_clock x.clock y.clock) most.0 in
    let with_kind : OpKind → Operation = λ k. record { site = y.site; clock = y.clock; kind = k } in
    ap₂ (λ (s : ℕ) (c : List ℕ). let o : Operation = record { site = s; clock = c; kind = x.kind } in o) (eqb-true x.site y.site parts.0)
    (clocks x.clock y.clock parts.1)
    ∙ ap with_kind (kinds x.kind y.kind most.1)

itself : (x : Operation) → is_same_operation x x ≡ true
itself x = and_from _ _ (and_from _ _ (eq-eqb x.site x.site refl) (clock_itself x.clock)) (kind_itself x.kind)

pub equal-same : (x y : Operation) → x ≡ y → is_same_operation x y ≡ true
equal-same x y e = subst (λ (z : Operation). is_same_operation x z ≡ true) e (itself x)
