-- What is packed unfolds to what it was packed of.
use Rattle.std.proofs.Common.{◌≡◌, ◌+◌, ℕ, Bool, true, false, cond, eqb, eqb-true, Some, None, List, [], ◌∷◌, ◌++◌, length, refl, sym, ap}
use Rattle.std.proofs.Common.{ap₂, ◌∙◌, append_assoc}
use Rattle.std.specs.Prelude.{nat_lt, bytes_eq}
use Rattle.std.proofs.lemmas.Bool.{and_parts}
use Rattle.opid.specs.declared.stamp.Stamp.{Stamp}
use Rattle.opid.specs.declared.kind.OpKind.{OpKind}
use Rattle.opid.specs.declared.kind.OpKind.TheVariants.{Ins, Del}
use Rattle.opid.specs.Clocks.{raised}
use Rattle.opid.specs.Operations.{Operation, stamp_of}
use Rattle.opid.proofs.Order.{is_same-eq}
use Rattle.operation_json.specs.Packing.{typed_next, typed_behind, Item, unfolded, unfolded_all, last_typed, is_insertion, is_child}
use Rattle.operation_json.specs.Packing.{inserted_character, is_typed_next}
use Rattle.operation_json.specs.Packing.{joins, alone, with_one_more, packed_behind, packed_items}

pub typed_behind-push : (x : Operation) (cs : List ℕ) (c : ℕ)
    → typed_behind x (cs ++ c ∷ []) ≡ typed_behind x cs ++ typed_next (last_typed x cs) c ∷ []
typed_behind-push x [] c = refl
typed_behind-push x (d ∷ cs) c = ap (λ xs. typed_next x d ∷ xs) (typed_behind-push (typed_next x d) cs c)

pub is_child-kind : (s : Stamp) (k : OpKind) → is_child s k ≡ true → k ≡ Ins (Some s) (inserted_character k)
is_child-kind s (Ins None c) e = cc
is_child-kind s (Ins (Some p) c) e = ap (λ (q : Stamp). Ins (Some q) c) (is_same-eq p s e)
is_child-kind s (Del t) e = cc

bytes_eq-same : (xs ys : List ℕ) → bytes_eq xs ys ≡ true → xs ≡ ys
bytes_eq-same [] [] e = refl
bytes_eq-same [] (y ∷ ys) e = cc
bytes_eq-same (x ∷ xs) [] e = cc
bytes_eq-same (x ∷ xs) (y ∷ ys) e =
    let both = and_parts (eqb x y) (bytes_eq xs ys) e in
    ap₂ (λ z zs. z ∷ zs) (eqb-true x y both.0) (bytes_eq-same xs ys both.1)

-- the next one is told by its character
pub is_typed_next-typed_next : (x y : Operation) → is_typed_next x y ≡ true → y ≡ typed_next x (inserted_character y.kind)
is_typed_next-typed_next x y e =
    let a = and_parts (is_insertion x.kind) _ e in
    let b = and_parts (eqb y.site x.site) _ a.1 in
    let c = and_parts (bytes_eq y.clock (raised x.clock x.site)) (is_child (stamp_of x) y.kind) b.1 in
    let site : y.site ≡ x.site = eqb-true y.site x.site b.0 in
    let clock : y.clock ≡ raised x.clock x.site = bytes_eq-same y.clock (raised x.clock x.site) c.0 in
    let kind : y.kind ≡ Ins (Some (stamp_of x)) (inserted_character y.kind) = is_child-kind (stamp_of x) y.kind c.1 in
    built y.site x.site y.clock (raised x.clock x.site) y.kind (Ins (Some (stamp_of x)) (inserted_character y.kind)) site clock kind
  where
    built : (s t : ℕ) (c d : List ℕ) (k l : OpKind) → s ≡ t → c ≡ d → k ≡ l
        → (let x : Operation = record { site = s; clock = c; kind = k } in x) ≡ record { site = t; clock = d; kind = l }
    built s t c d k l e f g = rw e (rw f (rw g refl))

pub unfolded-more : (i : Item) (y : Operation) → joins i y ≡ true → unfolded (with_one_more i y) ≡ unfolded i ++ y ∷ []
unfolded-more i y e =
    let both = and_parts (nat_lt (length i.more + 1) 64) (is_typed_next (last_typed i.first i.more) y) e in
    ap (λ xs. i.first ∷ xs) (typed_behind-push i.first i.more (inserted_character y.kind)
    ∙ ap (λ z. typed_behind i.first i.more ++ z ∷ []) (sym (is_typed_next-typed_next (last_typed i.first i.more) y both.1)))

unfolds-behind : (i : Item) (ys : List Operation) → unfolded_all (packed_behind i ys) ≡ unfolded i ++ ys
unfolds-behind i [] = refl
unfolds-behind i (y ∷ ys) = go (joins i y) refl (unfolds-behind (with_one_more i y) ys) (unfolds-behind (alone y) ys)
  where
    go : (t : Bool) → joins i y ≡ t → unfolded_all (packed_behind (with_one_more i y) ys) ≡ unfolded (with_one_more i y) ++ ys
        → unfolded_all (packed_behind (alone y) ys) ≡ unfolded (alone y) ++ ys
        → unfolded_all (cond t (packed_behind (with_one_more i y) ys) (i ∷ packed_behind (alone y) ys)) ≡ unfolded i ++ y ∷ ys
    go true e joined apart = joined ∙ ap (λ xs. xs ++ ys) (unfolded-more i y e) ∙ append_assoc (unfolded i) (y ∷ []) ys
    go false e joined apart = ap (λ xs. unfolded i ++ xs) apart

pub unfolds : (ops : List Operation) → unfolded_all (packed_items ops) ≡ ops
unfolds [] = refl
unfolds (x ∷ xs) = unfolds-behind (alone x) xs
