-- Which operation joins an item, and what its characters are then.
use Rattle.std.proofs.Common.{◌≡◌, ◌+◌, ℕ, true, List, [], ◌∷◌, ◌++◌, length, refl, sym, ap, ◌∙◌}
use Rattle.std.specs.Prelude.{nat_lt, IsTrue}
use Rattle.std.specs.Char.{IsScalar}
use Rattle.std.specs.Str.{all_scalars}
use Rattle.std.proofs.lemmas.Bool.{and_parts}
use Rattle.opid.specs.Operations.{Operation}
use Rattle.operation_json.specs.Packing.{Item, typed_next, last_typed, is_typed_next, joins, inserted_character}
use Rattle.operation_json.proofs.PackedItems.{is_typed_next-typed_next}

last_typed-push : (x : Operation) (cs : List ℕ) (c : ℕ) → last_typed x (cs ++ c ∷ []) ≡ typed_next (last_typed x cs) c
last_typed-push x [] c = refl
last_typed-push x (d ∷ cs) c = last_typed-push (typed_next x d) cs c

pub pushed : (i : Item) (y : Operation) (ch : ℕ) (more : List ℕ) → joins i y ≡ true → inserted_character y.kind ≡ ch
    → more ≡ i.more ++ ch ∷ [] → y ≡ last_typed i.first more
pushed i y ch more e same is =
    let both = and_parts (nat_lt (length i.more + 1) 64) (is_typed_next (last_typed i.first i.more) y) e in
    is_typed_next-typed_next (last_typed i.first i.more) y both.1
    ∙ ap (typed_next (last_typed i.first i.more)) same ∙ sym (last_typed-push i.first i.more ch) ∙ ap (last_typed i.first) (sym is)

-- ---- characters

pub scalars_push : (cs : List ℕ) (c : ℕ) → IsTrue (all_scalars cs) → IsScalar c → IsTrue (all_scalars (cs ++ c ∷ []))
scalars_push [] c h k = rw k refl
scalars_push (d ∷ cs) c h k =
    let both = and_parts _ (all_scalars cs) h in
    rw both.0 (scalars_push cs c both.1 k)
