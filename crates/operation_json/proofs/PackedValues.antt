-- The JSON values of packed operations are read back as those operations.
use Rattle.std.proofs.Common.{◌≡◌, ◌+◌, ◌<◌, ◌≤◌, ◌^◌, ℕ, Bool, true, false, cond, Option, Some, None, Result, Ok, List, [], ◌∷◌, ◌++◌}
use Rattle.std.proofs.Common.{length, map, sum, refl, sym, ap, ◌∙◌, arith, subst}
use Rattle.std.specs.Prelude.{IsTrue, nat_lt}
use Rattle.std.specs.Str.{all_scalars}
use Rattle.std.specs.List.{AllByRecursion as Each}
use Rattle.std.proofs.lemmas.Bool.{and_parts, and_from, ltb-true, lt-ltb, le-leb}
use Rattle.std.proofs.lemmas.List.{length-append}
use Rattle.std.proofs.lemmas.List.Folds.{flat_map-map}
use Rattle.std.proofs.lemmas.Str.{chars-encodes}
use Rattle.serde_json.specs.Data.{Data}
use Rattle.opid.specs.declared.refusal.Refusal.{Refusal}
use Rattle.opid.specs.declared.stamp.Stamp.{Stamp}
use Rattle.opid.specs.declared.kind.OpKind.{OpKind}
use Rattle.opid.specs.declared.kind.OpKind.TheVariants.{Ins, Del}
use Rattle.opid.specs.Operations.{Operation}
use Rattle.opid.specs.Kinds.{IsClock, IsOperation}
use Rattle.operation_json.specs.Members.{◌>>=◌}
use Rattle.operation_json.specs.Operations.{each, items_told}
use Rattle.operation_json.specs.Packing.{typed_next, typed_behind, Item, unfolded, unfolded_all, last_typed, is_insertion}
use Rattle.operation_json.specs.Packing.{inserted_character, is_typed_next, joins, alone}
use Rattle.operation_json.specs.Packing.{with_one_more, packed_behind, packed_items}
use Rattle.operation_json.specs.PackedOperations.{ItemOffer, lone, item_offer_of, item_sited, unfolded_if_counted, item_operations}
use Rattle.operation_json.specs.PackedOperations.{concatenated, packed_ops_of}
use Rattle.operation_json.specs.Text.{IsOperationInRange, IsKindInRange, pairs_of}
use Rattle.operation_json.specs.Internal.Values.{each_data, op_data_of, run_data_of, item_data_of, item_data}
use Rattle.operation_json.proofs.OperationValues.{offer_with, offer_back, sited_back, operation_back, pairs_back, parent_back}
use Rattle.opid.proofs.Counts.{sum-raised}
use Rattle.operation_json.proofs.PackedItems.{unfolded-more, unfolds}
use Rattle.operation_json.proofs.Pairs.{pairs_small}

-- what is known of an item that operations are packed in
pub record IsPacked (i : Item) : Type 0 where
  pub few : length i.more < 64
  pub behind : (0 < length i.more) → is_insertion i.first.kind ≡ true
  pub range : Each IsOperationInRange (unfolded i)

-- ---- packing makes such items

Each-push : {A : Type 0} (P : A → Type 0) (xs : List A) (y : A) → Each P xs → P y → Each P (xs ++ y ∷ [])
Each-push P [] y h k = (k, tt)
Each-push P (x ∷ xs) y h k = (h.0, Each-push P xs y h.1 k)

IsPacked-alone : (x : Operation) → IsOperationInRange x → IsPacked (alone x)
IsPacked-alone x h = record { few = omega arith; behind = λ z. absurd (omega arith); range = (h, tt) }

IsPacked-more : (i : Item) (y : Operation) → IsPacked i → IsOperationInRange y → joins i y ≡ true → IsPacked (with_one_more i y)
IsPacked-more i y p h e =
    let both = and_parts (nat_lt (length i.more + 1) 64) (is_typed_next (last_typed i.first i.more) y) e in
    let insertion = and_parts (is_insertion (last_typed i.first i.more).kind) _ both.1 in
    record {
      few = omega (arith, ltb-true (length i.more + 1) 64 both.0, length-append i.more (inserted_character y.kind ∷ []));
      behind = λ z. first i.first i.more insertion.0 p.behind;
      range = subst (Each IsOperationInRange) (sym (unfolded-more i y e)) (Each-push IsOperationInRange (unfolded i) y p.range h);
    }
  where
    first : (x : Operation) (cs : List ℕ) → is_insertion (last_typed x cs).kind ≡ true → (0 < length cs → is_insertion x.kind ≡ true)
        → is_insertion x.kind ≡ true
    first x [] e b = e
    first x (c ∷ cs) e b = b (omega arith)

packed-behind : (i : Item) (ys : List Operation) → IsPacked i → Each IsOperationInRange ys → Each IsPacked (packed_behind i ys)
packed-behind i [] p h = (p, tt)
packed-behind i (y ∷ ys) p h =
    go (joins i y) refl (λ q. packed-behind (with_one_more i y) ys q h.1) (packed-behind (alone y) ys (IsPacked-alone y h.0) h.1)
  where
    go : (t : Bool) → joins i y ≡ t → (IsPacked (with_one_more i y) → Each IsPacked (packed_behind (with_one_more i y) ys))
        → Each IsPacked (packed_behind (alone y) ys)
        → Each IsPacked (cond t (packed_behind (with_one_more i y) ys) (i ∷ packed_behind (alone y) ys))
    go true e joined apart = joined (IsPacked-more i y p h.0 e)
    go false e joined apart = (p, apart)

pub are_packed : (ops : List Operation) → Each IsOperationInRange ops → Each IsPacked (packed_items ops)
are_packed [] h = tt
are_packed (x ∷ xs) h = packed-behind (alone x) xs (IsPacked-alone x h.0) h.1

-- ---- what the operations of an item say of it

scalars_both : (c : ℕ) (cs : List ℕ) → IsTrue (all_scalars (c ∷ [])) → IsTrue (all_scalars cs) → IsTrue (all_scalars (c ∷ cs))
scalars_both c cs h k = and_from _ (all_scalars cs) (and_parts _ (all_scalars []) h).0 k

-- the characters are Unicode scalar values
pub more_scalars : (x : Operation) (cs : List ℕ) → Each IsOperationInRange (typed_behind x cs) → IsTrue (all_scalars cs)
more_scalars x [] h = refl
more_scalars x (c ∷ cs) h = scalars_both c cs h.0.1.1 (more_scalars (typed_next x c) cs h.1)

-- the clock of the last one tells that none is above the limit
pub last_sum : (x : Operation) (cs : List ℕ) → IsOperation x → Each IsOperationInRange (typed_behind x cs)
    → sum x.clock + length cs ≤ 131072
last_sum x [] o h = omega (arith, o.limit)
last_sum x (c ∷ cs) o h = omega (arith, last_sum (typed_next x c) cs h.0.0 h.1, sum-raised x.clock x.site (omega (arith, o.site, o.width)))

-- ---- reading an item back

abbrev offer_for : Operation → List ℕ → ItemOffer
offer_for x cs = record { first = offer_with x.site x.clock x.kind; more = cs }

lone_back : (s : ℕ) (clock : List ℕ) (kind : OpKind) → s < 32 → IsClock clock → IsKindInRange kind
    → item_offer_of (op_data_of s clock kind) ≡ Ok (record { first = offer_with s clock kind; more = [] })
lone_back s clock (Ins parent c) h k r = ap (λ o. o >>= lone) (offer_back s clock (Ins parent c) h k r)
lone_back s clock (Del t) h k r = ap (λ o. o >>= lone) (offer_back s clock (Del t) h k r)

run_back : (s : ℕ) (clock : List ℕ) (parent : Option Stamp) (c d : ℕ) (cs : List ℕ) → s < 32 → IsClock clock
    → IsKindInRange (Ins parent c) → IsTrue (all_scalars (c ∷ d ∷ cs)) → length cs ≤ 62
    → item_offer_of (run_data_of s clock (Ins parent c) (d ∷ cs)) ≡ Ok (record { first = offer_with s clock (Ins parent c); more = d ∷ cs })
run_back s clock None c d cs h k r u f =
    rw (pairs_back (pairs_of clock) (pairs_small clock k))
    (rw (lt-ltb s (2 ^ 32) (omega arith)) (rw (chars-encodes (c ∷ d ∷ cs) u) (rw (le-leb (length cs) 62 f) refl)))
run_back s clock (Some p) c d cs h k r u f =
    rw (pairs_back (pairs_of clock) (pairs_small clock k))
    (rw (parent_back p r.0) (rw (lt-ltb s (2 ^ 32) (omega arith)) (rw (chars-encodes (c ∷ d ∷ cs) u) (rw (le-leb (length cs) 62 f) refl))))

kind_scalar : (parent : Option Stamp) (c : ℕ) → IsKindInRange (Ins parent c) → IsTrue (all_scalars (c ∷ []))
kind_scalar None c r = r
kind_scalar (Some p) c r = r.1

pub run_scalars : (parent : Option Stamp) (c : ℕ) (cs : List ℕ) → IsKindInRange (Ins parent c) → IsTrue (all_scalars cs)
    → IsTrue (all_scalars (c ∷ cs))
run_scalars parent c cs r k = scalars_both c cs (kind_scalar parent c r) k

item_back_of : (x : Operation) (kind : OpKind) (cs : List ℕ) → IsOperation x → IsKindInRange kind → length cs < 64
    → (0 < length cs → is_insertion kind ≡ true) → IsTrue (all_scalars cs)
    → item_offer_of (item_data_of (record x { kind = kind }) cs) ≡ Ok (record { first = offer_with x.site x.clock kind; more = cs })
item_back_of x kind [] o r few behind u = lone_back x.site x.clock kind o.site (record { width = o.width; limit = o.limit }) r
item_back_of x (Ins parent c) (d ∷ cs) o r few behind u =
    run_back x.site x.clock parent c d cs o.site (record { width = o.width; limit = o.limit }) r (run_scalars parent c (d ∷ cs) r u)
    (omega (arith, few))
item_back_of x (Del t) (d ∷ cs) o r few behind u = let not = behind (omega arith) in cc

item_back : (i : Item) → IsPacked i → item_offer_of (item_data i) ≡ Ok (offer_for i.first i.more)
item_back i p = item_back_of i.first i.first.kind i.more p.range.0.0 p.range.0.1 p.few p.behind (more_scalars i.first i.more p.range.1)

sited_item_back : (i : Item) → IsPacked i → item_sited (offer_for i.first i.more) ≡ Ok (offer_for i.first i.more)
sited_item_back i p =
    ap (λ r. r >>= λ f. Ok (record { first = f; more = i.more }))
    (sited_back i.first.site i.first.clock i.first.kind p.range.0.0.site p.range.0.1)

unfolded_counted : (x : Operation) (cs : List ℕ) → sum x.clock + length cs ≤ 131072 → unfolded_if_counted x cs ≡ Ok (x ∷ typed_behind x cs)
unfolded_counted x cs h = rw (le-leb (sum x.clock + length cs) 131072 h) refl

item_operations_back : (i : Item) → IsPacked i → item_operations (offer_for i.first i.more) ≡ Ok (unfolded i)
item_operations_back i p =
    let o : IsOperation i.first = p.range.0.0 in
    ap (λ r. r >>= λ x. unfolded_if_counted x i.more)
    (operation_back i.first.site i.first.clock i.first.kind (record { width = o.width; limit = o.limit }) o.own)
    ∙ unfolded_counted i.first i.more (last_sum i.first i.more o p.range.1)

-- ---- and lists of them

each_back : {A B C : Type 0} (P : A → Type 0) (f : B → Result C Refusal) (g : A → B) (h : A → C) → ((a : A) → P a → f (g a) ≡ Ok (h a))
    → (xs : List A) → Each P xs → each f (map g xs) ≡ Ok (map h xs)
each_back P f g h back [] e = refl
each_back P f g h back (x ∷ xs) e = step (each_back P f g h back xs e.1)
  where
    step : each f (map g xs) ≡ Ok (map h xs) → each f (map g (x ∷ xs)) ≡ Ok (map h (x ∷ xs))
    step rest = ap (λ r. r >>= λ y. each f (map g xs) >>= λ ys. Ok (y ∷ ys)) (back x e.0) ∙ ap (λ r. r >>= λ ys. Ok (h x ∷ ys)) rest

items_told-map : {A : Type 0} (f : A → Data) (xs : List A) → items_told (each_data f xs) ≡ map f xs
items_told-map f [] = refl
items_told-map f (x ∷ xs) = ap (λ ds. f x ∷ ds) (items_told-map f xs)

concatenated-unfolded : (items : List Item) → concatenated (map unfolded items) ≡ unfolded_all items
concatenated-unfolded items = flat_map-map (λ xs. xs) unfolded items

pub items_back : (items : List Item) → Each IsPacked items
    → packed_ops_of (items_told (each_data item_data items)) ≡ Ok (unfolded_all items)
items_back items h =
    let offer : Item → ItemOffer = λ i. offer_for i.first i.more in
    ap (λ ds. packed_ops_of ds) (items_told-map item_data items)
    ∙ ap (λ r. r >>= λ os. each item_sited os >>= λ here. each item_operations here >>= λ lists. Ok (concatenated lists))
    (each_back IsPacked item_offer_of item_data offer item_back items h)
    ∙ ap (λ r. r >>= λ here. each item_operations here >>= λ lists. Ok (concatenated lists))
    (each_back IsPacked item_sited offer offer sited_item_back items h)
    ∙ ap (λ r. r >>= λ lists. Ok (concatenated lists)) (each_back IsPacked item_operations offer unfolded item_operations_back items h)
    ∙ ap Ok (concatenated-unfolded items)

-- what is packed is read back as it was
pub packed_back : (ops : List Operation) → Each IsOperationInRange ops
    → packed_ops_of (items_told (each_data item_data (packed_items ops))) ≡ Ok ops
packed_back ops h = items_back (packed_items ops) (are_packed ops h) ∙ ap Ok (unfolds ops)
