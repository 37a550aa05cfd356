-- What a loop over the values of operations knows.
use Rattle.std.proofs.Common.{◌≡◌, ◌≤◌, ◌<◌, ◌+◌, ℕ, Bool, true, false, cond, eqb, eqb-true, eq-eqb, List, [], ◌∷◌, ◌++◌}
use Rattle.std.proofs.Common.{Option, Some, None, option_map, length, take, drop, get_or, Result, Ok, Err, refl, sym, ap, ◌∙◌, arith, subst}
use Rattle.std.proofs.Common.{append_assoc, append-nil, length-append}
use Rattle.std.specs.Result.{result_ok}
use Rattle.std.proofs.lemmas.List.{drop_all, take-append-drop, length-take}
use Rattle.std.proofs.lemmas.List.Sums.{sum_by-cons}
use Rattle.std.proofs.Math.Seq.{take-append_seam}
use Rattle.serde_json.specs.Data.{Data}
use Rattle.serde_json.specs.View.{view, items_view}
use Rattle.serde_json.specs.declared.value.Value.{Value}
use Rattle.opid.specs.declared.refusal.Refusal.{Refusal}
use Rattle.opid.specs.Operations.{Operation}
use Rattle.opid.specs.Delivery.{count_of}
use Rattle.opid.specs.Lawful.{IsLawful, MayFollow, GoesOn}
use Rattle.opid.proofs.Gathered.{rest_at}
use Rattle.opid.proofs.Logs.{IsLawful-take, goes_on_after}
use Rattle.operation_json.specs.Members.{◌>>=◌}
use Rattle.operation_json.specs.Operations.{each, items_told, op_of}
use Rattle.operation_json.specs.PackedOperations.{ItemOffer, item_offer_of, item_sited, item_operations, concatenated, all_operations}
use Rattle.snapshot.specs.Snapshot.{LacksSite, ops_told}
use Rattle.snapshot.specs.Internal.Values.{value_told}

-- ---- only whether all faults are absent counts: so each value tells its operations by itself

-- the operations of the first, and those of the rest
abbrev pub then : Result (List Operation) Refusal → Option (List Operation) → Option (List Operation)
then (Ok ys) rest = option_map (λ zs. ys ++ zs) rest
then (Err e) rest = None

then-None : (r : Result (List Operation) Refusal) → None ≡ then r None
then-None (Ok ys) = refl
then-None (Err e) = refl

-- a step at each comes before the rest in a list just where it does at each by itself
stepped : {B : Type 0} (rest : List B → Result (List Operation) Refusal) (one : B → Result (List Operation) Refusal)
    → ((y : B) (ys : List B) → result_ok (rest (y ∷ ys)) ≡ then (one y) (result_ok (rest ys)))
    → (r : Result B Refusal) (rs : Result (List B) Refusal)
    → result_ok ((r >>= λ y. rs >>= λ ys. Ok (y ∷ ys)) >>= rest) ≡ then (r >>= one) (result_ok (rs >>= rest))
stepped rest one h (Ok y) (Ok ys) = h y ys
stepped rest one h (Ok y) (Err e) = then-None (one y)
stepped rest one h (Err f) rs = refl

operations_first : (o : ItemOffer) (os : List ItemOffer)
    → result_ok (all_operations (o ∷ os)) ≡ then (item_operations o) (result_ok (all_operations os))
operations_first o os = go (item_operations o) (each item_operations os)
  where
    go : (r : Result (List Operation) Refusal) (rs : Result (List (List Operation)) Refusal)
        → result_ok ((r >>= λ y. rs >>= λ ys. Ok (y ∷ ys)) >>= λ lists. Ok (concatenated lists))
        ≡ then r (result_ok (rs >>= λ lists. Ok (concatenated lists)))
    go (Ok y) (Ok ys) = refl
    go (Ok y) (Err e) = refl
    go (Err f) rs = refl

pub first_told : (runs : Bool) (d : Data) (ds : List Data)
    → result_ok (ops_told runs (d ∷ ds)) ≡ then (value_told runs d) (result_ok (ops_told runs ds))
first_told true d ds =
    stepped (λ os. each item_sited os >>= all_operations) (λ o. item_sited o >>= item_operations)
    (λ o os. stepped all_operations item_operations operations_first (item_sited o) (each item_sited os))
    (item_offer_of d) (each item_offer_of ds)
first_told false d ds = go (op_of d) (each op_of ds)
  where
    go : (r : Result Operation Refusal) (rs : Result (List Operation) Refusal)
        → result_ok (r >>= λ y. rs >>= λ ys. Ok (y ∷ ys)) ≡ then (r >>= λ y. Ok (y ∷ [])) (result_ok rs)
    go (Ok y) (Ok ys) = refl
    go (Ok y) (Err e) = refl
    go (Err f) rs = refl

-- ---- the loop

-- the operations before, and those that the values tell
abbrev pub told_from : Bool → List Operation → List Value → Option (List Operation)
told_from runs front values = option_map (λ ys. front ++ ys) (result_ok (ops_told runs (items_told (items_view values))))

pub from_none : (runs : Bool) (vs : List Value) → told_from runs [] vs ≡ result_ok (ops_told runs (items_told (items_view vs)))
from_none runs vs = go (result_ok (ops_told runs (items_told (items_view vs))))
  where
    go : (o : Option (List Operation)) → option_map (λ ys. [] ++ ys) o ≡ o
    go (Some ys) = refl
    go None = refl

told_at : (runs : Bool) (front : List Operation) (vs : List Value) (i : ℕ) (v : Value) → i < length vs → v ≡ get_or vs i v
    → told_from runs front (drop i vs) ≡ option_map (λ ys. front ++ ys)
    (then (value_told runs (view v)) (result_ok (ops_told runs (items_told (items_view (drop (i + 1) vs))))))
told_at runs front vs i v h at = ap (told_from runs front) (rest_at vs i v h at)
    ∙ ap (option_map (λ ys. front ++ ys)) (first_told runs (view v) (items_told (items_view (drop (i + 1) vs))))

regroup : (front ys : List Operation) (rest : Option (List Operation))
    → option_map (λ zs. front ++ zs) (then (Ok ys) rest) ≡ option_map (λ zs. (front ++ ys) ++ zs) rest
regroup front ys (Some zs) = ap Some (sym (append_assoc front ys zs))
regroup front ys None = refl

pub value_goes_on : (runs : Bool) (front : List Operation) (vs : List Value) (i : ℕ) (v : Value) (ys : List Operation)
    (total : Option (List Operation)) → i < length vs → v ≡ get_or vs i v → value_told runs (view v) ≡ Ok ys
    → told_from runs front (drop i vs) ≡ total → told_from runs (front ++ ys) (drop (i + 1) vs) ≡ total
value_goes_on runs front vs i v ys total h at is so_far =
    let rest = result_ok (ops_told runs (items_told (items_view (drop (i + 1) vs)))) in
    sym (told_at runs front vs i v h at ∙ ap (λ r. option_map (λ zs. front ++ zs) (then r rest)) is ∙ regroup front ys rest) ∙ so_far

pub only_ok : (r : Result (List Operation) Refusal) (log : List Operation) → result_ok r ≡ Some log → r ≡ Ok log
only_ok (Ok ys) log e = let same : ys ≡ log = cc in ap Ok same
only_ok (Err f) log e = cc

pub all_told : (runs : Bool) (front : List Operation) (vs : List Value) (i : ℕ) (total : Result (List Operation) Refusal)
    → length vs ≤ i → told_from runs front (drop i vs) ≡ result_ok total → total ≡ Ok front
all_told runs front vs i total h so_far =
    only_ok total front (sym so_far ∙ ap (told_from runs front) (drop_all i vs h) ∙ nothing runs)
  where
    nothing : (runs : Bool) → told_from runs front [] ≡ Some front
    nothing true = ap Some (append-nil front)
    nothing false = ap Some (append-nil front)

-- the next operations of a lawful log may follow those before them
pub no_part : (front ys zs log : List Operation) → (front ++ ys) ++ zs ≡ log → IsLawful log → length log ≤ 131072
    → (GoesOn front ys → length front + length ys ≤ 131072 → ⊥) → ⊥
no_part front ys zs log e lawful few not =
    let both : take (length (front ++ ys)) log ≡ front ++ ys =
    ap (take (length (front ++ ys))) (sym e) ∙ take-append_seam (front ++ ys) zs in
    not (goes_on_after [] front ys (subst IsLawful both (IsLawful-take log (length (front ++ ys)) lawful)))
    (omega (arith, few, ap (length {A = Operation}) e, length-append (front ++ ys) zs, length-append front ys))

-- a value whose operations may not follow is none of a lawful log's
pub refuted : (runs : Bool) (front : List Operation) (vs : List Value) (i : ℕ) (v : Value) (log : List Operation) → i < length vs
    → v ≡ get_or vs i v → told_from runs front (drop i vs) ≡ Some log → IsLawful log → length log ≤ 131072
    → ((xs : List Operation) → value_told runs (view v) ≡ Ok xs → GoesOn front xs → length front + length xs ≤ 131072 → ⊥) → ⊥
refuted runs front vs i v log h at so_far lawful few not =
    go (value_told runs (view v)) (result_ok (ops_told runs (items_told (items_view (drop (i + 1) vs))))) refl
    (sym (told_at runs front vs i v h at) ∙ so_far)
  where
    go : (r : Result (List Operation) Refusal) (rest : Option (List Operation)) → value_told runs (view v) ≡ r
        → option_map (λ zs. front ++ zs) (then r rest) ≡ Some log → ⊥
    go (Ok ys) (Some zs) is e =
        no_part front ys zs log (append_assoc front ys zs ∙ (let same : front ++ (ys ++ zs) ≡ log = cc in same)) lawful few (not ys is)
    go (Ok ys) None is e = cc
    go (Err f) rest is e = cc

-- the next of operations that may follow, each those before it, may follow
pub may_next : (old ops front : List Operation) (i : ℕ) (x : Operation) → i < length ops → x ≡ get_or ops i x → front ≡ old ++ take i ops
    → GoesOn old ops → length old + length ops ≤ 131072 → MayFollow front x × (length front < 131072)
may_next old ops front i x h at is goes few =
    let all : take i ops ++ x ∷ drop (i + 1) ops ≡ ops =
    ap (λ xs. take i ops ++ xs) (sym (rest_at ops i x h at)) ∙ take-append-drop i ops in (
      subst (λ f. MayFollow f x) (sym is)
          (goes_on_after old (take i ops) (x ∷ drop (i + 1) ops) (subst (GoesOn old) (sym all) goes)).0,
      omega (arith, few, h, ap (length {A = Operation}) is, length-append old (take i ops), length-take i ops),
    )

-- ---- the operations of a site

count-first : (x : Operation) (log : List Operation) (site : ℕ) → count_of (x ∷ log) site ≡ cond (eqb x.site site) 1 0 + count_of log site
count-first x log site = sum_by-cons (λ (z : Operation). cond (eqb z.site site) 1 0) x log

pub none_of : (log : List Operation) (site : ℕ) → count_of log site ≡ 0 → LacksSite site log
none_of [] site e = tt
none_of (x ∷ log) site e = go (eqb x.site site) refl (sym (count-first x log site) ∙ e) (none_of log site)
  where
    go : (t : Bool) → eqb x.site site ≡ t → cond t 1 0 + count_of log site ≡ 0 → (count_of log site ≡ 0 → LacksSite site log)
        → LacksSite site (x ∷ log)
    go true h f rest = absurd (omega (arith, f))
    go false h f rest = ((λ s. let yes = eq-eqb x.site site s in cc), rest (omega (arith, f)))

pub counts_none : (log : List Operation) (site : ℕ) → LacksSite site log → count_of log site ≡ 0
counts_none [] site l = refl
counts_none (x ∷ log) site l = count-first x log site ∙ go (eqb x.site site) refl (counts_none log site l.1)
  where
    go : (t : Bool) → eqb x.site site ≡ t → count_of log site ≡ 0 → cond t 1 0 + count_of log site ≡ 0
    go true h rest = absurd (l.0 (eqb-true x.site site h))
    go false h rest = omega (arith, rest)
