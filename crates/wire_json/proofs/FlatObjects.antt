-- The tokens of an object with whole numbers and texts are read as that object, in which its keys are looked up.
use Rattle.std.proofs.Common.{◌≡◌, ℕ, zero, suc, ◌+◌, ◌*◌, ◌<◌, ◌≤◌, ◌&&◌, List, [], ◌∷◌, ◌++◌, length, take, map, Bor, get_or, Some, None}
use Rattle.std.proofs.Common.{option_and_then, option_map, Ok, Err, Bool, true, false, cond, if◌then◌else◌, bytes_eq, Ordering, Less, Equal}
use Rattle.std.proofs.Common.{Greater, nat_cmp, is_eq, true≢false, refl, sym, ap, ◌∙◌, subst, add-one, arith}
use Rattle.std.proofs.Math.Seq.{take-suc}
use Rattle.std.proofs.Math.Bool.{and-true}
use Rattle.std.proofs.lemmas.List.Folds.{list_all_more, list_any_at}
use Rattle.std.proofs.lemmas.Map.Text.{is_eq-slice_cmp}
use Rattle.std.proofs.lemmas.Slice.Eq.{bytes_eq-Decides}
use Rattle.std.specs.List.{list_all}
use Rattle.std.specs.Cmp.Lexicographic.{slice_cmp}
use Rattle.std.specs.Ordering.{match_ordering}
use Rattle.json.specs.Token.{Token, begin_object, end_object, begin_array, end_array, key, string, number, boolean, null, bad}
use Rattle.json.specs.Json as json
use Rattle.json.specs.Json.{members, value, parse_map}
use Rattle.serde_json.specs.Data as tree
use Rattle.serde_json.specs.Data.{Data, Members, no_members, member, put, object}
use Rattle.serde_json.specs.Find.{get_member, as_array}
use Rattle.serde_json.specs.Read.{of_json, of_members}
use Rattle.serde_json.proofs.Views.{get_member-put, get_member-put_other}
use Rattle.opid.specs.declared.refusal.Refusal.TheVariants.{BadField}
use Rattle.wire_json.specs.declared.request.flat.Primitive.{Primitive}
use Rattle.wire_json.specs.declared.request.flat.Primitive.TheVariants.{Number, Text}
use Rattle.wire_json.specs.declared.request.flat.Member.{Member}
use Rattle.wire_json.specs.declared.request.flat.Next.TheVariants as nexts
use Rattle.operation_json.specs.Members.{or_refuse, is_known, are_among, only_keys}
use Rattle.operation_json.specs.Operations.{items_told, list_at}
use Rattle.operation_json.proofs.Lists.{list_any-map}
use Rattle.json_bytes.specs.Internal.Coming.{lone_value, value_of_tokens}
use Rattle.wire_json.specs.Internal.Flat.{primitive_data, put_all, flat_data, IsPrimitive, ReadsNext, TellsMembers}

-- ---- members one after another

with_one_more : (old : List Token) (ms : List Member) (m : Member) (t : Token) (new : List Token)
    → TellsMembers old ms (key m.key.now ∷ t ∷ new) → IsPrimitive t m.value → TellsMembers old (ms ++ m ∷ []) new
with_one_more old [] m t new told plain = (t, new, told, plain, refl)
with_one_more old (x ∷ ms) m t new told plain = (told.0, told.1, told.2, told.3, with_one_more told.1 ms m t new told.4 plain)

-- each takes two tokens
count : (old : List Token) (ms : List Member) (new : List Token) → TellsMembers old ms new → length old ≡ 2 * length ms + length new
count old [] new told = ap length told ∙ omega arith
count old (m ∷ ms) new told = ap length told.2 ∙ (let rest = count told.1 ms new told.4 in omega (arith, rest))

-- ---- a token that is a value by itself

-- the tree that the token is, which is the value
abbrev Leaf : ℕ → Token → Data → Type 0
Leaf depth t d = (j : json.Json) × ((ts : List Token) → value depth (t ∷ ts) ≡ Some (j, ts)) × (of_json j ≡ Some d)

leaf : (depth : ℕ) (t : Token) (v : Primitive) → IsPrimitive t v → Leaf (suc depth) t (primitive_data v)
unfolding value
leaf depth (string s) (Text x) plain = (json.string s, (λ ts. refl), ap (λ y. Some (tree.string y)) plain)
leaf depth (number s) (Number n) plain = (json.number s, (λ ts. refl), ap (option_map tree.number) plain)
leaf depth (string s) (Number n) plain = absurd plain
leaf depth (number s) (Text x) plain = absurd plain
leaf depth begin_object v plain = absurd plain
leaf depth end_object v plain = absurd plain
leaf depth begin_array v plain = absurd plain
leaf depth end_array v plain = absurd plain
leaf depth (key s) v plain = absurd plain
leaf depth (boolean b) v plain = absurd plain
leaf depth null v plain = absurd plain
leaf depth bad v plain = absurd plain

-- ---- the whole

-- the members are read, and put in one after another
abbrev AreRead : ℕ → ℕ → List Token → Members → Members → Type 0
AreRead depth n ts old found = (js : json.Members) × (members (value (suc depth)) n ts ≡ Some (js, [])) × (of_members js old ≡ Some found)

more_read : (depth n : ℕ) (k : List ℕ) (t : Token) (rest : List Token) (old found : Members) (d : Data) → Leaf (suc depth) t d
    → AreRead depth n rest (put k d old) found → AreRead depth (suc n) (key k ∷ t ∷ rest) old found
unfolding members
more_read depth n k t rest old found d leaf read = (
  json.member k leaf.0 read.0,
  ap (option_and_then (λ p. parse_map (json.member k p.0) (members (value (suc depth)) n p.1))) (leaf.1 rest)
      ∙ ap (parse_map (json.member k leaf.0)) read.1,
  ap (option_and_then (λ e. of_members read.0 (put k e old))) leaf.2 ∙ read.2,
)

all_read : (depth n : ℕ) (ms : List Member) (ts : List Token) (old : Members) → length ms < n → TellsMembers ts ms (end_object ∷ [])
    → AreRead depth n ts old (put_all ms old)
unfolding members
all_read depth zero ms ts old enough told = absurd (omega arith)
all_read depth (suc n) [] ts old enough told = (json.no_members, ap (members (value (suc depth)) (suc n)) told, refl)
all_read depth (suc n) (m ∷ ms) ts old enough told =
    subst (λ l. AreRead depth (suc n) l old (put_all ms (put m.key.now (primitive_data m.value) old))) (sym told.2)
    (more_read depth n m.key.now told.0 told.1 old _ (primitive_data m.value) (leaf depth told.0 m.value told.3)
    (all_read depth n ms told.1 (put m.key.now (primitive_data m.value) old) (omega arith) told.4))

object_read : (ts : List Token) (ms : List Member) → TellsMembers ts ms (end_object ∷ [])
    → value_of_tokens (begin_object ∷ ts) ≡ Some (flat_data ms)
unfolding value
object_read ts ms told =
    let size = count ts ms (end_object ∷ []) told in
    let read = all_read 125 (length ts) ms ts no_members (omega (arith, size)) told in
    ap (λ o. lone_value (parse_map json.object o)) read.1 ∙ ap (option_map object) read.2

-- ---- the reader's steps

pub one_more : (old : List Token) (ms : List Member) (m : Member) (now new : List Token)
    → TellsMembers old ms now → ReadsNext now (nexts.Member m) new → TellsMembers old (ms ++ m ∷ []) new
one_more old ms m now new told next = with_one_more old ms m next.0 new (subst (TellsMembers old ms) next.1 told) next.2

pub whole_object : (all ts : List Token) (ms : List Member) (now : List Token)
    → all ≡ begin_object ∷ ts → TellsMembers ts ms now → now ≡ end_object ∷ [] → value_of_tokens all ≡ Some (flat_data ms)
whole_object all ts ms now begun told ended = ap value_of_tokens begun ∙ object_read ts ms (subst (TellsMembers ts ms) ended told)

-- ---- looking a key up

-- what was put in last is found at its key, and the others as before
get_put : (q k : List ℕ) (d : Data) (ms : Members) (b : Bool) → bytes_eq k q ≡ b
    → get_member q (put k d ms) ≡ cond b (Some d) (get_member q ms)
get_put q k d ms true e = subst (λ l. get_member l (put k d ms) ≡ Some d) ((bytes_eq-Decides k q).0 e) (get_member-put k d ms)
get_put q k d ms false e = get_member-put_other q k d ms (λ same. true≢false (sym ((bytes_eq-Decides k q).1 (sym same)) ∙ e))

put_last : (ms : List Member) (m : Member) (old : Members)
    → put_all (ms ++ m ∷ []) old ≡ put m.key.now (primitive_data m.value) (put_all ms old)
put_last [] m old = refl
put_last (x ∷ ms) m old = put_last ms m (put x.key.now (primitive_data x.value) old)

-- a key is looked up in the first n members: in the last of these, whose number is i, and then in those before it
pub looked_up : (q : List ℕ) (ms : List Member) (n i : ℕ) (none : Member) (b : Bool)
    → n ≡ i + 1 → i < length ms → bytes_eq (get_or ms i none).key.now q ≡ b
    → get_member q (put_all (take n ms) no_members)
    ≡ cond b (Some (primitive_data (get_or ms i none).value)) (get_member q (put_all (take i ms) no_members))
looked_up q ms n i none b last within same =
    ap (λ l. get_member q (put_all l no_members)) (ap (λ k. take k ms) (last ∙ add-one i) ∙ take-suc ms i none within)
    ∙ ap (get_member q) (put_last (take i ms) (get_or ms i none) no_members)
    ∙ get_put q (get_or ms i none).key.now (primitive_data (get_or ms i none).value) (put_all (take i ms) no_members) b same

-- no member is a list
no_list_put : (q k : List ℕ) (v : Primitive) (old : Members) → option_and_then as_array (get_member q old) ≡ None
    → option_and_then as_array (get_member q (put k (primitive_data v) old)) ≡ None
no_list_put q k v old none = ap (option_and_then as_array) (get_put q k (primitive_data v) old _ refl) ∙ go (bytes_eq k q) v
  where
    go : (b : Bool) (v : Primitive) → option_and_then as_array (cond b (Some (primitive_data v)) (get_member q old)) ≡ None
    go true (Number n) = refl
    go true (Text s) = refl
    go false v = none

no_lists : (q : List ℕ) (ms : List Member) (old : Members) → option_and_then as_array (get_member q old) ≡ None
    → option_and_then as_array (get_member q (put_all ms old)) ≡ None
no_lists q [] old none = none
no_lists q (m ∷ ms) old none = no_lists q ms (put m.key.now (primitive_data m.value) old) (no_list_put q m.key.now m.value old none)

pub no_list : (q : List ℕ) (ms : List Member) → list_at q (flat_data ms) ≡ Err BadField
no_list q ms = ap (λ o. or_refuse BadField (option_map items_told o)) (no_lists q ms no_members refl)

-- ---- the keys

twice : (a b : Bool) → a && b ≡ a && (a && b)
twice true b = refl
twice false b = refl

swapped : (a b c : Bool) → a && (b && c) ≡ b && (a && c)
swapped true true c = refl
swapped true false c = refl
swapped false true c = refl
swapped false false c = refl

moved : (a b c : Bool) → a && (b && c) ≡ (b && a) && c
moved true true c = refl
moved true false c = refl
moved false true c = refl
moved false false c = refl

among_put_at : (o : Ordering) (row : List (List ℕ)) (k l : List ℕ) (d e : Data) (ms : Members) → slice_cmp nat_cmp k l ≡ o
    → are_among row (put k d ms) ≡ is_known row k && are_among row ms
    → are_among row (match_ordering o (member k d (member l e ms)) (member l d ms) (member l e (put k d ms)))
    ≡ is_known row k && (is_known row l && are_among row ms)
among_put_at Less row k l d e ms is more = refl
among_put_at Equal row k l d e ms is more =
    let same : k ≡ l = (bytes_eq-Decides k l).0 (sym (is_eq-slice_cmp k l) ∙ ap is_eq is) in
    subst (λ x. is_known row l && are_among row ms ≡ is_known row x && (is_known row l && are_among row ms)) (sym same)
    (twice (is_known row l) (are_among row ms))
among_put_at Greater row k l d e ms is more =
    ap (λ b. is_known row l && b) more ∙ swapped (is_known row l) (is_known row k) (are_among row ms)

among_put : (row : List (List ℕ)) (k : List ℕ) (d : Data) (ms : Members) → are_among row (put k d ms) ≡ is_known row k && are_among row ms
among_put row k d no_members = refl
among_put row k d (member l e ms) = among_put_at _ row k l d e ms refl (among_put row k d ms)

-- each key is one of the row
abbrev pub all_known : List (List ℕ) → List Member → Bool
all_known row ms = list_all (λ m. is_known row m.key.now) ms

-- the keys so far are of the row, and so is the next, which is the row's at its place
pub one_more_known : (row : List (Bor (List ℕ))) (ms : List Member) (i : ℕ) (no_name : Bor (List ℕ)) (none : Member)
    → i < length ms → length ms ≤ length row → bytes_eq (get_or row i no_name).now (get_or ms i none).key.now ≡ true
    → all_known (map (λ name. name.now) row) (take i ms) ≡ true → all_known (map (λ name. name.now) row) (take (i + 1) ms) ≡ true
one_more_known row ms i no_name none within enough same so_far =
    list_all_more (λ m. is_known (map (λ name. name.now) row) m.key.now) ms i none within
    ∙ ap (λ b. b && is_known (map (λ name. name.now) row) (get_or ms i none).key.now) so_far
    ∙ list_any-map (λ name. bytes_eq name (get_or ms i none).key.now) (λ name. name.now) row
    ∙ list_any_at (λ name. bytes_eq name.now (get_or ms i none).key.now) row i no_name (omega (arith, within, enough)) same

keys_among : (row : List (List ℕ)) (ms : List Member) (old : Members)
    → are_among row (put_all ms old) ≡ all_known row ms && are_among row old
keys_among row [] old = refl
keys_among row (m ∷ ms) old =
    keys_among row ms (put m.key.now (primitive_data m.value) old)
    ∙ ap (λ b. all_known row ms && b) (among_put row m.key.now (primitive_data m.value) old)
    ∙ moved (all_known row ms) (is_known row m.key.now) (are_among row old)

kept_or_refused : (b : Bool) → or_refuse {A = Unit {0}} BadField (if b then Some tt else None) ≡ (if b then Ok tt else Err BadField)
kept_or_refused true = refl
kept_or_refused false = refl

pub only_of : (row : List (List ℕ)) (ms : List Member) → only_keys row (flat_data ms) ≡ (if all_known row ms then Ok tt else Err BadField)
only_of row ms =
    ap (λ b. or_refuse {A = Unit {0}} BadField (if b then Some tt else None)) (keys_among row ms no_members ∙ and-true (all_known row ms))
    ∙ kept_or_refused (all_known row ms)
