-- Values that come next of tokens: numbers, texts, lists and objects.
use Rattle.std.proofs.Common.{◌≡◌, ℕ, zero, suc, ◌+◌, ◌<◌, ◌≤◌, List, [], ◌∷◌, ◌++◌, length, Some, None, option_map, option_and_then, refl}
use Rattle.std.proofs.Common.{sym, ap, subst, ◌∙◌, arith}
use Rattle.json.specs.Token.{Token, begin_object, end_object, begin_array, end_array, key, string, number, boolean, null, bad}
use Rattle.json.specs.Json as json
use Rattle.json.specs.Json.{items, members, value, value_with, parse_map, after_end_array, items_step, members_step, read_key, Parse}
use Rattle.serde_json.specs.Data as tree
use Rattle.serde_json.specs.Data.{Data, Items, no_items, item, Members, no_members, put, array, object, unsigned}
use Rattle.serde_json.specs.Read.{of_items, of_members, number_of}
use Rattle.json_bytes.specs.Plain.{deeper, Comes}
use Rattle.json_bytes.specs.Internal.Coming.{TellsItems, TellsEntries, items_of, put_entries, lone_value, value_of_tokens}

-- ---- values by themselves

pub number_comes : (s : List ℕ) (n : ℕ) (new : List Token) → number_of s ≡ Some (unsigned n)
    → Comes 1 (number s ∷ new) (tree.number (unsigned n)) new
unfolding value
number_comes s n new e = record { tree = json.number s; read = λ depth. refl; is = ap (option_map tree.number) e; shorter = omega arith }

pub string_comes : (s : List ℕ) (new : List Token) → Comes 1 (string s ∷ new) (tree.string s) new
unfolding value
string_comes s new = record { tree = json.string s; read = λ depth. refl; is = refl; shorter = omega arith }

pub null_comes : (new : List Token) → Comes 1 (null ∷ new) tree.null new
unfolding value
null_comes new = record { tree = json.null; read = λ depth. refl; is = refl; shorter = omega arith }

-- ---- one after another

pub one_more_item : (levels : ℕ) (old : List Token) (ds : List Data) (d : Data) (now new : List Token) → TellsItems levels old ds now
    → Comes levels now d new → TellsItems levels old (ds ++ d ∷ []) new
one_more_item levels old [] d now new told c = (new, subst (λ ts. Comes levels ts d new) (sym told) c, refl)
one_more_item levels old (x ∷ ds) d now new told c = (told.0, told.1, one_more_item levels told.0 ds d now new told.2 c)

few_items : (levels : ℕ) (old : List Token) (ds : List Data) (new : List Token) → TellsItems levels old ds new
    → length ds + length new ≤ length old
few_items levels old [] new told = omega (arith, ap length told)
few_items levels old (d ∷ ds) new told = omega (arith, told.1.shorter, few_items levels told.0 ds new told.2)

few_entries : (levels : ℕ) (old : List Token) (es : List (List ℕ × Data)) (new : List Token) → TellsEntries levels old es new
    → length es + length new ≤ length old
few_entries levels old [] new told = omega (arith, ap length told)
few_entries levels old (e ∷ es) new told =
    omega (arith, ap length told.2, told.3.shorter, few_entries levels told.1 es new told.4)

-- ---- lists

-- a value doesn't begin with a closing bracket
no_end_with : (a : Parse json.Items) (o : Parse json.Members) (ts : List Token) (r : json.Json × List Token) → value_with a o ts ≡ Some r
    → after_end_array ts ≡ None
no_end_with a o [] r e = cc
no_end_with a o (begin_object ∷ ts) r e = refl
no_end_with a o (end_object ∷ ts) r e = refl
no_end_with a o (begin_array ∷ ts) r e = refl
no_end_with a o (end_array ∷ ts) r e = cc
no_end_with a o (key s ∷ ts) r e = refl
no_end_with a o (string s ∷ ts) r e = refl
no_end_with a o (number s ∷ ts) r e = refl
no_end_with a o (boolean b ∷ ts) r e = refl
no_end_with a o (null ∷ ts) r e = refl
no_end_with a o (bad ∷ ts) r e = refl

no_end : (depth : ℕ) (ts : List Token) (r : json.Json × List Token) → value depth ts ≡ Some r → after_end_array ts ≡ None
unfolding value
no_end zero ts r e = no_end_with (λ x. None) (λ x. None) ts r e
no_end (suc depth) ts r e =
    no_end_with (λ x. items (value depth) (length x) x) (λ x. members (value depth) (length x) x) ts r e

-- the items are read as these
abbrev AreItems : ℕ → List Token → List Data → List Token → Type 0
AreItems levels ts ds new =
    (js : json.Items)
    × ((depth n : ℕ) → length ds < n → items (value (deeper levels depth)) n ts ≡ Some (js, new))
    × (of_items js ≡ Some (items_of ds))

no_more_items : (f : Parse json.Json) (n count : ℕ) (ts new : List Token) → ts ≡ end_array ∷ new → count < n
    → items f n ts ≡ Some (json.no_items, new)
unfolding items
no_more_items f zero count ts new e l = absurd (omega (arith, l))
no_more_items f (suc n) count ts new e l = ap (λ x. items_step f (items f n) x (after_end_array x)) e

more_items : (f : Parse json.Json) (n count : ℕ) (ts rest new : List Token) (j : json.Json) (js : json.Items) → after_end_array ts ≡ None
    → f ts ≡ Some (j, rest) → suc count < n → ((m : ℕ) → count < m → items f m rest ≡ Some (js, new))
    → items f n ts ≡ Some (json.item j js, new)
unfolding items
more_items f zero count ts rest new j js none first l read = absurd (omega (arith, l))
more_items f (suc n) count ts rest new j js none first l read =
    ap (items_step f (items f n) ts) none
    ∙ ap (option_and_then (λ p. parse_map (json.item p.0) (items f n p.1))) first
    ∙ ap (parse_map (json.item j)) (read n (omega (arith, l)))

items_read : (levels : ℕ) (ts : List Token) (ds : List Data) (new : List Token) → TellsItems levels ts ds (end_array ∷ new)
    → AreItems levels ts ds new
items_read levels ts [] new told =
    (json.no_items, (λ depth n l. no_more_items (value (deeper levels depth)) n 0 ts new told l), refl)
items_read levels ts (d ∷ ds) new told =
    let more = items_read levels told.0 ds new told.2 in (
      json.item told.1.tree more.0,
      (λ depth n l. more_items (value (deeper levels depth)) n (length ds) ts told.0 new told.1.tree more.0
          (no_end (deeper levels depth) ts (told.1.tree, told.0) (told.1.read depth)) (told.1.read depth) l (more.1 depth)),
      ap (option_and_then (λ e. option_map (item e) (of_items more.0))) told.1.is ∙ ap (option_map (item d)) more.2,
    )

pub array_comes : (levels : ℕ) (ts : List Token) (ds : List Data) (new : List Token) → TellsItems levels ts ds (end_array ∷ new)
    → Comes (suc levels) (begin_array ∷ ts) (array (items_of ds)) new
unfolding value
array_comes levels ts ds new told =
    let read = items_read levels ts ds new told in
    let few : length ds + length (end_array ∷ new) ≤ length ts = few_items levels ts ds (end_array ∷ new) told in
    record {
      tree = json.array read.0;
      read = λ depth. ap (parse_map json.array) (read.1 depth (length ts) (omega (arith, few)));
      is = ap (option_map array) read.2;
      shorter = omega (arith, few);
    }

-- ---- objects

abbrev AreMembers : ℕ → List Token → List (List ℕ × Data) → List Token → Type 0
AreMembers levels ts es new =
    (ms : json.Members)
    × ((depth n : ℕ) → length es < n → members (value (deeper levels depth)) n ts ≡ Some (ms, new))
    × ((found : Members) → of_members ms found ≡ Some (put_entries es found))

no_more_members : (f : Parse json.Json) (n count : ℕ) (ts new : List Token) → ts ≡ end_object ∷ new → count < n
    → members f n ts ≡ Some (json.no_members, new)
unfolding members
no_more_members f zero count ts new e l = absurd (omega (arith, l))
no_more_members f (suc n) count ts new e l =
    ap (λ x. option_and_then (λ p. members_step f (members f n) p.0 p.1) (read_key x)) e

more_members : (f : Parse json.Json) (n count : ℕ) (k : List ℕ) (ts mid rest new : List Token) (j : json.Json) (ms : json.Members)
    → ts ≡ key k ∷ mid → f mid ≡ Some (j, rest) → suc count < n → ((m : ℕ) → count < m → members f m rest ≡ Some (ms, new))
    → members f n ts ≡ Some (json.member k j ms, new)
unfolding members
more_members f zero count k ts mid rest new j ms e first l read = absurd (omega (arith, l))
more_members f (suc n) count k ts mid rest new j ms e first l read =
    ap (λ x. option_and_then (λ p. members_step f (members f n) p.0 p.1) (read_key x)) e
    ∙ ap (option_and_then (λ p. parse_map (json.member k p.0) (members f n p.1))) first
    ∙ ap (parse_map (json.member k j)) (read n (omega (arith, l)))

members_read : (levels : ℕ) (ts : List Token) (es : List (List ℕ × Data)) (new : List Token)
    → TellsEntries levels ts es (end_object ∷ new) → AreMembers levels ts es new
members_read levels ts [] new told =
    (json.no_members, (λ depth n l. no_more_members (value (deeper levels depth)) n 0 ts new told l), (λ found. refl))
members_read levels ts (e ∷ es) new told =
    let more = members_read levels told.1 es new told.4 in (
      json.member e.0 told.3.tree more.0,
      (λ depth n l. more_members (value (deeper levels depth)) n (length es) e.0 ts told.0 told.1 new told.3.tree more.0
          told.2 (told.3.read depth) l (more.1 depth)),
      (λ found. ap (option_and_then (λ d. of_members more.0 (put e.0 d found))) told.3.is ∙ more.2 (put e.0 e.1 found)),
    )

pub object_comes : (levels : ℕ) (ts : List Token) (es : List (List ℕ × Data)) (new : List Token)
    → TellsEntries levels ts es (end_object ∷ new) → Comes (suc levels) (begin_object ∷ ts) (object (put_entries es no_members)) new
unfolding value
object_comes levels ts es new told =
    let read = members_read levels ts es new told in
    let few : length es + length (end_object ∷ new) ≤ length ts = few_entries levels ts es (end_object ∷ new) told in
    record {
      tree = json.object read.0;
      read = λ depth. ap (parse_map json.object) (read.1 depth (length ts) (omega (arith, few)));
      is = ap (option_map object) (read.2 no_members);
      shorter = omega (arith, few);
    }

pub five_deep : (old new : List Token) (d : Data) → Comes 1 old d new → Comes 5 old d new
five_deep old new d c =
    record { tree = c.tree; read = λ depth. c.read (suc (suc (suc (suc depth)))); is = c.is; shorter = c.shorter }

pub whole : (all : List Token) (d : Data) → Comes 6 all d [] → value_of_tokens all ≡ Some d
whole all d c = ap lone_value (c.read 121) ∙ c.is

-- a value with fewer levels has no more than that
pub less_deep : (old new : List Token) (d : Data) → Comes 1 old d new → Comes 2 old d new
less_deep old new d c = record { tree = c.tree; read = λ depth. c.read (suc depth); is = c.is; shorter = c.shorter }

pub three_deep : (old new : List Token) (d : Data) → Comes 2 old d new → Comes 3 old d new
three_deep old new d c = record { tree = c.tree; read = λ depth. c.read (suc depth); is = c.is; shorter = c.shorter }
