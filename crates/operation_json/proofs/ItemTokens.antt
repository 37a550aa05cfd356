-- The objects that tell operations and runs, once what they have was read.
use Rattle.std.proofs.Common.{◌≡◌, ℕ, ◌+◌, ◌<◌, ◌≤◌, ◌^◌, List, [], ◌∷◌, Bool, true, false, Option, Some, None, Ok, refl, sym, ap, subst}
use Rattle.std.proofs.Common.{lt-ltb, arith, length, sum, codes}
use mathlib.Core.Path.{ap₂}
use Rattle.std.specs.Prelude.{nat_le}
use Rattle.std.specs.Str.{chars}
use Rattle.std.proofs.lemmas.Bool.Decides.{nat_tests}
use Rattle.json.specs.Token.{Token, begin_array, begin_object, key}
use Rattle.serde_json.specs.Data.{Data, number, string, unsigned, array, object, no_members}
use Rattle.opid.specs.Clocks.{entry}
use Rattle.opid.specs.declared.stamp.Stamp.{Stamp}
use Rattle.opid.specs.declared.kind.OpKind.{OpKind}
use Rattle.opid.specs.declared.kind.OpKind.TheVariants.{Ins, Del}
use Rattle.opid.specs.Operations.{Operation}
use Rattle.causal_clock.specs.Listing.{clock_told}
use Rattle.operation_json.specs.Members.{◌>>=◌}
use Rattle.operation_json.specs.Operations.{Offer, each, items_told, pair_of, parent_of, stamp_told, only_char}
use Rattle.operation_json.specs.Operations.{sited_pair, sited_stamp, sited_kind}
use Rattle.operation_json.specs.Operations.{offered_insertion, offered_deletion, offer_of, sited, operation, op_of}
use Rattle.operation_json.specs.Packing.{typed_behind}
use Rattle.operation_json.specs.PackedOperations.{ItemOffer, lone, run_chars, run_of, item_offer_of, item_ops_of}
use Rattle.json_bytes.specs.Plain.{Comes}
use Rattle.operation_json.specs.Internal.MemberTokens.{IsSitedParent, ReadsClock, ReadsTyped, ReadsInsertion, ReadsRun, ReadsDeletion}
use Rattle.operation_json.specs.ItemTokens.{ReadsItem}
use Rattle.json_bytes.specs.Internal.Coming.{items_of, put_entries}
use Rattle.json_bytes.proofs.Come.{array_comes, object_comes, less_deep, three_deep}
use Rattle.operation_json.proofs.MemberTokens.{site_stays}

-- the items are those of the list
pub told_back : (ds : List Data) → items_told (items_of ds) ≡ ds
told_back [] = refl
told_back (d ∷ ds) = ap (λ es. d ∷ es) (told_back ds)

-- ---- the members of an object

abbrev typed_entries : List ℕ → List Data → Data → ℕ → List ℕ → List (List ℕ × Data)
typed_entries letter cs p s x =
    (codes "c", array (items_of cs)) ∷ (codes "k", string letter) ∷ (codes "p", p) ∷ (codes "s", number (unsigned s))
    ∷ (codes "x", string x) ∷ []

abbrev typed_object : List ℕ → List Data → Data → ℕ → List ℕ → Data
typed_object letter cs p s x = object (put_entries (typed_entries letter cs p s x) no_members)

abbrev deleted_entries : List Data → ℕ → Data → List (List ℕ × Data)
deleted_entries cs s t =
    (codes "c", array (items_of cs)) ∷ (codes "k", string (codes "d")) ∷ (codes "s", number (unsigned s)) ∷ (codes "t", t) ∷ []

abbrev deleted_object : List Data → ℕ → Data → Data
deleted_object cs s t = object (put_entries (deleted_entries cs s t) no_members)

small : (s : ℕ) → s < 32 → s < 2 ^ 32
small s h = omega (arith, h)

insertion_offered : (letter : List ℕ) (cs : List Data) (pairs : List (ℕ × ℕ)) (d : Data) (p : Option Stamp) (s : ℕ) (x : List ℕ) (ch : ℕ)
    → each pair_of cs ≡ Ok pairs → parent_of d ≡ Ok p → s < 32 → only_char x ≡ Some ch
    → offered_insertion (typed_object letter cs d s x)
    ≡ Ok (let o : Offer = record { site = s; pairs = pairs; kind = Ins p ch } in o)
insertion_offered letter cs pairs d p s x ch ps pa h one =
    rw (told_back cs) (rw ps (rw pa (rw (lt-ltb s (2 ^ 32) (small s h)) (rw one refl))))

run_offered : (letter : List ℕ) (cs : List Data) (pairs : List (ℕ × ℕ)) (d : Data) (p : Option Stamp) (s : ℕ) (x : List ℕ) (ch : ℕ)
    (more : List ℕ) → each pair_of cs ≡ Ok pairs → parent_of d ≡ Ok p → s < 32 → run_chars (chars x) ≡ Ok (ch, more)
    → run_of (typed_object letter cs d s x)
    ≡ Ok (let o : ItemOffer = record { first = record { site = s; pairs = pairs; kind = Ins p ch }; more = more } in o)
run_offered letter cs pairs d p s x ch more ps pa h all =
    rw (told_back cs) (rw ps (rw pa (rw (lt-ltb s (2 ^ 32) (small s h)) (rw all refl))))

deletion_offered : (cs : List Data) (pairs : List (ℕ × ℕ)) (s : ℕ) (d : Data) (t : Stamp) → each pair_of cs ≡ Ok pairs
    → s < 32 → stamp_told d ≡ Ok t
    → offered_deletion (deleted_object cs s d) ≡ Ok (let o : Offer = record { site = s; pairs = pairs; kind = Del t } in o)
deletion_offered cs pairs s d t ps h st =
    rw (told_back cs) (rw ps (rw (lt-ltb s (2 ^ 32) (small s h)) (rw st refl)))

-- ---- sites and clocks

parent_stays : (p : Option Stamp) (ch : ℕ) → IsSitedParent p → sited_kind (Ins p ch) ≡ Ok (Ins p ch)
parent_stays None ch h = refl
parent_stays (Some s) ch h = rw h refl

target_stays : (t : Stamp) → sited_stamp t ≡ Ok t → sited_kind (Del t) ≡ Ok (Del t)
target_stays t h = rw h refl

stays : (s : ℕ) (pairs : List (ℕ × ℕ)) (kind : OpKind) → s < 32 → each sited_pair pairs ≡ Ok pairs → sited_kind kind ≡ Ok kind
    → sited (let o : Offer = record { site = s; pairs = pairs; kind = kind } in o)
    ≡ Ok (let o : Offer = record { site = s; pairs = pairs; kind = kind } in o)
stays s pairs kind h ps k = rw (site_stays s h) (rw ps (rw k refl))

counted : (s : ℕ) (pairs : List (ℕ × ℕ)) (clock : List ℕ) (kind : OpKind) → clock_told pairs ≡ Ok clock → 0 < entry clock s
    → operation (let o : Offer = record { site = s; pairs = pairs; kind = kind } in o)
    ≡ Ok (let x : Operation = record { site = s; clock = clock; kind = kind } in x)
counted s pairs clock kind told h = rw told (rw (lt-ltb 0 (entry clock s) h) refl)

few_enough : (n : ℕ) → n ≤ 131072 → nat_le n 131072 ≡ true
few_enough n h = grind (arith, nat_tests)

-- an offer that is one operation
abbrev offer_with : ℕ → List (ℕ × ℕ) → OpKind → Offer
offer_with s pairs kind = record { site = s; pairs = pairs; kind = kind }

abbrev operation_with : ℕ → List ℕ → OpKind → Operation
operation_with s clock kind = record { site = s; clock = clock; kind = kind }

one_told : (d : Data) (s : ℕ) (pairs : List (ℕ × ℕ)) (clock : List ℕ) (kind : OpKind) → offer_of d ≡ Ok (offer_with s pairs kind) → s < 32
    → each sited_pair pairs ≡ Ok pairs → sited_kind kind ≡ Ok kind → clock_told pairs ≡ Ok clock → 0 < entry clock s
    → op_of d ≡ Ok (operation_with s clock kind)
one_told d s pairs clock kind offered h ps k told c =
    rw offered (rw (stays s pairs kind h ps k) (counted s pairs clock kind told c))

items_told_by : (d : Data) (s : ℕ) (pairs : List (ℕ × ℕ)) (clock : List ℕ) (kind : OpKind) (more : List ℕ)
    → item_offer_of d ≡ Ok (let o : ItemOffer = record { first = offer_with s pairs kind; more = more } in o) → s < 32
    → each sited_pair pairs ≡ Ok pairs → sited_kind kind ≡ Ok kind → clock_told pairs ≡ Ok clock → 0 < entry clock s
    → sum clock + length more ≤ 131072
    → item_ops_of d ≡ Ok (operation_with s clock kind ∷ typed_behind (operation_with s clock kind) more)
items_told_by d s pairs clock kind more offered h ps k told c few =
    let small = few_enough (sum clock + length more) few in
    rw offered (rw (stays s pairs kind h ps k) (rw (counted s pairs clock kind told c) (rw small refl)))

-- ---- the whole object

typed_told : (letter : List ℕ) (all mid l1 l2 new : List Token) (clock : List ℕ) (p : Option Stamp) (s : ℕ) (x : List ℕ)
    (c : ReadsClock all clock mid) → mid ≡ key (codes "k") ∷ l1 → Comes 1 l1 (string letter) l2 → (t : ReadsTyped l2 p s x new)
    → Comes 4 (begin_object ∷ all) (typed_object letter c.told.values t.value s x) new
typed_told letter all mid l1 l2 new clock p s x c k first t =
    object_comes 3 all (typed_entries letter c.told.values t.value s x) new (
      begin_array ∷ c.rest,
      mid,
      c.opened,
      array_comes 2 c.rest c.told.values mid c.told.told,
      (l1, l2, k, three_deep l1 l2 (string letter) (less_deep l1 l2 (string letter) first), t.told),
    )

own : (x : Operation) (clock : List ℕ) (kind : OpKind) → x.clock ≡ clock → x.kind ≡ kind → operation_with x.site clock kind ≡ x
own x clock kind c k = sym (ap₂ (λ cl kd. operation_with x.site cl kd) c k)

pub insertion_item : (all mid l1 l2 new : List Token) (clock : List ℕ) (x : Operation) → ReadsClock all clock mid
    → mid ≡ key (codes "k") ∷ l1 → Comes 1 l1 (string (codes "i")) l2 → ReadsInsertion l2 x new → x.clock ≡ clock
    → ReadsItem all x [] false new
insertion_item all mid l1 l2 new clock x c k first i same =
    let kind : OpKind = Ins i.parent i.ch in
    let here : operation_with x.site clock kind ≡ x = own x clock kind same i.kind in
    let positive : 0 < entry clock x.site = subst (λ cl. 0 < entry cl x.site) same i.counted in
    let small : sum clock + 0 ≤ 131072 = subst (λ cl. sum cl + 0 ≤ 131072) same (omega (arith, i.few)) in
    let offered = insertion_offered (codes "i") c.told.values c.pairs i.told.value i.parent x.site i.text i.ch c.told.are i.told.is i.told.site i.one in
    let d : Data = typed_object (codes "i") c.told.values i.told.value x.site i.text in
    record {
      value = d;
      first = typed_told (codes "i") all mid l1 l2 new clock i.parent x.site i.text c k first i.told;
      ops =
          subst (λ (y : Operation). item_ops_of d ≡ Ok (y ∷ typed_behind y [])) here
          (items_told_by d x.site c.pairs clock kind [] (ap (λ r. r >>= lone) offered) i.told.site c.told.sited
          (parent_stays i.parent i.ch i.told.sited) c.is positive small);
      op = λ no.
          subst (λ (y : Operation). op_of d ≡ Ok y) here
          (one_told d x.site c.pairs clock kind offered i.told.site c.told.sited (parent_stays i.parent i.ch i.told.sited) c.is positive);
    }

pub run_item : (all mid l1 l2 new : List Token) (clock : List ℕ) (x : Operation) (more : List ℕ) → ReadsClock all clock mid
    → mid ≡ key (codes "k") ∷ l1 → Comes 1 l1 (string (codes "r")) l2 → ReadsRun l2 x more new → x.clock ≡ clock
    → ReadsItem all x more true new
run_item all mid l1 l2 new clock x more c k first i same =
    let kind : OpKind = Ins i.parent i.ch in
    let here : operation_with x.site clock kind ≡ x = own x clock kind same i.kind in
    let positive : 0 < entry clock x.site = subst (λ cl. 0 < entry cl x.site) same i.counted in
    let small : sum clock + length more ≤ 131072 = subst (λ cl. sum cl + length more ≤ 131072) same i.few in
    let offered = run_offered (codes "r") c.told.values c.pairs i.told.value i.parent x.site i.text i.ch more c.told.are i.told.is i.told.site i.all in
    let d : Data = typed_object (codes "r") c.told.values i.told.value x.site i.text in
    record {
      value = d;
      first = typed_told (codes "r") all mid l1 l2 new clock i.parent x.site i.text c k first i.told;
      ops =
          subst (λ (y : Operation). item_ops_of d ≡ Ok (y ∷ typed_behind y more)) here
          (items_told_by d x.site c.pairs clock kind more offered i.told.site c.told.sited
          (parent_stays i.parent i.ch i.told.sited) c.is positive small);
      op = λ no. cc;
    }

pub deletion_item : (all mid l1 l2 new : List Token) (clock : List ℕ) (x : Operation) → ReadsClock all clock mid
    → mid ≡ key (codes "k") ∷ l1 → Comes 1 l1 (string (codes "d")) l2 → ReadsDeletion l2 x new → x.clock ≡ clock
    → ReadsItem all x [] false new
deletion_item all mid l1 l2 new clock x c k first i same =
    let kind : OpKind = Del i.target in
    let here : operation_with x.site clock kind ≡ x = own x clock kind same i.kind in
    let positive : 0 < entry clock x.site = subst (λ cl. 0 < entry cl x.site) same i.counted in
    let small : sum clock + 0 ≤ 131072 = subst (λ cl. sum cl + 0 ≤ 131072) same (omega (arith, i.few)) in
    let offered = deletion_offered c.told.values c.pairs x.site i.told.value i.target c.told.are i.told.site i.told.is in
    let d : Data = deleted_object c.told.values x.site i.told.value in
    record {
      value = d;
      first =
          object_comes 3 all (deleted_entries c.told.values x.site i.told.value) new (
            begin_array ∷ c.rest,
            mid,
            c.opened,
            array_comes 2 c.rest c.told.values mid c.told.told,
            (l1, l2, k, three_deep l1 l2 (string (codes "d")) (less_deep l1 l2 (string (codes "d")) first), i.told.told),
          );
      ops =
          subst (λ (y : Operation). item_ops_of d ≡ Ok (y ∷ typed_behind y [])) here
          (items_told_by d x.site c.pairs clock kind [] (ap (λ r. r >>= lone) offered) i.told.site c.told.sited
          (target_stays i.target i.told.sited) c.is positive small);
      op = λ no.
          subst (λ (y : Operation). op_of d ≡ Ok y) here
          (one_told d x.site c.pairs clock kind offered i.told.site c.told.sited (target_stays i.target i.told.sited) c.is positive);
    }

-- the same, told by other names
pub item_as : (old : List Token) (x y : Operation) (more others : List ℕ) (run flag : Bool) (new : List Token) → y ≡ x → others ≡ more
    → flag ≡ run → ReadsItem old x more run new → ReadsItem old y others flag new
item_as old x y more others run flag new a b c r =
    subst (λ (z : Operation). ReadsItem old z others flag new) (sym a)
    (subst (λ cs. ReadsItem old x cs flag new) (sym b) (subst (λ f. ReadsItem old x more f new) (sym c) r))
