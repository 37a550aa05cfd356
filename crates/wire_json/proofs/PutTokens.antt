-- The operations that tokens hand over, one object after another.
use Rattle.std.proofs.Common.{◌≡◌, ℕ, Bool, List, [], ◌∷◌, ◌++◌, Result, Ok, Err, refl, sym, ap, subst, ◌∙◌, take, codes}
use Rattle.std.proofs.lemmas.List.{flat_map_more}
use Rattle.json.specs.Token.{Token, begin_object, end_object, begin_array, end_array, key}
use Rattle.serde_json.specs.Data.{Data, array, object, string, no_members}
use Rattle.opid.specs.declared.refusal.Refusal.{Refusal}
use Rattle.opid.specs.Operations.{Operation}
use Rattle.room_model.specs.declared.call.Call.TheVariants.{Put}
use Rattle.operation_json.specs.Members.{◌>>=◌}
use Rattle.wire_json.specs.Request.{call_in, unless_too_many}
use Rattle.operation_json.specs.Packing.{typed_behind}
use Rattle.operation_json.specs.PackedOperations.{ItemOffer, item_offer_of, item_sited, item_operations, item_ops_of, concatenated}
use Rattle.operation_json.specs.PackedOperations.{handed_over}
use Rattle.json_bytes.specs.Plain.{Comes}
use Rattle.json_bytes.specs.Internal.Coming.{TellsItems, items_of, put_entries}
use Rattle.operation_json.specs.ItemTokens.{ReadsItem}
use Rattle.wire_json.specs.Internal.CallTokens.{TellsOps, ReadsOps, ReadsRest}
use Rattle.json_bytes.proofs.Come.{array_comes, one_more_item}
use Rattle.operation_json.proofs.MemberTokens.{each_more}
use Rattle.operation_json.proofs.ItemTokens.{told_back}
use Rattle.operation_json.proofs.RunLoops.{kept_on}

-- what an object offers, in the steps of a list
record Parts (d : Data) (xs : List Operation) : Type 0 where
  pub offer : ItemOffer
  pub offered : item_offer_of d ≡ Ok offer
  pub here : ItemOffer
  pub sited : item_sited offer ≡ Ok here
  pub made : item_operations here ≡ Ok xs

parts : (d : Data) (xs : List Operation) → item_ops_of d ≡ Ok xs → Parts d xs
parts d xs e = first (item_offer_of d) refl e
  where
    second : (o : ItemOffer) → item_offer_of d ≡ Ok o → (r : Result ItemOffer Refusal) → item_sited o ≡ r
        → (r >>= item_operations) ≡ Ok xs → Parts d xs
    second o is (Ok h) sited e = record { offer = o; offered = is; here = h; sited = sited; made = e }
    second o is (Err f) sited e = cc

    first : (r : Result ItemOffer Refusal) → item_offer_of d ≡ r → (r >>= λ o. item_sited o >>= item_operations) ≡ Ok xs → Parts d xs
    first (Ok o) is e = second o is (item_sited o) refl e
    first (Err f) is e = cc

pub no_ops : (old : List Token) → TellsOps old [] old
no_ops old = record {
  values = [];
  told = refl;
  offers = [];
  offered = refl;
  here = [];
  sited = refl;
  lists = [];
  made = refl;
  kept = refl;
}

pub ops_more : (old now mid new : List Token) (ops after : List Operation) (x : Operation) (more : List ℕ) (run : Bool)
    → TellsOps old ops now
    → now ≡ begin_object ∷ mid → ReadsItem mid x more run new → after ≡ take 65 (ops ++ (x ∷ typed_behind x more))
    → TellsOps old after new
ops_more old now mid new ops after x more run t opened i grown =
    let xs : List Operation = x ∷ typed_behind x more in
    let p = parts i.value xs i.ops in
    record {
      values = t.values ++ i.value ∷ [];
      told =
          one_more_item 4 old t.values i.value now new t.told
          (subst (λ ts. Comes 4 ts i.value new) (sym opened) i.first);
      offers = t.offers ++ p.offer ∷ [];
      offered = each_more item_offer_of t.values t.offers i.value p.offer t.offered p.offered;
      here = t.here ++ p.here ∷ [];
      sited = each_more item_sited t.offers t.here p.offer p.here t.sited p.sited;
      lists = t.lists ++ xs ∷ [];
      made = each_more item_operations t.here t.lists p.here xs t.made p.made;
      kept =
          grown ∙ kept_on (concatenated t.lists) ops xs t.kept
          ∙ ap (take 65) (flat_map_more (λ (ys : List Operation). ys) [] t.lists xs);
    }

pub ops_read : (old now rest new : List Token) (ops : List Operation) → old ≡ begin_array ∷ rest → TellsOps rest ops now
    → now ≡ end_array ∷ new → ReadsOps old ops new
ops_read old now rest new ops opened t closed = record {
  values = t.values;
  first =
      subst (λ ts. Comes 5 ts (array (items_of t.values)) new) (sym opened)
      (array_comes 4 rest t.values new (subst (TellsItems 4 rest t.values) closed t.told));
  are = rw t.offered (rw t.sited (rw t.made (ap Ok (sym t.kept))));
}

put_asked : (ds : List Data) (ops : List Operation) → handed_over ds ≡ Ok ops
    → call_in (object (put_entries ((codes "t", string (codes "put")) ∷ (codes "ops", array (items_of ds)) ∷ []) no_members)) ≡ Ok (Put (unless_too_many ops))
put_asked ds ops h = rw (told_back ds) (rw h refl)

pub put_rest : (old a b : List Token) (ops : List Operation) → old ≡ key (codes "ops") ∷ a → ReadsOps a ops b → b ≡ end_object ∷ []
    → ReadsRest (codes "put") old (Put (unless_too_many ops))
put_rest old a b ops first r last = record {
  entries = (codes "ops", array (items_of r.values)) ∷ [];
  told = (a, b, first, r.first, last);
  asks = put_asked r.values ops r.are;
}
