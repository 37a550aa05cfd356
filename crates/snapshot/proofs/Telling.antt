-- The log that tokens tell, one object after another.
use Rattle.std.proofs.Common.{◌≡◌, ℕ, Bool, true, false, List, [], ◌∷◌, ◌++◌, Option, Some, None, Result, Ok, Err, refl, sym, ap, ◌∙◌}
use Rattle.std.proofs.Common.{subst, append_assoc, append-nil, codes, lt-ltb, ◌^◌}
use Rattle.std.specs.Result.{result_ok}
use Rattle.std.specs.Str.{IsUtf8}
use Rattle.json.specs.Lex.{tokens}
use Rattle.json.specs.Token.{Token, begin_object, end_object, begin_array, end_array, key}
use Rattle.serde_json.specs.Data.{Data, number, array, object, unsigned, no_members}
use Rattle.opid.specs.declared.refusal.Refusal.{Refusal}
use Rattle.opid.specs.Operations.{Operation}
use Rattle.operation_json.specs.Members.{◌>>=◌}
use Rattle.operation_json.specs.Packing.{typed_behind}
use Rattle.json_bytes.specs.Plain.{Comes}
use Rattle.operation_json.specs.ItemTokens.{ReadsItem}
use Rattle.json_bytes.specs.Internal.Coming.{items_of, put_entries}
use Rattle.json_bytes.proofs.Come.{array_comes, object_comes, one_more_item, five_deep, whole}
use Rattle.operation_json.proofs.ItemTokens.{told_back}
use Rattle.operation_json.proofs.Steps.{json_read}
use Rattle.snapshot.specs.Snapshot.{ops_told, told_by, told_in}
use Rattle.snapshot.specs.Internal.Values.{value_told}
use Rattle.snapshot.specs.Internal.Coming.{ReadsFormat, OpensLog, TellsLog, ReadsLog}
use Rattle.snapshot.proofs.Loaded.{then, first_told, only_ok}

-- ---- one more value

nothing : (runs : Bool) → result_ok (ops_told runs []) ≡ Some []
nothing true = refl
nothing false = refl

last_told : (runs : Bool) (ds : List Data) (d : Data) (log xs : List Operation) → result_ok (ops_told runs ds) ≡ Some log
    → value_told runs d ≡ Ok xs → result_ok (ops_told runs (ds ++ d ∷ [])) ≡ Some (log ++ xs)
last_told runs [] d log xs e is =
    let none : [] ≡ log = (let both : Some [] ≡ Some log = sym (nothing runs) ∙ e in cc) in
    first_told runs d [] ∙ ap (λ r. then r (result_ok (ops_told runs []))) is ∙ ap (then (Ok xs)) (nothing runs)
    ∙ ap Some (append-nil xs ∙ ap (λ (l : List Operation). l ++ xs) none)
last_told runs (f ∷ ds) d log xs e is =
    first_told runs f (ds ++ d ∷ [])
    ∙ go (value_told runs f) (result_ok (ops_told runs ds)) refl (sym (first_told runs f ds) ∙ e)
    (λ zs are. last_told runs ds d zs xs are is)
  where
    go : (r : Result (List Operation) Refusal) (rest : Option (List Operation)) → result_ok (ops_told runs ds) ≡ rest
        → then r rest ≡ Some log
        → ((zs : List Operation) → result_ok (ops_told runs ds) ≡ Some zs → result_ok (ops_told runs (ds ++ d ∷ [])) ≡ Some (zs ++ xs))
        → then r (result_ok (ops_told runs (ds ++ d ∷ []))) ≡ Some (log ++ xs)
    go (Ok ys) (Some zs) are s more =
        let same : ys ++ zs ≡ log = cc in
        ap (then (Ok ys)) (more zs are) ∙ ap Some (sym (append_assoc ys zs xs) ∙ ap (λ (l : List Operation). l ++ xs) same)
    go (Ok ys) None are s more = cc
    go (Err g) rest are s more = cc

-- what an object tells by itself
alone : (runs : Bool) (old new : List Token) (x : Operation) (more : List ℕ) (run : Bool) (i : ReadsItem old x more run new)
    → (runs ≡ false → run ≡ false) → (run ≡ false → more ≡ []) → value_told runs i.value ≡ Ok (x ∷ typed_behind x more)
alone true old new x more run i single lone = i.ops
alone false old new x more run i single lone =
    ap (λ r. r >>= λ y. Ok (y ∷ [])) (i.op (single refl)) ∙ ap (λ cs. Ok (x ∷ typed_behind x cs)) (sym (lone (single refl)))

pub no_log : (runs : Bool) (old : List Token) (log : List Operation) → log ≡ [] → TellsLog runs old log old
no_log runs old log e = record { values = []; told = refl; are = only_ok (ops_told runs []) log (nothing runs ∙ ap Some (sym e)) }

pub log_more : (runs : Bool) (old now mid new : List Token) (log after : List Operation) (x : Operation) (more : List ℕ) (run : Bool)
    → TellsLog runs old log now → now ≡ begin_object ∷ mid → ReadsItem mid x more run new → (runs ≡ false → run ≡ false)
    → (run ≡ false → more ≡ []) → after ≡ log ++ (x ∷ typed_behind x more) → TellsLog runs old after new
log_more runs old now mid new log after x more run t opened i single lone grown =
    let xs : List Operation = x ∷ typed_behind x more in
    let all : List Data = t.values ++ i.value ∷ [] in
    record {
      values = all;
      told =
          one_more_item 4 old t.values i.value now new t.told
          (subst (λ ts. Comes 4 ts i.value new) (sym opened) i.first);
      are =
          only_ok (ops_told runs all) after
          (last_told runs t.values i.value log xs (ap result_ok t.are) (alone runs mid new x more run i single lone)
          ∙ ap Some (sym grown));
    }

-- ---- the whole text

pub log_read : (all e f : List Token) (runs : Bool) (log : List Operation) → OpensLog all runs e
    → TellsLog runs e log (end_array ∷ f) → f ≡ end_object ∷ [] → ReadsLog all log
log_read all e f runs log o t last =
    let r : ReadsFormat o.number runs o.list = o.format in
    let members : List (List ℕ × Data) = (codes "format", number (unsigned r.n)) ∷ (codes "ops", array (items_of t.values)) ∷ [] in
    let value : Data = object (put_entries members no_members) in
    let items : Comes 5 (begin_array ∷ e) (array (items_of t.values)) f = array_comes 4 e t.values f t.told in
    record {
      value = value;
      is = whole all value (subst (λ ts. Comes 6 ts value []) (sym o.first) (object_comes 5 (key (codes "format") ∷ o.number) members [] (
        o.number,
        o.list,
        refl,
        five_deep o.number o.list (number (unsigned r.n)) r.first,
        (begin_array ∷ e, f, o.last, items, last),
      )));
      tells = rw (lt-ltb r.n (2 ^ 32) r.small) (rw r.is (rw (told_back t.values) t.are));
    }

-- where the bytes' tokens tell this log, the bytes do
pub bytes_told : (bytes : List ℕ) (log : List Operation) → IsUtf8 bytes → ReadsLog (tokens bytes) log → told_in bytes ≡ Ok log
bytes_told bytes log utf8 read = ap (λ r. r >>= told_by) (json_read bytes read.value utf8 read.is) ∙ read.tells
