-- The part of a log that tokens tell.
use Rattle.std.proofs.Common.{◌≡◌, ◌^◌, ℕ, List, [], ◌∷◌, Option, Some, None, Result, Ok, Err, codes, refl, sym, subst, lt-ltb}
use Rattle.std.specs.Prelude.{IfSome, IfOk}
use Rattle.std.specs.Str.{IsUtf8}
use Rattle.json.specs.Lex.{tokens}
use Rattle.json.specs.Token.{Token, key}
use Rattle.serde_json.specs.Data.{Data, array, object, string, number, unsigned, no_members}
use Rattle.opid.specs.declared.refusal.Refusal.{Refusal}
use Rattle.opid.specs.Operations.{Operation}
use Rattle.json_bytes.specs.Internal.Coming.{value_of_tokens, items_of, put_entries}
use Rattle.json_bytes.specs.Plain.{Comes}
use Rattle.wire_json.specs.Internal.CallTokens.{ReadsOps}
use Rattle.wire_json.specs.Internal.PartTokens.{OpensPart, ClosesPart, ReadsPart, TellsPart}
use Rattle.json_bytes.proofs.Come.{object_comes, five_deep, whole}
use Rattle.operation_json.proofs.Steps.{json_read}
use Rattle.operation_json.proofs.ItemTokens.{told_back}

-- the members of a part's object
abbrev members : ℕ → List Data → List (List ℕ × Data)
members n ds = (codes "from", number (unsigned n)) ∷ (codes "ops", array (items_of ds)) ∷ (codes "r", string (codes "ops")) ∷ []

pub part_read : (all a b c : List Token) (n : ℕ) (ops : List Operation) → OpensPart all n a → a ≡ key (codes "ops") ∷ b → ReadsOps b ops c
    → ClosesPart c → ReadsPart all n ops
part_read all a b c n ops o first r last =
    let value : Data = object (put_entries (members n r.values) no_members) in
    record {
      value = value;
      is = whole all value (subst (λ ts. Comes 6 ts value []) (sym o.first) (object_comes 5 o.mid (members n r.values) [] (
        o.field.mid,
        a,
        o.field.first,
        five_deep o.field.mid a (number (unsigned n)) o.field.told,
        (b, c, first, r.first, (last.mid, last.new, last.first, five_deep last.mid last.new (string (codes "ops")) last.told, last.last)),
      )));
      tells = rw (lt-ltb n (2 ^ 32) o.field.small) (rw (told_back r.values) (rw r.are refl));
    }

part_told_by : (bytes : List ℕ) (ts : List Token) (n : ℕ) (ops : List Operation) → IsUtf8 bytes → ts ≡ tokens bytes → ReadsPart ts n ops
    → TellsPart bytes n ops
part_told_by bytes ts n ops u e h = record {
  value = h.value;
  is = json_read bytes h.value u (subst (λ (us : List Token). value_of_tokens us ≡ Some h.value) e h.is);
  tells = h.tells;
}

pub spelled : {V : Type 0} (items : V → List Operation) (bytes : List ℕ) (ts : List Token) (r : Result (Option (ℕ × V)) Refusal)
    → IsUtf8 bytes → ts ≡ tokens bytes → IfOk r (λ o. IfSome o (λ p. ReadsPart ts p.0 (items p.1)))
    → IfOk r (λ o. IfSome o (λ p. TellsPart bytes p.0 (items p.1)))
spelled items bytes ts (Ok None) u e h = h
spelled items bytes ts (Ok (Some p)) u e h = part_told_by bytes ts p.0 (items p.1) u e h
spelled items bytes ts (Err f) u e h = h
