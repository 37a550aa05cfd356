-- The calls that tokens ask for, key by key.
use Rattle.std.proofs.Common.{◌≡◌, ◌^◌, ℕ, List, [], ◌∷◌, Some, Ok, true, false, refl, sym, subst, codes, lt-ltb, take, Option, None}
use Rattle.std.proofs.Common.{Result, Err}
use Rattle.std.specs.Prelude.{IfSome, IfOk}
use Rattle.std.specs.Str.{chars, IsUtf8}
use Rattle.json.specs.Lex.{tokens}
use Rattle.opid.specs.declared.refusal.Refusal.{Refusal}
use Rattle.json.specs.Token.{Token, begin_object, end_object, key}
use Rattle.serde_json.specs.Data.{Data, object, string, number, unsigned, no_members}
use Rattle.room_model.specs.declared.call.Call.{Call}
use Rattle.room_model.specs.declared.call.Call.TheVariants.{Ins, Del, Pull, Ops, Read, Join, Leave}
use Rattle.json_bytes.specs.Internal.Coming.{value_of_tokens, put_entries}
use Rattle.json_bytes.specs.Plain.{Comes}
use Rattle.wire_json.specs.Internal.CallTokens.{ReadsField, ReadsPlace, ReadsRest, ReadsKind, ReadsCall, AsksFor}
use Rattle.json_bytes.proofs.Come.{object_comes, five_deep, whole}
use Rattle.operation_json.proofs.Steps.{json_read}

-- the object of this kind asks for what its rest asks for
pub call_read : (all a b c : List Token) (kind : List ℕ) (call : Call) → all ≡ begin_object ∷ a → a ≡ key (codes "t") ∷ b
    → Comes 1 b (string kind) c → ReadsRest kind c call → ReadsCall all call
call_read all a b c kind call opened first told r =
    let value : Data = object (put_entries ((codes "t", string kind) ∷ r.entries) no_members) in
    record {
      value = value;
      is = whole all value (subst (λ ts. Comes 6 ts value []) (sym opened)
          (object_comes 5 a ((codes "t", string kind) ∷ r.entries) []
          (b, c, first, five_deep b c (string kind) told, r.told)));
      asks = r.asks;
    }

-- ---- each kind: its keys in turn

pub pull_rest : (old a b c : List Token) (s have max : ℕ) → ReadsField old (codes "s") s a → ReadsField a (codes "have") have b
    → ReadsField b (codes "max") max c → c ≡ end_object ∷ [] → ReadsRest (codes "pull") old (Pull s have max)
pull_rest old a b c s have max f g h last = record {
  entries = (codes "s", number (unsigned s)) ∷ (codes "have", number (unsigned have)) ∷ (codes "max", number (unsigned max)) ∷ [];
  told = (
    f.mid,
    a,
    f.first,
    five_deep f.mid a _ f.told,
    (g.mid, b, g.first, five_deep g.mid b _ g.told, (h.mid, c, h.first, five_deep h.mid c _ h.told, last)),
  );
  asks = rw (lt-ltb s (2 ^ 32) f.small) (rw (lt-ltb have (2 ^ 32) g.small) (rw (lt-ltb max (2 ^ 32) h.small) refl));
}

pub part_rest : (old a b : List Token) (after max : ℕ) → ReadsField old (codes "after") after a → ReadsField a (codes "max") max b
    → b ≡ end_object ∷ [] → ReadsRest (codes "ops") old (Ops after max)
part_rest old a b after max f g last = record {
  entries = (codes "after", number (unsigned after)) ∷ (codes "max", number (unsigned max)) ∷ [];
  told = (f.mid, a, f.first, five_deep f.mid a _ f.told, (g.mid, b, g.first, five_deep g.mid b _ g.told, last));
  asks = rw (lt-ltb after (2 ^ 32) f.small) (rw (lt-ltb max (2 ^ 32) g.small) refl);
}

pub del_rest : (old a b : List Token) (s n v k c : ℕ) → ReadsPlace old s n v k a → ReadsField a (codes "c") c b
    → b ≡ end_object ∷ [] → ReadsRest (codes "del") old (Del s n v k c)
del_rest old a b s n v k c p f last = record {
  entries =
      (codes "s", number (unsigned s)) ∷ (codes "n", number (unsigned n)) ∷ (codes "v", number (unsigned v))
      ∷ (codes "k", number (unsigned k)) ∷ (codes "c", number (unsigned c)) ∷ [];
  told = (
    p.first.mid,
    p.behind_s,
    p.first.first,
    five_deep p.first.mid p.behind_s _ p.first.told,
    (
      p.second.mid,
      p.behind_n,
      p.second.first,
      five_deep p.second.mid p.behind_n _ p.second.told,
      (
        p.third.mid,
        p.behind_v,
        p.third.first,
        five_deep p.third.mid p.behind_v _ p.third.told,
        (
          p.fourth.mid,
          a,
          p.fourth.first,
          five_deep p.fourth.mid a _ p.fourth.told,
          (f.mid, b, f.first, five_deep f.mid b _ f.told, last),
        ),
      ),
    ),
  );
  asks =
      rw (lt-ltb s (2 ^ 32) p.first.small) (rw (lt-ltb n (2 ^ 32) p.second.small) (rw (lt-ltb v (2 ^ 32) p.third.small)
      (rw (lt-ltb k (2 ^ 32) p.fourth.small) (rw (lt-ltb c (2 ^ 32) f.small) refl))));
}

pub ins_rest : (old a b c : List Token) (s n v k : ℕ) (x : List ℕ) → ReadsPlace old s n v k a → a ≡ key (codes "x") ∷ b
    → Comes 1 b (string x) c → c ≡ end_object ∷ [] → ReadsRest (codes "ins") old (Ins s n v k (take 65 (chars x)))
ins_rest old a b c s n v k x p first told last = record {
  entries =
      (codes "s", number (unsigned s)) ∷ (codes "n", number (unsigned n)) ∷ (codes "v", number (unsigned v))
      ∷ (codes "k", number (unsigned k)) ∷ (codes "x", string x) ∷ [];
  told = (
    p.first.mid,
    p.behind_s,
    p.first.first,
    five_deep p.first.mid p.behind_s _ p.first.told,
    (
      p.second.mid,
      p.behind_n,
      p.second.first,
      five_deep p.second.mid p.behind_n _ p.second.told,
      (
        p.third.mid,
        p.behind_v,
        p.third.first,
        five_deep p.third.mid p.behind_v _ p.third.told,
        (
          p.fourth.mid,
          a,
          p.fourth.first,
          five_deep p.fourth.mid a _ p.fourth.told,
          (b, c, first, five_deep b c _ told, last),
        ),
      ),
    ),
  );
  asks =
      rw (lt-ltb s (2 ^ 32) p.first.small) (rw (lt-ltb n (2 ^ 32) p.second.small) (rw (lt-ltb v (2 ^ 32) p.third.small)
      (rw (lt-ltb k (2 ^ 32) p.fourth.small) refl)));
}

pub read_rest : (old : List Token) → old ≡ end_object ∷ [] → ReadsRest (codes "read") old Read
read_rest old last = record { entries = []; told = last; asks = refl }

pub join_rest : (old : List Token) → old ≡ end_object ∷ [] → ReadsRest (codes "join") old (Join false)
join_rest old last = record { entries = []; told = last; asks = refl }

pub units_rest : (old a b : List Token) (n : ℕ) → old ≡ key (codes "u") ∷ a → Comes 1 a (number (unsigned n)) b → n ≡ 16
    → b ≡ end_object ∷ [] → ReadsRest (codes "join") old (Join true)
units_rest old a b n first told is last = record {
  entries = (codes "u", number (unsigned n)) ∷ [];
  told = (a, b, first, five_deep a b _ told, last);
  asks = rw is refl;
}

pub leave_rest : (old a : List Token) (s : ℕ) → ReadsField old (codes "s") s a → a ≡ end_object ∷ []
    → ReadsRest (codes "leave") old (Leave s)
leave_rest old a s f last = record {
  entries = (codes "s", number (unsigned s)) ∷ [];
  told = (f.mid, a, f.first, five_deep f.mid a _ f.told, last);
  asks = rw (lt-ltb s (2 ^ 32) f.small) refl;
}

-- ---- what a reader tells of a kind's rest, it tells of the whole

pub some_read : (old same rest : List Token) (kind : List ℕ) (r : Option Call) → same ≡ old → Comes 1 same (string kind) rest
    → IfSome r (λ call. ReadsRest kind rest call) → IfSome r (λ call. ReadsKind old call)
some_read old same rest kind None is first h = h
some_read old same rest kind (Some call) is first h =
    record { kind = kind; rest = rest; first = subst (λ ts. Comes 1 ts (string kind) rest) is first; asks = h }

pub ok_read : (old same rest : List Token) (kind : List ℕ) (r : Result (Option Call) Refusal) → same ≡ old
    → Comes 1 same (string kind) rest → IfOk r (λ o. IfSome o (λ call. ReadsRest kind rest call))
    → IfOk r (λ o. IfSome o (λ call. ReadsKind old call))
ok_read old same rest kind (Ok o) is first h = some_read old same rest kind o is first h
ok_read old same rest kind (Err e) is first h = h

some_whole : (all a b : List Token) (r : Option Call) → all ≡ begin_object ∷ a → a ≡ key (codes "t") ∷ b
    → IfSome r (λ call. ReadsKind b call) → IfSome r (λ call. ReadsCall all call)
some_whole all a b None opened first h = h
some_whole all a b (Some call) opened first h = call_read all a b h.rest h.kind call opened first h.first h.asks

pub whole_read : (all a b : List Token) (r : Result (Option Call) Refusal) → all ≡ begin_object ∷ a → a ≡ key (codes "t") ∷ b
    → IfOk r (λ o. IfSome o (λ call. ReadsKind b call)) → IfOk r (λ o. IfSome o (λ call. ReadsCall all call))
whole_read all a b (Ok o) opened first h = some_whole all a b o opened first h
whole_read all a b (Err e) opened first h = h

some_asked : (bytes : List ℕ) (ts : List Token) (r : Option Call) → IsUtf8 bytes → ts ≡ tokens bytes
    → IfSome r (λ call. ReadsCall ts call) → IfSome r (λ call. AsksFor bytes call)
some_asked bytes ts None u e h = h
some_asked bytes ts (Some call) u e h = record {
  value = h.value;
  is = json_read bytes h.value u (subst (λ (us : List Token). value_of_tokens us ≡ Some h.value) e h.is);
  asks = h.asks;
}

pub asked : (bytes : List ℕ) (ts : List Token) (r : Result (Option Call) Refusal) → IsUtf8 bytes → ts ≡ tokens bytes
    → IfOk r (λ o. IfSome o (λ call. ReadsCall ts call)) → IfOk r (λ o. IfSome o (λ call. AsksFor bytes call))
asked bytes ts (Ok o) u e h = some_asked bytes ts o u e h
asked bytes ts (Err f) u e h = h
