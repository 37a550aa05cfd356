-- What the tokens of pairs, stamps and parents tell.
use Rattle.std.proofs.Common.{◌≡◌, ℕ, ◌<◌, ◌^◌, List, [], ◌∷◌, ◌++◌, Option, Some, None, Result, Ok, Err, refl, sym, ap, subst, codes}
use Rattle.std.proofs.Common.{lt-ltb}
use mathlib.Core.Path.{ap₂}
use Rattle.json.specs.Token.{Token, begin_array, end_object, key, null}
use Rattle.serde_json.specs.Data as tree
use Rattle.serde_json.specs.Data.{Data, number, unsigned, array}
use Rattle.opid.specs.declared.stamp.Stamp.{Stamp}
use Rattle.opid.specs.declared.refusal.Refusal.{Refusal}
use Rattle.operation_json.specs.Members.{◌>>=◌}
use Rattle.operation_json.specs.Operations.{each, pair_of, stamp_told, parent_of, site_of, sited_pair}
use Rattle.json_bytes.specs.Plain.{Comes}
use Rattle.operation_json.specs.Internal.MemberTokens.{ReadsTwo, TellsPairs, ReadsStamp, ReadsParent, ReadsTyped, ReadsDeleted}
use Rattle.json_bytes.specs.Internal.Coming.{items_of}
use Rattle.operation_json.proofs.PairSites.{is_site}
use Rattle.json_bytes.proofs.Come.{array_comes, one_more_item, null_comes, less_deep, three_deep}

-- ---- each of a list, one more

pub each_more : {A B : Type 0} (f : A → Result B Refusal) (xs : List A) (ys : List B) (x : A) (y : B) → each f xs ≡ Ok ys → f x ≡ Ok y
    → each f (xs ++ x ∷ []) ≡ Ok (ys ++ y ∷ [])
each_more {A = A} {B = B} f [] ys x y h e =
    let none : [] ≡ ys = cc in
    subst (λ zs. each f (x ∷ []) ≡ Ok (zs ++ y ∷ [])) none (ap (λ r. r >>= λ v. Ok (v ∷ [])) e)
each_more {A = A} {B = B} f (z ∷ xs) ys x y h e = go (f z) (each f xs) refl refl (λ us are. each_more f xs us x y are e) h
  where
    go : (r : Result B Refusal) (rest : Result (List B) Refusal) → f z ≡ r → each f xs ≡ rest
        → ((us : List B) → each f xs ≡ Ok us → each f (xs ++ x ∷ []) ≡ Ok (us ++ y ∷ []))
        → (r >>= λ u. rest >>= λ us. Ok (u ∷ us)) ≡ Ok ys → each f (z ∷ xs ++ x ∷ []) ≡ Ok (ys ++ y ∷ [])
    go (Ok u) (Ok us) is are more s =
        let same : u ∷ us ≡ ys = cc in
        subst (λ zs. each f (z ∷ xs ++ x ∷ []) ≡ Ok (zs ++ y ∷ [])) same
        (ap₂ (λ r rest. r >>= λ v. rest >>= λ vs. Ok (v ∷ vs)) is (more us are))
    go (Ok u) (Err g) is are more s = cc
    go (Err g) rest is are more s = cc

-- ---- pairs

-- two numbers in a list
abbrev pub two_of : ℕ × ℕ → Data
two_of p = array (items_of (number (unsigned p.0) ∷ number (unsigned p.1) ∷ []))

pub two_told : (p : ℕ × ℕ) → p.0 < 2 ^ 32 → p.1 < 2 ^ 32 → pair_of (two_of p) ≡ Ok p
two_told p h k = rw (lt-ltb p.0 (2 ^ 32) h) (rw (lt-ltb p.1 (2 ^ 32) k) refl)

pub two_comes : (old new : List Token) (p : ℕ × ℕ) → ReadsTwo old p new → Comes 2 (begin_array ∷ old) (two_of p) new
two_comes old new p r = array_comes 1 old (number (unsigned p.0) ∷ number (unsigned p.1) ∷ []) new r.0

pub site_stays : (s : ℕ) → s < 32 → site_of s ≡ Ok s
site_stays s h = rw (lt-ltb s 32 h) refl

pub no_pairs : (old : List Token) → TellsPairs old [] old
no_pairs old = record { values = []; told = refl; are = refl; sited = refl }

pub pairs_more : (old now mid new : List Token) (ps : List (ℕ × ℕ)) (p : ℕ × ℕ) (s : ℕ) → TellsPairs old ps now → now ≡ begin_array ∷ mid
    → ReadsTwo mid p new → Ok s ≡ site_of p.0 → TellsPairs old (ps ++ (s, p.1) ∷ []) new
pairs_more old now mid new ps p s told opened two sited =
    let here = is_site p.0 s (sym sited) in
    let same : (s, p.1) ≡ p = ap (λ n. (n, p.1)) here.1 in
    subst (λ q. TellsPairs old (ps ++ q ∷ []) new) (sym same) (record {
      values = told.values ++ two_of p ∷ [];
      told =
          one_more_item 2 old told.values (two_of p) now new told.told
          (subst (λ ts. Comes 2 ts (two_of p) new) (sym opened) (two_comes mid new p two));
      are = each_more pair_of told.values ps (two_of p) p told.are (two_told p two.1 two.2);
      sited = each_more sited_pair ps ps p p told.sited (rw (site_stays p.0 here.0) refl);
    })

-- ---- stamps

pub stamp_read : (old new : List Token) (p : ℕ × ℕ) (s : ℕ) → ReadsTwo old p new → Ok s ≡ site_of p.1
    → ReadsStamp (begin_array ∷ old) (let t : Stamp = record { sum = p.0; site = s } in t) new
stamp_read old new p s two sited =
    let here = is_site p.1 s (sym sited) in
    let made : ℕ → Stamp = λ n. record { sum = p.0; site = n } in
    subst (λ n. ReadsStamp (begin_array ∷ old) (made n) new) (sym here.1) (record {
      value = two_of p;
      first = two_comes old new p two;
      is = rw (two_told p two.1 two.2) refl;
      sited = rw (site_stays p.1 here.0) refl;
    })

pub no_parent : (new : List Token) → ReadsParent (null ∷ new) None new
no_parent new = record { value = tree.null; first = less_deep (null ∷ new) new tree.null (null_comes new); is = refl; sited = tt }

is_no_null : (s : Stamp) (d : Data) → stamp_told d ≡ Ok s → parent_of d ≡ Ok (Some s)
is_no_null s tree.null e = cc
is_no_null s (tree.boolean b) e = cc
is_no_null s (tree.number n) e = cc
is_no_null s (tree.string x) e = cc
is_no_null s (array ds) e = rw e refl
is_no_null s (tree.object ms) e = cc

pub some_parent : (old new : List Token) (s : Stamp) → ReadsStamp old s new → ReadsParent old (Some s) new
some_parent old new s r = record { value = r.value; first = r.first; is = is_no_null s r.value r.is; sited = r.sited }

-- ---- what stands behind the letter

pub typed_read : (old a b n c e f new : List Token) (p : Option Stamp) (s : ℕ) (x : List ℕ) → old ≡ key (codes "p") ∷ a → ReadsParent a p b
    → b ≡ key (codes "s") ∷ n → Comes 1 n (number (unsigned s)) c → s < 32 → c ≡ key (codes "x") ∷ e → Comes 1 e (tree.string x) f
    → f ≡ end_object ∷ new → ReadsTyped old p s x new
typed_read old a b n c e f new p s x first parent second site within third text last = record {
  value = parent.value;
  told = (
    a,
    b,
    first,
    three_deep a b parent.value parent.first,
    (n, c, second, three_deep n c _ (less_deep n c _ site), (e, f, third, three_deep e f _ (less_deep e f _ text), last)),
  );
  is = parent.is;
  sited = parent.sited;
  site = within;
}

pub deleted_read : (old n c e f new : List Token) (s : ℕ) (t : Stamp) → old ≡ key (codes "s") ∷ n → Comes 1 n (number (unsigned s)) c
    → s < 32 → c ≡ key (codes "t") ∷ e → ReadsStamp e t f → f ≡ end_object ∷ new → ReadsDeleted old s t new
deleted_read old n c e f new s t first site within second target last = record {
  value = target.value;
  told = (n, c, first, three_deep n c _ (less_deep n c _ site), (e, f, second, three_deep e f target.value target.first, last));
  is = target.is;
  sited = target.sited;
  site = within;
}
