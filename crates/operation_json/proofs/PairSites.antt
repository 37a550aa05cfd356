-- Checking the items of a list one after another, which stay as they are.
use Rattle.std.proofs.Common.{◌≡◌, ℕ, zero, suc, ◌+◌, ◌<◌, List, [], ◌∷◌, ◌++◌, length, take, get_or, Bool, true, false, Result, Ok}
use Rattle.std.proofs.Common.{Err, refl, sym, ap, ◌∙◌, arith, subst, set}
use Rattle.std.specs.Prelude.{nat_lt}
use Rattle.std.specs.List.{AllByRecursion as Each}
use Rattle.std.proofs.lemmas.List.{map_more, take_more_set}
use Rattle.std.proofs.lemmas.Bool.{ltb-true, lt-ltb}
use Rattle.serde_json.specs.View.{view}
use Rattle.serde_json.specs.declared.value.Value.{Value}
use Rattle.opid.specs.declared.refusal.Refusal.{Refusal}
use Rattle.operation_json.specs.Members.{◌>>=◌}
use Rattle.operation_json.specs.Operations.{each, site_of, sited_pair}
use Rattle.operation_json.specs.Internal.Offers.{pair_in, pairs_in}

pairs_more : (vs : List Value) (i : ℕ) (v : Value) (p : ℕ × ℕ) → i < length vs → v ≡ get_or vs i v → pair_in (view v) ≡ p
    → pairs_in (take (i + 1) vs) ≡ pairs_in (take i vs) ++ p ∷ []
pairs_more vs i v p h e is = map_more (λ (w : Value). pair_in (view w)) vs i v h
    ∙ ap (λ q. pairs_in (take i vs) ++ q ∷ []) (ap (λ (w : Value). pair_in (view w)) (sym e) ∙ is)

-- ---- sites

-- a site is the number that it is told by
pub is_site : (n m : ℕ) → site_of n ≡ Ok m → (n < 32) × (m ≡ n)
is_site n m e = go (nat_lt n 32) refl e
  where
    go : (t : Bool) → nat_lt n 32 ≡ t → site_of n ≡ Ok m → (n < 32) × (m ≡ n)
    go true t e = (ltb-true n 32 t, (let same : site_of n ≡ Ok n = rw t refl in cc))
    go false t e = let none = rw t at e in cc

same_pair : (p q : ℕ × ℕ) → sited_pair p ≡ Ok q → (p.0 < 32) × (q ≡ p)
same_pair p q e = go (site_of p.0) refl e
  where
    go : (r : Result ℕ Refusal) → site_of p.0 ≡ r → (r >>= λ s. Ok (s, p.1)) ≡ Ok q → (p.0 < 32) × (q ≡ p)
    go (Ok s) is e = let here = is_site p.0 s is in let made : (s, p.1) ≡ q = cc in (here.0, sym made ∙ ap (λ n. (n, p.1)) here.1)
    go (Err r) is e = cc

-- ---- the pairs of sites, put into a list of fixed length

pub all_sited : (ps qs : List (ℕ × ℕ)) → each sited_pair ps ≡ Ok qs → Each (λ p. p.0 < 32) ps
all_sited [] qs h = tt
all_sited (p ∷ ps) qs h = go (λ rs is. all_sited ps rs is) (sited_pair p) (each sited_pair ps) refl refl h
  where
    go : ((rs : List (ℕ × ℕ)) → each sited_pair ps ≡ Ok rs → Each (λ q. q.0 < 32) ps)
        → (r : Result (ℕ × ℕ) Refusal) (rest : Result (List (ℕ × ℕ)) Refusal) → sited_pair p ≡ r → each sited_pair ps ≡ rest
        → (r >>= λ y. rest >>= λ ys. Ok (y ∷ ys)) ≡ Ok qs → Each (λ q. q.0 < 32) (p ∷ ps)
    go more (Ok q) (Ok rs) is are e = ((same_pair p q is).0, more rs are)
    go more (Ok q) (Err f) is are e = cc
    go more (Err f) rest is are e = cc

sited_at : (vs : List Value) (i : ℕ) (v : Value) → Each (λ p. p.0 < 32) (pairs_in vs) → i < length vs → v ≡ get_or vs i v
    → (pair_in (view v)).0 < 32
sited_at [] i v s h e = absurd (omega arith)
sited_at (w ∷ vs) zero v s h e = subst (λ (u : Value). (pair_in (view u)).0 < 32) (sym e) s.0
sited_at (w ∷ vs) (suc i) v s h e = sited_at vs i v s.1 (omega arith) e

pub same_at : (vs : List Value) (i : ℕ) (v : Value) → each sited_pair (pairs_in vs) ≡ Ok (pairs_in vs) → i < length vs → v ≡ get_or vs i v
    → sited_pair (pair_in (view v)) ≡ Ok (pair_in (view v))
same_at vs i v s h e = rw (lt-ltb (pair_in (view v)).0 32 (sited_at vs i v (all_sited (pairs_in vs) (pairs_in vs) s) h e)) refl

pub put_more : (vs : List Value) (i : ℕ) (v : Value) (q : ℕ × ℕ) (list : List (ℕ × ℕ)) → each sited_pair (pairs_in vs) ≡ Ok (pairs_in vs)
    → i < length vs → v ≡ get_or vs i v → Ok q ≡ sited_pair (pair_in (view v))
    → i < length list → take i list ≡ pairs_in (take i vs) → take (i + 1) (set list i q) ≡ pairs_in (take (i + 1) vs)
put_more vs i v q list s h e is room so_far =
    let same : pair_in (view v) ≡ q = (let kept = same_at vs i v s h e in cc) in
    take_more_set list i q room ∙ ap (λ front. front ++ q ∷ []) so_far ∙ sym (pairs_more vs i v q h e same)
