-- Calls one after another, and the failures that they count.
use Rattle.std.proofs.Common.{◌≡◌, ◌<◌, ◌≤◌, ◌⊎◌, inl, inr, ℕ, zero, suc, ◌+◌, ◌-◌, ◌^◌, List, [], ◌∷◌, ◌++◌, Ok, Err, refl, ap, subst}
use Rattle.std.proofs.Common.{arith, length}
use Rattle.std.proofs.lemmas.List.{length-append}
use Rattle.std.specs.Prelude.{Result}
use Rattle.line_engine.specs.Calls.{Makes, for_a_block, of_bytes, failed_reads, failed_writes, CountsReads, CountsWrites}

Makes-append : {S E : Type 0} (calls : S → Result ℕ E → S → Type 0) (a b c : S) (xs ys : List (Result ℕ E)) → Makes calls a xs b
    → Makes calls b ys c → Makes calls a (xs ++ ys) c
Makes-append {S} calls a b c [] ys m n = subst (λ (s : S). Makes calls s ys c) m n
Makes-append calls a b c (r ∷ xs) ys m n = (m.0, m.1, Makes-append calls m.0 b c xs ys m.2 n)

Makes-weaker : {S E : Type 0} (calls weaker : S → Result ℕ E → S → Type 0) → ((s : S) (r : Result ℕ E) (t : S) → calls s r t → weaker s r t)
    → (a b : S) (rs : List (Result ℕ E)) → Makes calls a rs b → Makes weaker a rs b
Makes-weaker calls weaker w a b [] m = m
Makes-weaker calls weaker w a b (r ∷ rs) m = (m.0, w a r m.0 m.1, Makes-weaker calls weaker w m.0 b rs m.2)

failed_reads-append : {E : Type 0} (xs ys : List (Result ℕ E)) → failed_reads (xs ++ ys) ≡ failed_reads xs + failed_reads ys
failed_reads-append [] ys = omega arith
failed_reads-append (Ok n ∷ xs) ys = failed_reads-append xs ys
failed_reads-append (Err e ∷ xs) ys = omega (arith, failed_reads-append xs ys)

failed_writes-append : {E : Type 0} (xs ys : List (Result ℕ E)) → failed_writes (xs ++ ys) ≡ failed_writes xs + failed_writes ys
failed_writes-append [] ys = omega arith
failed_writes-append (Ok zero ∷ xs) ys = omega (arith, failed_writes-append xs ys)
failed_writes-append (Ok (suc n) ∷ xs) ys = failed_writes-append xs ys
failed_writes-append (Err e ∷ xs) ys = omega (arith, failed_writes-append xs ys)

-- ---- reads

-- no call was made
pub reads_none : {S E : Type 0} (reads : S → Result ℕ E → S → Type 0) (a : S) (k n : ℕ) → CountsReads reads a k n a k n
reads_none reads a k n = record { results = []; made = refl; called = omega arith; counted = inl (omega arith) }

-- one read, for a block
pub reads_once : {S E : Type 0} (reads : S → ℕ → Result ℕ E → S → Type 0) (most : ℕ) → 65536 ≤ most → (a b : S) (k n k' n' : ℕ)
    → (results : List (Result ℕ E)) × Makes (λ s r t. reads s most r t) a results b × (k' ≡ k + length results)
    × ((n' ≡ n + failed_reads results) ⊎ ((k' ≡ 2 ^ 64 - 1) × (results ≡ []) × (n' ≡ n + 1)))
    → CountsReads (for_a_block reads) a k n b k' n'
reads_once {S} {E} reads most l a b k n k' n' h = record {
  results = h.0;
  made = Makes-weaker (λ s r t. reads s most r t) (for_a_block reads) (λ s r t m. (most, l, m)) a b h.0 h.1;
  called = h.2;
  counted = by h.3;
}
  where
    by : (n' ≡ n + failed_reads h.0) ⊎ ((k' ≡ 2 ^ 64 - 1) × (h.0 ≡ []) × (n' ≡ n + 1))
        → (n' ≡ n + failed_reads h.0) ⊎ ((k' ≡ 2 ^ 64 - 1) × (n' ≡ n + failed_reads h.0 + 1))
    by (inl e) = inl e
    by (inr e) = inr (e.0, omega (arith, e.2, ap (failed_reads {E = E}) e.1))

-- reads of which none failed, and more
pub reads_more : {S E : Type 0} (reads : S → Result ℕ E → S → Type 0) (a b c : S) (k n k' n' k'' n'' : ℕ)
    → CountsReads reads a k n b k' n' → n' ≡ n → CountsReads reads b k' n' c k'' n'' → CountsReads reads a k n c k'' n''
reads_more reads a b c k n k' n' k'' n'' h same g = record {
  results = h.results ++ g.results;
  made = Makes-append reads a b c h.results g.results h.made g.made;
  called = omega (arith, h.called, g.called, length-append h.results g.results);
  counted = by (none h.counted) g.counted;
}
  where
    none : (n' ≡ n + failed_reads h.results) ⊎ ((k' ≡ 2 ^ 64 - 1) × (n' ≡ n + failed_reads h.results + 1)) → failed_reads h.results ≡ 0
    none (inl e) = omega (arith, e, same)
    none (inr e) = absurd (omega (arith, e.1, same))

    by : failed_reads h.results ≡ 0 → (n'' ≡ n' + failed_reads g.results) ⊎ ((k'' ≡ 2 ^ 64 - 1) × (n'' ≡ n' + failed_reads g.results + 1))
        → (n'' ≡ n + failed_reads (h.results ++ g.results)) ⊎ ((k'' ≡ 2 ^ 64 - 1) × (n'' ≡ n + failed_reads (h.results ++ g.results) + 1))
    by z (inl e) = inl (omega (arith, e, z, same, failed_reads-append h.results g.results))
    by z (inr e) = inr (e.0, omega (arith, e.1, z, same, failed_reads-append h.results g.results))

-- ---- writes

pub writes_none : {S E : Type 0} (writes : S → Result ℕ E → S → Type 0) (a : S) (n : ℕ) → CountsWrites writes a n a n
writes_none writes a n = record { results = []; made = refl; counted = omega arith }

pub writes_more : {S E : Type 0} (writes : S → Result ℕ E → S → Type 0) (a b c : S) (n n' n'' : ℕ)
    → CountsWrites writes a n b n' → CountsWrites writes b n' c n'' → CountsWrites writes a n c n''
writes_more writes a b c n n' n'' h g = record {
  results = h.results ++ g.results;
  made = Makes-append writes a b c h.results g.results h.made g.made;
  counted = omega (arith, h.counted, g.counted, failed_writes-append h.results g.results);
}

-- calls with so many bytes, of which there are some
pub writes_once : {S E : Type 0} (writes : S → ℕ → Result ℕ E → S → Type 0) (most : ℕ) → 0 < most → (a b : S) (n n' : ℕ)
    → CountsWrites (λ s r t. writes s most r t) a n b n' → CountsWrites (of_bytes writes) a n b n'
writes_once writes most l a b n n' h = record {
  results = h.results;
  made = Makes-weaker (λ s r t. writes s most r t) (of_bytes writes) (λ s r t m. (most, l, m)) a b h.results h.made;
  counted = h.counted;
}
