-- One more call of a file in memory.
use Rattle.std.proofs.Common.{◌≡◌, ◌≢◌, ◌⊎◌, inl, inr, ℕ, ◌+◌, ◌≤◌, ◌-◌, List, [], ◌∷◌, ◌++◌, length, take, Vec, refl, sym, ap, ◌∙◌, subst}
use Rattle.std.proofs.Common.{arith, length-append, append-nil, append_assoc, replicate, get_or, min}
use Rattle.std.proofs.Math.Seq.{take-append_seam}
use Rattle.std.proofs.lemmas.List.{take_all, take-append-le, take-take, length-take, get_or_push}
use Rattle.std.proofs.lemmas.Bool.{cases_lt}
use Rattle.std.proofs.lemmas.List.Elements.{All-nil, All-replicate}
use Rattle.std.specs.declared.alloc.Global.{Global}
use Rattle.keeper.specs.Disk.{Elapses, IsTorn, IsCut, Only}
use Rattle.keeper.specs.Memory.{seen_next, seen_after, UndoneNext, UndoneAfter, LeftAfter, LeftSince}
use Rattle.keeper.specs.declared.memory.Call.{Call}
use Rattle.keeper.specs.declared.memory.Call.TheVariants.{Append, Cut, Sync}

pub seen_more : (file : List ℕ) (calls : List Call) (call : Call)
    → seen_after file (calls ++ call ∷ []) ≡ seen_next (seen_after file calls) call
seen_more file [] call = refl
seen_more file (x ∷ calls) call = seen_more (seen_next file x) calls call

undone_more : (file : List ℕ) (before : List ℕ → Type 0) (calls : List Call) (call : Call) (c : List ℕ)
    → UndoneAfter file before (calls ++ call ∷ []) c → UndoneNext (seen_after file calls) (UndoneAfter file before calls) call c
undone_more file before [] call c u = u
undone_more file before (x ∷ calls) call c u = undone_more (seen_next file x) (UndoneNext file before x) calls call c u

undone_again : (file : List ℕ) (before : List ℕ → Type 0) (calls : List Call) (call : Call) (c : List ℕ)
    → UndoneNext (seen_after file calls) (UndoneAfter file before calls) call c → UndoneAfter file before (calls ++ call ∷ []) c
undone_again file before [] call c u = u
undone_again file before (x ∷ calls) call c u = undone_again (seen_next file x) (UndoneNext file before x) calls call c u

-- of calls only one is the last
pub last_same : (xs ys : List Call) (a b : Call) → xs ++ a ∷ [] ≡ ys ++ b ∷ [] → (xs ≡ ys) × (a ≡ b)
last_same xs ys a b e =
    let len : length xs ≡ length ys = omega (arith, ap length e, length-append xs (a ∷ []), length-append ys (b ∷ [])) in (
      sym (take-append_seam xs (a ∷ [])) ∙ ap (λ (n : ℕ). take n (xs ++ a ∷ [])) len ∙ ap (take (length ys)) e ∙ take-append_seam ys
          (b ∷ []),
      sym (get_or_push xs a a (length xs) refl) ∙ ap (λ (cs : List Call). get_or cs (length xs) a) e
          ∙ get_or_push ys b a (length xs) (sym len),
    )

-- the bytes of an append
abbrev appended : Call → List ℕ
appended (Append more) = more.items
appended (Cut size) = []
appended Sync = []

-- the same append was the last call
pub same_append : (first : List ℕ) (before others : List Call) (more other : Vec ℕ Global)
    → before ++ Append more ∷ [] ≡ others ++ Append other ∷ []
    → (seen_after first before ≡ seen_after first others) × (more.items ≡ other.items)
same_append first before others more other e =
    let same = last_same before others (Append more) (Append other) e in (ap (seen_after first) same.0, ap appended same.1)

-- what a crash leaves after one more call
pub left_more : (file : List ℕ) (calls : List Call) (call : Call) (c : List ℕ) → LeftAfter file (calls ++ call ∷ []) c
    → (c ≡ seen_next (seen_after file calls) call) ⊎ UndoneNext (seen_after file calls) (UndoneAfter file (λ d. ⊥) calls) call c
left_more file calls call c (inl is) = inl (is ∙ seen_more file calls call)
left_more file calls call c (inr u) = inr (undone_more file (λ d. ⊥) calls call c u)

-- ---- time

-- so many of the calls, with one more or without it
fewer : (calls : List Call) (call : Call) (k : ℕ) → k ≤ length calls → take k (calls ++ call ∷ []) ≡ take k calls
fewer calls call k le = take-append-le k calls (call ∷ []) le

elapses_push : (file : List ℕ) (calls : List Call) (call : Call)
    → Elapses (length calls) (length (calls ++ call ∷ [])) (LeftSince file calls) (LeftSince file (calls ++ call ∷ []))
    (LeftAfter file (calls ++ call ∷ []))
elapses_push file calls call = record {
  later = omega (arith, size);
  nothing_else = λ t c le left. was t c left (split left.0 left.2);
  keeps = λ t c le left.
      let there = subst (λ (cs : List Call). LeftAfter file cs c) (sym (fewer calls call left.0 left.2)) left.3 in
      (left.0, left.1, omega (arith, size, left.2), there);
}
  where
    size : length (calls ++ call ∷ []) ≡ length calls + 1
    size = length-append calls (call ∷ [])

    split : (k : ℕ) → k ≤ length (calls ++ call ∷ []) → (k ≤ length calls) ⊎ (k ≡ length (calls ++ call ∷ []))
    split k le = elim (cases_lt (length calls) k) [ inl more ↦ inr (omega (arith, more, le, size)) | inr few ↦ inl few ]

    was : (t : ℕ) (c : List ℕ) (left : LeftSince file (calls ++ call ∷ []) t c)
        → (left.0 ≤ length calls) ⊎ (left.0 ≡ length (calls ++ call ∷ []))
        → LeftSince file calls t c ⊎ LeftAfter file (calls ++ call ∷ []) c
    was t c left (inl few) = inl (left.0, left.1, few, subst (λ (cs : List Call). LeftAfter file cs c) (fewer calls call left.0 few) left.3)
    was t c left (inr all) =
        inr (subst (λ (cs : List Call). LeftAfter file cs c) (take_all left.0 (calls ++ call ∷ []) (omega (arith, all))) left.3)

pub elapses_to : (file : List ℕ) (calls later : List Call) (call : Call) → later ≡ calls ++ call ∷ []
    → Elapses (length calls) (length later) (LeftSince file calls) (LeftSince file later) (LeftAfter file later)
elapses_to file calls later call is =
    subst (λ (l : List Call). Elapses (length calls) (length l) (LeftSince file calls) (LeftSince file l) (LeftAfter file l)) (sym is)
    (elapses_push file calls call)

-- ---- appends

none_taken : (xs : List ℕ) → take 0 xs ≡ []
none_taken [] = refl
none_taken (x ∷ xs) = refl

-- nothing of the bytes was written
pub torn_none : (file bytes c : List ℕ) → c ≡ file → IsTorn file bytes c
torn_none file bytes c e = record {
  size = 0;
  last = [];
  plain = All-nil (λ byte. byte ≢ 10);
  is = e ∙ sym (append-nil file) ∙ ap (λ (t : List ℕ). file ++ t) (sym (append-nil (take 0 bytes) ∙ none_taken bytes));
}

-- so many of them were
torn_some : (n : ℕ) (file bytes c : List ℕ) → c ≡ file ++ take n bytes → IsTorn file bytes c
torn_some n file bytes c e = record {
  size = n;
  last = [];
  plain = All-nil (λ byte. byte ≢ 10);
  is = e ∙ ap (λ (t : List ℕ). file ++ t) (sym (append-nil (take n bytes)));
}

-- what was torn of a beginning of bytes was torn of them
torn_front : (n : ℕ) (file bytes c : List ℕ) → IsTorn file (take n bytes) c → IsTorn file bytes c
torn_front n file bytes c t = elim (cases_lt t.size n) [
  | inl few ↦
      let same = take-take t.size n bytes (omega (arith, few)) in
      record { size = t.size; last = t.last; plain = t.plain; is = t.is ∙ ap (λ (s : List ℕ). file ++ (s ++ t.last)) same }
  | inr more ↦
      let same = take_all t.size (take n bytes) (omega (arith, length-take n bytes, more)) in
      record { size = n; last = t.last; plain = t.plain; is = t.is ∙ ap (λ (s : List ℕ). file ++ (s ++ t.last)) same }
]

-- a crash leaves a torn append, of so many of the bytes at most, where there was nothing but the file
pub append_torn : (n : ℕ) (first : List ℕ) (calls later : List Call) (v : Vec ℕ Global) (bytes : List ℕ) → v.items ≡ take n bytes
    → later ≡ calls ++ Append v ∷ [] → Only (seen_after first calls) (LeftAfter first calls) → (c : List ℕ) → LeftAfter first later c
    → IsTorn (seen_after first calls) bytes c
append_torn n first calls later v bytes same is only c left =
    go (left_more first calls (Append v) c (subst (λ (l : List Call). LeftAfter first l c) is left))
  where
    go : (c ≡ seen_after first calls ++ v.items) ⊎ (UndoneAfter first (λ d. ⊥) calls c ⊎ IsTorn (seen_after first calls) v.items c)
        → IsTorn (seen_after first calls) bytes c
    go (inl all) = torn_some n (seen_after first calls) bytes c (all ∙ ap (λ (t : List ℕ). seen_after first calls ++ t) same)
    go (inr (inl before)) = torn_none (seen_after first calls) bytes c (only c (inr before))
    go (inr (inr torn)) =
        torn_front n (seen_after first calls) bytes c (subst (λ (t : List ℕ). IsTorn (seen_after first calls) t c) same torn)

-- ---- cuts

-- a file is as it was
pub not_cut : (n : ℕ) (c : List ℕ) → IsCut n c c
not_cut n c = record { size = n + length c; no_shorter = omega arith; front = sym (take_all (n + length c) c (omega arith)) }

-- a crash leaves what it could have left before, or the file that was cut
pub cut_follows : (n : ℕ) (first : List ℕ) (calls later : List Call) → later ≡ calls ++ Cut n ∷ [] → (c : List ℕ) → LeftAfter first later c
    → (d : List ℕ) × LeftAfter first calls d × IsCut n d c
cut_follows n first calls later is c left = go (left_more first calls (Cut n) c (subst (λ (l : List Call). LeftAfter first l c) is left))
  where
    go : (c ≡ take n (seen_after first calls)) ⊎ (UndoneAfter first (λ d. ⊥) calls c ⊎ (c ≡ seen_after first calls))
        → (d : List ℕ) × LeftAfter first calls d × IsCut n d c
    go (inl cut) = (seen_after first calls, inl refl, record { size = n; no_shorter = omega arith; front = cut })
    go (inr (inl before)) = (c, inr before, not_cut n c)
    go (inr (inr whole)) = (c, inl whole, not_cut n c)

-- ---- syncs

pub synced : (first : List ℕ) (calls later : List Call) → later ≡ calls ++ Sync ∷ [] → (c : List ℕ) → LeftAfter first later c
    → c ≡ seen_after first calls
synced first calls later is c left = go (left_more first calls Sync c (subst (λ (l : List Call). LeftAfter first l c) is left))
  where
    go : (c ≡ seen_after first calls) ⊎ ⊥ → c ≡ seen_after first calls
    go (inl seen) = seen
    go (inr none) = absurd none

-- ---- what was torn, with zeros behind it

pub torn_is : (m : ℕ) (file written all c : List ℕ) → all ≡ file ++ written → length all ≤ m
    → c ≡ take m all ++ replicate (m - length all) 0
    → c ≡ file ++ (written ++ replicate (m - length all) 0)
torn_is m file written all c is le made =
    made ∙ ap (λ (t : List ℕ). t ++ replicate (m - length all) 0) (take_all m all le ∙ is) ∙ append_assoc file written (replicate
    (m - length all) 0)

pub torn_left : (n zeros : ℕ) (first : List ℕ) (calls before : List Call) (call : Call) (more : Vec ℕ Global) (c : List ℕ)
    → calls ≡ before ++ call ∷ []
    → call ≡ Append more → c ≡ seen_after first before ++ (take n more.items ++ replicate zeros 0) → LeftAfter first calls c
torn_left n zeros first calls before call more c is last torn =
    inr (subst (λ (cs : List Call). UndoneAfter first (λ d. ⊥) cs c) (sym (is ∙ ap (λ (x : Call). before ++ x ∷ []) last))
    (undone_again first (λ d. ⊥) before (Append more) c
    (inr (record {
      size = n;
      last = replicate zeros 0;
      plain = All-replicate (λ byte. byte ≢ 10) zeros 0 (λ (e : 0 ≡ 10). omega
          (arith, e));
      is = torn;
    }))))

-- so many as are there
take_min : (n size : ℕ) (xs : List ℕ) → n ≡ min (length xs) size → take n xs ≡ take size xs
take_min n size xs is = elim (cases_lt size (length xs)) [
  | inl few ↦ ap (λ (k : ℕ). take k xs) (omega (arith, is, few))
  | inr more ↦ take_all n xs (omega (arith, is, more)) ∙ sym (take_all size xs more)
]

-- what is told of the last append, by whatever names
pub torn_same : (n size wanted filled : ℕ) (seen file more other c : List ℕ) → n ≡ min (length more) size → filled ≡ wanted
    → seen ≡ file → more ≡ other → c ≡ seen ++ (take n more ++ replicate filled 0)
    → c ≡ file ++ (take size other ++ replicate wanted 0)
torn_same n size wanted filled seen file more other c is fills before same torn =
    torn ∙ ap (λ (t : List ℕ). t ++ (take n more ++ replicate filled 0)) before
    ∙ ap (λ (t : List ℕ). file ++ (t ++ replicate filled 0)) (take_min n size more is ∙ ap (take size) same)
    ∙ ap (λ (k : ℕ). file ++ (take size other ++ replicate k 0)) fills
