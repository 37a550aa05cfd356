-- The parts of a log of one operation more.
use Rattle.std.proofs.Common.{◌≡◌, ℕ, zero, suc, ◌+◌, ◌*◌, ◌%◌, ◌<◌, ◌≤◌, ◌⊎◌, inl, inr, Bool, true, false, eqb, List, [], ◌∷◌, ◌++◌}
use Rattle.std.proofs.Common.{length, set, get_or, take, drop, cond, refl, ap, ◌∙◌, sym, subst, arith, length-append}
use Rattle.std.proofs.Common.{get_or-set_other, get_or-set_same}
use mathlib.Core.Path.{ap₂}
use Rattle.std.proofs.lemmas.Bool.{cases_eq, cond-true, cond-false, eq-eqb, eqb-true, false_from_ne_true}
use Rattle.std.proofs.lemmas.List.{get_or_append_left, get_or_push, length_push}
use Rattle.opid.specs.Operations.{Operation}
use Rattle.opid.specs.Delivery.{clock_of, count_of}
use Rattle.opid.proofs.Counts.{length-clock_of}
use Rattle.causal_clock.specs.declared.row.Row.{Row}
use Rattle.opid.specs.Kinds.{IsOperation}
use Rattle.causal_clock.specs.Stored.{changes, is_marked, is_whole, latest, entries_of}
use Rattle.causal_clock.specs.Internal.Packed.{no_row, no_op, row_at, operation_at, fill, row_clock, after, no_clocks, logged, IsRow}
use Rattle.causal_clock.specs.Internal.Packed.{AreRows, IsLastBefore, IsSite, IsPacked, base_of, marks_of, unmarked}
use Rattle.causal_clock.proofs.Changing.{fill-changes, length-changes_le}
use Rattle.causal_clock.proofs.Lasts.{last-grown, last-other, last-own}
use Rattle.causal_clock.proofs.Telling.{told-append, after-append, told-one, after-one, changes_of-new, part-new, AreWithin}
use Rattle.causal_clock.proofs.Telling.{told-grown, after-grown, latest-push, count-push, stored-push}
use Rattle.causal_clock.proofs.Packing.{packed_same, GoesBack, Tells, line-grown, new-near, line-new, eighths-more, one_each}

-- a site other than the operation's stays what it was
site-other : (rows : List Row) (ops : List Operation) (clocks : List (List ℕ)) (lasts numbers : List ℕ) (r : Row) (x : Operation)
    (n m s : ℕ) → length ops ≡ length rows → (s ≡ x.site → ⊥)
    → IsSite rows ops clocks lasts numbers s → IsSite (rows ++ r ∷ []) (ops ++ x ∷ []) (set clocks x.site x.clock) (set lasts x.site n)
    (set numbers x.site m) s
site-other rows ops clocks lasts numbers r x n m s e d p =
    let no : eqb x.site s ≡ false = false_from_ne_true (eqb x.site s) (λ q. d (sym (eqb-true x.site s q))) in
    let newest : latest (ops ++ x ∷ []) s ≡ latest ops s = latest-push (clock_of []) ops x s ∙ cond-false _ _ _ no in
    let many : count_of (ops ++ x ∷ []) s ≡ count_of ops s =
    count-push ops x s ∙ ap (λ v. count_of ops s + v) (cond-false _ _ _ no) ∙ omega arith in
    let place : get_or (set lasts x.site n) s 0 ≡ get_or lasts s 0 = get_or-set_other lasts x.site s n 0 d in
    record {
      clock = get_or-set_other clocks x.site s x.clock [] d ∙ p.clock ∙ sym newest;
      number = get_or-set_other numbers x.site s m 0 d ∙ p.number ∙ sym many;
      none = λ z. newest ∙ p.none (sym many ∙ z);
      last = λ z.
          subst (λ j. IsLastBefore (ops ++ x ∷ []) s (length (rows ++ r ∷ [])) j) (sym place)
          (subst (λ n. IsLastBefore (ops ++ x ∷ []) s n (get_or lasts s 0)) (sym (length_push rows r))
          (last-other (ops ++ x ∷ []) s (length rows) (get_or lasts s 0)
          (λ q. d (sym (sym (ap (λ (v : Operation). v.site) (get_or_push ops x no_op (length rows) e)) ∙ q)))
          (last-grown ops (x ∷ []) s (length rows) (get_or lasts s 0) (omega (arith, e)) (p.last (omega (arith, z, many))))));
      near = λ z.
          let b : (row_at (rows ++ r ∷ []) (get_or (set lasts x.site n) s 0)).back ≡ (row_at rows (get_or lasts s 0)).back =
          ap (λ j. (row_at (rows ++ r ∷ []) j).back) place
          ∙ ap (λ (v : Row). v.back) (get_or_append_left rows (r ∷ []) no_row (get_or lasts s 0)
          (p.last (omega (arith, z, many))).before) in
          let q : count_of (ops ++ x ∷ []) s % 8 ≡ count_of ops s % 8 = ap (λ v. v % 8) many in
          omega (arith, b, q, p.near (omega (arith, z, many)));
      same = λ z.
          ap (λ j. (operation_at (ops ++ x ∷ []) j).clock) place
          ∙ ap (λ (v : Operation). v.clock) (get_or_append_left ops (x ∷ []) no_op (get_or lasts s 0)
          (omega (arith, (p.last (omega (arith, z, many))).before, e)))
          ∙ p.same (omega (arith, z, many)) ∙ sym newest;
    }

-- the operation's site has it last
site-own : (es ms : List (ℕ × ℕ)) (rows : List Row) (ops : List Operation) (clocks : List (List ℕ))
    (lasts numbers : List ℕ) (r : Row) (x : Operation) (m : ℕ)
    → length ops ≡ length rows → length clocks ≡ 32 → length lasts ≡ 32 → length numbers ≡ 32 → m ≡ count_of ops x.site + 1
    → IsSite rows ops clocks lasts numbers x.site → Tells es ms rows ops lasts x r
    → IsSite (rows ++ r ∷ []) (ops ++ x ∷ []) (set clocks x.site x.clock) (set lasts x.site (length rows)) (set numbers x.site m) x.site
site-own es ms rows ops clocks lasts numbers r x m e wc wl wn c p t =
    let yes : eqb x.site x.site ≡ true = eq-eqb x.site x.site refl in
    let newest : latest (ops ++ x ∷ []) x.site ≡ x.clock = latest-push (clock_of []) ops x x.site ∙ cond-true _ _ _ yes in
    let many : count_of (ops ++ x ∷ []) x.site ≡ count_of ops x.site + 1 =
    count-push ops x x.site ∙ ap (λ v. count_of ops x.site + v) (cond-true _ _ _ yes) in
    let place : get_or (set lasts x.site (length rows)) x.site 0 ≡ length rows =
    get_or-set_same lasts x.site (length rows) 0 (omega (arith, t.valid.site)) in
    let b : (row_at (rows ++ r ∷ []) (get_or (set lasts x.site (length rows)) x.site 0)).back ≡ r.back =
    ap (λ j. (row_at (rows ++ r ∷ []) j).back) place ∙ ap (λ (v : Row). v.back) (get_or_push rows r no_row (length rows) refl) in
    let q : count_of (ops ++ x ∷ []) x.site % 8 ≡ (count_of ops x.site + 1) % 8 = ap (λ v. v % 8) many in
    record {
      clock = get_or-set_same clocks x.site x.clock [] (omega (arith, t.valid.site)) ∙ sym newest;
      number = get_or-set_same numbers x.site m 0 (omega (arith, t.valid.site)) ∙ c ∙ sym many;
      none = λ z. absurd (omega (arith, z, many));
      last = λ z.
          subst (λ j. IsLastBefore (ops ++ x ∷ []) x.site (length (rows ++ r ∷ [])) j) (sym place)
          (subst (λ n. IsLastBefore (ops ++ x ∷ []) x.site n (length rows)) (sym (length_push rows r))
          (last-own (ops ++ x ∷ []) x.site (length rows) (ap (λ (v : Operation). v.site) (get_or_push ops x no_op (length rows) e))));
      near = λ z. omega (arith, b, q, new-near ms rows ops clocks lasts numbers x r p t.back);
      same = λ z. ap (λ j. (operation_at (ops ++ x ∷ []) j).clock) place
          ∙ ap (λ (v : Operation). v.clock) (get_or_push ops x no_op (length rows) e) ∙ sym newest;
    }

within_each : (es ms : List (ℕ × ℕ)) (rows : List Row) (ops : List Operation) → AreRows es ms rows ops → AreWithin es rows
within_each es ms rows ops h = λ k l. (h k l).within

-- the clock that the new row tells
clock-new : (es ms ns : List (ℕ × ℕ)) (rows : List Row) (ops : List Operation) (clocks : List (List ℕ))
    (lasts numbers : List ℕ) (r : Row) (x : Operation)
    → length (latest ops x.site) ≡ 32 → IsPacked es ms rows ops clocks lasts numbers → Tells es ns rows ops lasts x r
    → row_clock (after no_clocks (es ++ entries_of ops x) rows) (es ++ entries_of ops x) r ≡ x.clock
clock-new es ms ns rows ops clocks lasts numbers r x w p t =
    let more : List (ℕ × ℕ) = entries_of ops x in
    let now : after no_clocks (es ++ more) rows ≡ clocks =
    after-grown no_clocks es more rows (within_each es ms rows ops p.lines) ∙ sym p.current in
    let before : get_or (after no_clocks (es ++ more) rows) r.site [] ≡ latest ops x.site =
    ap₂ (λ (c : List (List ℕ)) s. get_or c s []) now t.site ∙ (p.sites x.site t.valid.site).clock in
    ap₂ (λ (c : List ℕ) (e : List (ℕ × ℕ)). fill c e) before (changes_of-new es more r t.from t.count)
    ∙ fill-changes (is_whole (count_of ops x.site)) (latest ops x.site) x.clock (latest ops x.site) 32 w t.valid.width (λ _. refl)

same-op : (x : Operation) (r : Row) (c : List ℕ) → r.site ≡ x.site → c ≡ x.clock → r.kind ≡ x.kind
    → (let y : Operation = record { site = r.site; clock = c; kind = r.kind } in y) ≡ x
same-op x r c a b k =
    ap (λ v. let y : Operation = record { site = v; clock = c; kind = r.kind } in y) a
    ∙ ap (λ v. let y : Operation = record { site = x.site; clock = v; kind = r.kind } in y) b
    ∙ ap (λ v. let y : Operation = record { site = x.site; clock = x.clock; kind = v } in y) k

-- the log of one row more
logged-push : (es ms ns : List (ℕ × ℕ)) (rows : List Row) (clocks : List (List ℕ)) (lasts numbers : List ℕ) (r : Row)
    (x : Operation)
    → length (latest (logged es rows) x.site) ≡ 32 → IsPacked es ms rows (logged es rows) clocks lasts numbers
    → Tells es ns rows (logged es rows) lasts x r
    → logged (es ++ entries_of (logged es rows) x) (rows ++ r ∷ []) ≡ logged es rows ++ x ∷ []
logged-push es ms ns rows clocks lasts numbers r x w p t =
    let more : List (ℕ × ℕ) = entries_of (logged es rows) x in
    told-append no_clocks (es ++ more) rows (r ∷ [])
    ∙ ap₂ (λ (a b : List Operation). a ++ b)
    (told-grown no_clocks es more rows (within_each es ms rows (logged es rows) p.lines))
    (told-one (after no_clocks (es ++ more) rows) (es ++ more) r
    ∙ ap (λ (v : Operation). v ∷ []) (same-op x r (row_clock (after no_clocks (es ++ more) rows) (es ++ more) r) t.site
    (clock-new es ms ns rows (logged es rows) clocks lasts numbers r x w p t) t.kind))

-- the parts of one operation more
packed-push : (es ms fresh : List (ℕ × ℕ)) (rows : List Row) (ops : List Operation) (clocks : List (List ℕ))
    (lasts numbers : List ℕ) (r : Row) (x : Operation) (m : ℕ)
    → length clocks ≡ 32 → length lasts ≡ 32 → length numbers ≡ 32 → m ≡ get_or numbers x.site 0 + 1 → length (latest ops x.site) ≡ 32
    → length fresh + 4 * ((get_or numbers x.site 0 + 1) % 8) ≤ 4 * (get_or numbers x.site 0 % 8 + 1)
    → IsPacked es ms rows ops clocks lasts numbers → Tells es (ms ++ fresh) rows ops lasts x r
    → IsPacked (es ++ entries_of ops x) (ms ++ fresh) (rows ++ r ∷ []) (ops ++ x ∷ []) (set clocks x.site x.clock)
    (set lasts x.site (length rows)) (set numbers x.site m)
packed-push es ms fresh rows ops clocks lasts numbers r x m wc wl wn c w f p t =
    let more : List (ℕ × ℕ) = entries_of ops x in
    let now : after no_clocks (es ++ more) rows ≡ clocks =
    after-grown no_clocks es more rows (within_each es ms rows ops p.lines) ∙ sym p.current in
    record {
      each = length_push ops x ∙ ap (λ v. v + 1) p.each ∙ sym (length_push rows r);
      lines = λ k l. line k l (cases_eq k (length rows));
      sites = λ s l. site s l (cases_eq s x.site);
      current = sym (after-append no_clocks (es ++ more) rows (r ∷ []) ∙ after-one (after no_clocks (es ++ more) rows) (es ++ more) r
          ∙ ap (λ (v : List ℕ). set (after no_clocks (es ++ more) rows) r.site v)
          (clock-new es ms (ms ++ fresh) rows ops clocks lasts numbers r x w p t)
          ∙ ap₂ (λ (v : List (List ℕ)) s. set v s x.clock) now t.site);
      kept = ap (λ v. v ++ more) p.kept ∙ sym (stored-push [] ops x);
      small = omega (
        arith,
        p.small,
        length-append es more,
        length_push rows r,
        length-changes_le (is_whole (count_of ops x.site)) (latest ops x.site) x.clock 32,
      );
      eighths = omega (
        arith,
        ap (λ v. unmarked (set numbers x.site v)) c,
        eighths-more ms fresh numbers x.site (length rows) (omega (arith, wn, t.valid.site)) f p.eighths,
        length_push rows r,
      );
    }
  where
    line : (k : ℕ) → k < length (rows ++ r ∷ []) → (k ≡ length rows) ⊎ (k ≡ length rows → ⊥)
        → IsRow (es ++ entries_of ops x) (ms ++ fresh) (rows ++ r ∷ []) (ops ++ x ∷ []) k
    line k l (inl e) = subst (λ v. IsRow (es ++ entries_of ops x) (ms ++ fresh) (rows ++ r ∷ []) (ops ++ x ∷ []) v) (sym e)
        (line-new es ms (ms ++ fresh) rows ops clocks lasts numbers r x w p t)
    line k l (inr d) =
        let before : k < length rows = beneath k (length rows) (omega (arith, l, length_push rows r)) d in
        line-grown es (entries_of ops x) ms fresh rows ops r x k p.each before (p.lines k before)
      where
        beneath : (a b : ℕ) → a < b + 1 → (a ≡ b → ⊥) → a < b
        beneath a b u v = grind (arith)

    site : (s : ℕ) → s < 32 → (s ≡ x.site) ⊎ (s ≡ x.site → ⊥)
        → IsSite (rows ++ r ∷ []) (ops ++ x ∷ []) (set clocks x.site x.clock) (set lasts x.site (length rows)) (set numbers x.site m) s
    site s l (inl e) =
        subst (λ v. IsSite (rows ++ r ∷ []) (ops ++ x ∷ []) (set clocks x.site x.clock) (set lasts x.site (length rows))
        (set numbers x.site m) v) (sym e)
        (site-own es (ms ++ fresh) rows ops clocks lasts numbers r x m p.each wc wl wn
        (c ∙ ap (λ v. v + 1) (p.sites x.site t.valid.site).number) (p.sites x.site t.valid.site) t)
    site s l (inr d) = site-other rows ops clocks lasts numbers r x (length rows) m s p.each d (p.sites s l)

-- the vectors after one operation more
pub appended : (es fs ms fresh ns : List (ℕ × ℕ)) (rows lines : List Row) (clocks : List (List ℕ))
    (lasts numbers : List ℕ) (r : Row) (x : Operation) (m : ℕ)
    → fs ≡ es ++ entries_of (logged es rows) x → ns ≡ ms ++ fresh → lines ≡ rows ++ r ∷ []
    → length clocks ≡ 32 → length lasts ≡ 32 → length numbers ≡ 32 → m ≡ get_or numbers x.site 0 + 1
    → length (latest (logged es rows) x.site) ≡ 32
    → length fresh + 4 * ((get_or numbers x.site 0 + 1) % 8) ≤ 4 * (get_or numbers x.site 0 % 8 + 1)
    → IsPacked es ms rows (logged es rows) clocks lasts numbers → Tells es (ms ++ fresh) rows (logged es rows) lasts x r
    → IsPacked fs ns lines (logged fs lines) (set clocks x.site x.clock) (set lasts x.site (length rows)) (set numbers x.site m)
    × (logged fs lines ≡ logged es rows ++ x ∷ [])
appended es fs ms fresh ns rows lines clocks lasts numbers r x m ef em el wc wl wn c w f p t =
    let grown : logged (es ++ entries_of (logged es rows) x) (rows ++ r ∷ []) ≡ logged es rows ++ x ∷ [] =
    logged-push es ms (ms ++ fresh) rows clocks lasts numbers r x w p t in
    let all : IsPacked (es ++ entries_of (logged es rows) x) (ms ++ fresh) (rows ++ r ∷ [])
    (logged (es ++ entries_of (logged es rows) x) (rows ++ r ∷ [])) (set clocks x.site x.clock) (set lasts x.site (length rows))
    (set numbers x.site m) =
    subst (λ (v : List Operation). IsPacked (es ++ entries_of (logged es rows) x) (ms ++ fresh) (rows ++ r ∷ []) v
    (set clocks x.site x.clock) (set lasts x.site (length rows)) (set numbers x.site m)) (sym grown)
    (packed-push es ms fresh rows (logged es rows) clocks lasts numbers r x m wc wl wn c w f p t) in (
      packed_same (es ++ entries_of (logged es rows) x) fs (ms ++ fresh) ns (rows ++ r ∷ []) lines (set clocks x.site x.clock)
          (set lasts x.site (length rows)) (set numbers x.site m) ef em el all,
      ap₂ (λ (a : List (ℕ × ℕ)) (b : List Row). logged a b) ef el ∙ grown,
    )

-- ---- what the calls answered

pub width-latest : (es ms : List (ℕ × ℕ)) (rows : List Row) (ops : List Operation) (clocks : List (List ℕ))
    (lasts numbers : List ℕ) (s place : ℕ) (before : List ℕ) → IsPacked es ms rows ops clocks lasts numbers
    → s < 32 → place ≡ s → before ≡ get_or clocks place [] → before ≡ latest ops s
width-latest es ms rows ops clocks lasts numbers s place before p l e b = b ∙ ap (λ k. get_or clocks k []) e ∙ (p.sites s l).clock

-- the row names the clock before, or goes back
goes-back : (ms : List (ℕ × ℕ)) (rows : List Row) (ops : List Operation) (clocks : List (List ℕ)) (lasts numbers : List ℕ) (x : Operation)
    (r : Row) → IsSite rows ops clocks lasts numbers x.site
    → (is_marked (get_or numbers x.site 0) ≡ true → fill (base_of ms r) (entries_of ops x) ≡ x.clock)
    → (is_marked (get_or numbers x.site 0) ≡ false → latest ops x.site ≡ clock_of [] → fill (base_of ms r) (entries_of ops x) ≡ x.clock)
    → (is_marked (get_or numbers x.site 0) ≡ false → r.prev ≡ get_or lasts x.site 0)
    → (is_marked (get_or numbers x.site 0) ≡ true → r.back ≡ 0) → (get_or numbers x.site 0 + 1 ≤ 1 → r.back ≡ 0)
    → (is_marked (get_or numbers x.site 0) ≡ false → 1 < get_or numbers x.site 0 + 1
    → r.back ≡ (row_at rows (get_or lasts x.site 0)).back + 1)
    → GoesBack ms rows ops lasts x r
goes-back ms rows ops clocks lasts numbers x r own b d e h f g = go (is_marked (count_of ops x.site)) (count_of ops x.site) refl refl
  where
    go : (t : Bool) (n : ℕ) → is_marked (count_of ops x.site) ≡ t → count_of ops x.site ≡ n → GoesBack ms rows ops lasts x r
    go true n q c =
        let m : is_marked (get_or numbers x.site 0) ≡ true = ap is_marked own.number ∙ q in
        inl (h m, b m)
    go false zero q c =
        let m : is_marked (get_or numbers x.site 0) ≡ false = ap is_marked own.number ∙ q in
        inl (f (omega (arith, own.number, c)), d m (own.none c))
    go false (suc n) q c =
        let m : is_marked (get_or numbers x.site 0) ≡ false = ap is_marked own.number ∙ q in
        inr (omega (arith, c), q, e m, g m (omega (arith, own.number, c)))

-- the mark stands at its place, and tells the clock before
marked_at : (ms : List (ℕ × ℕ)) (t : Bool) (before : List ℕ) (r : Row) → length before ≡ 32
    → r.prev ≡ length ms → r.mark ≡ length (marks_of t before) → t ≡ true → base_of (ms ++ marks_of t before) r ≡ before
marked_at ms true before r w p m e =
    ap (fill (clock_of [])) (part-new ms (marks_of true before) r.prev r.mark p m)
    ∙ fill-changes false (clock_of []) before (clock_of []) 32 (length-clock_of []) w (λ _. refl)
marked_at ms false before r w p m e = absurd (cc)

unmarked_at : (ms : List (ℕ × ℕ)) (t : Bool) (before : List ℕ) (r : Row) → r.mark ≡ length (marks_of t before) → t ≡ false
    → base_of ms r ≡ clock_of []
unmarked_at ms true before r m e = absurd (cc)
unmarked_at ms false before r m e = ap (λ n. fill (clock_of []) (take n (drop r.prev ms))) m

marked_within : (ms : List (ℕ × ℕ)) (t : Bool) (before : List ℕ) (p m last : ℕ) → p ≡ cond t (length ms) last
    → m ≡ length (marks_of t before) → 0 < m → p + m ≤ length (ms ++ marks_of t before)
marked_within ms true before p m last e f l = omega (arith, e, f, length-append ms (marks_of true before))
marked_within ms false before p m last e f l = absurd (omega (arith, f, l))

-- so the entries make the clock over it, or by themselves
base_read : (ms : List (ℕ × ℕ)) (t w : Bool) (before clock : List ℕ) (r : Row) (last : ℕ) → length before ≡ 32 → length clock ≡ 32
    → r.prev ≡ cond t (length ms) last → r.mark ≡ length (marks_of t before)
    → (t ≡ false → fill (clock_of []) (changes w before clock 32) ≡ clock)
    → fill (base_of (ms ++ marks_of t before) r) (changes w before clock 32) ≡ clock
base_read ms true w before clock r last wb wc p m h =
    let base = marked_at ms true before r wb p m refl in
    fill-changes w before clock (base_of (ms ++ marks_of true before) r) 32 (ap length base ∙ wb) wc (λ _. base)
base_read ms false w before clock r last wb wc p m h =
    ap (λ b. fill b (changes w before clock 32)) (unmarked_at (ms ++ []) false before r m refl) ∙ h refl

unneeded : (t m : Bool) → (t ≡ true → m ≡ true) → m ≡ false → t ≡ false
unneeded true m h e = sym (h refl) ∙ e
unneeded false m h e = refl

pub appended_read : (es fs ms ns : List (ℕ × ℕ)) (rows lines : List Row) (clocks : List (List ℕ)) (lasts numbers : List ℕ)
    (r : Row) (x : Operation) (place : ℕ) (before clock : List ℕ) (needs : Bool)
    → IsPacked es ms rows (logged es rows) clocks lasts numbers → IsOperation x
    → length clocks ≡ 32 → length lasts ≡ 32 → length numbers ≡ 32
    → place ≡ x.site → clock ≡ x.clock → before ≡ get_or clocks place [] → length before ≡ 32
    → fs ≡ es ++ changes (is_whole (get_or numbers place 0)) before clock 32
    → (needs ≡ true → is_marked (get_or numbers place 0) ≡ true)
    → (is_marked (get_or numbers place 0) ≡ true → needs ≡ false
    → fill (clock_of []) (changes (is_whole (get_or numbers place 0)) before clock 32) ≡ clock)
    → ns ≡ ms ++ marks_of needs before → lines ≡ rows ++ r ∷ []
    → r.site ≡ x.site → r.kind ≡ x.kind → r.from ≡ length es
    → r.count ≡ length (changes (is_whole (get_or numbers place 0)) before clock 32)
    → r.mark ≡ length (marks_of needs before)
    → r.prev ≡ cond needs (length ms) (get_or lasts place 0)
    → (is_marked (get_or numbers place 0) ≡ true → r.back ≡ 0) → (get_or numbers place 0 + 1 ≤ 1 → r.back ≡ 0)
    → (is_marked (get_or numbers place 0) ≡ false → 1 < get_or numbers place 0 + 1 → r.back ≡ (row_at rows (get_or lasts place 0)).back + 1)
    → IsPacked fs ns lines (logged fs lines) (set clocks place clock) (set lasts place (length rows))
    (set numbers place (get_or numbers place 0 + 1)) × (logged fs lines ≡ logged es rows ++ x ∷ [])
appended_read es fs ms ns rows lines clocks lasts numbers r x place before clock needs p v wc wl wn s c b wb ef k a em el rs rk rf rn rm rp
    h f g =
    let own : IsSite rows (logged es rows) clocks lasts numbers x.site = p.sites x.site v.site in
    let old : before ≡ latest (logged es rows) x.site =
    width-latest es ms rows (logged es rows) clocks lasts numbers x.site place before p v.site s b in
    let number : get_or numbers place 0 ≡ count_of (logged es rows) x.site = ap (λ k. get_or numbers k 0) s ∙ own.number in
    let same : changes (is_whole (get_or numbers place 0)) before clock 32 ≡ entries_of (logged es rows) x =
    ap (λ n. changes (is_whole n) before clock 32) number ∙ ap₂
    (λ (a d : List ℕ). changes (is_whole (count_of (logged es rows) x.site)) a d 32) old c in
    let at : get_or numbers x.site 0 ≡ get_or numbers place 0 = ap (λ k. get_or numbers k 0) (sym s) in
    let there : get_or lasts place 0 ≡ get_or lasts x.site 0 = ap (λ k. get_or lasts k 0) s in
    let fresh : List (ℕ × ℕ) = marks_of needs before in
    let wide : length clock ≡ 32 = ap length c ∙ v.width in
    let made : (needs ≡ false → fill (clock_of []) (changes (is_whole (get_or numbers place 0)) before clock 32) ≡ clock)
    → fill (base_of (ms ++ fresh) r) (entries_of (logged es rows) x) ≡ x.clock =
    λ alone. ap (λ m. fill (base_of (ms ++ fresh) r) m) (sym same)
    ∙ base_read ms needs (is_whole (get_or numbers place 0)) before clock r (get_or lasts place 0) wb wide rp rm alone ∙ c in
    let tells : Tells es (ms ++ fresh) rows (logged es rows) lasts x r = record {
      valid = v;
      site = rs;
      kind = rk;
      from = rf;
      count = rn ∙ ap length same;
      mark = marked_within ms needs before r.prev r.mark (get_or lasts place 0) rp rm;
      back = goes-back (ms ++ fresh) rows (logged es rows) clocks lasts numbers x r own
          (λ q. made (a (ap is_marked (sym at) ∙ q)))
          (λ q e. made (λ _. fill-changes (is_whole (get_or numbers place 0)) before clock (clock_of []) 32 (length-clock_of []) wide
          (λ _. sym (old ∙ e))))
          (λ q.
          let m : needs ≡ false = unneeded needs (is_marked (get_or numbers place 0)) k (ap is_marked (sym at) ∙ q) in
          rp ∙ cond-false _ _ _ m ∙ there)
          (λ q. h (ap is_marked (sym at) ∙ q)) (λ q. f (omega (arith, q, at)))
          (λ q w. g (ap is_marked (sym at) ∙ q) (omega (arith, w, at)) ∙ ap (λ k. (row_at rows k).back + 1) there);
    } in
    let all = appended es fs ms fresh ns rows lines clocks lasts numbers r x (get_or numbers place 0 + 1) (ef ∙ ap (λ m. es ++ m) same) em
    el wc wl wn (ap (λ n. n + 1) (sym at)) (sym (ap length old) ∙ wb)
    (subst (λ n. length fresh + 4 * ((n + 1) % 8) ≤ 4 * (n % 8 + 1)) (sym at)
    (one_each (get_or numbers place 0) needs before k)) p tells in (
      subst (λ (k : ℕ). IsPacked fs ns lines (logged fs lines) (set clocks k clock) (set lasts k (length rows))
          (set numbers k (get_or numbers place 0 + 1))) (sym s)
          (subst (λ (d : List ℕ). IsPacked fs ns lines (logged fs lines) (set clocks x.site d) (set lasts x.site (length rows))
          (set numbers x.site (get_or numbers place 0 + 1))) (sym c) all.0),
      all.1,
    )
