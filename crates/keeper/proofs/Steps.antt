-- What a kept file is after each call of its disk.
use Rattle.std.proofs.Common.{◌≡◌, ℕ, ◌+◌, ◌≤◌, Bool, true, false, List, [], ◌++◌, length, take, drop, refl, sym, ap, ◌∙◌, subst, arith}
use Rattle.std.proofs.Common.{length-append, ◌⊎◌, inl, inr, Result, Ok, Err, OnOk, OnErr}
use Rattle.std.proofs.lemmas.List.{length-drop}
use Rattle.journal.specs.Journal.{AreLinesOf, IsEnded, EndsLines}
use Rattle.std.proofs.lemmas.List.{append-nil, take-take, take-append-le, length-take, take_all}
use Rattle.opid.specs.Operations.{Operation}
use Rattle.opid.specs.Lawful.{IsLawful}
use Rattle.journal.specs.Journal.{StandsFor}
use Rattle.journal.specs.declared.mark.Mark.{Mark}
use Rattle.sha2.specs.Hashers.{Holds256}
use Rattle.keeper.specs.Disk.{Only, IsHeld, Follows, IsCut, IsTorn}
use Rattle.keeper.specs.Turn.{OpensAs, IsFront}
use Rattle.keeper.specs.Kept.{KeepsAt, IsClean, IsTurn, HasWritten}
use Rattle.keeper.specs.declared.kept.KeptFile.{KeptFile}
use Rattle.journal.proofs.ReadLines.{whole_stands}
use Rattle.keeper.proofs.TornFiles.{grows, tears, stays_cut, front_longer, opens_longer}

-- what is held of more bytes is held of fewer
pub held_less : (m n : ℕ) (file : List ℕ) (outcomes : List ℕ → Type 0) → m ≤ n → IsHeld n file outcomes → IsHeld m file outcomes
held_less m n file outcomes le held = λ c left.
    sym (take-take m n c le) ∙ ap (take m) (held c left) ∙ take-take m n file le

-- as long a beginning is there
same_front : (n : ℕ) (old new : List ℕ) → n ≤ length old → take n new ≡ take n old → n ≤ length new
same_front n old new le e = omega (arith, length-take n old, length-take n new, ap (length {A = ℕ}) e)

module _ {D : Type 0} (honest : D → Type 0) (seen : D → List ℕ) (may_leave : D → List ℕ → Type 0) (fresh : D → ℕ) where
  dirty : (disk : D) (n : ℕ) → false ≡ true → IsClean seen may_leave fresh disk n
  dirty disk n e = cc

  -- after a cut, if it failed or not
  pub after_cut : (disk new : D) (mark : Mark) (b : Bool) (log : List Operation) → KeepsAt honest seen may_leave fresh disk mark b log
      → (honest disk → honest new)
      → (honest disk → mark.length ≤ length (seen disk) → take mark.length (seen new) ≡ take mark.length (seen disk))
      → (honest disk → Follows (IsCut mark.length) (may_leave disk) (may_leave new))
      → KeepsAt honest seen may_leave fresh new mark false log
  after_cut disk new mark b log k still keeps crash =
      let same = keeps k.is_honest k.within in
      let follows = crash k.is_honest in
      record {
        is_honest = still k.is_honest;
        within = same_front mark.length (seen disk) (seen new) k.within same;
        front = subst (λ (f : List ℕ). IsFront f mark.version log) (sym same) k.front;
        hashed = subst (Holds256 mark.digest) (sym same) k.hashed;
        synced = λ c left.
            let from = follows c left in
            ap (take mark.length) from.2.front ∙ take-take mark.length from.2.size from.0 from.2.no_shorter ∙ k.synced from.0 from.1
            ∙ sym same;
        opens = λ c left.
            let from = follows c left in
            subst (OpensAs mark.version log) (sym from.2.front)
            (stays_cut mark.length from.2.size mark.version log from.0 from.2.no_shorter
            (subst (λ (f : List ℕ). IsFront f mark.version log) (sym (k.synced from.0 from.1)) k.front) (k.opens from.0 from.1));
        clean = dirty new mark.length;
      }

  -- after a sync, if it failed or not
  pub after_sync : (disk new : D) (mark : Mark) (b : Bool) (log : List Operation) → KeepsAt honest seen may_leave fresh disk mark b log
      → (honest disk → honest new) → (honest disk → seen new ≡ seen disk) → (honest disk → (c : List ℕ) → may_leave new c
      → may_leave disk c)
      → KeepsAt honest seen may_leave fresh new mark false log
  after_sync disk new mark b log k still sames crashes =
      let same = sames k.is_honest in
      let crash = crashes k.is_honest in
      record {
        is_honest = still k.is_honest;
        within = omega (arith, k.within, ap (length {A = ℕ}) same);
        front = subst (λ (f : List ℕ). IsFront (take mark.length f) mark.version log) (sym same) k.front;
        hashed = subst (λ (f : List ℕ). Holds256 mark.digest (take mark.length f)) (sym same) k.hashed;
        synced = λ c left. k.synced c (crash c left) ∙ ap (take mark.length) (sym same);
        opens = λ c left. k.opens c (crash c left);
        clean = dirty new mark.length;
      }

  -- a sync that succeeds makes a file clean that ends with the mark
  pub settled : (disk new : D) (mark : Mark) (b : Bool) (log : List Operation) → KeepsAt honest seen may_leave fresh disk mark b log
      → length (seen disk) ≡ mark.length → fresh disk ≤ mark.length
      → (honest disk → honest new) → (honest disk → seen new ≡ seen disk) → (honest disk → (c : List ℕ) → may_leave new c
      → may_leave disk c)
      → (honest disk → IsHeld (fresh disk) (seen disk) (may_leave disk) → Only (seen disk) (may_leave new) × (fresh new ≡ 0))
      → KeepsAt honest seen may_leave fresh new mark true log
  settled disk new mark b log k whole written still sames crashes durable =
      let same = sames k.is_honest in
      let now = durable k.is_honest (held_less (fresh disk) mark.length (seen disk) (may_leave disk) written k.synced) in
      let on = after_sync disk new mark b log k still sames crashes in
      record {
        is_honest = on.is_honest;
        within = on.within;
        front = on.front;
        hashed = on.hashed;
        synced = on.synced;
        opens = on.opens;
        clean = λ e. record {
          whole = ap (length {A = ℕ}) same ∙ whole;
          only = λ c left. now.0 c left ∙ sym same;
          written = omega (arith, now.1);
        };
      }

  -- all of a clean file is what stands in front of the mark
  pub whole_front : (disk : D) (mark : Mark) (log : List Operation) → KeepsAt honest seen may_leave fresh disk mark true log
      → IsFront (seen disk) mark.version log
  whole_front disk mark log k =
      subst (λ (f : List ℕ). IsFront f mark.version log) (take_all mark.length (seen disk) (omega (arith, (k.clean refl).whole))) k.front

  -- after lines were appended, if that failed or not
  pub after_append : (disk new : D) (mark next : Mark) (log : List Operation) (lines : List ℕ)
      → KeepsAt honest seen may_leave fresh disk mark true log → IsTurn (seen disk) mark next log lines
      → (honest disk → honest new) → (honest disk → (more : List ℕ) × (seen new ≡ seen disk ++ more))
      → (honest disk → Only (seen disk) (may_leave disk) → (c : List ℕ) → may_leave new c → IsTorn (seen disk) lines c)
      → KeepsAt honest seen may_leave fresh new mark false log
  after_append disk new mark next log lines k turn still mores crashes =
      let clean = k.clean refl in
      let more = (mores k.is_honest).0 in
      let same = (mores k.is_honest).1 in
      let crash = crashes k.is_honest in
      let front : take mark.length (seen new) ≡ take mark.length (seen disk) =
      ap (take mark.length) same ∙ take-append-le mark.length (seen disk) more k.within in
      record {
        is_honest = still k.is_honest;
        within = same_front mark.length (seen disk) (seen new) k.within front;
        front = subst (λ (f : List ℕ). IsFront f mark.version log) (sym front) k.front;
        hashed = subst (Holds256 mark.digest) (sym front) k.hashed;
        synced = λ c left.
            let torn = crash clean.only c left in
            ap (take mark.length) torn.is ∙ take-append-le mark.length (seen disk) (take torn.size lines ++ torn.last) k.within ∙ sym front;
        opens = λ c left. tears (seen disk) lines mark.version log (whole_front disk mark log k) turn.are c (crash clean.only c left);
        clean = dirty new mark.length;
      }

  -- and after the sync that succeeds the mark stands behind them
  pub after_turn : (disk mid new : D) (mark next : Mark) (log : List Operation) (lines : List ℕ)
      → KeepsAt honest seen may_leave fresh disk mark true log → KeepsAt honest seen may_leave fresh mid mark false log
      → IsTurn (seen disk) mark next log lines
      → (honest disk → seen mid ≡ seen disk ++ lines) → (honest disk → fresh mid ≤ fresh disk)
      → (honest mid → honest new) → (honest mid → seen new ≡ seen mid)
      → (honest mid → IsHeld (fresh mid) (seen mid) (may_leave mid) → Only (seen mid) (may_leave new) × (fresh new ≡ 0))
      → KeepsAt honest seen may_leave fresh new next true log
  after_turn disk mid new mark next log lines k m turn writtens freshers still sames durable =
      let clean = k.clean refl in
      let written = writtens k.is_honest in
      let fresher = freshers k.is_honest in
      let same = sames m.is_honest in
      let now = durable m.is_honest (held_less (fresh mid) mark.length (seen mid) (may_leave mid) (omega (arith, fresher, clean.written))
      m.synced) in
      let all = grows (seen disk) lines mark.version log (whole_front disk mark log k) turn.are in
      let is : seen new ≡ seen disk ++ lines = same ∙ written in
      let size : length (seen new) ≡ next.length =
      ap (length {A = ℕ}) is ∙ length-append (seen disk) lines ∙ ap (λ n. n + length lines) clean.whole ∙ sym turn.size in
      let front : take next.length (seen new) ≡ seen disk ++ lines = take_all next.length (seen new) (omega (arith, size)) ∙ is in
      let only : Only (seen new) (may_leave new) = λ c left. now.0 c left ∙ sym same in
      record {
        is_honest = still m.is_honest;
        within = omega (arith, size);
        front = subst (λ (f : List ℕ). IsFront f next.version log) (sym front) (subst (λ n. IsFront (seen disk ++ lines) n log)
            (sym turn.version) all);
        hashed = subst (Holds256 next.digest) (sym front) turn.hashed;
        synced = λ c left. ap (take next.length) (only c left);
        opens = λ c left. record {
          count = length log;
          at_least = omega (arith, turn.version);
          within = omega arith;
          stands = subst (λ (f : List ℕ). StandsFor f (take (length log) log)) (sym (only c left ∙ is)) all.stands;
        };
        clean = λ e. record { whole = size; only = only; written = omega (arith, now.1) };
      }

  -- what is kept of a log is kept of a longer one
  pub keeps_longer : (disk : D) (mark : Mark) (b : Bool) (log more : List Operation) → KeepsAt honest seen may_leave fresh disk mark b log
      → IsLawful (log ++ more) → length (log ++ more) ≤ 131072 → KeepsAt honest seen may_leave fresh disk mark b (log ++ more)
  keeps_longer disk mark b log more k lawful few = record {
    is_honest = k.is_honest;
    within = k.within;
    front = front_longer (take mark.length (seen disk)) mark.version log more k.front lawful few;
    hashed = k.hashed;
    synced = k.synced;
    opens = λ c left. opens_longer mark.version mark.version log more c (omega arith) (k.opens c left);
    clean = k.clean;
  }

  -- what was synced and read, and stands for a log
  pub found_at : (disk mid new : D) (file : List ℕ) (mark : Mark) (b : Bool) (log : List Operation) → honest disk
      → IsHeld (fresh disk) (seen disk) (may_leave disk)
      → (honest disk → honest mid) → (honest disk → seen mid ≡ seen disk)
      → (honest disk → IsHeld (fresh disk) (seen disk) (may_leave disk) → Only (seen disk) (may_leave mid) × (fresh mid ≡ 0))
      → (honest mid → honest new) → (honest mid → file ≡ seen mid) → (honest mid → seen new ≡ seen mid)
      → (honest mid → fresh new ≤ fresh mid)
      → (honest mid → (c : List ℕ) → may_leave new c → may_leave mid c)
      → StandsFor file log → EndsLines mark.length file → Holds256 mark.digest (take mark.length file)
      → mark.version ≡ length log → (b ≡ true → mark.length ≡ length file)
      → KeepsAt honest seen may_leave fresh new mark b log
  found_at disk mid new file mark b log h held still1 same1 durable still2 reads same2 fresher crash stands ends hashed version ended =
      let h2 = still1 h in
      let now = durable h held in
      let is : seen new ≡ file = same2 h2 ∙ sym (reads h2) in
      let size : length (seen new) ≡ length file = ap (length {A = ℕ}) is in
      let all : take mark.version log ≡ log = take_all mark.version log (omega (arith, version)) in
      let only : Only (seen new) (may_leave new) = λ c left. now.0 c (crash h2 c left) ∙ sym (same1 h) ∙ sym (same2 h2) in
      let every : take (length log) log ≡ log = take_all (length log) log (omega arith) in
      record {
        is_honest = still2 h2;
        within = omega (arith, ends.within, size);
        front = record {
          lawful = stands.lawful;
          few = stands.few;
          begins = omega (arith, version);
          ended = subst (λ (f : List ℕ). IsEnded (take mark.length f)) (sym is) ends.ended;
          stands = subst (λ (f : List ℕ). StandsFor (take mark.length f) (take mark.version log)) (sym is)
              (subst (StandsFor (take mark.length file)) (sym all) (whole_stands mark.length file log ends stands));
        };
        hashed = subst (λ (f : List ℕ). Holds256 mark.digest (take mark.length f)) (sym is) hashed;
        synced = λ c left. ap (take mark.length) (only c left);
        opens = λ c left. record {
          count = length log;
          at_least = omega (arith, version);
          within = omega arith;
          stands = subst (λ (f : List ℕ). StandsFor f (take (length log) log)) (sym (only c left ∙ is))
              (subst (StandsFor file) (sym every) stands);
        };
        clean = λ e. record { whole = size ∙ sym (ended e); only = only; written = omega (arith, fresher h2, now.1) };
      }

-- the lines of a turn's operations, of which the first follows those that are kept
pub turn_is : (file : List ℕ) (mark next : Mark) (log ops : List Operation) (lines : List ℕ) → AreLinesOf file mark.version ops lines
    → next.version ≡ mark.version + length ops → next.length ≡ mark.length + length lines → Holds256 next.digest (file ++ lines)
    → ops ≡ drop mark.version log → mark.version ≤ length log → IsTurn file mark next log lines
turn_is file mark next log ops lines are version size hashed is le = record {
  are = subst (λ (xs : List Operation). AreLinesOf file mark.version xs lines) is are;
  version = omega (arith, version, ap (length {A = Operation}) is, length-drop mark.version log, le);
  size = size;
  hashed = hashed;
}

-- What was written behind a file that was cut to its mark was written behind the one before.
pub written_since : {D : Type 0} (seen : D → List ℕ) (old mid new : KeptFile D) (ops : List Operation) → mid.mark ≡ old.mark
    → seen mid.disk ≡ take old.mark.length (seen old.disk) → HasWritten seen mid new ops → HasWritten seen old new ops
written_since seen old mid new ops same cut w =
    let front : take mid.mark.length (seen mid.disk) ≡ take old.mark.length (seen old.disk) =
    ap (λ (m : Mark). take m.length (seen mid.disk)) same ∙ ap (take old.mark.length) cut
    ∙ take-take old.mark.length old.mark.length (seen old.disk) (omega arith) in
    record {
      lines = w.lines;
      are = subst (λ (m : Mark). AreLinesOf (take old.mark.length (seen old.disk)) m.version ops w.lines) same
          (subst (λ (f : List ℕ). AreLinesOf f mid.mark.version ops w.lines) front w.are);
      is = w.is ∙ ap (λ (f : List ℕ). f ++ w.lines) front;
    }

-- no operations have no lines
pub none_written : {D : Type 0} (seen : D → List ℕ) (old new : KeptFile D) (ops : List Operation) → ops ≡ []
    → seen new.disk ≡ take old.mark.length (seen old.disk) → HasWritten seen old new ops
none_written seen old new ops none cut = record {
  lines = [];
  are = record { parts = []; whole = sym none; each = tt; written = refl };
  is = cut ∙ sym (append-nil (take old.mark.length (seen old.disk)));
}

-- where there are no more, all are kept
pub none_left : (version : ℕ) (log ops : List Operation) → ops ≡ [] → ops ≡ drop version log → version ≤ length log → version ≡ length log
none_left version log ops none is le =
    omega (arith, ap (length {A = Operation}) none, ap (length {A = Operation}) is, length-drop version log, le)

-- after a call that succeeds this is so, and after one that fails that
pub one_or_other : {T E : Type 0} (r : Result T E) (P Q : Type 0) → OnOk r P → OnErr r Q → P ⊎ Q
one_or_other (Ok t) P Q p q = inl p
one_or_other (Err e) P Q p q = inr q
