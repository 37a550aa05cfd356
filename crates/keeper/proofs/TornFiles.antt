-- What a torn or cut file opens as.
use Rattle.std.proofs.Common.{◌≡◌, ℕ, ◌+◌, ◌≤◌, List, ◌++◌, length, take, drop, sym, ap, ◌∙◌, subst, arith, append_assoc}
use Rattle.std.proofs.Common.{length-append}
use Rattle.std.proofs.lemmas.List.{take-append-drop, take-take, take-append-le, length-take-le, length-take, take_all}
use Rattle.std.proofs.Math.Seq.{take-append-add}
use Rattle.opid.specs.Operations.{Operation}
use Rattle.opid.specs.Lawful.{IsLawful}
use Rattle.journal.specs.Journal.{StandsFor, AreLinesOf}
use Rattle.journal.proofs.WrittenLines.{grown, still_ended, one}
use Rattle.journal.proofs.TornLines.{fronts, behind, adds}
use Rattle.keeper.specs.Turn.{OpensAs, IsFront, StaysWhole, Tears, StaysCut}

pub grows : StaysWhole
grows file lines version log f are =
    let whole : take version log ++ drop version log ≡ log = take-append-drop version log in
    let size : length (take version log) ≡ version = length-take-le version log f.begins in
    let stands : StandsFor (file ++ lines) (take version log ++ drop version log) =
    grown file lines (take version log) (drop version log) f.ended f.stands
    (subst (λ n. AreLinesOf file n (drop version log) lines) (sym size) are)
    (subst IsLawful (sym whole) f.lawful) (subst (λ (l : List Operation). length l ≤ 131072) (sym whole) f.few) in
    record {
      lawful = f.lawful;
      few = f.few;
      begins = omega arith;
      ended = still_ended version file lines (drop version log) f.ended are;
      stands = subst (StandsFor (file ++ lines)) (whole ∙ sym (take_all (length log) log (omega arith))) stands;
    }

-- a beginning that begins with the whole lines
opens_behind : (file rest : List ℕ) (version count : ℕ) (log : List Operation) → IsFront file version log → count ≤ length log
    → StandsFor (file ++ rest) (take count log) → OpensAs version log (file ++ rest)
opens_behind file rest version count log f within stands =
    let more = adds file rest (take version log) (take count log) f.ended f.stands stands in
    record {
      count = count;
      at_least = omega (arith, more.0, length-take-le version log f.begins, length-take-le count log within);
      within = within;
      stands = stands;
    }

pub tears : Tears
tears file lines version log f are c torn =
    let all = grows file lines version log f are in
    let n = length file + torn.size in
    let whole : take (length log) log ≡ log = take_all (length log) log (omega arith) in
    let front = fronts n (file ++ lines) log (subst (StandsFor (file ++ lines)) whole all.stands) in
    let begins : StandsFor (file ++ take torn.size lines) (take front.0 log) =
    subst (λ (bs : List ℕ). StandsFor bs (take front.0 log)) (take-append-add file lines torn.size) front.2 in
    let stands : StandsFor (file ++ (take torn.size lines ++ torn.last)) (take front.0 log) =
    subst (λ (bs : List ℕ). StandsFor bs (take front.0 log)) (append_assoc file (take torn.size lines) torn.last)
    (behind (file ++ take torn.size lines) torn.last (take front.0 log) torn.plain begins) in
    subst (OpensAs version log) (sym torn.is) (opens_behind file (take torn.size lines ++ torn.last) version front.0 log f front.1 stands)

pub stays_cut : StaysCut
stays_cut n size version log d le f opens =
    let front = fronts size d (take opens.count log) opens.stands in
    let within : front.0 ≤ length log = omega (arith, front.1, length-take opens.count log, opens.within) in
    let few : front.0 ≤ opens.count = omega (arith, front.1, length-take opens.count log, opens.within) in
    let begins : StandsFor (take size d) (take front.0 log) = subst (StandsFor (take size d)) (take-take front.0 opens.count log few)
    front.2 in
    let split : take n d ++ drop n (take size d) ≡ take size d =
    ap (λ (t : List ℕ). t ++ drop n (take size d)) (sym (take-take n size d le)) ∙ take-append-drop n (take size d) in
    subst (OpensAs version log) split
    (opens_behind (take n d) (drop n (take size d)) version front.0 log f
    within (subst (λ (bs : List ℕ). StandsFor bs (take front.0 log)) (sym split) begins))

pub again : (least : ℕ) (log found : List Operation) (bytes : List ℕ) → OpensAs least log bytes → StandsFor bytes found
    → (least ≤ length found) × (found ≡ take (length found) log)
again least log found bytes o s =
    let same : found ≡ take o.count log = one bytes found (take o.count log) s o.stands in
    let size : length found ≡ o.count = ap (length {A = Operation}) same ∙ length-take-le o.count log o.within in
    (omega (arith, size, o.at_least), same ∙ ap (λ n. take n log) (sym size))

-- the first operations of a log are those of a longer one
take_longer : (n : ℕ) (log more : List Operation) → n ≤ length log → take n log ≡ take n (log ++ more)
take_longer n log more le = sym (take-append-le n log more le)

pub front_longer : (file : List ℕ) (version : ℕ) (log more : List Operation) → IsFront file version log → IsLawful (log ++ more)
    → length (log ++ more) ≤ 131072 → IsFront file version (log ++ more)
front_longer file version log more f lawful few = record {
  lawful = lawful;
  few = few;
  begins = omega (arith, f.begins, length-append log more);
  ended = f.ended;
  stands = subst (StandsFor file) (take_longer version log more f.begins) f.stands;
}

-- what opens as a beginning of a log opens as one of a longer log, with no more operations asked
pub opens_longer : (least next : ℕ) (log more : List Operation) (bytes : List ℕ) → least ≤ next → OpensAs next log bytes
    → OpensAs least (log ++ more) bytes
opens_longer least next log more bytes le o = record {
  count = o.count;
  at_least = omega (arith, le, o.at_least);
  within = omega (arith, o.within, length-append log more);
  stands = subst (StandsFor bytes) (take_longer o.count log more o.within) o.stands;
}

-- with no more operations asked
pub opens_less : (least next : ℕ) (log : List Operation) (bytes : List ℕ) → least ≤ next → OpensAs next log bytes → OpensAs least log bytes
opens_less least next log bytes le o = record {
  count = o.count;
  at_least = omega (arith, le, o.at_least);
  within = o.within;
  stands = o.stands;
}
