-- What is settled at a site of a world: operations of the world are integrated, round after round.
use Rattle.std.proofs.Common.{◌≡◌, ◌≢◌, ℕ, ◌<◌, ◌≤◌, zero, suc, true, Option, Some, None}
use Rattle.std.proofs.Common.{List, [], ◌∷◌, ◌++◌, length, sum, refl, ap, ◌∙◌, sym, subst, arith, inl, inr, ◌⊎◌, append_assoc}
use Rattle.std.specs.List.{AllByRecursion as Each}
use Rattle.std.proofs.lemmas.Bool.{cases_lt}
use Rattle.std.proofs.lemmas.List.{length-append}
use Rattle.opid.specs.Operations.{Operation}
use Rattle.opid.specs.Delivery.{clock_of, is_ready}
use Rattle.opid.specs.Lawful.{MayFollow, IsLawful}
use Rattle.opid.specs.Strong.{SiteLog}
use Rattle.opid.proofs.Walk.{Each-append}
use Rattle.opid.proofs.Logs.{IsLawful-push}
use Rattle.opid.proofs.Orders.{Among, Each-at, Among-append, Among-append_left, Among-append_right, Parts}
use Rattle.opid.proofs.Counts.{sums_within}
use Rattle.opid.proofs.Numbers.{ready-own, IsNumbered, numbered, count_of-part}
use Rattle.opid.proofs.Worlds.{Of, AreOf, Home, home_of, one_log, ready_may_follow}
use Rattle.opid.specs.Kinds.{IsOperation}
use Rattle.opid.specs.Held.{first_ready, without_first_ready}
use Rattle.opid.specs.Held.{IsFirstReady}
use Rattle.holdback.proofs.Firsts.{first_ready-Some}
use Rattle.opid.specs.Delivered.{refusal_of}
use Rattle.opid.specs.Delivered.{Settling, appended_or_dropped, taken_out, round, rounds}
use Rattle.replica.proofs.Lawfully.{accepted-may_follow}
use Rattle.replica.proofs.Rounds.{round-full, round-none, round-some}
use Rattle.room_model.specs.Converges.{AreLogs}

abbrev pub site_log : ℕ → List Operation → SiteLog
site_log i l = record { site = i; log = l }

itself_home : (logs : List SiteLog) (x : Operation) → (h : Home logs x) → Among x (h.home).log
itself_home logs x h = subst (Among x) (sym h.log_is) (Among-append_right x h.before (x ∷ h.after) (inl refl))

-- an operation of a world is one of 32 sites', and its clock counts it
pub is_operation : (logs : List SiteLog) → AreLogs logs → (x : Operation) → Of logs x → IsOperation x
is_operation logs w x o =
    let h : Home logs x = home_of logs w.lawful (w.world).at_home x o in
    let lawful : IsLawful (h.home).log = Each-at (λ a. IsLawful a.log) logs h.home w.lawful h.here in
    record {
      site = (h.follows).site;
      width = (h.follows).width;
      limit = omega (
        arith,
        Each-at (λ y. sum y.clock ≤ length (h.home).log) (h.home).log x (sums_within (h.home).log lawful)
            (itself_home logs x h),
        Each-at (λ a. length a.log ≤ 131072) logs h.home w.limit h.here,
      );
      own = omega (arith, ready-own h.before x (h.follows).site (h.follows).ready);
    }

-- a site has its own operations in its log
pub own_in_log : (logs : List SiteLog) → AreLogs logs → (site : ℕ) (log : List Operation) → Among (site_log site log) logs → (x : Operation)
    → Of logs x → x.site ≡ site → Among x log
own_in_log logs w site log i x o e =
    let h : Home logs x = home_of logs w.lawful (w.world).at_home x o in
    subst (λ (a : SiteLog). Among x a.log) (one_log logs ((w.world).at_home).sites h.home (site_log site log) h.here i (h.site ∙ e))
    (itself_home logs x h)

-- what is ready behind a site's log isn't the site's own
pub foreign : (logs : List SiteLog) → AreLogs logs → (site : ℕ) (log : List Operation) → Among (site_log site log) logs
    → (ops : List Operation) → IsLawful ops → Parts log ops → (x : Operation) → Of logs x → is_ready ops x ≡ true → x.site ≢ site
foreign logs w site log i ops k p x o r e =
    let lawful : IsLawful log = Each-at (λ a. IsLawful a.log) logs (site_log site log) w.lawful i in
    let n : IsNumbered log x = Each-at (IsNumbered log) log x (numbered log lawful) (own_in_log logs w site log i x o e) in
    omega (arith, n.last, count_of-part log ops lawful k p x.site, ready-own ops x n.site r)

-- ---- settling

-- what is settled behind a site's log: nothing was dropped, and only operations of other sites were integrated
pub record Settles (logs : List SiteLog) (site : ℕ) (log : List Operation) (s : Settling) : Type 0 where
  pub lawful : IsLawful s.log
  pub log_of : AreOf logs s.log
  pub held_of : AreOf logs s.held
  pub none_dropped : s.dropped ≡ 0
  pub limit : length s.log ≤ 131072
  pub more : List Operation
  pub log_is : s.log ≡ log ++ more
  pub others : Each (λ y. y.site ≢ site) more

-- an operation is integrated or held
abbrev pub In : List Operation → List Operation → Operation → Type 0
In log held y = Among y log ⊎ Among y held

-- the same operations are integrated or held
pub record Same (s t : Settling) : Type 0 where
  pub stay : (y : Operation) → In s.log s.held y → In t.log t.held y
  pub come : (y : Operation) → In t.log t.held y → In s.log s.held y

Same-refl : (s : Settling) → Same s s
Same-refl s = record { stay = λ y a. a; come = λ y a. a }

Same-trans : (s t u : Settling) → Same s t → Same t u → Same s u
Same-trans s t u p q = record { stay = λ y a. q.stay y (p.stay y a); come = λ y a. p.come y (q.come y a) }

pub push_in : (xs : List Operation) (x y : Operation) → Among y (xs ++ x ∷ []) → Among y xs ⊎ (y ≡ x)
push_in xs x y a = elim (Among-append y xs (x ∷ []) a) [
  | inl b ↦ inl b
  | inr (inl e) ↦ inr e
  | inr (inr b) ↦ absurd b
]

-- one more is integrated
pub Settles-push : (logs : List SiteLog) → AreLogs logs → (site : ℕ) (log : List Operation) → Among (site_log site log) logs
    → (s t : Settling) → Settles logs site log s → (x : Operation) → Of logs x → is_ready s.log x ≡ true
    → length s.log < 131072 → t.log ≡ s.log ++ x ∷ [] → AreOf logs t.held → t.dropped ≡ 0 → Settles logs site log t
Settles-push logs w site log i s t g x o r f e h d =
    let front : Parts log s.log = λ y a. subst (Among y) (sym g.log_is) (Among-append_left y log g.more a) in
    let m : MayFollow s.log x = ready_may_follow logs w.lawful w.world s.log g.lawful g.log_of x o r in
    record {
      lawful = subst IsLawful (sym e) (IsLawful-push s.log x g.lawful m);
      log_of = λ y a. pushed y (push_in s.log x y (subst (Among y) e a));
      held_of = h;
      none_dropped = d;
      limit = omega (arith, f, ap (λ (v : List Operation). length v) e, length-append s.log (x ∷ []));
      more = g.more ++ x ∷ [];
      log_is = e ∙ ap (λ l. l ++ x ∷ []) g.log_is ∙ append_assoc log g.more (x ∷ []);
      others = Each-append (λ y. y.site ≢ site) g.more (x ∷ []) g.others (foreign logs w site log i s.log g.lawful front x o r, tt);
    }
  where
    pushed : (y : Operation) → Among y s.log ⊎ (y ≡ x) → Of logs y
    pushed y (inl a) = g.log_of y a
    pushed y (inr q) = subst (Of logs) (sym q) o

-- a round drops nothing
round-settles : (logs : List SiteLog) → AreLogs logs → (site : ℕ) (log : List Operation) → Among (site_log site log) logs → (s : Settling)
    → Settles logs site log s → Settles logs site log (round s) × Same s (round s)
round-settles logs w site log i s g = go (cases_lt (length s.log) 131072) (first_ready (clock_of s.log) s.held) refl
  where
    stays : round s ≡ s → Settles logs site log (round s) × Same s (round s)
    stays e = subst (λ (t : Settling). Settles logs site log t × Same s t) (sym e) (g, Same-refl s)

    go : (length s.log < 131072) ⊎ (131072 ≤ length s.log) → (o : Option Operation) → first_ready (clock_of s.log) s.held ≡ o
        → Settles logs site log (round s) × Same s (round s)
    go (inr f) o e = stays (round-full s f)
    go (inl f) None e = stays (round-none s f e)
    go (inl f) (Some x) e =
        subst (λ (t : Settling). Settles logs site log t × Same s t) (sym (round-some s x None f e fits)) (
          Settles-push logs w site log i s (appended_or_dropped None x (taken_out s)) g x o first.ready f refl
              (λ y a. g.held_of y (left y a)) g.none_dropped,
          record { stay = stay; come = come },
        )
      where
        first : IsFirstReady (clock_of s.log) s.held x (without_first_ready (clock_of s.log) s.held)
        first = first_ready-Some (clock_of s.log) s.held x e

        o : Of logs x
        o = g.held_of x (subst (Among x) (sym first.held_is) (Among-append_right x first.before (x ∷ first.after) (inl refl)))

        fits : refusal_of s.log x ≡ None
        fits = accepted-may_follow s.log x (is_operation logs w x o) f
            (ready_may_follow logs w.lawful w.world s.log g.lawful g.log_of x o first.ready)

        -- those that are left were held
        left : (y : Operation) → Among y (without_first_ready (clock_of s.log) s.held) → Among y s.held
        left y a = subst (Among y) (sym first.held_is) (elim
            (Among-append y first.before first.after (subst (Among y) first.others_are a)) [
              | inl b ↦ Among-append_left y first.before (x ∷ first.after) b
              | inr b ↦ Among-append_right y first.before (x ∷ first.after) (inr b)
            ])

        stay : (y : Operation) → In s.log s.held y → In (s.log ++ x ∷ []) (without_first_ready (clock_of s.log) s.held) y
        stay y (inl a) = inl (Among-append_left y s.log (x ∷ []) a)
        stay y (inr a) = elim (Among-append y first.before (x ∷ first.after) (subst (Among y) first.held_is a)) [
          | inl b ↦ inr (subst (Among y) (sym first.others_are) (Among-append_left y first.before first.after b))
          | inr (inl q) ↦ inl (Among-append_right y s.log (x ∷ []) (inl q))
          | inr (inr b) ↦ inr (subst (Among y) (sym first.others_are) (Among-append_right y first.before first.after b))
        ]

        come : (y : Operation) → In (s.log ++ x ∷ []) (without_first_ready (clock_of s.log) s.held) y → In s.log s.held y
        come y (inr a) = inr (left y a)
        come y (inl a) = elim (push_in s.log x y a) [
          | inl b ↦ inl b
          | inr q ↦ inr (subst (λ z. Among z s.held) (sym q)
              (subst (Among x) (sym first.held_is) (Among-append_right x first.before (x ∷ first.after) (inl refl))))
        ]

pub rounds-settle : (logs : List SiteLog) → AreLogs logs → (site : ℕ) (log : List Operation) → Among (site_log site log) logs
    → (n : ℕ) (s : Settling) → Settles logs site log s → Settles logs site log (rounds n s) × Same s (rounds n s)
rounds-settle logs w site log i zero s g = (g, Same-refl s)
rounds-settle logs w site log i (suc n) s g =
    let one = round-settles logs w site log i s g in
    let rest = rounds-settle logs w site log i n (round s) one.0 in
    (rest.0, Same-trans s (round s) (rounds n (round s)) one.1 rest.1)
