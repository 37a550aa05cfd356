-- What is taken becomes the next replica.
use Rattle.std.proofs.Common.{◌≡◌, ◌+◌, ◌⊎◌, inl, inr, ℕ, drop, List, ◌∷◌, ◌++◌, ◌∙◌, [], map, take, All, ap, sym, refl, arith}
use Rattle.std.proofs.lemmas.List.{take_more}
use Rattle.std.proofs.lemmas.Option.{slice_get_within, get_or_from_slice_get}
use Rattle.std.proofs.lemmas.List.Elements.{All-same, All-push, All-head, All-drop, All-map}
use Rattle.std.specs.Vec.Iter.{into_iter_len}
use Rattle.opid.specs.declared.refusal.Refusal.{Refusal}
use Rattle.opid.specs.declared.refusal.Refusal.TheVariants.{SiteUsed, BadField, Memory}
use Rattle.opid.specs.Delivered.{ReplicaState}
use Rattle.snapshot.specs.Snapshot.{LacksSite}
use Rattle.ws_server.proofs.Opened.{left_after}
use Rattle.ws_server.proofs.Passes.{map_next}
use Rattle.kept_rooms.specs.declared.opening.Opening.{Opening}
use Rattle.kept_rooms.specs.Openings.{replica_over}
use Rattle.kept_rooms.proofs.opening.open_hall.Goals as goal

pub open_over-requires : goal.open_over-requires
open_over-requires c =
    let P : Opening → Type 0 = λ it. it.doc.reserved ≡ 0 in
    let left = sym c.loop-place.invariant.rest ∙ c.in-Some.ensures.items in
    All-head P c.in-Some.opening _ (All-same P _ _ (sym left) (All-drop P c.loop-place.place c.args.openings.items c.requires.unreserved))

pub loop-place-preserved : goal.loop-place-preserved
loop-place-preserved c =
    let all = c.args.openings.items in
    let at = c.loop-place.place in
    let here = left_after all at c.in-Some.opening _ (sym c.loop-place.invariant.rest ∙ c.in-Some.ensures.items) in
    let less : into_iter_len c.next.new.self + 1 ≡ into_iter_len c.loop-place.rest = c.in-Some.ensures.len in
    let next = take_more all at c.in-Some.opening (slice_get_within all at c.in-Some.opening here.0)
    ∙ ap (λ (o : Opening). take at all ++ o ∷ []) (get_or_from_slice_get all at c.in-Some.opening c.in-Some.opening here.0) in
    record {
      rest = here.1;
      left = omega (arith, c.loop-place.invariant.left, less);
      made = c.in-Ok-push.ensures.items
          ∙ ap (λ (xs : List ReplicaState). xs ++ c.in-Ok.replica ∷ []) c.loop-place.invariant.made
          ∙ ap (λ (r : ReplicaState). map replica_over (take at all) ++ r ∷ []) c.in-Ok.ensures.opened
          ∙ sym (map_next replica_over all at c.in-Some.opening here.0);
      unused = All-same (λ (it : Opening). LacksSite it.site it.doc.log) _ _ next
          (All-push (λ (it : Opening). LacksSite it.site it.doc.log) (take at all) c.in-Some.opening
          c.loop-place.invariant.unused c.in-Ok.ensures.unused);
    }

pub over-requires-clause-none_held : goal.over-requires-clause-none_held
over-requires-clause-none_held c =
    All-same (λ (r : ReplicaState). r.held ≡ []) _ _ c.loop-place.invariant.made
    (All-map (λ (r : ReplicaState). r.held ≡ []) replica_over
    (take c.loop-place.place c.args.openings.items) (each (take c.loop-place.place c.args.openings.items)))
  where
    each : (all : List Opening) → All (λ (it : Opening). (replica_over it).held ≡ []) all
    each all k it within = refl

-- where one log has an operation of its site, not all lack it
used : (all : List Opening) (at : ℕ) (it : Opening) (rest : List Opening) (why : Refusal) → drop at all ≡ it ∷ rest
    → (why ≡ Memory) ⊎ ((why ≡ SiteUsed) × (LacksSite it.site it.doc.log → ⊥))
    → ((why ≡ SiteUsed) × (All (λ (o : Opening). LacksSite o.site o.doc.log) all → ⊥)) ⊎ ((why ≡ BadField) ⊎ (why ≡ Memory))
used all at it rest why left (inl memory) = inr (inr memory)
used all at it rest why left (inr (is, has)) =
    let P : Opening → Type 0 = λ o. LacksSite o.site o.doc.log in
    inl (is, λ lack. has (All-head P it rest (All-same P _ _ (sym left) (All-drop P at all lack))))

pub returns-in-Err-clause-cause : goal.returns-in-Err-clause-cause
returns-in-Err-clause-cause c =
    used c.args.openings.items c.loop-place.place c.in-Some.opening _ c.in-Err.why
    (sym c.loop-place.invariant.rest ∙ c.in-Some.ensures.items) c.in-Err.ensures.cause
