-- A world answers the lines, and then tells what its sites read.
use Rattle.std.proofs.Common.{◌≡◌, ◌∙◌, ℕ, List, [], ◌++◌, Option, Result, Ok, Err, inl, inr, refl, sym, ap, subst, append-nil}
use Rattle.room_model.specs.History.{Account}
use Rattle.room_model.specs.World.{empty_rooms}
use Rattle.line_engine.specs.ServedLines.{Serves}
use Rattle.line_engine.specs.declared.fault.ServeFault.{ServeFault}
use Rattle.commands.specs.declared.stop.Stop.{Stop}
use Rattle.commands.specs.declared.stop.Stop.TheVariants.{Fault}
use Rattle.commands.specs.Worlds.{AnswersLine, readings}
use Rattle.commands.specs.Played.{ServesWorld, Writes}
use Rattle.line_engine.proofs.Known.{Consumes-none, Appends-none, Appends-then}
use Rattle.commands.proofs.world.play_world.Goals as goal

pub returns-in_default-clause-plays : goal.returns-in_default-clause-plays
returns-in_default-clause-plays g c = (
  [],
  [],
  Consumes-none (g.R.Read.remaining c.args.input.now.inner),
  Appends-none (g.W.Write.contents c.args.output.now.inner),
  inl (refl, refl, refl),
)

-- all lines were answered, and what the sites read is written
whole : (sites : ℕ) (world after : List Account) (held got answers last : List ℕ) (left : Option (List ℕ)) (r : Result (Unit {0}) Stop)
    → held ≡ [] → world ≡ empty_rooms 0 sites → Serves {T = Unit {0}} AnswersLine world (held ++ got) left answers (Ok tt) after
    → Writes (readings after) last r
    → ServesWorld sites got left (answers ++ last) r
whole sites world after held got answers last left r none opens serves writes = record {
  after = after;
  answers = answers;
  last = last;
  served = Ok tt;
  serves = subst (λ (w : List Account). Serves {T = Unit {0}} AnswersLine w got left answers (Ok tt) after) opens
      (subst (λ (h : List ℕ). Serves {T = Unit {0}} AnswersLine world (h ++ got) left answers (Ok tt) after) none serves);
  whole = refl;
  closes = writes;
}

-- the engine ended with a fault
broken : (sites : ℕ) (world after : List Account) (held got answers : List ℕ) (left : Option (List ℕ)) (why : ServeFault)
    → held ≡ [] → world ≡ empty_rooms 0 sites → Serves {T = Unit {0}} AnswersLine world (held ++ got) left answers (Err why) after
    → ServesWorld {T = Unit {0}} sites got left answers (Err (Fault why))
broken sites world after held got answers left why none opens serves = record {
  after = after;
  answers = answers;
  last = [];
  served = Err why;
  serves = subst (λ (w : List Account). Serves {T = Unit {0}} AnswersLine w got left answers (Err why) after) opens
      (subst (λ (h : List ℕ). Serves {T = Unit {0}} AnswersLine world (h ++ got) left answers (Err why) after) none serves);
  whole = sym (append-nil answers);
  closes = (refl, refl);
}

pub returns-in-Ok-serve-clause-plays : goal.returns-in-Ok-serve-clause-plays
returns-in-Ok-serve-clause-plays g c =
    let h = c.in-Ok-serve.ensures.serves in
    let k = c.write_readings.ensures.writes in (
      h.0,
      h.1 ++ k.0,
      h.2,
      Appends-then (g.W.Write.contents c.args.output.now.inner) (g.W.Write.contents c.serve.new.output.inner)
          (g.W.Write.contents c.write_readings.new.output.inner) h.1 k.0 h.3 k.1,
      inr (whole c.args.sites c.in-Ok-new.world c.serve.new.state c.in-Ok.window h.0 h.1 k.0
          (g.R.Read.remaining c.serve.new.input.inner) c.write_readings.result
          c.in-Ok.ensures (c.in-Ok-new.ensures ∙ ap (λ n. empty_rooms 0 n) c.count.ensures.value) h.4 k.2),
    )

pub returns-clause-plays : goal.returns-clause-plays
returns-clause-plays g c =
    let h = c.in-Err.ensures.serves in (
      h.0,
      h.1,
      h.2,
      h.3,
      inr (broken c.args.sites c.in-Ok-new.world c.serve.new.state c.in-Ok.window h.0 h.1
          (g.R.Read.remaining c.serve.new.input.inner) c.in-Err.why
          c.in-Ok.ensures (c.in-Ok-new.ensures ∙ ap (λ n. empty_rooms 0 n) c.count.ensures.value) h.4),
    )
