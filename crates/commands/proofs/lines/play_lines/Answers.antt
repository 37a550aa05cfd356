-- A room opens and is served, or doesn't.
use Rattle.std.proofs.Common.{[], ◌++◌, inl, inr, refl, subst}
use Rattle.room_model.specs.History.{Account}
use Rattle.line_engine.specs.declared.fault.ServeFault.TheVariants.{Memory}
use Rattle.line_engine.proofs.Known.{Consumes-none, Consumes-then, Appends-none}
use Rattle.commands.specs.declared.stop.Stop.TheVariants.{Fault}
use Rattle.commands.specs.Played.{ServesRoom}
use Rattle.commands.proofs.Playing.{opens_more}
use Rattle.commands.proofs.lines.play_lines.Goals as goal

pub returns-in_default-clause-plays : goal.returns-in_default-clause-plays
returns-in_default-clause-plays g c = (
  [],
  [],
  Consumes-none (g.R.Read.remaining c.args.input.now.inner),
  Appends-none (g.W.Write.contents c.args.output.now.inner),
  inl (Fault Memory, (λ _. refl), refl, refl),
)

pub returns-in-Ok-open-clause-plays : goal.returns-in-Ok-open-clause-plays
returns-in-Ok-open-clause-plays g c =
    let o = c.in-Ok-open.ensures.opens in
    let s = c.serve_room.ensures.serves in
    let room = c.in-Ok-open.opening.room in (
      o.0 ++ s.0,
      s.1,
      Consumes-then (g.R.Read.remaining c.args.input.now.inner) (g.R.Read.remaining c.open.new.input.inner)
          (g.R.Read.remaining c.serve_room.new.input.inner) o.0 s.0 o.1 s.2,
      s.3,
      inr (
        c.in-Ok-open.opening.is_over,
        room.state.log,
        c.open.new.window ++ s.0,
        opens_more c.args.resume c.args.site (g.R.Read.remaining c.open.new.input.inner) (g.R.Read.remaining c.serve_room.new.input.inner)
            o.0 s.0 c.in-Ok-open.opening.is_over room.state.log c.open.new.window s.4 c.serve_room.ensures.unread o.2.1,
        subst (λ (r : Account). ServesRoom r c.args.snapshot (c.open.new.window ++ s.0)
            (g.R.Read.remaining c.serve_room.new.input.inner) s.1 c.serve_room.result) o.2.0 s.5,
      ),
    )
