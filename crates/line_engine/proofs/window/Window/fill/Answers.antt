-- A read puts its bytes behind those that are held.
use Rattle.std.proofs.Common.{◌≡◌, List, length, take, drop, ◌+◌, ◌++◌, ℕ, arith, ap, ◌∙◌}
use Rattle.std.proofs.lemmas.List.{take-append-le, take_all}
use Rattle.line_engine.proofs.Held.{fill_some}
use Rattle.line_engine.proofs.window.Window.fill.Goals as goal

-- what stands in a buffer after its slice was written
written_back : (n : ℕ) (new old : List ℕ) → length new ≡ n → take n (new ++ drop (length new) old) ≡ new
written_back n new old e = take-append-le n new _ (omega arith) ∙ take_all n new (omega arith)

pub returns-in-Some-clause-fills : goal.returns-in-Some-clause-fills
returns-in-Some-clause-fills g c =
    let moved = c.moved_start-self-inside in
    let new = c.read_behind.new.buf in
    let t = fill_some (g.R.Read.remaining c.args.input.now.inner) (g.R.Read.remaining c.read_behind.new.input.inner)
    moved.result c.self.inside.len c.in-Some.got c.args.self.now moved.new.buf.items c.as_mut_slice.result.now new
    (moved.ensures.held ∙ c.self.view_is) c.as_mut_slice.ensures.value c.in-Some.ensures.front c.in-Some.ensures.bound in
    let size : length new ≡ moved.new.buf.len = c.read_behind.auto.buf ∙ c.as_mut_slice.ensures.len in (
      t.0,
      t.1,
      ap (λ b. take (c.self.inside.len + c.in-Some.got) (drop moved.result b))
          (written_back moved.new.buf.len new moved.new.buf.items size) ∙ t.2,
      t.3,
      t.4,
    )
