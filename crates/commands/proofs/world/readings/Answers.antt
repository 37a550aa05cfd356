-- Each site's line stands behind those of the sites before it.
use Rattle.std.proofs.Common.{◌≡◌, ◌∙◌, ◌+◌, ◌++◌, ℕ, List, refl, sym, ap, arith}
use Rattle.std.specs.List.{flat_map, range_with_len}
use Rattle.opid.specs.Clocks.{sites}
use Rattle.room_model.specs.World.{room_of}
use Rattle.commands.specs.Worlds.{site_lines}
use Rattle.commands.proofs.Answering.{one_more}
use Rattle.commands.proofs.world.readings.Goals as goal

pub returns : goal.returns
unfolding sites
returns c =
    let all : c.loop-number.number ≡ 32 = omega (arith, c.loop-number-test.false, c.loop-number.auto.number-end) in
    c.loop-number.invariant ∙ ap (λ n. flat_map (λ site. site_lines (room_of site c.args.world.now)) (range_with_len 0 n)) all

pub loop-number-preserved : goal.loop-number-preserved
loop-number-preserved c =
    let number = c.loop-number.number in
    let line : ℕ → List ℕ = λ site. site_lines (room_of site c.args.world.now) in
    c.in_ok-push_site.ensures ∙ ap (λ t. t ++ line number) c.loop-number.invariant ∙ sym (one_more line number (number + 1) refl)
