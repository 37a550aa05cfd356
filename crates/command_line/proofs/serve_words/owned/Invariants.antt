-- The words so far are owned.
use Rattle.std.proofs.Common.{◌≡◌, map, take, string_bytes}
use Rattle.command_line.proofs.serve_words.owned.Given as goal

abbrev pub invariant-loop-word : goal.invariant-loop-word
invariant-loop-word l = map string_bytes l.names.items ≡ map (λ w. w.now) (take l.word-index l.words)
