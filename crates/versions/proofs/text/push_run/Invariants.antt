use Rattle.std.proofs.Common.{◌≡◌, ℕ, Some, string_bytes}
use Rattle.versions.specs.Internal.Walked.{TextAtLeast}
use Rattle.versions.proofs.text.push_run.Given as goal

-- the text is that of those passed, and the element that comes next is counted
abbrev pub invariant-run : goal.invariant-run
invariant-run l = record {
  next : l.next ≡ Some l.elem;
  text : (least : ℕ) → TextAtLeast l.list.entries (Some l.fn.from) least (string_bytes l.fn.text)
      → TextAtLeast l.list.entries l.next least (string_bytes l.text);
}
