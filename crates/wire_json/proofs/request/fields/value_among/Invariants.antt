-- The key isn't that of a member that was looked at.
use Rattle.std.proofs.Common.{◌≡◌, take}
use Rattle.serde_json.specs.Data.{no_members}
use Rattle.serde_json.specs.Find.{get_member}
use Rattle.wire_json.specs.Internal.Flat.{put_all}
use Rattle.wire_json.proofs.request.fields.value_among.Given as goal

abbrev pub invariant-loop-i : goal.invariant-loop-i
invariant-loop-i l = get_member l.key (put_all l.members no_members) ≡ get_member l.key (put_all (take l.i l.members) no_members)
