-- What serde_json's reader says of bytes is the grammar's first step.
use Rattle.std.proofs.Common.{inr}
use Rattle.serde_json.specs.View.{view}
use Rattle.operation_json.proofs.Steps.{json_read, json_refused}
use Rattle.operation_json.proofs.read.members.read_value.Goals as goal

pub returns-in-Ok : goal.returns-in-Ok
returns-in-Ok c = json_read c.args.bytes.now (view c.in-Ok.value) c.in-Ok.ensures.ok.0 c.in-Ok.ensures.ok.1

pub returns-in-Err-2 : goal.returns-in-Err-2
returns-in-Err-2 c = inr (json_refused c.args.bytes.now (λ u. c.in-Err.ensures.err (λ m. let t = c.if-is_memory.ensures.1 m in cc) u))
