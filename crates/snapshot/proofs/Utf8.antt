-- The text of a log is UTF-8.
use Rattle.std.proofs.Common.{List, [], ◌∷◌, codes, refl, IsUtf8}
use Rattle.json.proofs.Printed.Utf8.{IsUtf8-are_ascii}
use Rattle.opid.specs.Operations.{Operation}
use Rattle.operation_json.specs.Text.{packed_text}
use Rattle.operation_json.proofs.PackedUtf8.{all_texts, packed_utf8}
use Rattle.snapshot.specs.Snapshot.{AreInRange, log_text}

pub IsUtf8-log_text : (log : List Operation) → AreInRange log → IsUtf8 (log_text log)
IsUtf8-log_text log h =
    all_texts (codes "{\"format\":2,\"ops\":") (packed_text log ∷ codes "}" ∷ []) (IsUtf8-are_ascii _ refl)
    (packed_utf8 log h, (IsUtf8-are_ascii _ refl, tt))
