-- What a kept text stands for.
use Rattle.std.specs.Prelude.{ℕ, List, string_bytes}
use Rattle.characters.specs.declared.characters.KeptText.{KeptText}
use Rattle.characters.specs.declared.characters.KeptText.TheVariants.{Short, Long}

-- its bytes
abbrev pub bytes_of : KeptText → List ℕ
bytes_of (Short text) = text.bytes
bytes_of (Long text) = string_bytes text
