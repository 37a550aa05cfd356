-- Text is UTF-8, so the encoding of its characters is the text again, and they are scalar values.
use Rattle.std.proofs.Common.{◌∙◌, ap, sym, encode_utf8_all}
use Rattle.std.specs.Str.{all_scalars, chars}
use Rattle.std.proofs.lemmas.Str.{encodes-chars, scalars-chars}
use Rattle.characters.proofs.characters.Characters.as_str.Goals as goal

pub returns-clause-bytes : goal.returns-clause-bytes
returns-clause-bytes c = sym (ap encode_utf8_all (sym c.self.view_is) ∙ rw (← c.as_str.ensures) (encodes-chars _ c.as_str.utf8))

pub returns-clause-value : goal.returns-clause-value
returns-clause-value c = ap chars c.as_str.ensures ∙ c.self.view_is

pub returns-clause-scalars : goal.returns-clause-scalars
returns-clause-scalars c = ap all_scalars (sym (returns-clause-value c)) ∙ scalars-chars _ c.as_str.utf8
