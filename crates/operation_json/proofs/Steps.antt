-- What serde_json's clauses say, as steps of the grammar.
use Rattle.std.proofs.Common.{◌≡◌, ◌≢◌, ◌==◌, ℕ, List, true, false, cond, Some, None, option_and_then, Ok, Err, IsUtf8, refl, eq-eqb, arith}
use Rattle.std.proofs.lemmas.Grind.{common_steps}
use Rattle.std.proofs.lemmas.Str.{is_utf8-from_IsUtf8, IsUtf8-from_is_utf8}
use Rattle.std.specs.Str.{is_utf8}
use Rattle.serde_json.specs.Data.{Data, Items}
use Rattle.serde_json.specs.Find.{as_array}
use Rattle.serde_json.specs.Events.{items_len}
use Rattle.serde_json.specs.Read.{read}
use Rattle.opid.specs.declared.refusal.Refusal.TheVariants.{BadJson, BadField}
use Rattle.operation_json.specs.Members.{json_of, or_refuse}
use Rattle.operation_json.specs.Operations.{two}

pub json_read : (bytes : List ℕ) (d : Data) → IsUtf8 bytes → read bytes ≡ Some d → json_of bytes ≡ Ok d
json_read bytes d u e = rw (is_utf8-from_IsUtf8 bytes u, e) refl

pub json_refused : (bytes : List ℕ) → (IsUtf8 bytes → read bytes ≡ None) → json_of bytes ≡ Err BadJson
json_refused bytes none =
    elim (is_utf8 bytes) as (λ b. is_utf8 bytes ≡ b → cond b (or_refuse BadJson (read bytes)) (Err BadJson) ≡ Err BadJson) [
      | true ↦ λ e. rw (none (IsUtf8-from_is_utf8 bytes e)) refl
      | false ↦ λ e. refl
    ] refl

pub of_two : (ds : Items) (d : Data) → Some ds ≡ as_array d → items_len ds ≡ 2
    → Ok tt ≡ or_refuse BadField (option_and_then two (as_array d))
of_two ds d e same = rw (← e) (rw (eq-eqb (items_len ds) 2 same) refl)

pub of_other_than_two : (ds : Items) (d : Data) → Some ds ≡ as_array d → items_len ds ≢ 2
    → Err BadField ≡ or_refuse BadField (option_and_then two (as_array d))
of_other_than_two ds d e other =
    let test : (items_len ds == 2) ≡ false = grind (arith, common_steps) in
    rw (← e) (rw test refl)
