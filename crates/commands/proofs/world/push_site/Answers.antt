-- The line of a room that is there.
use Rattle.std.specs.Result.{is_ok}
use Rattle.std.proofs.lemmas.Bool.{eqb-true}
use Rattle.room_model.specs.World.{room_of}
use Rattle.std.proofs.Common.{Bool, true, false, [], ◌∷◌, string_bytes, ◌≡◌, ◌∙◌, ℕ, List, ◌++◌, Option, Some, None, length, refl, sym, ap}
use Rattle.std.proofs.Common.{subst, decimal}
use Rattle.std.specs.Prelude.{IfOk, Result, Ok, Err, ◌==◌, if◌then◌else◌, option_map, encode_utf8_all}
use Rattle.json.specs.Print.{quoted}
use Rattle.opid.specs.Reading.{reading}
use Rattle.room_model.specs.History.{Account}
use Rattle.line_engine.specs.Lines.{ended}
use Rattle.commands.specs.Script.{spaced}
use Rattle.commands.specs.Worlds.{site_lines}
use Rattle.commands.proofs.world.push_site.Goals as goal

value_in : {A : Type 0} (a b : A) → Some a ≡ Some b → a ≡ b
value_in a b e = cc

told : (site version : ℕ) (text bytes : List ℕ) (room : Option Account) → ((a : Account) → room ≡ Some a → a.state.site ≡ site)
    → Some version ≡ option_map (λ a. length a.state.log) room → Some text ≡ option_map (λ a. reading a.state.log) room
    → bytes ≡ encode_utf8_all text
    → ended (spaced (decimal site) (spaced (decimal version) (quoted bytes))) ≡ site_lines room
told site version text bytes None at v t b = let none : Some version ≡ None = v in cc
told site version text bytes (Some a) at v t b =
    let number : site ≡ a.state.site = sym (at a refl) in
    let newest : version ≡ length a.state.log = value_in version (length a.state.log) v in
    let reads : bytes ≡ encode_utf8_all (reading a.state.log) = b ∙ ap encode_utf8_all (value_in text (reading a.state.log) t) in
    ap (λ x. ended (spaced (decimal x) (spaced (decimal version) (quoted bytes)))) number
    ∙ ap (λ x. ended (spaced (decimal a.state.site) (spaced (decimal x) (quoted bytes)))) newest
    ∙ ap (λ x. ended (spaced (decimal a.state.site) (spaced (decimal (length a.state.log)) (quoted x)))) reads

-- the room that is found is of the site
found_at : (site : ℕ) (world : List Account) (a : Account) → room_of site world ≡ Some a → a.state.site ≡ site
found_at site [] a e = let none : None ≡ Some a = e in cc
found_at site (b ∷ world) a e = by (b.state.site == site) refl (λ k. found_at site world a k) e
  where
    by : (t : Bool) → (b.state.site == site) ≡ t → (room_of site world ≡ Some a → a.state.site ≡ site)
        → (if t then Some b else room_of site world) ≡ Some a → a.state.site ≡ site
    by true h later k = ap (λ (x : Account). x.state.site) (sym (value_in b a k)) ∙ eqb-true _ _ h
    by false h later k = later k

-- what stands behind the text, where it was pushed
pushed : {E : Type 0} (r : Result (Unit {0}) E) (new old line more : List ℕ) → new ≡ (if is_ok r then old ++ line else old) → line ≡ more
    → IfOk r (λ u. new ≡ old ++ more)
pushed (Ok u) new old line more e is = e ∙ ap (λ t. old ++ t) is
pushed (Err w) new old line more e is = tt

pub returns : goal.returns
returns c =
    let site = c.args.number in
    let at = c.in-Ok.ensures.value in
    let room : Option Account = room_of site c.args.world.now in
    let version = subst (λ (n : ℕ). Some c.in-Ok-version.version ≡ option_map (λ a. length a.state.log) (room_of n c.args.world.now)) at
    c.in-Ok-version.ensures.ok in
    let reads = subst (λ (n : ℕ). Some c.in-Ok-reading.reading ≡ option_map (λ a. reading a.state.log) (room_of n c.args.world.now)) at
    c.in-Ok-reading.ensures.ok in
    let line = told site c.in-Ok-version.version c.in-Ok-reading.reading c.as_str.result.now room
    (λ a e. found_at site c.args.world.now a e) version reads c.as_str.ensures.bytes in
    pushed c.push_str.result (string_bytes c.push_str.new.self) (string_bytes c.args.text.now) c.as_str-2.result.now (site_lines room)
    c.push_str.ensures.bytes (c.as_str-2.ensures.value ∙ c.in_ok-line.ensures ∙ line)
