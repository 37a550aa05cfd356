-- The text of a part has no LF: it is put together of decimal digits, fixed characters and texts in quotes, in which LF is escaped.
use Rattle.std.proofs.Common.{◌≡◌, ◌≢◌, ℕ, zero, suc, ◌<◌, ◌^◌, ◌+◌, ◌%◌, Bool, true, ◌&&◌, ◌==◌, List, [], ◌∷◌, ◌++◌, Option, Some, None}
use Rattle.std.proofs.Common.{map, codes}
use Rattle.std.proofs.Common.{decimal, refl, arith, inl, inr, eq-eqb}
use Rattle.std.specs.Prelude.{not, encode_utf8_all}
use Rattle.std.specs.List.{AllByRecursion}
use Rattle.std.proofs.lemmas.Bool.{and_parts, cases_lt, cases_eq}
use Rattle.std.proofs.lemmas.Fmt.{decimal_by_steps}
use Rattle.std.proofs.lemmas.List.Elements.{All-nil, All-cons, All-append, All-push}
use Rattle.json.specs.Print.{escape_byte, escape}
use Rattle.json.proofs.Printed.Strings.{escape_byte_plain}
use Rattle.json_bytes.specs.Quote.{quote}
use Rattle.opid.specs.declared.stamp.Stamp.{Stamp}
use Rattle.opid.specs.declared.kind.OpKind.{OpKind}
use Rattle.opid.specs.declared.kind.OpKind.TheVariants.{Ins, Del}
use Rattle.opid.specs.Operations.{Operation}
use Rattle.opid.specs.Kinds.{IsClock}
use Rattle.room_model.specs.declared.reply.Reply.TheVariants.{Ops}
use Rattle.operation_json.specs.Packing.{Item, packed_items}
use Rattle.operation_json.specs.Text.{more, in_brackets, IsOperationInRange, IsStampInRange, IsKindInRange, pairs_of, pair_text, clock_text}
use Rattle.operation_json.specs.Text.{stamp_text, parent_text, op_text_of, item_text_of, item_text, packed_text}
use Rattle.operation_json.proofs.PackedValues.{IsPacked, are_packed}
use Rattle.operation_json.proofs.Pairs.{pairs_small}
use Rattle.wire_json.specs.Text.{text}
use Rattle.wire_json.specs.Line.{IsLine}

-- ---- fixed characters, digits and quoted texts

-- no byte is LF
abbrev pub has_none : List ℕ → Bool
has_none [] = true
has_none (x ∷ xs) = not (x == 10) && has_none xs

pub is_other : (x : ℕ) → not (x == 10) ≡ true → x ≢ 10
is_other x e same =
    let q = rw (eq-eqb x 10 same) at e in
    cc

pub fixed : (xs : List ℕ) → has_none xs ≡ true → IsLine xs
fixed [] e = All-nil (λ byte. byte ≢ 10)
fixed (x ∷ xs) e =
    let p = and_parts _ _ e in
    All-cons (λ byte. byte ≢ 10) x xs (is_other x p.0) (fixed xs p.1)

-- a text, and then others, one behind the other
abbrev behind : List ℕ → List (List ℕ) → List ℕ
behind t [] = t
behind t (u ∷ us) = behind (t ++ u) us

all_texts : (t : List ℕ) (us : List (List ℕ)) → IsLine t → AllByRecursion IsLine us → IsLine (behind t us)
all_texts t [] h k = h
all_texts t (u ∷ us) h k = all_texts (t ++ u) us (All-append (λ byte. byte ≢ 10) t u h k.0) k.1

number_text : (n : ℕ) → n < 2 ^ 64 → IsLine (decimal n)
number_text n h =
    decimal_by_steps (λ k ds. IsLine ds)
    (λ k small. All-cons (λ byte. byte ≢ 10) (48 + k) [] (λ e. omega arith) (All-nil (λ byte. byte ≢ 10)))
    (λ k ds big so_far. All-push (λ byte. byte ≢ 10) ds (48 + k % 10) so_far (λ e. omega arith)) n h

-- the escapes of the bytes below n have no LF
abbrev escapes_below : ℕ → Bool
escapes_below zero = true
escapes_below (suc n) = has_none (escape_byte n) && escapes_below n

escape_below : (n : ℕ) → escapes_below n ≡ true → (x : ℕ) → x < n → has_none (escape_byte x) ≡ true
escape_below zero e x h = absurd (omega arith)
escape_below (suc n) e x h =
    let p = and_parts _ _ e in
    elim (cases_eq x n) [ inl same ↦ rw same p.0 | inr other ↦ escape_below n p.1 x (omega arith) ]

low_escapes : escapes_below 128 ≡ true
unfolding escape_byte
low_escapes = refl

one_escape : (x : ℕ) → IsLine (escape_byte x)
one_escape x =
    elim (cases_lt x 128) [
      | inl small ↦ fixed (escape_byte x) (escape_below 128 low_escapes x small)
      | inr big ↦
          rw (escape_byte_plain x (λ e. omega arith) (λ e. omega arith) (omega arith))
          (All-cons (λ byte. byte ≢ 10) x [] (λ e. omega arith) (All-nil (λ byte. byte ≢ 10)))
    ]

escapes : (xs : List ℕ) → IsLine (escape xs)
escapes [] = All-nil (λ byte. byte ≢ 10)
escapes (x ∷ xs) = All-append (λ byte. byte ≢ 10) (escape_byte x) (escape xs) (one_escape x) (escapes xs)

quoted_text : (cs : List ℕ) → IsLine (quote cs)
quoted_text cs =
    All-cons (λ byte. byte ≢ 10) 34 (escape (encode_utf8_all cs) ++ 34 ∷ []) (λ e. omega arith)
    (All-append (λ byte. byte ≢ 10) (escape (encode_utf8_all cs)) (34 ∷ []) (escapes (encode_utf8_all cs)) (fixed (34 ∷ []) refl))

-- ---- lists

more_texts : (ts : List (List ℕ)) → AllByRecursion IsLine ts → IsLine (more ts)
more_texts [] h = All-nil (λ byte. byte ≢ 10)
more_texts (t ∷ ts) h = all_texts (codes ",") (t ∷ more ts ∷ []) (fixed (codes ",") refl) (h.0, (more_texts ts h.1, tt))

listed_texts : (ts : List (List ℕ)) → AllByRecursion IsLine ts → IsLine (in_brackets ts)
listed_texts [] h = fixed (codes "[]") refl
listed_texts (t ∷ ts) h =
    all_texts (codes "[") (t ∷ more ts ∷ codes "]" ∷ []) (fixed (codes "[") refl) (h.0, (more_texts ts h.1, (fixed (codes "]") refl, tt)))

-- ---- operations

two_numbers : (m n : ℕ) → m < 2 ^ 32 → n < 2 ^ 32 → IsLine (codes "[" ++ decimal m ++ codes "," ++ decimal n ++ codes "]")
two_numbers m n h k =
    all_texts (codes "[") (decimal m ∷ codes "," ∷ decimal n ∷ codes "]" ∷ []) (fixed (codes "[") refl)
    (number_text m (omega (arith, h)), (fixed (codes ",") refl, (number_text n (omega (arith, k)), (fixed (codes "]") refl, tt))))

pair_texts : (ps : List (ℕ × ℕ)) → AllByRecursion (λ p. (p.0 < 2 ^ 32) × (p.1 < 2 ^ 32)) ps → AllByRecursion IsLine (map pair_text ps)
pair_texts [] h = tt
pair_texts (p ∷ ps) h = (two_numbers p.0 p.1 h.0.0 h.0.1, pair_texts ps h.1)

clock_texts : (clock : List ℕ) → IsClock clock → IsLine (clock_text clock)
clock_texts clock h = listed_texts (map pair_text (pairs_of clock)) (pair_texts (pairs_of clock) (pairs_small clock h))

stamp_texts : (s : Stamp) → IsStampInRange s → IsLine (stamp_text s)
stamp_texts s h = two_numbers s.sum s.site h.0 (omega (arith, h.1))

parent_texts : (parent : Option Stamp) (c : ℕ) → IsKindInRange (Ins parent c) → IsLine (parent_text parent)
parent_texts None c r = fixed (codes "null") refl
parent_texts (Some p) c r = stamp_texts p r.0

-- an insertion or a run, with the text between its clock and its parent
inserted_text : (named : List ℕ) (s : ℕ) (clock : List ℕ) (parent : Option Stamp) (cs : List ℕ) → IsLine named → s < 32 → IsClock clock
    → IsLine (parent_text parent)
    → IsLine (codes "{\"c\":" ++ clock_text clock ++ named ++ parent_text parent ++ codes ",\"s\":" ++ decimal s ++ codes ",\"x\":"
    ++ quote cs ++ codes "}")
inserted_text named s clock parent cs n l k p =
    all_texts (codes "{\"c\":")
    (clock_text clock ∷ named ∷ parent_text parent ∷ codes ",\"s\":" ∷ decimal s ∷ codes ",\"x\":" ∷ quote cs ∷ codes "}" ∷ [])
    (fixed (codes "{\"c\":") refl) (
      clock_texts clock k,
      (
        n,
        (
          p,
          (
            fixed (codes ",\"s\":") refl,
            (number_text s (omega (arith, l)), (fixed (codes ",\"x\":") refl, (quoted_text cs, (fixed (codes "}") refl, tt)))),
          ),
        ),
      ),
    )

op_texts : (s : ℕ) (clock : List ℕ) (kind : OpKind) → s < 32 → IsClock clock → IsKindInRange kind → IsLine (op_text_of s clock kind)
op_texts s clock (Ins parent c) l k r =
    inserted_text (codes ",\"k\":\"i\",\"p\":") s clock parent (c ∷ []) (fixed (codes ",\"k\":\"i\",\"p\":") refl) l k (parent_texts parent c r)
op_texts s clock (Del t) l k r =
    all_texts (codes "{\"c\":")
    (clock_text clock ∷ codes ",\"k\":\"d\",\"s\":" ∷ decimal s ∷ codes ",\"t\":" ∷ stamp_text t ∷ codes "}" ∷ [])
    (fixed (codes "{\"c\":") refl) (
      clock_texts clock k,
      (
        fixed (codes ",\"k\":\"d\",\"s\":") refl,
        (number_text s (omega (arith, l)), (fixed (codes ",\"t\":") refl, (stamp_texts t r, (fixed (codes "}") refl, tt)))),
      ),
    )

item_texts : (x : Operation) (kind : OpKind) (cs : List ℕ) → x.site < 32 → IsClock x.clock → IsKindInRange kind
    → IsLine (item_text_of (record x { kind = kind }) cs)
item_texts x kind [] l k r = op_texts x.site x.clock kind l k r
item_texts x (Ins parent c) (d ∷ cs) l k r =
    inserted_text (codes ",\"k\":\"r\",\"p\":") x.site x.clock parent (c ∷ d ∷ cs) (fixed (codes ",\"k\":\"r\",\"p\":") refl) l k (parent_texts parent c r)
item_texts x (Del t) (d ∷ cs) l k r = op_texts x.site x.clock (Del t) l k r

item_line : (x : Operation) (cs : List ℕ) → IsOperationInRange x → IsLine (item_text (record { first = x; more = cs }))
item_line x cs h = item_texts x x.kind cs h.0.site (record { width = h.0.width; limit = h.0.limit }) h.1

each_text : (items : List Item) → AllByRecursion IsPacked items → AllByRecursion IsLine (map item_text items)
each_text [] h = tt
each_text (i ∷ items) h = (item_line i.first i.more h.0.range.0, each_text items h.1)

-- the text of a part is a line
pub part_line : (n : ℕ) (ops : List Operation) → n < 2 ^ 32 → AllByRecursion IsOperationInRange ops → IsLine (text (Ops n ops))
part_line n ops h k =
    all_texts (codes "{\"from\":") (decimal n ∷ codes ",\"ops\":" ∷ packed_text ops ∷ codes ",\"r\":\"ops\"}" ∷ [])
    (fixed (codes "{\"from\":") refl) (
      number_text n (omega (arith, h)),
      (
        fixed (codes ",\"ops\":") refl,
        (
          listed_texts (map item_text (packed_items ops)) (each_text (packed_items ops) (are_packed ops k)),
          (fixed (codes ",\"r\":\"ops\"}") refl, tt),
        ),
      ),
    )
