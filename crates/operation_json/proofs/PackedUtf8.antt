-- What is put together of texts is UTF-8, and so is the text of operations.
use Rattle.std.proofs.Common.{ℕ, ◌<◌, List, [], ◌∷◌, ◌++◌, refl, arith, map, codes, decimal, IsUtf8, ◌^◌, Option, Some, None}
use Rattle.std.specs.Prelude.{encode_utf8_all, IsTrue}
use Rattle.json_bytes.specs.Quote.{quote}
use Rattle.operation_json.specs.Text.{more, in_brackets, IsOperationInRange, IsStampInRange, IsKindInRange, pairs_of, pair_text, clock_text}
use Rattle.operation_json.specs.Text.{stamp_text, parent_text, op_text_of, item_text_of, item_text, packed_text}
use Rattle.std.specs.List.{AllByRecursion}
use Rattle.std.proofs.lemmas.Fmt.{IsAscii-decimal}
use Rattle.std.proofs.lemmas.Str.{IsUtf8-append, IsUtf8-nil, IsUtf8-from_ascii}
use Rattle.json.proofs.Printed.Utf8.{IsUtf8-are_ascii, IsUtf8-quoted}
use Rattle.std.specs.Str.{all_scalars}
use Rattle.opid.specs.declared.stamp.Stamp.{Stamp}
use Rattle.opid.specs.declared.kind.OpKind.{OpKind}
use Rattle.opid.specs.declared.kind.OpKind.TheVariants.{Ins, Del}
use Rattle.opid.specs.Operations.{Operation}
use Rattle.opid.specs.Kinds.{IsClock}
use Rattle.operation_json.specs.Packing.{Item}
use Rattle.operation_json.proofs.PackedValues.{IsPacked, more_scalars, run_scalars, are_packed}
use Rattle.operation_json.proofs.Pairs.{pairs_small}
use Rattle.operation_json.specs.Packing.{packed_items}

-- a text, and then others, one behind the other
abbrev behind : List ℕ → List (List ℕ) → List ℕ
behind t [] = t
behind t (u ∷ us) = behind (t ++ u) us

pub all_texts : (t : List ℕ) (us : List (List ℕ)) → IsUtf8 t → AllByRecursion IsUtf8 us → IsUtf8 (behind t us)
all_texts t [] h k = h
all_texts t (u ∷ us) h k = all_texts (t ++ u) us (IsUtf8-append t u h k.0) k.1

more_texts : (ts : List (List ℕ)) → AllByRecursion IsUtf8 ts → IsUtf8 (more ts)
more_texts [] h = IsUtf8-nil
more_texts (t ∷ ts) h = all_texts (codes ",") (t ∷ more ts ∷ []) (IsUtf8-are_ascii _ refl) (h.0, (more_texts ts h.1, tt))

pub listed_texts : (ts : List (List ℕ)) → AllByRecursion IsUtf8 ts → IsUtf8 (in_brackets ts)
listed_texts [] h = IsUtf8-are_ascii (codes "[]") refl
listed_texts (t ∷ ts) h =
    all_texts (codes "[") (t ∷ more ts ∷ codes "]" ∷ []) (IsUtf8-are_ascii _ refl) (h.0, (more_texts ts h.1, (IsUtf8-are_ascii _ refl, tt)))

pub number_text : (n : ℕ) → n < 2 ^ 64 → IsUtf8 (decimal n)
number_text n h = IsUtf8-from_ascii (decimal n) (IsAscii-decimal n (omega arith))

-- ---- operations

two_numbers : (m n : ℕ) → m < 2 ^ 32 → n < 2 ^ 32 → IsUtf8 (codes "[" ++ decimal m ++ codes "," ++ decimal n ++ codes "]")
two_numbers m n h k =
    all_texts (codes "[") (decimal m ∷ codes "," ∷ decimal n ∷ codes "]" ∷ []) (IsUtf8-are_ascii _ refl)
    (number_text m (omega (arith, h)), (IsUtf8-are_ascii _ refl, (number_text n (omega (arith, k)), (IsUtf8-are_ascii _ refl, tt))))

pair_texts : (ps : List (ℕ × ℕ)) → AllByRecursion (λ p. (p.0 < 2 ^ 32) × (p.1 < 2 ^ 32)) ps → AllByRecursion IsUtf8 (map pair_text ps)
pair_texts [] h = tt
pair_texts (p ∷ ps) h = (two_numbers p.0 p.1 h.0.0 h.0.1, pair_texts ps h.1)

clock_texts : (clock : List ℕ) → IsClock clock → IsUtf8 (clock_text clock)
clock_texts clock h = listed_texts (map pair_text (pairs_of clock)) (pair_texts (pairs_of clock) (pairs_small clock h))

stamp_texts : (s : Stamp) → IsStampInRange s → IsUtf8 (stamp_text s)
stamp_texts s h = two_numbers s.sum s.site h.0 (omega (arith, h.1))

quoted_text : (cs : List ℕ) → IsTrue (all_scalars cs) → IsUtf8 (quote cs)
quoted_text cs h = IsUtf8-quoted (encode_utf8_all cs) (cs, (h, refl))

parent_texts : (parent : Option Stamp) (c : ℕ) → IsKindInRange (Ins parent c) → IsUtf8 (parent_text parent)
parent_texts None c r = IsUtf8-are_ascii (codes "null") refl
parent_texts (Some p) c r = stamp_texts p r.0

-- an insertion or a run, with the text between its clock and its parent
inserted_text : (named : List ℕ) (s : ℕ) (clock : List ℕ) (parent : Option Stamp) (cs : List ℕ) → IsUtf8 named → s < 32 → IsClock clock
    → IsUtf8 (parent_text parent) → IsTrue (all_scalars cs)
    → IsUtf8 (codes "{\"c\":" ++ clock_text clock ++ named ++ parent_text parent ++ codes ",\"s\":" ++ decimal s ++ codes ",\"x\":"
    ++ quote cs ++ codes "}")
inserted_text named s clock parent cs n l k p h =
    all_texts (codes "{\"c\":")
    (clock_text clock ∷ named ∷ parent_text parent ∷ codes ",\"s\":" ∷ decimal s ∷ codes ",\"x\":" ∷ quote cs ∷ codes "}" ∷ [])
    (IsUtf8-are_ascii _ refl) (
      clock_texts clock k,
      (
        n,
        (
          p,
          (
            IsUtf8-are_ascii _ refl,
            (
              number_text s (omega (arith, l)),
              (IsUtf8-are_ascii _ refl, (quoted_text cs h, (IsUtf8-are_ascii _ refl, tt))),
            ),
          ),
        ),
      ),
    )

op_texts : (s : ℕ) (clock : List ℕ) (kind : OpKind) → s < 32 → IsClock clock → IsKindInRange kind → IsUtf8 (op_text_of s clock kind)
op_texts s clock (Ins parent c) l k r =
    inserted_text (codes ",\"k\":\"i\",\"p\":") s clock parent (c ∷ []) (IsUtf8-are_ascii _ refl) l k (parent_texts parent c r)
    (run_scalars parent c [] r refl)
op_texts s clock (Del t) l k r =
    all_texts (codes "{\"c\":")
    (clock_text clock ∷ codes ",\"k\":\"d\",\"s\":" ∷ decimal s ∷ codes ",\"t\":" ∷ stamp_text t ∷ codes "}" ∷ [])
    (IsUtf8-are_ascii _ refl) (
      clock_texts clock k,
      (
        IsUtf8-are_ascii _ refl,
        (
          number_text s (omega (arith, l)),
          (IsUtf8-are_ascii _ refl, (stamp_texts t r, (IsUtf8-are_ascii _ refl, tt))),
        ),
      ),
    )

item_texts : (x : Operation) (kind : OpKind) (cs : List ℕ) → x.site < 32 → IsClock x.clock → IsKindInRange kind → IsTrue (all_scalars cs)
    → IsUtf8 (item_text_of (record x { kind = kind }) cs)
item_texts x kind [] l k r h = op_texts x.site x.clock kind l k r
item_texts x (Ins parent c) (d ∷ cs) l k r h =
    inserted_text (codes ",\"k\":\"r\",\"p\":") x.site x.clock parent (c ∷ d ∷ cs) (IsUtf8-are_ascii _ refl) l k
    (parent_texts parent c r) (run_scalars parent c (d ∷ cs) r h)
item_texts x (Del t) (d ∷ cs) l k r h = op_texts x.site x.clock (Del t) l k r

pub item_utf8 : (x : Operation) (cs : List ℕ) → IsOperationInRange x → IsTrue (all_scalars cs)
    → IsUtf8 (item_text (record { first = x; more = cs }))
item_utf8 x cs h k = item_texts x x.kind cs h.0.site (record { width = h.0.width; limit = h.0.limit }) h.1 k

each_text : (items : List Item) → AllByRecursion IsPacked items → AllByRecursion IsUtf8 (map item_text items)
each_text [] h = tt
each_text (i ∷ items) h =
    (item_utf8 i.first i.more h.0.range.0 (more_scalars i.first i.more h.0.range.1), each_text items h.1)

pub packed_utf8 : (ops : List Operation) → AllByRecursion IsOperationInRange ops → IsUtf8 (packed_text ops)
packed_utf8 ops h = listed_texts (map item_text (packed_items ops)) (each_text (packed_items ops) (are_packed ops h))
