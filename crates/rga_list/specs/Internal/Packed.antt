-- What a kept node stands for.
use Rattle.std.specs.Prelude.{◌≡◌, ℕ, ◌+◌, ◌*◌, ◌/◌, ◌%◌, ◌==◌, if◌then◌else◌, Bool, true, false, Option, Some, None, refl}
use Rattle.std.proofs.Common.{◌∙◌, arith, ap, sym, eqb-true}
use Rattle.std.proofs.lemmas.Bool.{eqb-false}
use Rattle.opid.specs.declared.limits.TheConstants.{MAX_OPERATIONS}
use Rattle.rga_list.specs.declared.links.Node.{Node}
use Rattle.rga_list.specs.declared.packed_node.PackedNode.TheInside.{Inside}

-- the next element that a number stands for: 131,072 is none, as no element has that number
abbrev pub next_of : ℕ → Option ℕ
next_of n = if n == MAX_OPERATIONS then None else Some n

-- the number that stands for a next element
abbrev pub packed_next : Option ℕ → ℕ
packed_next None = MAX_OPERATIONS
packed_next (Some k) = k

-- the node that is kept so
abbrev pub node_of : Inside → Node
node_of a = record {
  stamp = record { sum = a.sum; site = a.next_site_shown % 64 / 2 };
  ch = a.ch;
  shown = a.next_site_shown % 2 == 1;
  next = next_of (a.next_site_shown / 64);
}

-- the number that stands for a next element, a site and whether the node is shown
abbrev pub packed_number : ℕ → ℕ → Bool → ℕ
packed_number next site shown = next * 64 + (site * 2 + (if shown then 1 else 0))

-- what is kept of a node
abbrev pub inside_of : Node → Inside
inside_of n = record { sum = n.stamp.sum; ch = n.ch; next_site_shown = packed_number (packed_next n.next) n.stamp.site n.shown }

-- a number is read back from the link that it stands for, whether that is none or not
packed_if : (t : Bool) (n : ℕ) → (n == MAX_OPERATIONS) ≡ t → packed_next (if t then None else Some n) ≡ n
packed_if true n e = sym (eqb-true n MAX_OPERATIONS e)
packed_if false n e = refl

-- a number is read back from its parts, whether the node is shown or not
number_if : (t : Bool) (n : ℕ) → (n % 2 == 1) ≡ t → packed_number (n / 64) (n % 64 / 2) t ≡ n
number_if true n e = omega (arith, eqb-true (n % 2) 1 e)
number_if false n e = omega (arith, eqb-false (n % 2) 1 e)

-- what is kept is read back from the node that it stands for
pub inside_of-node_of : (a : Inside) → inside_of (node_of a) ≡ a
inside_of-node_of a =
    let n = a.next_site_shown in
    let next = packed_if (n / 64 == MAX_OPERATIONS) (n / 64) refl in
    let all = ap (λ k. packed_number k (n % 64 / 2) (n % 2 == 1)) next ∙ number_if (n % 2 == 1) n refl in
    ap (λ (k : ℕ). let r : Inside = record { sum = a.sum; ch = a.ch; next_site_shown = k } in r) all
