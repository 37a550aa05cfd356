-- What a node as it is kept stands for.
use Rattle.std.specs.Prelude.{ℕ, ◌+◌, ◌*◌, ◌/◌, ◌%◌, ◌^◌, ◌==◌}
use Rattle.counted_tree.specs.Internal.Link.{link_of}
use Rattle.counted_tree.specs.declared.kept.node.Node.{Node}
use Rattle.counted_tree.specs.declared.kept.packed_node.PackedNode.{PackedNode}

-- the element of the node that is kept so
abbrev pub elem_of : PackedNode → ℕ
elem_of r = r.elem_and_counts / 2 / 2 ^ 7 / 2 ^ 7

-- how many elements its left side shows: the upper ten digits, and the lower seven
abbrev pub shown_of : PackedNode → ℕ
shown_of r = r.left % 2 ^ 10 * 2 ^ 7 + r.elem_and_counts / 2 / 2 ^ 7 % 2 ^ 7

-- how many of these have two units
abbrev pub wide_of : PackedNode → ℕ
wide_of r = r.right % 2 ^ 10 * 2 ^ 7 + r.elem_and_counts / 2 % 2 ^ 7

-- the node that is kept so, where its element's key and width are kept as this number
abbrev pub node_of : ℕ → PackedNode → Node
node_of key_and_width r = record {
  entry = record {
    elem = elem_of r;
    shown = r.elem_and_counts % 2 == 1;
    wide = key_and_width % 2 == 1;
    key = key_and_width / 2;
  };
  left = link_of (r.left / 2 ^ 10);
  right = link_of (r.right / 2 ^ 10);
  left_size = record {
    shown = shown_of r;
    units = shown_of r + wide_of r;
  };
}
