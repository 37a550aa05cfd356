-- Each entry is of an element of its own.
use Rattle.std.proofs.Common.{◌≢◌, ℕ, List, [], ◌∷◌, map}
use Rattle.std.specs.List.{AllByRecursion as Each}
use Rattle.rga_list.specs.Entries.{AreOfOwn}
use Rattle.rga_list.specs.Internal.Links.{entry_at, AreOnce}
use Rattle.rga_list.specs.declared.links.Node.{Node}

others : (nodes : List Node) (i : ℕ) (is : List ℕ) → Each (λ j. j ≢ i) is → Each (λ e. e.elem ≢ i) (map (entry_at nodes) is)
others nodes i [] h = tt
others nodes i (j ∷ is) h = (h.0, others nodes i is h.1)

pub AreOfOwn-once : (nodes : List Node) (is : List ℕ) → AreOnce is → AreOfOwn (map (entry_at nodes) is)
AreOfOwn-once nodes [] h = tt
AreOfOwn-once nodes (i ∷ is) h = (others nodes i is h.0, AreOfOwn-once nodes is h.1)
