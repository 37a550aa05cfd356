-- What is the code's own: how its values are kept, what its parts have in common, and proofs that its types cite. No public clause cites
-- these files; the view of a type may, which says what its fields stand for.
pub mod Size
pub mod Link
pub mod PackedNode
pub mod Store
pub mod Tree
pub mod Arena
pub mod Change
pub mod Branch
pub mod Growth
pub mod GrownTree
pub mod Insertion
pub mod PathEntries
pub mod Table
pub mod Counter
pub mod PackedRow
pub mod PackedRoot
pub mod Roots
pub mod Keys
pub mod Stops
