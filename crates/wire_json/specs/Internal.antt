-- What is the code's own: how its values are kept, what its parts have in common, and proofs that its types cite. No public clause cites
-- these files; the view of a type may, which says what its fields stand for.
pub mod CallTokens
pub mod Flat
pub mod PartTokens
pub mod Values
