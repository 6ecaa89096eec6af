-- The proofs of what specs/ states: Demand3 of Claim, BoundProof of Bound, WindowsProof, CountsProof and AlikeProof of Windows, Counts and Alike; and each other one of
-- the file of its name, or a step on the way.
pub mod Walks
pub mod Static
pub mod Heads
pub mod Withdrawals
pub mod Lookup
pub mod KeyOwners
pub mod Held
pub mod Pairs
pub mod Moves
pub mod Calm
pub mod Rounds
pub mod Far
pub mod Right
pub mod BoundProof
pub mod WindowsProof
pub mod CountsProof
pub mod AlikeProof
pub mod Passed
pub mod Joins
pub mod Served
pub mod Tight
pub mod Demand3
