pub use Rattle.hub_check.proofs.Folding
pub use Rattle.hub_check.proofs.Judged
pub use Rattle.hub_ledger.proofs.seat
pub use Rattle.hub_trail.proofs.Runs
pub use Rattle.hub_trail.proofs.Steps
pub mod Crossing
