pub mod Vocabulary
pub mod HolderLemmas
pub mod LockLemmas
pub mod RightsLemmas
pub mod SlotViews
pub mod WindowLemmas
