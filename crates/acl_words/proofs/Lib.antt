pub mod BitSetLemmas
pub mod LeaderLemmas
pub mod SameLemmas
pub mod InPlace
pub mod SlotLemmas
pub mod WordLemmas
