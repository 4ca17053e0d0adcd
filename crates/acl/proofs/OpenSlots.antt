-- What changes of the slots do, for the crates above.
pub use Rattle.acl_words.proofs.SlotLemmas.{found, slot_of-opened, slot_of-closed, slot_of-free, slot_of-apart}
pub use Rattle.acl_words.proofs.SlotLemmas.{free_slot-empty, slots-closed, slots-opened, slots-free}
