-- The slots that open windows stand in, for the crates above.
pub use Rattle.acl_words.specs.Slots.{slot_of, free_slot, is_window, without_window, SlotsStandFor}
pub use Rattle.acl_words.specs.declared.slots.Slots.{Slots}
