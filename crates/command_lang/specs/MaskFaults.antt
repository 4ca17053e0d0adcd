-- Why a word isn't a mask: optional users, followed by bits.
use Rattle.std.specs.Prelude.{ℕ, Bool, not, ◌&&◌, if◌then◌else◌, List, take, drop, Option, Some, None}
use Rattle.command_lang.specs.declared.fault.FaultKind.{FaultKind}
use Rattle.command_lang.specs.declared.fault.FaultKind.TheVariants as faults
use Rattle.command_lang.specs.Values.{is_bits, has_empty_item, is_empty_text, sign_place}

-- a fault of this kind, unless the test passed
abbrev pub unless : Bool → FaultKind → Option FaultKind
unless fine kind = if fine then None else Some kind

-- of two faults at one place, the one of the bits counts, since it has the lower number
abbrev pub mask_fault : List ℕ → Option FaultKind
mask_fault text =
    if not (is_bits (drop (sign_place text) text)) then Some faults.BadBits
    else if not (is_empty_text (take (sign_place text) text))
    && has_empty_item (take (sign_place text) text) then Some faults.BadWord
    else None
