-- What a call answers that reads and needs memory.
use Rattle.std.specs.Prelude.{◌≡◌, Option, Some, None, Ok, Err, Result}
use Rattle.trail_lines.specs.declared.UnreadLine.{UnreadLine}
use Rattle.trail_lines.specs.declared.UnreadLine.TheVariants as unread

-- nothing is read, unless memory was refused
abbrev pub Fails : {Y : Type 0} → UnreadLine → Option Y → Type 0
Fails unread.NoMemory read = Unit {0}
Fails unread.Malformed read = read ≡ None

-- what a call answered, as contracts see it, is what reading gives
abbrev pub Gives : {X Y : Type 0} → (X → Y) → Result X UnreadLine → Option Y → Type 0
Gives view (Ok x) read = read ≡ Some (view x)
Gives view (Err e) read = Fails e read
