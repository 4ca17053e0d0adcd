-- A page whose focused region is scrolled back.
use Rattle.std.specs.Prelude.{ℕ, slice_get, unwrap_or}
use Rattle.regions.specs.Layouts.{Arrangement, empty, put_in_focus}

-- by this many lines; what the region shows stays
abbrev pub scrolled : ℕ → Arrangement → Arrangement
scrolled back l = put_in_focus (record (unwrap_or (slice_get l.shown l.focus) empty) { back = back }) l
