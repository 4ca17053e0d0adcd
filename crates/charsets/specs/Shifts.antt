-- The shift functions, and the characters of graphic units (ECMA-35; VT220 Programmer Reference
-- Manual, chapter 2).
use Rattle.std.specs.Prelude.{ℕ, ◌-◌, Bool, ◌&&◌, ◌||◌, nat_lt, if◌then◌else◌, Option, Some, None, unwrap_or}
use Rattle.charsets.specs.declared.shifts.CharacterSet.{CharacterSet}
use Rattle.charsets.specs.declared.shifts.CharacterSet.TheVariants.{Ascii}
use Rattle.charsets.specs.declared.shifts.Place.{Place}
use Rattle.charsets.specs.declared.shifts.Place.TheVariants.{G0, G1, G2, G3}
use Rattle.charsets.specs.declared.shifts.Shift.{Shift}
use Rattle.charsets.specs.declared.shifts.Shift.TheVariants.{Si, So, Ls2, Ls3, Ls1r, Ls2r, Ls3r, Ss2, Ss3}
use Rattle.charsets.specs.declared.shifts.Shifts.{Shifts}
use Rattle.charsets.specs.declared.decoder.Unit.{Unit}
use Rattle.charsets.specs.declared.decoder.Unit.TheVariants.{Code, High}
use Rattle.charsets.specs.Sets.{character_at}

abbrev pub starting : Shifts
starting =
    record { g0 = Ascii; g1 = Ascii; g2 = Ascii; g3 = Ascii; gl = G0; gr = G2; single = None }

abbrev pub designated : Shifts → Place → CharacterSet → Shifts
designated s G0 set = record s { g0 = set }
designated s G1 set = record s { g1 = set }
designated s G2 set = record s { g2 = set }
designated s G3 set = record s { g3 = set }

-- locking shifts, and single ones
abbrev pub shifted : Shifts → Shift → Shifts
shifted s Si = record s { gl = G0 }
shifted s So = record s { gl = G1 }
shifted s Ls2 = record s { gl = G2 }
shifted s Ls3 = record s { gl = G3 }
shifted s Ls1r = record s { gr = G1 }
shifted s Ls2r = record s { gr = G2 }
shifted s Ls3r = record s { gr = G3 }
shifted s Ss2 = record s { single = Some G2 }
shifted s Ss3 = record s { single = Some G3 }

abbrev pub set_at : Shifts → Place → CharacterSet
set_at s G0 = s.g0
set_at s G1 = s.g1
set_at s G2 = s.g2
set_at s G3 = s.g3

-- the code 20 is graphic and has no position in a set; so are the units from A0 on
abbrev pub is_graphic : Unit → Bool
is_graphic (Code c) = (nat_lt 0x1F c && nat_lt c 0x7F) || nat_lt 0x9F c
is_graphic (High b) = nat_lt 0x9F b

abbrev pub is_position : ℕ → Bool
is_position u = nat_lt 0x20 u && nat_lt u 0x7F

-- The character of a unit: 21 to 7E through GL, A1 to FE of ECMA-35 through GR, both through a
-- pending single shift instead. Other graphic codes stand for themselves. A0 and FF of ECMA-35, and
-- units that aren't graphic, have no character.
unfoldable pub mapped : Shifts → Unit → Option ℕ
mapped s (Code c) =
    if is_position c then Some (character_at (set_at s (unwrap_or s.single s.gl)) c)
    else (if is_graphic (Code c) then Some c else None)
mapped s (High b) =
    if nat_lt 0xA0 b && nat_lt b 0xFF
    then Some (character_at (set_at s (unwrap_or s.single s.gr)) (b - 0x80))
    else None

-- each graphic unit ends a pending single shift
abbrev pub spent : Shifts → Unit → Shifts
spent s u = if is_graphic u then record s { single = None } else s
