-- The lines that make users known, and give them leaders and what their entries have on commands. Nothing else stands
-- on them.
use Rattle.std.specs.Prelude.{◌≡◌, ◌||◌, ◌&&◌, ℕ, Bool, true, false, not, cond, if◌then◌else◌, List, [], ◌∷◌, ◌++◌}
use Rattle.std.specs.Prelude.{map, filter, codes}
use Rattle.std.specs.List.{flat_map, list_all}
use Rattle.acl.specs.command_name.TheConstants.CommandName.{ALL}
use Rattle.acl.specs.declared.act.Object.TheVariants.{Command}
use Rattle.acl.specs.declared.act.PresetKind.{PresetKind}
use Rattle.acl.specs.declared.act.LockMode.{LockMode}
use Rattle.acl.specs.declared.act.LockMode.TheVariants as lock
use Rattle.acl.specs.declared.bits.Bit.{Bit}
use Rattle.acl.specs.declared.bits.Bit.TheVariants.{Read, Write, Execute}
use Rattle.acl.specs.declared.command_name.CommandName.{CommandName}
use Rattle.acl.specs.declared.leaders.Edition.{Edition}
use Rattle.acl.specs.declared.user_id.UserId.{UserId}
use Rattle.acl.specs.History.{History, has, leaders_of}
use Rattle.acl.specs.Names.{name_of}
use Rattle.acl.specs.Same.{same_user}
use Rattle.command_lang.specs.Names.{name_text}
use Rattle.line_fields.specs.Parts.{preset_text}
use Rattle.trail_setup.specs.Lines.{Kind, PutsLines, given_text}

-- ---- parts of a setup

-- a text, or lines of one kind on which just these words stand
pub data Part : Type 0 where
  text : List ℕ → Part
  lines : Kind → List (List ℕ) → Part

-- one part was put out
abbrev pub PutsPart : Part → List ℕ → List ℕ → Type 0
PutsPart (text t) start out = out ≡ start ++ t
PutsPart (lines k words) start out = PutsLines k start words out

-- these parts were put out, in their order, and nothing else
abbrev pub PutsAll : List Part → List ℕ → List ℕ → Type 0
PutsAll [] start out = out ≡ start
PutsAll (p ∷ ps) start out = (mid : List ℕ) × PutsPart p start mid × PutsAll ps mid out

-- ---- users, who are made known with nothing

abbrev pub users_kind : Kind
users_kind = record { head = codes "aclchg"; between = 0x2C; tail = codes " -rwx ?" }

abbrev pub first_text : List ℕ
first_text = codes "multiuser on\naclumask ?-rwx ??-rwx\n"

-- ---- what users have on commands

-- whether the user's own entry has the bit on a command; the owner has every bit
abbrev pub own_bit : UserId → History → UserId → CommandName → Bit → Bool
own_bit owner h u c bit = same_user owner u || has owner h u bit (Command c)

-- r, w and x of it
abbrev pub own_bits : UserId → History → UserId → CommandName → List Bool
own_bits owner h u c = own_bit owner h u c Read ∷ own_bit owner h u c Write ∷ own_bit owner h u c Execute ∷ []

-- whether these are the same bits
abbrev pub same_bits : List Bool → List Bool → Bool
same_bits [] [] = true
same_bits (a ∷ xs) (b ∷ ys) = cond a b (not b) && same_bits xs ys
same_bits xs ys = false

abbrev pub has_just : UserId → History → UserId → List Bool → CommandName → Bool
has_just owner h u given c = same_bits (own_bits owner h u c) given

-- the commands on which the user's entry has just these bits; `?` if these are all commands
abbrev pub given_words : UserId → History → UserId → List Bool → List (List ℕ)
given_words owner h u given =
    if list_all (has_just owner h u given) ALL then codes "?" ∷ []
    else map name_text (filter (has_just owner h u given) ALL)

abbrev pub given_head : UserId → List Bool → List ℕ
given_head u given = codes "aclchg " ++ (name_of u ++ (codes " " ++ given_text given))

-- `aclchg USER BITS COMMANDS`
abbrev pub given_kind : UserId → List Bool → Kind
given_kind u given = record { head = given_head u given; between = 0x2C; tail = [] }

-- each choice of bits but none
abbrev pub all_given : List (List Bool)
all_given =
    (true ∷ true ∷ true ∷ []) ∷ (true ∷ true ∷ false ∷ []) ∷ (true ∷ false ∷ true ∷ [])
    ∷ (true ∷ false ∷ false ∷ []) ∷ (false ∷ true ∷ true ∷ []) ∷ (false ∷ true ∷ false ∷ [])
    ∷ (false ∷ false ∷ true ∷ []) ∷ []

abbrev pub given_line : UserId → History → UserId → List Bool → Part
given_line owner h u given = lines (given_kind u given) (given_words owner h u given)

abbrev pub lines_of : UserId → History → UserId → List Part
lines_of owner h u = map (given_line owner h u) all_given

-- ---- leaders

-- `aclgrp USER LEADER`
abbrev pub leader_line : UserId → UserId → List ℕ
leader_line u leader = codes "aclgrp " ++ (name_of u ++ (codes " " ++ (name_of leader ++ 0x0A ∷ [])))

abbrev pub leader_lines : Edition → History → UserId → List ℕ
leader_lines edition h u = flat_map (leader_line u) (leaders_of edition h u)

-- ---- presets and the mode of new locks

abbrev pub preset_line : PresetKind → List Bool → List ℕ
preset_line kind given = codes "aclumask " ++ (preset_text kind ++ (given_text given ++ 0x0A ∷ []))

-- nothing is put for `off`, with which a session begins
abbrev pub default_line : LockMode → List ℕ
default_line lock.Off = []
default_line lock.Auto = codes "defwritelock auto\n"
default_line lock.On = codes "defwritelock on\n"
