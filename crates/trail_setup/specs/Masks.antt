-- What a setup says of masks: closed masks while windows come back, and later those masks that were closed further
-- than they are.
use Rattle.std.specs.Prelude.{◌≡◌, ◌||◌, ◌&&◌, ℕ, Bool, true, false, not, if◌then◌else◌, List, [], ◌∷◌, ◌++◌, Option}
use Rattle.std.specs.Prelude.{Some, None, codes, slice_index_or}
use Rattle.std.specs.List.{AllByRecursion, flat_map, list_all}
use Rattle.acl.specs.declared.act.Object.TheVariants.{Command, Window}
use Rattle.acl.specs.declared.act.PresetKind.{PresetKind}
use Rattle.acl.specs.declared.act.PresetKind.TheVariants as preset
use Rattle.acl.specs.declared.bits.Bit.{Bit}
use Rattle.acl.specs.declared.bits.Bit.TheVariants.{Read, Write, Execute}
use Rattle.acl.specs.declared.command_name.CommandName.TheVariants.{Aclumask}
use Rattle.acl.specs.declared.leaders.Edition.{Edition}
use Rattle.acl.specs.declared.user_id.UserId.{UserId}
use Rattle.acl.specs.History.{History, among, has, is_open}
use Rattle.acl.specs.Names.{name_of}
use Rattle.acl.specs.Same.{same_user}
use Rattle.trail_setup.specs.declared.masks.SetupMasks.{SetupMasks}
use Rattle.trail_setup.specs.declared.state.SetMask.{SetMask}
use Rattle.trail_setup.specs.declared.state.SetupState.{SetupState}
use Rattle.trail_setup.specs.Alone.{HasEntries}
use Rattle.trail_setup.specs.Giving.{Part, same_bits}
use Rattle.trail_setup.specs.Lines.{Kind, given_text}

-- ---- what was set

abbrev pub all_bits : List Bool
all_bits = true ∷ true ∷ true ∷ []

-- what an opener's mask leaves to a user: all bits if none was set
abbrev pub mask_in : List SetMask → UserId → UserId → List Bool
mask_in [] by u = all_bits
mask_in (m ∷ masks) by u = if same_user m.by by && same_user m.user u then m.left else mask_in masks by u

-- what a setup knows: the state that the trail leaves, and the known users, the owner first
pub record Known : Type 0 where
  pub state : SetupState
  pub users : List UserId

abbrev pub known_in : SetupMasks → Known
known_in m = record { state = m.state.now; users = m.users.now }

abbrev pub preset_in : SetupState → PresetKind → List Bool
preset_in s preset.Windows = s.on_windows
preset_in s preset.Commands = s.on_commands

-- the entries are those after these acts, after which the windows are open
abbrev pub Stands : SetupState → Edition → UserId → History → Type 0
Stands s edition owner h =
    HasEntries s.entries edition owner h × AllByRecursion (λ w. is_open h w.0 ≡ true) s.windows.items

-- ---- closed masks

-- the owner is the first of the known users
abbrev pub is_first : List UserId → UserId → Bool
is_first [] u = false
is_first (owner ∷ users) u = same_user owner u

-- whether a window of this opener comes back as one of the user: what somebody opened who is gone comes back as
-- the owner's
abbrev pub comes_back : List UserId → UserId → UserId → Bool
comes_back users opener by = same_user opener by || (is_first users by && not (among users opener))

-- whether the user's own entry has the bit on a window, if it comes back as one of `by`
abbrev pub has_if_back : UserId → History → List UserId → UserId → UserId → Bit → (ℕ × UserId) → Bool
has_if_back owner h users by u bit w =
    not (comes_back users w.1 by) || (same_user owner u || has owner h u bit (Window w.0))

abbrev pub has_on_all : UserId → History → Known → UserId → UserId → Bit → Bool
has_on_all owner h m by u bit =
    list_all (has_if_back owner h m.users by u bit) m.state.windows.items

-- one bit of a closed mask: the mask leaves it, and the user has it on each window that comes back
abbrev pub closed_bit : UserId → History → Known → UserId → UserId → ℕ → Bit → Bool
closed_bit owner h m by u place bit =
    slice_index_or (mask_in m.state.masks.items by u) place false && has_on_all owner h m by u bit

abbrev pub closed_bits : UserId → History → Known → UserId → UserId → List Bool
closed_bits owner h m by u =
    closed_bit owner h m by u 0 Read ∷ closed_bit owner h m by u 1 Write ∷ closed_bit owner h m by u 2 Execute ∷ []

-- ---- what is said

-- `bob+r-wx`
abbrev pub mask_word : UserId → List Bool → List ℕ
mask_word u given = name_of u ++ given_text given

-- these bits, unless they are the same as the others
abbrev pub differing : List Bool → List Bool → Option (List Bool)
differing bits other = if same_bits bits other then None else Some bits

-- a closed mask is said if it takes a bit; later a mask is said if its closed mask takes more. Nothing is said of the
-- opener and of the owner, who have all bits
abbrev pub said_bits : Bool → UserId → History → Known → UserId → UserId → Option (List Bool)
said_bits later owner h m by u =
    if same_user u by || is_first m.users u then None
    else if later then differing (mask_in m.state.masks.items by u) (closed_bits owner h m by u)
    else differing (closed_bits owner h m by u) all_bits

abbrev pub words_in : UserId → Option (List Bool) → List (List ℕ)
words_in u None = []
words_in u (Some bits) = mask_word u bits ∷ []

abbrev pub word_of : Bool → UserId → History → Known → UserId → UserId → List (List ℕ)
word_of later owner h m by u = words_in u (said_bits later owner h m by u)

abbrev pub words_of : Bool → UserId → History → Known → UserId → List (List ℕ)
words_of later owner h m by = flat_map (word_of later owner h m by) m.users

abbrev pub mask_kind : List ℕ → Kind
mask_kind head = record { head = head; between = 0x20; tail = [] }

-- ---- the lines of each opener

abbrev pub are_any : List (List ℕ) → Bool
are_any [] = false
are_any (w ∷ words) = true

-- another user than the owner is lent x on `aclumask`: while masks are closed, and later if their entry lacks it
abbrev pub is_lent : Bool → UserId → History → UserId → Bool
is_lent later owner h by = not later || not (same_user owner by || has owner h by Execute (Command Aclumask))

abbrev pub lent_text : List ℕ → UserId → List ℕ → List ℕ
lent_text start by bits = start ++ (codes "aclchg " ++ (name_of by ++ (bits ++ codes " aclumask\n")))

-- how a line of an opener begins: only another than the owner is named
abbrev pub owner_head : List ℕ → List ℕ
owner_head start = start ++ codes "aclumask"

abbrev pub other_head : List ℕ → UserId → List ℕ
other_head start by = start ++ (name_of by ++ codes ": aclumask")

abbrev pub other_parts : List ℕ → UserId → List (List ℕ) → Bool → List Part
other_parts start by words true =
    Part.text (lent_text start by (codes " +x")) ∷ Part.lines (mask_kind (other_head start by)) words
    ∷ Part.text (lent_text start by (codes " -x")) ∷ []
other_parts start by words false = Part.lines (mask_kind (other_head start by)) words ∷ []

abbrev pub parts_by : Bool → UserId → History → Known → List ℕ → UserId → List Part
parts_by later owner h m start by =
    if are_any (words_of later owner h m by) then
    (if is_first m.users by then Part.lines (mask_kind (owner_head start)) (words_of later owner h m by) ∷ []
    else other_parts start by (words_of later owner h m by) (is_lent later owner h by))
    else []

-- what each known user masks
abbrev pub mask_parts : Bool → UserId → History → Known → List ℕ → List Part
mask_parts later owner h m start = flat_map (parts_by later owner h m start) m.users
