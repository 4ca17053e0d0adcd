-- What is printed of who may do what.
use Rattle.std.specs.Prelude.{ℕ, Bool, ◌&&◌, if◌then◌else◌, List, [], ◌++◌, Option, Some, None, codes, decimal}
use Rattle.std.specs.List.{flat_map}
use Rattle.acl.specs.command_name.TheConstants.CommandName.{ALL}
use Rattle.acl.specs.declared.act.Object.{Object}
use Rattle.acl.specs.declared.act.Object.TheVariants as object
use Rattle.acl.specs.declared.bits.Bit.{Bit}
use Rattle.acl.specs.declared.bits.Bit.TheVariants.{Read, Write, Execute}
use Rattle.acl.specs.declared.command_name.CommandName.{CommandName}
use Rattle.acl.specs.declared.leaders.Edition.{Edition}
use Rattle.acl.specs.declared.user_id.UserId.{UserId}
use Rattle.acl.specs.History.{History, leaders_of, may, there, users_of}
use Rattle.acl.specs.Names.{name_of}
use Rattle.command_lang.specs.Names.{name_text}
use Rattle.session.specs.Texts.{letter}
use Rattle.trail_rights.specs.declared.settler.Settler.{Settler}
use Rattle.trail_rights.specs.Masking.{masks_text, newcomer_text}
use Rattle.trail_rights.specs.Windows.{windows_of}
use Rattle.writelock.specs.Holding.{holder}

-- ---- users

abbrev pub leader_text : UserId → List ℕ
leader_text leader = codes " led by " ++ name_of leader

-- `user ann led by bob`
abbrev pub user_text : Edition → History → UserId → List ℕ
user_text edition h user =
    codes "user " ++ (name_of user ++ (flat_map leader_text (leaders_of edition h user) ++ codes "\n"))

-- ---- windows

-- whether a user has a bit on an object that is there
abbrev pub has_bit : Edition → UserId → History → Object → UserId → Bit → Bool
has_bit edition owner h o user bit = there h o && may edition owner h user bit o

abbrev pub letter_on : Edition → UserId → History → Object → UserId → Bit → List ℕ
letter_on edition owner h o user bit = if has_bit edition owner h o user bit then letter bit else codes "-"

-- ` ann:r--`
abbrev pub bits_on : Edition → UserId → History → Object → UserId → List ℕ
bits_on edition owner h o user =
    codes " " ++ (name_of user ++ (codes ":" ++ (letter_on edition owner h o user Read
    ++ (letter_on edition owner h o user Write ++ letter_on edition owner h o user Execute))))

abbrev pub holder_text : Option UserId → List ℕ
holder_text None = []
holder_text (Some user) = codes " held by " ++ name_of user

-- `window 3 held by own own:rwx ann:r--`
abbrev pub window_text : Edition → UserId → History → List UserId → ℕ → List ℕ
window_text edition owner h users w =
    codes "window " ++ (decimal w ++ (holder_text (holder edition owner h w)
    ++ (flat_map (bits_on edition owner h (object.Window w)) users ++ codes "\n")))

-- ---- commands

abbrev pub command_text : Edition → UserId → History → UserId → CommandName → List ℕ
command_text edition owner h user c =
    if has_bit edition owner h (object.Command c) user Execute then codes " " ++ name_text c else []

-- `commands ann detach select`: those on which the user has x
abbrev pub commands_text : Edition → UserId → History → UserId → List ℕ
commands_text edition owner h user =
    codes "commands " ++ (name_of user ++ (flat_map (command_text edition owner h user) ALL ++ codes "\n"))

-- ---- all of it

abbrev pub count_text : ℕ → List ℕ
count_text count = codes "entries " ++ (decimal count ++ codes "\n")

-- the masks that these settlers found, and what a user gets who becomes known now
abbrev pub masks_of : List Settler → List UserId → List ℕ
masks_of settlers users = flat_map (masks_text settlers users) users ++ newcomer_text settlers

-- after the acts of so many entries, of which the settlers have seen what they set
abbrev pub rights_text : Edition → UserId → History → ℕ → List Settler → List ℕ
rights_text edition owner h count settlers =
    count_text count ++ (flat_map (user_text edition h) (users_of owner h)
    ++ (flat_map (window_text edition owner h (users_of owner h)) (windows_of h)
    ++ (flat_map (commands_text edition owner h) (users_of owner h) ++ masks_of settlers (users_of owner h))))
