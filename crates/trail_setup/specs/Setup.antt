-- All lines of a setup, in their order.
use Rattle.std.specs.Prelude.{List, [], ◌∷◌, ◌++◌, ℕ, false, true, codes, map}
use Rattle.std.specs.List.{flat_map}
use Rattle.acl.specs.declared.act.PresetKind.TheVariants as preset
use Rattle.acl.specs.declared.leaders.Edition.{Edition}
use Rattle.acl.specs.declared.user_id.UserId.{UserId}
use Rattle.acl.specs.History.{History, users_of}
use Rattle.acl.specs.Names.{name_of}
use Rattle.trail_setup.specs.declared.mode.ModeSeen.{ModeSeen}
use Rattle.trail_setup.specs.declared.mode.ModeSeen.TheVariants.{Multiuser, Single, Unsaid}
use Rattle.trail_setup.specs.declared.state.SetupState.{SetupState}
use Rattle.trail_setup.specs.Giving.{Part, default_line, first_text, leader_lines, lines_of, preset_line, users_kind}
use Rattle.trail_setup.specs.Masks.{Known, mask_parts, preset_in}

-- the users but the owner, who is the first
abbrev pub others_of : List UserId → List UserId
others_of [] = []
others_of (owner ∷ others) = others

abbrev pub later_start : List ℕ
later_start = codes "# later: "

-- a session begins in multiuser mode; whether it stays so is for later
abbrev pub mode_text : ModeSeen → List ℕ
mode_text Multiuser = []
mode_text Single = codes "# later: multiuser off\n"
mode_text Unsaid =
    codes "# later: multiuser off\n# (somebody typed multiuser on or off, which the trail doesn't have)\n"

abbrev pub users_parts : List UserId → List Part
users_parts others = Part.text first_text ∷ Part.lines users_kind (map name_of others) ∷ []

abbrev pub state_parts : SetupState → List Part
state_parts s =
    Part.text (preset_line preset.Windows (preset_in s preset.Windows))
    ∷ Part.text (preset_line preset.Commands (preset_in s preset.Commands))
    ∷ Part.text (default_line s.default) ∷ []

abbrev pub later_parts : UserId → History → Known → List Part
later_parts owner h m = mask_parts true owner h m later_start ++ Part.text (mode_text m.state.mode) ∷ []

-- of users: they become known, masks are closed, and they get their leaders and commands; then presets, the default
-- lock, and what is for later
abbrev pub parts_for : Edition → UserId → (acts h : History) → Known → List UserId → List Part
parts_for edition owner acts h m others =
    users_parts others
    ++ (mask_parts false owner h m []
    ++ (Part.text (flat_map (leader_lines edition acts) others)
    ∷ (flat_map (lines_of owner h) others ++ (state_parts m.state ++ later_parts owner h m))))

-- the lines of a setup: users and leaders are those after all acts, and the state stands for a history, which may lack
-- the acts of a `quit`
abbrev pub setup_parts : Edition → UserId → (acts h : History) → SetupState → List Part
setup_parts edition owner acts h s =
    parts_for edition owner acts h (record { state = s; users = users_of owner acts })
    (others_of (users_of owner acts))
