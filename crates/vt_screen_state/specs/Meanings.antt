-- Control sequences with several values, SGR, SM, RM, DECSM and DECRM, and the actions of the values.
use Rattle.std.specs.Prelude.{ℕ, List, ◌∷◌, [], false, true, Option, Some, None}
use Prim.Native.Char.{code}
use Rattle.charsets.specs.Entries.{entry_at, entry_or}
use Rattle.terminal_model.specs.declared.action.Action.{Action}
use Rattle.terminal_model.specs.Functions.{rendered, mode_set, private_mode_set}
use Rattle.vt_screen_state.specs.declared.values.Setting.{Setting}
use Rattle.vt_screen_state.specs.declared.values.Setting.TheVariants.{Rendition as SetRendition, Mode, PrivateMode}

-- what a control sequence sets by each of its parameters; None if it is another sequence
abbrev pub setting_of : Option ℕ → List ℕ → ℕ → Option Setting
setting_of None [] last =
    entry_at ((code "h", Mode true) ∷ (code "l", Mode false) ∷ (code "m", SetRendition) ∷ []) last
setting_of (Some mark) [] last =
    entry_or None
    ((
      code "?",
      entry_at ((code "h", PrivateMode true) ∷ (code "l", PrivateMode false) ∷ []) last,
    )
    ∷ [])
    mark
setting_of mark (intermediate ∷ more) last = None

-- the action of one value
abbrev pub meaning : Setting → ℕ → Option Action
meaning SetRendition value = rendered value
meaning (Mode is_set) value = mode_set is_set value
meaning (PrivateMode is_set) value = private_mode_set is_set value
