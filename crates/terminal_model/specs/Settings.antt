-- The modes that SM, RM, DECSM and DECRM set.
use Rattle.std.specs.Prelude.{Bool}
use Rattle.terminal_model.specs.declared.state.Modes.{Modes}
use Rattle.terminal_model.specs.declared.state.State.{State}
use Rattle.terminal_model.specs.declared.action.Mode.{Mode}
use Rattle.terminal_model.specs.declared.action.Mode.TheVariants as modes
use Rattle.terminal_model.specs.Motion.{unpending, home}

abbrev pub modes_with : Modes → Mode → Bool → Modes
modes_with m modes.Insert on = record m { inserts = on }
modes_with m modes.NewLine on = record m { starts_lines = on }
modes_with m modes.Arrows on = record m { has_application_arrows = on }
modes_with m modes.Inverted on = record m { is_inverted = on }
modes_with m modes.Origin on = record m { counts_from_margin = on }
modes_with m modes.Wrap on = record m { wraps = on }
modes_with m modes.Cursor on = record m { shows_cursor = on }

-- ?6 also sends the cursor home
abbrev pub homed : Mode → State → State
homed modes.Origin s = home s
homed modes.Insert s = unpending s
homed modes.NewLine s = unpending s
homed modes.Arrows s = unpending s
homed modes.Inverted s = unpending s
homed modes.Wrap s = unpending s
homed modes.Cursor s = unpending s
