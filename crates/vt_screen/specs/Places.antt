-- Where the lines of a page are stored afterwards. Index, reverse index, IL, DL and a wrap rotate
-- the places of the lines that they scroll. Nothing else moves a line to another stored line.
use Rattle.std.specs.Prelude.{ℕ, ◌+◌, ◌-◌, ◌==◌, min, cond, Bool, List, [], ◌∷◌, Option, Some, None}
use Rattle.charsets.specs.Shifts.{mapped}
use Rattle.terminal_model.specs.declared.state.State.{State}
use Rattle.terminal_model.specs.declared.action.Action.{Action}
use Rattle.terminal_model.specs.declared.action.Action.TheVariants.{Print, LineFeed, Index, NextLine, ReverseIndex}
use Rattle.terminal_model.specs.declared.action.Action.TheVariants.{InsertLines, DeleteLines}
use Rattle.terminal_model.specs.Screen.{Screen}
use Rattle.terminal_model.specs.Scrollback.{is_wrapped}
use Rattle.terminal_model.specs.Printing.{columns_of}
use Rattle.terminal_model.specs.Erasing.{is_in_margins}
use Rattle.terminal_model.specs.Table.{acted}
use Rattle.vt_screen_page.specs.Store.{turned}

-- the places after the lines of the margins went up by one
abbrev pub raised_places : State → List ℕ → List ℕ
raised_places s places = turned s.top s.bottom 1 places

-- the places after an index: the lines of the margins go up by one in the last of them; and after a
-- reverse index: they go down by one in the first of them
abbrev pub indexed_places : State → List ℕ → List ℕ
indexed_places s places = cond (s.line == s.bottom) (turned s.top s.bottom 1 places) places

abbrev pub lowered_places : State → List ℕ → List ℕ
lowered_places s places =
    cond (s.line == s.top) (turned s.top s.bottom (s.bottom + 1 - s.top - 1) places) places

-- the places after a wrap that is due
abbrev pub wrapped_places : Bool → State → List ℕ → List ℕ
wrapped_places is_due s places = cond is_due (indexed_places s places) places

abbrev pub printed_places : Option ℕ → State → List ℕ → List ℕ
printed_places None s places = places
printed_places (Some c) s places = wrapped_places (is_wrapped (columns_of c) s) s places

-- the places after IL and DL: within the margins, from the cursor's line to the last line of the
-- margins
abbrev pub inserted_places : ℕ → State → List ℕ → List ℕ
inserted_places n s places =
    cond (is_in_margins s)
    (turned s.line s.bottom (s.bottom + 1 - s.line - min n (s.bottom + 1 - s.line)) places)
    places

abbrev pub deleted_places : ℕ → State → List ℕ → List ℕ
deleted_places n s places =
    cond (is_in_margins s) (turned s.line s.bottom (min n (s.bottom + 1 - s.line)) places) places

abbrev pub acted_places : State → Action → List ℕ → List ℕ
acted_places s (Print u) places = printed_places (mapped s.shifts u) s places
acted_places s LineFeed places = indexed_places s places
acted_places s Index places = indexed_places s places
acted_places s NextLine places = indexed_places s places
acted_places s ReverseIndex places = lowered_places s places
acted_places s (InsertLines n) places = inserted_places n s places
acted_places s (DeleteLines n) places = deleted_places n s places
acted_places s other places = places

abbrev pub places_after : Action → State → List ℕ → List ℕ
places_after action s places = acted_places s action places

abbrev pub all_acted_places : Screen → List Action → List ℕ → List ℕ
all_acted_places x [] places = places
all_acted_places x (a ∷ later) places =
    all_acted_places (acted x a) later (acted_places x.state a places)
