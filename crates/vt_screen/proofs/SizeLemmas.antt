-- No action changes the number of columns.
use Rattle.vt_screen.proofs.Vocabulary.{◌≡◌, ℕ, zero, suc, Bool, true, false, ◌&&◌, nat_lt, Option, Some, None, refl}
use Rattle.vt_screen.proofs.Vocabulary.{◌∙◌, State, Action, Print, Screen, with_state, columns_of, drawn, lacks_room}
use Rattle.vt_screen.proofs.Vocabulary.{marked_at, printed, printed_as, wide_or_none, wide_printed, wrapped}
use Rattle.vt_screen.proofs.Vocabulary.{is_in_margins, lines_deleted, lines_inserted, acted, acted_from}
use Rattle.charsets.specs.Shifts.{mapped, spent}
use Rattle.terminal_model.specs.declared.state.Position.{Position}
use Rattle.terminal_model.specs.declared.action.Mode.{Mode}
use Rattle.terminal_model.specs.declared.action.Mode.TheVariants as modes
use Rattle.terminal_model.specs.declared.action.Action.TheVariants.{InsertLines, DeleteLines, SetMargins, SetMode}
use Rattle.terminal_model.specs.Motion.{bottom_of, margins_or_none}
use Rattle.terminal_model.specs.Settings.{homed}

wrapped_columns : (b : Bool) (x : Screen) → (wrapped b x).state.columns ≡ x.state.columns
wrapped_columns true x = refl
wrapped_columns false x = refl

wide_columns : (b : Bool) (c : ℕ) (x : Screen) → (wide_or_none b c x).state.columns ≡ x.state.columns
wide_columns true c x = refl
wide_columns false c x = refl

marked_columns : (p : Option Position) (c : ℕ) (x : Screen) → (marked_at p c x).state.columns ≡ x.state.columns
marked_columns None c x = refl
marked_columns (Some p) c x = refl

widely_columns : (c : ℕ) (x : Screen) → (wide_printed c x).state.columns ≡ x.state.columns
widely_columns c x =
    let due : Bool = lacks_room x.state && x.state.modes.wraps in
    wide_columns (lacks_room (wrapped due x).state) c (wrapped due x) ∙ wrapped_columns due x

printed_as_columns : (n c : ℕ) (x : Screen) → (printed_as n c x).state.columns ≡ x.state.columns
printed_as_columns zero c x = marked_columns x.state.joining c x
printed_as_columns (suc zero) c x = wrapped_columns x.state.is_wrap_pending x
printed_as_columns (suc (suc more)) c x = widely_columns c (wrapped x.state.is_wrap_pending x)
    ∙ wrapped_columns x.state.is_wrap_pending x

printed_columns : (c : Option ℕ) (x : Screen) → (printed c x).state.columns ≡ x.state.columns
printed_columns None x = refl
printed_columns (Some c) x = printed_as_columns (columns_of c) (drawn c) x

inserted_columns : (b : Bool) (n : ℕ) (x : Screen) → (lines_inserted b n x).state.columns ≡ x.state.columns
inserted_columns true n x = refl
inserted_columns false n x = refl

deleted_columns : (b : Bool) (n : ℕ) (x : Screen) → (lines_deleted b n x).state.columns ≡ x.state.columns
deleted_columns true n x = refl
deleted_columns false n x = refl

margins_columns : (b : Bool) (top bottom : ℕ) (s : State) → (margins_or_none b top bottom s).columns ≡ s.columns
margins_columns true top bottom s = refl
margins_columns false top bottom s = refl

homed_columns : (mode : Mode) (s : State) → (homed mode s).columns ≡ s.columns
homed_columns modes.Origin s = refl
homed_columns modes.Insert s = refl
homed_columns modes.NewLine s = refl
homed_columns modes.Arrows s = refl
homed_columns modes.Inverted s = refl
homed_columns modes.Wrap s = refl
homed_columns modes.Cursor s = refl

pub acted_columns : (x : Screen) (a : Action) → (acted x a).state.columns ≡ x.state.columns
unfolding acted_from
acted_columns x (Print u) = printed_columns (mapped x.state.shifts u)
    (with_state x (record x.state { shifts = spent x.state.shifts u }))
acted_columns x (SetMargins top bottom) = margins_columns (nat_lt top (bottom_of x.state.rows bottom)) top
    (bottom_of x.state.rows bottom) x.state
acted_columns x (SetMode mode on) = homed_columns mode _
acted_columns x (InsertLines n) = inserted_columns (is_in_margins x.state) n x
acted_columns x (DeleteLines n) = deleted_columns (is_in_margins x.state) n x
acted_columns x _ = refl
