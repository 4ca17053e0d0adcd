-- The answers of a terminal.
use Rattle.std.specs.Prelude.{ℕ, ◌+◌, ◌-◌, codes, cond, List, [], ◌∷◌, ◌++◌}
use Prim.Native.Char.{code}
use Rattle.charsets.specs.declared.decoder.Coding.{Coding}
use Rattle.charsets.specs.declared.decoder.Coding.TheVariants.{Utf8, Ecma35}
use Rattle.control_parser.specs.declared.parser.Func.{Func}
use Rattle.control_parser.specs.Spelling.{decimal}
use Rattle.terminal_model.specs.declared.state.State.{State}
use Rattle.terminal_model.specs.declared.action.Action.{Action}
use Rattle.terminal_model.specs.declared.action.Action.TheVariants.{ReportStatus, ReportPlace, ReportPrinter}
use Rattle.terminal_model.specs.declared.action.Action.TheVariants.{ReportAttributes, ReportSecondaryAttributes}
use Rattle.terminal_model.specs.Screen.{Screen}
use Rattle.terminal_model.specs.Functions.{actions_of}
use Rattle.terminal_model.specs.Table.{acted}

-- U+009B in the window's coding
abbrev pub eight_bit_introducer : Coding → List ℕ
eight_bit_introducer Utf8 = 0xC2 ∷ 0x9B ∷ []
eight_bit_introducer Ecma35 = 0x9B ∷ []

-- CSI: ESC [, or its 8-bit form after S8C1T (VT220 manual, C1 control transmission)
abbrev pub introducer : State → List ℕ
introducer s = cond s.has_eight_bit_reports (eight_bit_introducer s.coding) (0x1B ∷ codes "[")

-- the cursor's line, counted from 1, and from the margins if ?6 is set
abbrev pub reported_line : State → ℕ
reported_line s = cond s.modes.counts_from_margin (s.line + 1 - s.top) (s.line + 1)

abbrev pub answer : State → Action → List ℕ
-- DSR, CSI 5 n: CSI 0 n, ready (ECMA-48, 8.3.35)
answer s ReportStatus = introducer s ++ codes "0n"
-- DSR, CSI 6 n: CSI l ; c R, the cursor's place (ECMA-48, 8.3.14)
answer s ReportPlace =
    introducer s ++ (decimal (reported_line s) ++ (code ";" ∷ decimal (s.column + 1)) ++ codes "R")
-- DSR, CSI ? 15 n: CSI ? 13 n, no printer (VT220 manual, reports)
answer s ReportPrinter = introducer s ++ codes "?13n"
-- DA, CSI c: CSI ? 62 ; 6 c, a VT220 with selective erasing (VT220 manual, reports; the numbers are
-- this project's choice)
answer s ReportAttributes = introducer s ++ codes "?62;6c"
-- DA2, CSI > c: CSI > 1 ; 10 ; 0 c (VT220 manual, reports; the numbers are this project's choice)
answer s ReportSecondaryAttributes = introducer s ++ codes ">1;10;0c"
answer s _ = []

abbrev pub all_answered : Screen → List Action → List ℕ
all_answered x [] = []
all_answered x (a ∷ later) = answer x.state a ++ all_answered (acted x a) later

-- the answer of a screen to a control function
abbrev pub report : Screen → Func → List ℕ
report x f = all_answered x (actions_of f)
