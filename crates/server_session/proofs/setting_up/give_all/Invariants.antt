use Rattle.std.proofs.Common.{map}
use Rattle.program_words.specs.SetupLines.{line_of}
use Rattle.server_session.specs.SettingUp.{AreDone}
use Rattle.server_session.proofs.setting_up.give_all.Given as goal

abbrev pub invariant-loop-line : goal.invariant-loop-line
invariant-loop-line g l = AreDone l.fn.giver.owner (map line_of l.lines) l.line-index l.fn.seat l.seat
