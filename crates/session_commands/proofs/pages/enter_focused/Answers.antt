use Rattle.std.proofs.Common.{arith, rules}
use Rattle.session_commands.proofs.pages.enter_focused.Goals as goal

pub returns-in-Some-window : goal.returns-in-Some-window
returns-in-Some-window c = (search rules, c.enter.ensures.1.room 64 (omega (arith, c.requires)), search rules)
