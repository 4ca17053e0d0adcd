use Rattle.session_commands.proofs.Vocabulary.{subst, Ok, rules, Writing, written, Answered, writing_of}
use Rattle.windows.specs.Standing.{written_in}
use Rattle.session_commands.proofs.Changing.{change_done, writing_changes}
use Rattle.session_commands.proofs.Quiet.{quietly}
use Rattle.session_commands.proofs.window.write.Goals as goal

pub returns : goal.returns
returns c = quietly (search rules) (λ k at t st fit passed.
    change_done t c.args.context.now.state.now k c.args.window c.args.command.now
    (written (writing_of c.args.command.now)) (writing_changes t c.args.command.now c.requires.writes) at st passed
    c.in_ok-write.field-0 c.write.new.self c.args.context.now.made.now
    (subst (λ (what : Writing). Answered (written_in c.args.window what t.windows) (Ok c.in_ok-write.field-0)
    c.write.new.self) c.writing_of.ensures (c.in_ok-write.ensures.answer t.windows st.windows)))
