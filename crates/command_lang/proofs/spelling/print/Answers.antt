use Rattle.command_lang.proofs.Vocabulary.{sym, subst, IfOk-weaker, ReadsBack}
use Rattle.command_lang.proofs.ReadBack.{read_back}
use Rattle.command_lang.proofs.spelling.print.Goals as goal

pub returns-clause-reads_back : goal.returns-clause-reads_back
returns-clause-reads_back c =
    IfOk-weaker c.command_line.result _ _
    (λ t e line r. subst (λ l. ReadsBack l c.args.command.now) (sym e) (read_back line c.args.command.now r))
    c.command_line.ensures
