use Rattle.command_lang.proofs.OneReading.{answered, not_both, relates-reads, reads-relates, refuses-reads}
use Rattle.command_lang.proofs.OneReading.{reads-refuses}
use Rattle.command_lang.proofs.reading.each_line_is_a_command_or_faulty.Goals as goal

pub returns-clause-either : goal.returns-clause-either
returns-clause-either c = answered

pub returns-clause-not_both : goal.returns-clause-not_both
returns-clause-not_both c = not_both

pub returns-clause-command : goal.returns-clause-command
returns-clause-command c = λ line d. (relates-reads line d, reads-relates line d)

pub returns-clause-fault : goal.returns-clause-fault
returns-clause-fault c = λ line f. (refuses-reads line f, reads-refuses line f)
