use Rattle.session.proofs.ScriptLines.{reads_events}
use Rattle.session.proofs.ReadBack.{reads_texts}
use Rattle.session.proofs.script.reads_printed.Goals as goal

pub returns : goal.returns
returns c = record { texts = reads_texts; events = reads_events }
