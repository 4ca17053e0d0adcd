use Rattle.std.proofs.Common.{Option, refl, ◌∙◌, ap, subst}
use Rattle.trail_lines.specs.declared.ending.Cause.{Cause}
use Rattle.server_trail.specs.Files.{EndsAs}
use Rattle.server_trail.specs.Stopping.{last_cause}
use Rattle.server_trail.proofs.journal.Journal.end.Goals as goal

pub returns : goal.returns
returns g c = record {
  disk = c.deref_mut-disk.result.now;
  left = c.end-ended.new.file;
  ended = rw c.note-noted.ensures.noted (subst (λ (x : Option Cause). EndsAs c.args.written x
      (g.F.Write.contents c.deref_mut-disk.result.now.file) (g.F.Write.contents c.end-ended.new.file.file)
      c.end-ended.result) (c.last_cause.ensures ∙ ap (λ s. last_cause s c.args.cause) c.cause_of.ensures)
      c.end-ended.ensures.ends);
  synced = rw c.note-noted.ensures.noted c.end-ended.ensures.synced;
  is_sound = rw c.note-noted.ensures.noted refl;
}
