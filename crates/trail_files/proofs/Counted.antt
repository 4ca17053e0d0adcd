-- How a file ends, by the number of entries that were read.
use Rattle.std.proofs.Common.{◌∙◌, ℕ, List, Option, length, subst}
use Rattle.acl.specs.declared.leaders.Edition.{Edition}
use Rattle.acl.specs.declared.user_id.UserId.{UserId}
use Rattle.trail_lines.specs.Entries.{Said}
use Rattle.trail_lines.specs.declared.audit.Audit.{Audit}
use Rattle.trail_lines.specs.declared.halt.Halt.{Halt}
use Rattle.trail_lines.specs.declared.halt.Halt.TheVariants as halt
use Rattle.trail_lines.specs.Halting.{TellsOf}
use Rattle.trail_lines.specs.Reading.{entries_in}
use Rattle.trail_lines.proofs.Halted.{count_in}
use Rattle.trail_files.specs.declared.check.Finish.{Finish}
use Rattle.trail_files.specs.Finishing.{EndsAt, Finishes}

-- what the audit counts are the entries that were read
pub counted : (f : Finish) (h : Halt) (audit : Audit) (line : List ℕ) (edition : Edition) (owner : UserId)
    (said : List Said) (rest : Option (List ℕ)) → TellsOf h audit line edition owner (entries_in said)
    → Finishes f h audit.next line rest → Finishes f h (length said) line rest
counted f halt.Nothing audit line edition owner said rest read ends = ends
counted f halt.Torn audit line edition owner said rest read ends = ends
counted f (halt.Last number) audit line edition owner said rest read ends =
    subst (λ (n : ℕ). EndsAt f n number line rest) (read.next ∙ count_in said) ends
counted f (halt.Stopped number w) audit line edition owner said rest read ends = ends
