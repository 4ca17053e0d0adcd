-- What is told of a file, by the entries that were read.
use Rattle.std.proofs.Common.{◌≡◌, ◌∙◌, ◌++◌, ℕ, List, Option, ap, length, refl, subst, sym}
use Rattle.acl.specs.declared.leaders.Edition.{Edition}
use Rattle.acl.specs.declared.user_id.UserId.{UserId}
use Rattle.trail_lines.proofs.Halted.{count_in}
use Rattle.trail_lines.specs.Entries.{Said}
use Rattle.trail_lines.specs.Halting.{IsEnd, TellsOf}
use Rattle.trail_lines.specs.Reading.{entries_in}
use Rattle.trail_lines.specs.Times.{times_of}
use Rattle.trail_lines.specs.declared.audit.Audit.{Audit}
use Rattle.trail_lines.specs.declared.audit.Times.{Times}
use Rattle.trail_lines.specs.declared.halt.Halt.{Halt}
use Rattle.trail_lines.specs.declared.halt.Halt.TheVariants as halt
use Rattle.trail_files.specs.Finishing.{Finishes}
use Rattle.trail_files.specs.Telling.{audit_text, finish_text, judged_text, note_text}
use Rattle.trail_files.specs.declared.check.Finish.{Finish}

read_all : (f : Finish) (audit : Audit) (owner : UserId) (said : List Said) → audit.next ≡ length said
    → audit.times ≡ times_of said → audit_text f audit owner ≡ judged_text f said owner
read_all f audit owner said count times =
    ap (λ (n : ℕ). finish_text f n owner ++ note_text f audit.times.back) count
    ∙ ap (λ (t : Times). finish_text f (length said) owner ++ note_text f t.back) times

-- it is what the entries that were read tell
pub told : (f : Finish) (h : Halt) (audit : Audit) (line : List ℕ) (edition : Edition) (owner : UserId)
    (said : List Said) (rest : Option (List ℕ)) → TellsOf h audit line edition owner (entries_in said)
    → (IsEnd h → audit.times ≡ times_of said) → Finishes f h (length said) line rest
    → audit_text f audit owner ≡ judged_text f said owner
told f halt.Nothing audit line edition owner said rest read times ends =
    read_all f audit owner said (read.next ∙ count_in said) (times tt)
told f halt.Torn audit line edition owner said rest read times ends =
    read_all f audit owner said (read.next ∙ count_in said) (times tt)
told f (halt.Last number) audit line edition owner said rest read times ends =
    read_all f audit owner said (read.next ∙ count_in said) (times tt)
told f (halt.Stopped number w) audit line edition owner said rest read times ends =
    subst (λ (f : Finish). audit_text f audit owner ≡ judged_text f said owner) (sym ends) refl
