use Rattle.std.proofs.Common.{ℕ, Result, refl, subst}
use Rattle.std.specs.Prelude.{⊤}
use Rattle.std.specs.declared.io.Error.{Error}
use Rattle.server_turns.specs.Beginning.{AcceptsIf}
use Rattle.server_turns.specs.Calls.{Note}
use Rattle.server_turns.specs.Course.{course_of}
use Rattle.server_turns.proofs.turner.Turner.take_in.Goals as goal

pub returns : goal.returns
returns g c = (
  course_of c.accept_if.new.self,
  subst (λ (r : Result ⊤ Error). AcceptsIf g.A.Around.does (course_of c.args.self.now) r
      (course_of c.accept_if.new.self)) c.in_default.is c.accept_if.ensures,
  record {
    mid = c.take_news.new.self;
    takes = c.take_news.ensures;
    freed = course_of c.free_if_stuck.new.self;
    frees = c.free_if_stuck.ensures;
    admitted = course_of c.admit_all.new.self;
    admits = c.admit_all.ensures;
    notes = subst (λ (n : ℕ). g.A.Around.does c.admit_all.new.self.around (Note n) c.note_peers.new.self)
        c.len.ensures c.note_peers.ensures;
    same = refl;
  },
)
