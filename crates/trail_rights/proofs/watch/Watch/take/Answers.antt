use Rattle.trail_rights.proofs.Vocabulary.{[], sym, subst, said, HasRead, entries_in, marked_after, HasKept}
use Rattle.trail_rights.proofs.Seen.{entries_more, marked_more}
use Rattle.trail_rights.proofs.watch.Watch.take.Goals as goal

pub returns-clause-tells : goal.returns-clause-tells
returns-clause-tells c = λ edition owner xs w.
    let t = c.in_ok-said.ensures.tells edition owner (entries_in xs) w.read in
    let next = said c.in_ok-said.said in record {
      is = t.is;
      place_is = t.place_is;
      watched = record {
        read = subst (HasRead c.take.new.self edition owner) (sym (entries_more xs next)) t.read;
        kept = subst (HasKept c.take-2.new.self) (sym (marked_more [] xs next))
            (c.in_ok-take.ensures.keeps (marked_after [] xs) w.kept);
      };
    }
