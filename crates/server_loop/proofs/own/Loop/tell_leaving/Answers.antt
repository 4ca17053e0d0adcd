use Rattle.server_loop.proofs.Vocabulary.{Bool, Err, Ok, true, false, ap, refl, subst, sym, happening, Connections}
use Rattle.server_loop.proofs.Vocabulary.{SeatFault, Submits, state_of, Loop}
use Rattle.server_seat.specs.declared.seat.SeatFault.TheVariants as fault
use Rattle.server_loop.specs.Leaving.{LeavesBy}
use Rattle.server_loop.proofs.Keys.{match_some}
use Rattle.server_loop.proofs.own.Loop.tell_leaving.Goals as goal
use Rattle.server_loop.proofs.own.Loop.tell_leaving.Goals.{in-Ok, in-Err-Over, in-Err-NoMemory}

pub returns : goal.returns
returns g c =
    let old = state_of c.args.self.now in
    let mid = state_of c.submit.new.self in
    let event = happening c.in-Some.event in
    let leaves = λ (told : Bool) (l : Loop g.row.S.Denot g.row.G.Denot g.row.J.Denot).
    LeavesBy g.J.SessionSeat event c.args.key old told (state_of l) in
    match_some _ event _ _ (sym c.in-Some.ensures.event) (elim c.match-submit.branch [
      | in-Ok w ↦ subst (λ (told : Bool). leaves told c.match-submit.self) (sym w.result-is)
          (subst (leaves true) (sym w.self-is) (record {
            answer = Ok w.in-Ok.field-0;
            mid = mid;
            step = w.in-Ok.ensures;
            noted = (
              refl,
              ap (λ (s : Connections g.row.S.Denot). record mid { connections = s }) w.note_gone.ensures,
            );
          }))
      | in-Err-Over w ↦ subst (λ (told : Bool). leaves told c.match-submit.self) (sym w.result-is)
          (subst (leaves true) (sym w.self-is) (record {
            answer = Err (fault.Over w.in-Err-Over.field-0-0);
            mid = mid;
            step = subst (λ (f : SeatFault). Submits g.J.SessionSeat event old (Err f) mid)
                w.in-Err-Over.field-0-is w.in-Err-Over.ensures;
            noted = (
              refl,
              ap (λ (s : Connections g.row.S.Denot). record mid { connections = s }) w.note_gone-in-Err-Over.ensures,
            );
          }))
      | in-Err-NoMemory w ↦ subst (λ (told : Bool). leaves told c.match-submit.self) (sym w.result-is)
          (subst (leaves false) (sym w.self-is) (record {
            answer = Err fault.NoMemory;
            mid = mid;
            step = subst (λ (f : SeatFault). Submits g.J.SessionSeat event old (Err f) mid)
                w.in-Err-NoMemory.field-0-is w.in-Err-NoMemory.ensures;
            noted = (refl, refl);
          }))
    ])
