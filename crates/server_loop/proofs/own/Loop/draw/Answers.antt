use Rattle.server_loop.proofs.Vocabulary.{◌∙◌, ℕ, Err, Ok, ap, refl, subst, sym, Connections, SeatFault, Submits}
use Rattle.server_loop.proofs.Vocabulary.{state_of, with_peer, Loop}
use Rattle.session.specs.Trace.{Draw}
use Rattle.server_connections.specs.Changing.{drawn}
use Rattle.server_seat.specs.declared.seat.SeatFault.TheVariants as fault
use Rattle.server_loop.specs.Drawing.{Draws}
use Rattle.server_loop.proofs.own.Loop.draw.Goals as goal
use Rattle.server_loop.proofs.own.Loop.draw.Goals.{in-Ok, in-Err-NoMemory, in-Err-Over}

pub returns : goal.returns
returns g c =
    let old = state_of c.args.self.now in
    let mid = state_of c.submit.new.self in
    let draws = λ (l : Loop g.row.S.Denot g.row.G.Denot g.row.J.Denot).
    Draws g.J.SessionSeat c.args.client c.args.key old (state_of l) in
    elim c.match-submit.branch [
      | in-Ok w ↦ subst draws (sym w.self-is) (record {
        answer = Ok w.in-Ok.field-0;
        mid = mid;
        step = w.in-Ok.ensures;
        noted = ap (λ (s : Connections g.row.S.Denot). record mid {
          connections = s;
          draws = record mid.draws { made = w.saturating_add-self.result };
        }) w.note_drawn.ensures
            ∙ ap (λ (n : ℕ). record (with_peer drawn c.args.key mid) { draws = record mid.draws { made = n } })
            w.saturating_add-self.ensures;
      })
      | in-Err-NoMemory w ↦ subst draws (sym w.self-is) (record {
        answer = Err fault.NoMemory;
        mid = mid;
        step = subst (λ (f : SeatFault). Submits g.J.SessionSeat (Draw c.args.client) old (Err f) mid)
            w.in-Err-NoMemory.field-0-is w.in-Err-NoMemory.ensures;
        noted = refl;
      })
      | in-Err-Over w ↦ subst draws (sym w.self-is) (record {
        answer = Err (fault.Over w.in-Err-Over.field-0-0);
        mid = mid;
        step = subst (λ (f : SeatFault). Submits g.J.SessionSeat (Draw c.args.client) old (Err f) mid)
            w.in-Err-Over.field-0-is w.in-Err-Over.ensures;
        noted = refl;
      })
    ]
