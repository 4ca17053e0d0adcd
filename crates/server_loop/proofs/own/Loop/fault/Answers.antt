use Rattle.server_loop.proofs.Vocabulary.{◌≡◌, ◌∙◌, true, false, ap, refl, sym, subst, rules, Fault, Expels, State}
use Rattle.server_loop.proofs.Vocabulary.{state_of, Loop}
use Rattle.server_loop.proofs.Telling.{if_false, if_true}
use Rattle.server_loop.proofs.own.Loop.fault.Goals as goal

pub returns-then-not-is_open_at : goal.returns-then-not-is_open_at
returns-then-not-is_open_at g c =
    let no : c.is_open_at.result ≡ false = search rules in
    record {
      mid = state_of c.hand_out.new.self;
      handed = c.hand_out.ensures;
      goes = if_false _ _ _ (sym c.is_open_at.ensures ∙ no) refl;
    }

pub returns : goal.returns
returns g c =
    let yes : c.is_open_at.result ≡ true = search rules in
    record {
      mid = state_of c.hand_out.new.self;
      handed = c.hand_out.ensures;
      goes = if_true _ _ _ (sym c.is_open_at.ensures ∙ yes)
          (subst (λ (s : State g.row.S.Denot g.row.J.Denot). Expels g.J.SessionSeat Fault c.args.key s
          (state_of c.expel.new.self))
          (ap (λ (l : Loop g.row.S.Denot g.row.G.Denot g.row.J.Denot). state_of l) c.note_misfit.ensures)
          c.expel.ensures);
    }
