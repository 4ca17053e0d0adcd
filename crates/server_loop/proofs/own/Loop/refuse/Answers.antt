use Rattle.server_loop.proofs.Vocabulary.{◌≡◌, ◌∙◌, ◌++◌, ℕ, List, ap, inl, subst, TurnsAway, state_of}
use Rattle.session.specs.Texts.{text_of}
use Rattle.server_loop.proofs.own.Loop.refuse.Goals as goal

pub returns-in-Ok : goal.returns-in-Ok
returns-in-Ok g c =
    let text : c.deref.result.now ≡ text_of c.args.refusal.now = c.deref.ensures.value ∙ c.in-Ok.ensures.ok
    ∙ ap (λ (l : List ℕ). l ++ text_of c.args.refusal.now) c.new-text.ensures.items in
    inl (subst (λ (l : List ℕ). TurnsAway g.J.SessionSeat l c.args.key (state_of c.args.self.now)
    (state_of c.turn_away.new.self)) text c.turn_away.ensures)
