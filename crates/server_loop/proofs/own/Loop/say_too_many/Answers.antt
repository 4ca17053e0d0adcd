use Rattle.server_loop.proofs.Vocabulary.{◌≡◌, ◌∙◌, ◌++◌, ℕ, List, ap, inl, subst, TurnsAway, state_of}
use Rattle.server_loop.specs.Beginning.{too_many}
use Rattle.server_loop.proofs.own.Loop.say_too_many.Goals as goal

pub returns-in-Ok : goal.returns-in-Ok
returns-in-Ok g c =
    let by = c.args.newcomer in
    let most : List ℕ = too_many by.kind by.user.user c.args.most in
    let text : c.deref.result.now ≡ most = c.deref.ensures.value ∙ c.in-Ok.ensures
    ∙ ap (λ (l : List ℕ). l ++ most) c.new-text.ensures.items in
    inl (subst (λ (l : List ℕ). TurnsAway g.J.SessionSeat l by.key (state_of c.args.self.now)
    (state_of c.turn_away.new.self)) text c.turn_away.ensures)
