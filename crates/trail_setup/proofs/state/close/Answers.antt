use Rattle.trail_setup.proofs.Vocabulary.{ℕ, not, rules, ◌==◌, filter_same, UserId}
use Rattle.trail_setup.proofs.state.close.Goals as goal

pub returns : goal.returns
returns c =
    filter_same _ (λ (row : ℕ × UserId). not (row.0 == c.args.window)) _ (λ x b f called. search rules)
    c.args.windows.now.items c.retain.new.self.items c.retain.ensures.filtered
