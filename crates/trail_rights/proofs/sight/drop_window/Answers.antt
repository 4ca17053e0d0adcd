use Rattle.trail_rights.proofs.Vocabulary.{ℕ, not, rules, ◌==◌}
use Rattle.std.proofs.lemmas.Fn.{filter_same}
use Rattle.trail_rights.proofs.sight.drop_window.Goals as goal

pub returns : goal.returns
returns c = filter_same _ (λ (x : ℕ). not (x == c.args.window)) _ (λ x b f called. search rules)
    c.args.windows.now.items c.retain.new.self.items c.retain.ensures.filtered
