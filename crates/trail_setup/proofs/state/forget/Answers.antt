use Rattle.trail_setup.proofs.Vocabulary.{◌&&◌, not, rules, filter_same, same_user, SetMask}
use Rattle.trail_setup.proofs.state.forget.Goals as goal

pub returns : goal.returns
returns c =
    filter_same _ (λ (m : SetMask). not (same_user m.by c.args.user) && not (same_user m.user c.args.user)) _
    (λ x b f called. search rules) c.args.masks.now.items c.retain.new.self.items c.retain.ensures.filtered
