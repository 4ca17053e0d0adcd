use Rattle.std.proofs.Common.{not, rules}
use Rattle.std.specs.Prelude.{◌==◌}
use Rattle.std.proofs.lemmas.Fn.{filter_same}
use Rattle.trail_log.specs.declared.titles.Titled.{Titled}
use Rattle.trail_log.proofs.titles.forget.Goals as goal

pub returns : goal.returns
returns c =
    filter_same _ (λ (t : Titled). not (t.window == c.args.window)) _ (λ x b f called. search rules)
    c.args.titles.now.items c.retain.new.self.items c.retain.ensures.filtered
