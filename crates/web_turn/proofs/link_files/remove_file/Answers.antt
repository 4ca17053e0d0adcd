use Rattle.std.proofs.Common.{ℕ, List, IfSome, subst, ◌∙◌}
use Rattle.web_turn.proofs.link_files.remove_file.Goals as goal

pub returns : goal.returns
returns g c =
    subst (λ (path : List ℕ). IfSome c.remove_at.result (λ _. g.R.LinkDisk.removes c.args.rt.now path))
    (c.as_str.ensures.value ∙ c.in_ok-path.ensures) c.remove_at.ensures
