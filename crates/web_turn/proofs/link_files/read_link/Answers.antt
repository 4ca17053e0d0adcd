use Rattle.std.proofs.Common.{ℕ, List, IfSome, String, Global, subst, ◌∙◌}
use Rattle.std.specs.String.{string_bytes}
use Rattle.web_turn.proofs.link_files.read_link.Goals as goal

pub returns : goal.returns
returns g c =
    subst (λ (path : List ℕ). IfSome c.read_at.result
    (λ (text : String Global). g.R.LinkDisk.reads c.args.rt.now path (string_bytes text)))
    (c.as_str.ensures.value ∙ c.in_ok-path.ensures) c.read_at.ensures
