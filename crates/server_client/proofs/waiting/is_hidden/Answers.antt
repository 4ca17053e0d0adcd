use Rattle.std.proofs.Common.{◌∙◌, ℕ, List, ap₂, subst, inl, inr}
use Rattle.server_client.specs.Lines.{has_line}
use Rattle.server_client.proofs.waiting.is_hidden.Goals.{in-Some, in-None}
use Rattle.server_client.proofs.waiting.is_hidden.Goals as goal

pub returns : goal.returns
returns g c =
    let path = c.as_str.ensures.value ∙ c.in_ok-path.ensures.ok in
    let disk = g.R.Connects.disk c.args.rt.now in
    elim c.match-read_beside.branch [
      | in-Some w ↦ record {
        is = inl (
          w.in-Some.lines.items,
          subst (λ (file : List ℕ). disk.has file w.in-Some.lines.items) path w.in-Some.ensures,
          w.result-is ∙ w.has_line.ensures
              ∙ ap₂ has_line w.deref.ensures.value (w.as_bytes.ensures.value ∙ c.in_ok-line.ensures.ok),
        );
      }
      | in-None w ↦ record { is = inr (subst (λ (file : List ℕ). disk.lacks file) path w.in-None.ensures, w.result-is) }
    ]
