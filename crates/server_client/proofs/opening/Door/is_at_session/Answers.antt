use Rattle.std.proofs.Common.{rules, tests, ◌≡◌, ◌∙◌, ℕ, List, true, false, sym, subst}
use Rattle.server_client.specs.Marks.{IsMarkOf}
use Rattle.server_client.proofs.opening.Door.is_at_session.Goals.{then-mark, else-mark}
use Rattle.server_client.proofs.opening.Door.is_at_session.Goals as goal

false_true : false ≡ true → ⊥
false_true e = cc

pub returns-after-mark : goal.returns-after-mark
returns-after-mark g c = λ yes some. elim c.if-mark.branch [
  | then-mark w ↦
      let same : w.eq.result ≡ true = sym w.result-is ∙ yes in (
        c.in-Ok.mark,
        subst (λ (s : List ℕ). IsMarkOf (g.R.Connects.disk c.args.rt.now) s c.in-Ok.mark) c.as_str.ensures.value
            c.in-Ok.ensures,
        search (rules, tests),
        w.if-mark.true,
      )
  | else-mark w ↦ absurd (false_true (sym w.if-mark.false ∙ (sym w.result-is ∙ yes)))
]
