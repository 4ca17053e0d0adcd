use Rattle.session_commands.proofs.Vocabulary.{◌∙◌, sym, wide}
use Rattle.session_commands.proofs.Naming.{wide_stand}
use Rattle.session_commands.proofs.objects.push_item.Goals as goal

pub returns-then-is_wide-clause-ok : goal.returns-then-is_wide-clause-ok
returns-then-is_wide-clause-ok c = λ t st. (
  wide c.args.windows.now c.args.item.now,
  wide_stand t c.args.windows.now c.args.item.now st (sym c.is_wide.ensures ∙ c.if-is_wide.true),
  c.in_ok-push_wide.ensures,
)
