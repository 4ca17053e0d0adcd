use Rattle.session_commands.proofs.Vocabulary.{◌∙◌, refl, sym, map, nat_eq, list_any, every_command, window_object}
use Rattle.session_commands.proofs.Naming.{wide_parts, put, put_none}
use Rattle.session_commands.proofs.objects.push_wide.Goals as goal
use Rattle.session_commands.proofs.objects.push_wide.Goals.{then-has_byte+in_ok-push_windows, else-has_byte}

pub returns-in_ok-push_commands : goal.returns-in_ok-push_commands
returns-in_ok-push_commands c =
    let old = c.args.objects.now.items in
    let ws = map window_object c.args.windows.now in
    let some = list_any (nat_eq 0x23) c.args.item.now in
    wide_parts some (list_any (nat_eq 0x3F) c.args.item.now) old _ _ ws every_command
    (elim c.if-has_byte.branch [
      | then-has_byte+in_ok-push_windows w ↦
          put some old _ ws (sym c.has_byte.ensures ∙ w.if-has_byte.true) (rw w.objects-is w.in_ok-push_windows.ensures)
      | else-has_byte w ↦
          put_none some old _ ws (sym c.has_byte.ensures ∙ w.if-has_byte.false) (rw w.objects-is refl)
    ])
    (put _ _ _ every_command (sym c.has_byte-2.ensures ∙ c.if-has_byte-2.true) c.in_ok-push_commands.ensures)
