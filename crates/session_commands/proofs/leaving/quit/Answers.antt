use Rattle.session_commands.proofs.Vocabulary.{◌∙◌, ◌+◌, ◌++◌, ap, refl, map, length, append_assoc, arith, All}
use Rattle.session_commands.proofs.Vocabulary.{parted_now, closed_acts, gone_row}
use Rattle.session_model.specs.declared.event.Reason.TheVariants as reason
use Rattle.session_commands.proofs.Ending.{quits, quit_done}
use Rattle.session_commands.proofs.leaving.quit.Goals as goal

pub note_parted-requires : goal.note_parted-requires
note_parted-requires c = c.note_closed.ensures.room (length c.as_slice-clients.result.now)
    (omega (arith, c.in_ok-reserve.ensures.ok))

pub returns : goal.returns
returns c =
    let room = c.note_closed.ensures.room (length c.as_slice-clients.result.now + 64)
    (omega (arith, c.in_ok-reserve.ensures.ok)) in (
      ((refl, refl), (refl, (tt, c.note_parted.ensures.room 64 (omega (arith, room))))),
      λ k t st fit passed.
          let made = c.args.context.now.made.now in
          let ws = c.as_slice-windows.result.now in
          let cs = c.as_slice-clients.result.now in (
            quits t,
            refl,
            refl,
            quit_done t c.args.context.now.state.now ws cs c.note_closed.new.acl c.note_closed.new.locks
                c.note_parted.new.locks c.in_ok-rows.rows.items c.close_all.new.self c.clear.new.self made
                (record { acts = c.note_parted.new.acts; effects = c.append-2.new.self }) c.as_slice-windows.ensures
                c.as_slice-clients.ensures st fit c.note_closed.ensures.acl c.note_closed.ensures.locks
                c.in_ok-rows.ensures c.note_parted.ensures.locks c.close_all.ensures c.clear.ensures
                (c.note_parted.ensures.acts
                ∙ ap (λ xs. xs ++ parted_now All cs) (c.note_closed.ensures.acts ∙ ap (λ xs. xs ++ closed_acts ws)
                c.reserve.ensures.items)
                ∙ append_assoc made.acts.items (closed_acts ws) (parted_now All cs)) (c.in_ok-append-2.ensures.items
                ∙ ap (λ xs. made.effects.items ++ xs) (c.in_ok-append.ensures.items ∙ ap
                (λ xs. xs ++ c.in_ok-parted.parted.items) c.in_ok-gone.ensures
                ∙ ap (λ xs. map (gone_row reason.Quit) ws ++ xs) c.in_ok-parted.ensures)),
          ),
    )
