use Rattle.session_commands.proofs.Vocabulary.{◌∙◌, ◌++◌, ap, refl, sym, subst, arith, AreClients, parted_now}
use Rattle.session_commands.proofs.Parting.{went, parted_are, gone_are}
use Rattle.session_commands.proofs.going.go.Goals as goal

pub returns : goal.returns
returns c =
    let room = c.note_parted.ensures.room 64 (omega (arith, c.in_ok-reserve.ensures.ok)) in (
      ((refl, refl), (tt, room)),
      λ t st fit.
          let s = c.args.context.now.state.now in
          let made = c.args.context.now.made.now in
          let g = c.args.going in
          let cs = c.as_slice-clients.result.now in
          let are : AreClients t.clients cs = subst (λ xs. AreClients t.clients xs) (sym c.as_slice-clients.ensures)
          st.clients in
          record {
            stands = went t g c.args.why s cs c.in_ok-rows.rows.items c.note_parted.new.locks c.remove.new.clients
                c.as_slice-clients.ensures st fit c.in_ok-rows.ensures c.note_parted.ensures.locks c.remove.ensures;
            acts = c.note_parted.ensures.acts
                ∙ ap (λ xs. xs ++ parted_now g cs) c.reserve.ensures.items
                ∙ ap (λ xs. made.acts.items ++ xs) (parted_are g t.clients cs are);
            effects = c.in_ok-append.ensures.items
                ∙ ap (λ xs. made.effects.items ++ xs) (c.in_ok-gone.ensures ∙ gone_are g t.clients cs are c.args.why);
          },
    )
