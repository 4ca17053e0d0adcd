use Rattle.std.proofs.Common.{◌≡◌, ◌++◌, ℕ, List, length, map, replicate, refl, ap, sym, ◌∙◌, append-nil, rules}
use Rattle.std.specs.Prelude.{codes}
use Rattle.acl.specs.Names.{name_of}
use Rattle.session_model.specs.declared.event.Effect.{Effect}
use Rattle.session_model.specs.declared.event.Effect.TheVariants.{Say}
use Rattle.session_model.specs.declared.event.StatusMessage.TheVariants.{Text}
use Rattle.session_model.specs.Tables.{Client}
use Rattle.session_model.specs.Deeds.{tells}
use Rattle.session_commands.proofs.Quiet.{quietly}
use Rattle.session_commands.proofs.leaving.wall.Goals as goal

pub returns : goal.returns
returns c = quietly (search rules) (λ t st fit passed.
    let k = c.args.caller in
    let before = c.args.context.now.made.now.effects.items in
    let text : List ℕ = name_of k.user ++ (codes ": " ++ c.args.text.now) in
    let heard : c.deref.result.now ≡ text = c.deref.ensures.value ∙ c.in_ok-said.ensures in
    let said : c.deref-2.result.now ≡ text = c.deref-2.ensures.value ∙ c.in_ok-said.ensures in (
      tells text t,
      refl,
      refl,
      record {
        stands = record {
          acl = st.acl;
          locks = st.locks;
          multiuser_is = st.multiuser_is;
          windows = st.windows;
          clients =
              c.hear_all.ensures text (c.in_ok-messages.ensures
              ∙ (ap (λ n. replicate n (Text c.deref.result.now)) c.len.ensures
              ∙ ap (λ bs. replicate (length c.args.context.now.state.now.clients) (Text bs)) heard)) t.clients
              st.clients;
          next_window_is = st.next_window_is;
          next_client_is = st.next_client_is;
        };
        acts = sym (append-nil _);
        effects =
            c.in_ok-append.ensures.items
            ∙ (ap (λ (es : List Effect). before ++ es) (c.in_ok-says.ensures t.clients st.clients)
            ∙ ap (λ bs. before ++ map (λ (m : Client). Say m.serial bs) t.clients) said);
      },
    ))
