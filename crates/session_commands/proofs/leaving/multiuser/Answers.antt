use Rattle.session_commands.proofs.Vocabulary.{◌≡◌, ◌∙◌, true, false, not, ap, refl, sym, subst, append-nil, rules}
use Rattle.session_commands.proofs.Vocabulary.{UserId, does, changing, parts, is_of, HasDone, caller_in, goes}
use Rattle.command_lang.specs.declared.command.Command.TheVariants as command
use Rattle.session_model.specs.declared.event.Reason.TheVariants as reason
use Rattle.session_commands.specs.declared.going.Going.TheVariants.{AllBut}
use Rattle.session_commands.proofs.Quiet.{quietly}
use Rattle.session_commands.proofs.leaving.multiuser.Goals as goal

pub returns-then-is_on-clause-does : goal.returns-then-is_on-clause-does
returns-then-is_on-clause-does c = (
  search rules,
  λ k t st fit passed. (
    changing (record t { is_multiuser = true }),
    ap (λ b. does t (caller_in t k) (command.Multiuser b)) c.if-is_on.true,
    refl,
    record {
      stands = record {
        acl = st.acl;
        locks = st.locks;
        multiuser_is = refl;
        windows = st.windows;
        clients = st.clients;
        next_window_is = st.next_window_is;
        next_client_is = st.next_client_is;
      };
      acts = c.reserve.ensures.items ∙ sym (append-nil c.args.context.now.made.now.acts.items);
      effects = sym (append-nil c.args.context.now.made.now.effects.items);
    },
  ),
)

pub returns-clause-does : goal.returns-clause-does
returns-clause-does c = quietly (search rules) (λ k t st fit passed.
    let owner : c.owner-owner.result ≡ t.owner = c.owner-owner.ensures ∙ st.acl.owned in
    let done = subst (λ (u : UserId). HasDone t (parts (goes (AllBut u)) reason.SingleUser t) c.go.new.context.state.now
    c.args.context.now.made.now c.go.new.context.made.now) owner (c.in_ok-go.ensures.1 t st fit) in (
      parts (λ m. not (is_of t.owner m)) reason.SingleUser (record t { is_multiuser = false }),
      ap (λ b. does t (caller_in t k) (command.Multiuser b)) c.if-is_on.false,
      refl,
      record {
        stands = record {
          acl = done.stands.acl;
          locks = done.stands.locks;
          multiuser_is = refl;
          windows = done.stands.windows;
          clients = done.stands.clients;
          next_window_is = done.stands.next_window_is;
          next_client_is = done.stands.next_client_is;
        };
        acts = done.acts;
        effects = done.effects;
      },
    ))
