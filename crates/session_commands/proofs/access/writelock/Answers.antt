use Rattle.session_commands.proofs.Vocabulary.{◌≡◌, ◌∷◌, ◌++◌, [], ℕ, Ok, true, refl, ap, sym, ◌∙◌, append-nil, is_some}
use Rattle.session_commands.proofs.Vocabulary.{rules, is_open, Window, acting, caller_in}
use Rattle.acl.specs.declared.act.Act.TheVariants as act
use Rattle.command_lang.specs.declared.command.Command.TheVariants as command
use Rattle.session_commands.proofs.Passing.{acted_on, may_write}
use Rattle.session_commands.proofs.Doing.{on_row, pushed}
use Rattle.session_commands.proofs.Locking.{with_locks, lock_needs_window, lock_needs_write}
use Rattle.session_commands.proofs.Quiet.{quietly}
use Rattle.session_commands.proofs.access.writelock.Goals as goal

pub returns : goal.returns
returns c = quietly (search rules) (λ at t st fit passed.
    let k = c.args.caller in
    let s = c.args.window in
    let needed = lock_needs_window c.args.mode in
    let found = acted_on t k (command.Writelock c.args.mode) s at needed passed in
    let is_there : is_open t.acts s ≡ true =
    fit.agree.open_is s ∙ ap is_some found.1.row in (
      acting t (act.Mode k.user s c.args.mode ∷ []),
      on_row t (caller_in t k)
          (λ (w : Window). Ok (acting t (act.Mode k.user w.serial c.args.mode ∷ []))) found.0 found.1.given
          ∙ ap (λ (n : ℕ). Ok (acting t (act.Mode k.user n c.args.mode ∷ []))) found.1.serial,
      refl,
      record {
        stands =
            with_locks t c.args.context.now.state.now (act.Mode k.user s c.args.mode) c.set_mode.new.self tt st
            (c.set_mode.ensures t.edition t.owner t.acts st.locks is_there
            (λ on. may_write t k (command.Writelock c.args.mode) s found.0 found.1 needed
            (lock_needs_write c.args.mode on) passed));
        acts =
            pushed c.push.result c.unwrap.result c.push.new.self.items
            (c.args.context.now.made.now.acts.items ++ act.Mode k.user s c.args.mode ∷ [])
            c.args.context.now.made.now.acts.items c.unwrap.ensures c.push.ensures.items;
        effects = sym (append-nil _);
      },
    ))
