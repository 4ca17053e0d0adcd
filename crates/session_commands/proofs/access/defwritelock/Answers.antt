use Rattle.session_commands.proofs.Vocabulary.{◌∷◌, ◌++◌, [], refl, sym, append-nil, rules, acting}
use Rattle.acl.specs.declared.act.Act.TheVariants as act
use Rattle.session_commands.proofs.Doing.{pushed}
use Rattle.session_commands.proofs.Locking.{with_locks}
use Rattle.session_commands.proofs.access.defwritelock.Goals as goal

pub returns : goal.returns
returns c = (
  search rules,
  λ k t st fit passed. (
    acting t (act.Default c.args.mode ∷ []),
    refl,
    refl,
    record {
      stands =
          with_locks t c.args.context.now.state.now (act.Default c.args.mode) c.set_default.new.self tt st
          (c.set_default.ensures t.edition t.owner t.acts st.locks);
      acts =
          pushed c.push.result c.unwrap.result c.push.new.self.items (c.args.context.now.made.now.acts.items ++
          act.Default c.args.mode ∷ []) c.args.context.now.made.now.acts.items c.unwrap.ensures c.push.ensures.items;
      effects = sym (append-nil _);
    },
  ),
)
