use Rattle.std.proofs.Common.{◌∷◌, ◌++◌, [], List, refl, ap, sym, ◌∙◌, append-nil, rules}
use Rattle.command_lang.specs.declared.command.Command.TheVariants as command
use Rattle.session_model.specs.declared.event.Effect.{Effect}
use Rattle.session_model.specs.declared.event.Effect.TheVariants.{Input}
use Rattle.session_model.specs.Deeds.{changing, input_of}
use Rattle.session_commands.proofs.Passing.{acted_on}
use Rattle.session_commands.proofs.Doing.{no_input, some_input, stuff_row}
use Rattle.session_commands.proofs.Quiet.{quietly}
use Rattle.session_commands.proofs.window.stuff.Goals as goal

pub returns-then-is_empty : goal.returns-then-is_empty
returns-then-is_empty c = quietly (search rules) (λ k at t st fit passed.
    let s = c.args.window in
    let bytes = c.args.bytes.now in
    let found = acted_on t k (command.Stuff bytes) s at refl passed in (
      record (changing t) { effects = input_of s bytes },
      stuff_row t k s found.0 bytes found.1,
      refl,
      record {
        stands = st;
        acts = sym (append-nil _);
        effects =
            sym (append-nil _)
            ∙ ap (λ (es : List Effect). c.args.context.now.made.now.effects.items ++ es)
            (sym (no_input s bytes (sym c.is_empty.ensures ∙ c.if-is_empty.true)));
      },
    ))

pub returns : goal.returns
returns c = quietly (search rules) (λ k at t st fit passed.
    let s = c.args.window in
    let bytes = c.args.bytes.now in
    let before = c.args.context.now.made.now.effects.items in
    let found = acted_on t k (command.Stuff bytes) s at refl passed in (
      record (changing t) { effects = input_of s bytes },
      stuff_row t k s found.0 bytes found.1,
      refl,
      record {
        stands = st;
        acts = sym (append-nil _);
        effects =
            c.in_ok-push.ensures.items
            ∙ (ap (λ bs. before ++ Input s bs ∷ []) c.in_ok-typed.ensures
            ∙ ap (λ (es : List Effect). before ++ es) (sym (some_input s bytes
            (sym c.is_empty.ensures ∙ c.if-is_empty.false))));
      },
    ))
