use Rattle.session_commands.proofs.Vocabulary.{◌∙◌, ap, sym, map, List, Option, option_copied, UserId}
use Rattle.acl.specs.declared.entries.MaskScope.TheVariants.{User}
use Rattle.windows_model.proofs.Serials.{if_ok}
use Rattle.session_commands.proofs.Naming.{other_scopes}
use Rattle.session_commands.proofs.masks.scopes_of.Goals as goal

pub returns : goal.returns
returns c = if_ok c.each_scope.result (λ scopes is t st.
    is
    ∙ ap (λ (ns : List (Option UserId)). map User ns) (c.deref.ensures.value ∙ c.in_ok-names.ensures t st)
    ∙ other_scopes t c.args.users.now (sym c.lone_word.ensures ∙ ap option_copied c.in_default.is)) c.each_scope.ensures
