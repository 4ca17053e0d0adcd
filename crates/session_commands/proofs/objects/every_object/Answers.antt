use Rattle.session_commands.proofs.Vocabulary.{◌++◌, ◌∙◌, ap, map, List, Object, every_command, window_object}
use Rattle.session_commands.proofs.Naming.{windows_stand}
use Rattle.session_commands.proofs.objects.every_object.Goals as goal

pub returns : goal.returns
returns c = λ t st.
    let ws = c.args.windows.now in
    c.in_ok-push_commands.ensures
    ∙ ap (λ (os : List Object). os ++ every_command)
    (c.in_ok-push_windows.ensures
    ∙ ap (λ (os : List Object). os ++ map window_object ws) c.new-objects.ensures.items
    ∙ windows_stand t ws st)
