use Rattle.session_commands.proofs.Vocabulary.{◌<◌, ◌∙◌, ◌++◌, ap, sym, length, arith, err_from_is_err_and, option_map}
use Rattle.session_commands.proofs.Vocabulary.{item_objects}
use Rattle.session_commands.proofs.Naming.{item_unnamed, nothing_named}
use Rattle.session_commands.proofs.objects.objects_of.Goals as goal

pub returns-in_err-push_item-clause-err : goal.returns-in_err-push_item-clause-err
returns-in_err-push_item-clause-err c =
    let list = c.args.list.now in
    let i = c.loop-item.item-index in
    let inside : i < length list = omega arith in
    let p = err_from_is_err_and c.from_residual.result c.from_residual.ensures.1 in
    rw p.1 (nothing_named _ _ _ _ p.2 (λ none t st.
    c.loop-item.invariant t st
    ∙ ap (option_map (λ os. c.loop-item.objects.items ++ os))
    (item_unnamed t list i c.item-item.result c.loop-item.objects.items inside c.item-item.is
    (ap (item_objects t) (sym c.as_str.ensures.value) ∙ none t st))) c.in_err-push_item.ensures.err)
