use Rattle.session_core.proofs.Vocabulary.{◌≡◌, ◌∙◌, Bool, ap, sym, ◌&&◌, option_copied, passes, Unlocked}
use Rattle.session_core.proofs.MayTyping.{copied_some, one_there}
use Rattle.session_core.proofs.may_type.may_type.Goals as goal

pub returns-then-may_write : goal.returns-then-may_write
returns-then-may_write c = λ t st fit.
    let user = c.args.user in
    let window = c.args.window in
    let free : Bool = passes t (Unlocked user window) in
    let there = one_there t user window (option_copied c.get.result) (c.get.ensures.finds t.windows st.windows)
    (copied_some c.get.result c.if-is_none.ensures) in
    c.is_free.ensures t st
    ∙ ap (λ (b : Bool). b && free) (sym c.if-may_write.true ∙ c.may_write.ensures t st (there.1 fit))
    ∙ there.0

pub returns-else-may_write : goal.returns-else-may_write
returns-else-may_write c = λ t st fit.
    let user = c.args.user in
    let window = c.args.window in
    let free : Bool = passes t (Unlocked user window) in
    let there = one_there t user window (option_copied c.get.result) (c.get.ensures.finds t.windows st.windows)
    (copied_some c.get.result c.if-is_none.ensures) in
    c.if-may_write.false
    ∙ ap (λ (b : Bool). b && free) (sym c.if-may_write.false ∙ c.may_write.ensures t st (there.1 fit))
    ∙ there.0
