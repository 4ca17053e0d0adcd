use Rattle.std.proofs.Common.{◌≡◌, List, ◌∷◌, [], Some, Option, ℕ, subst, ◌∙◌, ap}
use Rattle.session_model.specs.declared.refusal.Check.{Check}
use Rattle.session_model.specs.Checks.{typing_checks}
use Rattle.session_state.specs.Doing.{caller_in}
use Rattle.session_checks.specs.Checked.{Checked, AllMade, listed, writing, lock_on}
use Rattle.session_checks.proofs.Listing.{typing_listed, typing_made}
use Rattle.session_checks.proofs.events.check_typing.Goals as goal

pub returns : goal.returns
returns c = λ t st fit.
    let k = c.args.caller in
    let user = k.user in
    let is : listed (Some c.writing.result ∷ c.lock_on.result ∷ [])
    ≡ typing_checks user (caller_in t k).window =
    ap (λ (w : Check). listed (Some w ∷ c.lock_on.result ∷ [])) c.writing.ensures
    ∙ ap (λ (o : Option Check). listed (Some (writing user c.open_window-window.result) ∷ o ∷ []))
    c.lock_on.ensures
    ∙ ap (λ (o : Option ℕ). listed (Some (writing user o) ∷ lock_on user o ∷ []))
    (c.open_window-window.ensures t st)
    ∙ typing_listed user (caller_in t k).window in
    subst (λ (cs : List Check). AllMade t cs
    → Checked t cs c.check_all.result c.args.verdicts.now.items c.check_all.new.verdicts.items) is
    (c.check_all.ensures t st) (typing_made t fit k)
