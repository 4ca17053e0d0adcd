use Rattle.std.proofs.Common.{◌≡◌, List, ◌∷◌, [], Some, subst}
use Rattle.acl.specs.declared.bits.Bit.TheVariants.{Execute}
use Rattle.acl.specs.declared.act.Object.TheVariants as object
use Rattle.session_model.specs.declared.refusal.Check.{Check}
use Rattle.session_model.specs.declared.refusal.Check.TheVariants.{Right}
use Rattle.session_model.specs.Checks.{checks}
use Rattle.session_state.specs.Doing.{caller_in}
use Rattle.session_checks.specs.Checked.{Checked, AllMade, listed}
use Rattle.session_checks.proofs.Listing.{command_listed, all_made}
use Rattle.session_checks.proofs.commands.check_command.Goals as goal

pub returns : goal.returns
returns c = λ t st fit.
    let k = c.args.caller in
    let order = c.args.command.now in
    let is : listed (Some (Right k.user Execute (object.Command c.name.result))
    ∷ c.only_if.result ∷ c.only_if-2.result ∷ c.only_if-3.result ∷ c.only_if-5.result
    ∷ c.only_if-7.result ∷ []) ≡ checks t (caller_in t k) order =
    rw (
      c.only_if.ensures,
      c.only_if-2.ensures,
      c.only_if-3.ensures,
      c.only_if-5.ensures,
      c.only_if-7.ensures,
      c.only_if-4.ensures,
      c.only_if-6.ensures,
      c.access.ensures,
      c.writing_on.ensures,
      c.lock_on.ensures,
      c.name.ensures,
      c.needs_of-needs.ensures,
      c.is_some.ensures,
      c.open_window-window.ensures t st,
      st.multiuser_is,
    )
    (command_listed t k order) in
    subst (λ (cs : List Check). AllMade t cs
    → Checked t cs c.check_all.result c.args.verdicts.now.items c.check_all.new.verdicts.items) is
    (c.check_all.ensures t st) (all_made t fit k order)
