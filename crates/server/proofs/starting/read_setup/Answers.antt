use Rattle.std.proofs.Common.{◌≡◌, ◌⊎◌, ◌∙◌, ℕ, List, Option, Some, subst, sym}
use Rattle.std.specs.Borrow.{Bor}
use Rattle.program_words.specs.SetupLines.{commands_in, first_fault}
use Rattle.program_words.specs.declared.setup.SetupFault.{SetupFault}
use Rattle.program_words.specs.declared.setup.SetupFault.TheVariants.{NoMemory}
use Rattle.server.specs.Starting.{IsUnread, text_of}
use Rattle.server.proofs.Setups.{error_is, unread_for}
use Rattle.server.proofs.starting.read_setup.Goals as goal

pub returns-in-Some-err-clause-fault : goal.returns-in-Some-err-clause-fault
returns-in-Some-err-clause-fault g c =
    let is_wrong : List ℕ → SetupFault → Type 0 =
    λ file why. (why ≡ NoMemory) ⊎ (first_fault (commands_in file) ≡ Some why) in
    let why : SetupFault = c.in-Some-err.fault in
    subst (λ (p : Option (Bor (List ℕ))). IsUnread (g.R.SetupHost.reads c.args.rt.now) (text_of p) c.start_fault.result)
    (sym c.in-Some.is)
    (unread_for (g.R.SetupHost.reads c.args.rt.now) c.in-Some.path.now c.in-Ok.setup c.in-Ok.ensures why
    c.start_fault.result
    (subst (λ (file : List ℕ). is_wrong file why) c.deref.ensures.value
    (error_is (is_wrong c.deref.result.now) c.read_setup.result why c.read_setup.ensures.err
    (sym c.err.ensures.value ∙ c.in-Some-err.is)))
    c.start_fault.ensures)
