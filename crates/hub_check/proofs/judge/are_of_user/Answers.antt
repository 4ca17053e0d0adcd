use Rattle.hub_check.proofs.Vocabulary.{◌≡◌, true, sym, subst, ◌↔◌, Verdict, Kept, AreOfUser, is_client_of, user_of}
use Rattle.hub_trail.specs.Legal.{is_of_user}
use Rattle.hub_check.proofs.Folding.{all_tells}
use Rattle.hub_check.proofs.judge.are_of_user.Goals as goal

pub returns-in-Keys : goal.returns-in-Keys
returns-in-Keys c = λ edition owner h s.
    subst (λ (x : Kept). (c.are_of_client.result ≡ true) ↔ AreOfUser h x c.args.verdicts.now)
    (sym c.in-Keys.is)
    (all_tells (λ (v : Verdict). is_client_of h c.in-Keys.client (user_of v)) c.args.verdicts.now
    c.are_of_client.result (c.are_of_client.ensures edition owner h s))

pub returns-in-Command : goal.returns-in-Command
returns-in-Command c = λ edition owner h s.
    subst (λ (x : Kept). (c.are_of.result ≡ true) ↔ AreOfUser h x c.args.verdicts.now)
    (sym c.in-Command.is)
    (all_tells (is_of_user c.in-Command.user) c.args.verdicts.now c.are_of.result c.are_of.ensures)

pub returns-in-Open : goal.returns-in-Open
returns-in-Open c = λ edition owner h s.
    subst (λ (x : Kept). (c.are_of-in-Open.result ≡ true) ↔ AreOfUser h x c.args.verdicts.now)
    (sym c.in-Open.is)
    (all_tells (is_of_user c.in-Open.user) c.args.verdicts.now c.are_of-in-Open.result c.are_of-in-Open.ensures)
