use Rattle.std.proofs.Common.{◌≡◌, OnOk, OnErr, sym, subst}
use Rattle.web_client.specs.declared.identity.Identity.{Identity}
use Rattle.web_client.specs.declared.identity.Identity.TheVariants.{Own}
use Rattle.web_client.specs.Asking.{Takes, Keeps}
use Rattle.web_client.proofs.Adding.{either}
use Rattle.web_client.proofs.identity.Identity.take.Goals as goal

pub returns-in-Nobody-clause-asks : goal.returns-in-Nobody-clause-asks
returns-in-Nobody-clause-asks c =
    either c.begin.result c.args.self.now c.begin.new.self c.args.message.now
    (subst (λ (s : Identity). OnOk c.begin.result (Takes s c.args.message.now c.begin.new.self)) (sym c.in-Nobody.is)
    c.begin.ensures.ok)
    (subst (λ (s : Identity). OnErr c.begin.result (Keeps s c.begin.new.self)) (sym c.in-Nobody.is)
    (subst (λ (s : Identity). OnErr c.begin.result (c.begin.new.self ≡ s)) c.in-Nobody.is c.begin.ensures.err))

pub returns-in-Own-clause-asks : goal.returns-in-Own-clause-asks
returns-in-Own-clause-asks c =
    either c.ask.result c.args.self.now (Own c.ask.new.client) c.args.message.now
    (subst (λ (s : Identity). OnOk c.ask.result (Takes s c.args.message.now (Own c.ask.new.client))) (sym c.in-Own.is)
    c.ask.ensures.ok)
    (subst (λ (s : Identity). OnErr c.ask.result (Keeps s (Own c.ask.new.client))) (sym c.in-Own.is) c.ask.ensures.err)
