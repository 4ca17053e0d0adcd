use Rattle.std.proofs.Common.{◌≡◌, OnOk, refl, rules, subst, sym}
use Rattle.std.specs.Prelude.{⊤}
use Rattle.web_client.proofs.Answering.{leaves_identity}
use Rattle.web_client.proofs.Ending.{judged_wrong, out, wrong}
use Rattle.web_client.specs.Frames.{IsOut, TakesMessage, TellsOut, page}
use Rattle.web_client.specs.Judging.{IsAllowed}
use Rattle.web_client.specs.declared.identity.Identity.{Identity}
use Rattle.web_client.specs.declared.identity.Identity.TheVariants.{Left, Unknown}
use Rattle.web_client.specs.declared.identity.MessageFault.TheVariants.{Wrong}
use Rattle.web_client.specs.declared.visitor.Visitor.{Visitor}
use Rattle.web_client.proofs.visitor.Visitor.take_message.Goals as goal

pub returns-in_default : goal.returns-in_default
returns-in_default c =
    let kept = leaves_identity c.args.self.now c.take.new.self in search (rules, kept)

pub returns-in-Err-Wrong-clause-takes : goal.returns-in-Err-Wrong-clause-takes
returns-in-Err-Wrong-clause-takes c =
    let old = c.args.self.now in
    let fault : c.in-Err-Wrong.field-0 ≡ Wrong = cc c.in-Err-Wrong.field-0-is in
    wrong c.close.result c.args.site.now.watcher c.args.message.now old
    (record old { wire = c.close.new.self; identity = c.take.new.self })
    (judged_wrong ⊤ (IsAllowed c.args.site.now.watcher old.identity c.args.message.now) c.in-Err-Wrong.field-0 fault
    c.in-Err-Wrong.ensures.judged) c.in-Err-Wrong.ensures.err refl c.close.ensures.closes

pub returns-in-Unknown-clause-takes : goal.returns-in-Unknown-clause-takes
returns-in-Unknown-clause-takes c =
    let old = c.args.self.now in
    let new : Visitor = record old { wire = c.refuse.new.self.wire; identity = c.take.new.self } in
    let who : c.take.new.self ≡ Unknown = cc c.in-Unknown.is in
    subst (λ (v : Visitor). OnOk c.refuse.result (TakesMessage c.args.site.now.watcher c.args.message.now (page old)
    (page v))) (sym c.refuse.ensures.same)
    (out c.refuse.result c.args.site.now.watcher c.args.message.now old new c.in-Ok.ensures.ok
    (subst (λ (s : Identity). IsOut s) (sym who) tt) refl
    (subst (λ (s : Identity). OnOk c.refuse.result (TellsOut s old.wire new.wire)) (sym who) c.refuse.ensures.tells))

pub returns-in-Left-clause-takes : goal.returns-in-Left-clause-takes
returns-in-Left-clause-takes c =
    let old = c.args.self.now in
    let new : Visitor = record old { wire = c.tell_gone.new.self; identity = c.take.new.self } in
    let who : c.take.new.self ≡ Left = cc c.in-Left.is in
    out c.tell_gone.result c.args.site.now.watcher c.args.message.now old new c.in-Ok.ensures.ok
    (subst (λ (s : Identity). IsOut s) (sym who) tt) refl
    (subst (λ (s : Identity). OnOk c.tell_gone.result (TellsOut s old.wire new.wire)) (sym who)
    c.tell_gone.ensures.tells)
