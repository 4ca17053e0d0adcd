use Rattle.std.proofs.Common.{◌∙◌, Err, ap, subst}
use Rattle.std.proofs.lemmas.Result.{err_from_is_err_and}
use Rattle.web_page.specs.Hearing.{WebDisplay, Hears, KeepsSent}
use Rattle.web_page.proofs.Hearing.{heard, not_memory}
use Rattle.web_page.proofs.display.WebDisplay.hear_all.Goals as goal

pub returns-clause-hears : goal.returns-clause-hears
returns-clause-hears c = λ n.
    let old : WebDisplay = record {
      name = c.self.inside.name;
      reading = c.self.inside.reader;
      sheet = c.self.inside.sheet;
      told = c.self.inside.told;
    } in
    subst (λ (d : WebDisplay). Hears d c.args.bytes.now c.hear_each.new.self) c.self.view_is
    (heard old c.hear_each.new.self c.args.bytes.now c.feed-fed.new.self c.new-messages.result.items
    c.feed-fed.new.out.items c.deref.result.now (c.in_ok-fed.ensures.reads (λ z. cc))
    c.new-messages.ensures.items c.deref.ensures.value (ap (λ (d : WebDisplay). d.reading) c.hear_each.ensures.same)
    c.in_ok-hear_each.ensures.sheet c.in_ok-hear_each.ensures.told)

pub returns-in_err-fed-clause-hears : goal.returns-in_err-fed-clause-hears
returns-in_err-fed-clause-hears c = λ n.
    let p = err_from_is_err_and c.from_residual-in_err-fed.result c.from_residual-in_err-fed.ensures.1 in
    let old : WebDisplay = record {
      name = c.self.inside.name;
      reading = c.self.inside.reader;
      sheet = c.self.inside.sheet;
      told = c.self.inside.told;
    } in
    subst (λ (d : WebDisplay). Hears d c.args.bytes.now c.hear_each.new.self) c.self.view_is
    (heard old c.hear_each.new.self c.args.bytes.now c.feed-fed.new.self c.new-messages.result.items
    c.feed-fed.new.out.items c.deref.result.now (c.in_err-fed.ensures.reads
    (λ z. not_memory c.in_err-fed.field-0.0 p.0 p.2 (λ q. n (p.1 ∙ ap Err q)) (cc z)))
    c.new-messages.ensures.items c.deref.ensures.value (ap (λ (d : WebDisplay). d.reading) c.hear_each.ensures.same)
    c.in_ok-hear_each.ensures.sheet c.in_ok-hear_each.ensures.told)

pub returns-clause-sent : goal.returns-clause-sent
returns-clause-sent c =
    subst (λ (d : WebDisplay). KeepsSent d.sheet c.hear_each.new.self.sheet) c.self.view_is c.hear_each.ensures.sent

pub returns-in_err-fed-clause-sent : goal.returns-in_err-fed-clause-sent
returns-in_err-fed-clause-sent c =
    subst (λ (d : WebDisplay). KeepsSent d.sheet c.hear_each.new.self.sheet) c.self.view_is c.hear_each.ensures.sent

pub returns-in_err-hear_each-clause-sent : goal.returns-in_err-hear_each-clause-sent
returns-in_err-hear_each-clause-sent c =
    subst (λ (d : WebDisplay). KeepsSent d.sheet c.hear_each.new.self.sheet) c.self.view_is c.hear_each.ensures.sent
