use Rattle.std.proofs.Common.{◌≡◌, ◌≤◌, ℕ, OnOk, inl, refl, sym, ap, ◌∙◌, subst}
use Rattle.attach_proto.specs.declared.why.Told.{Told}
use Rattle.web_page.specs.Hearing.{WebDisplay}
use Rattle.web_client.specs.Rows.{IsAsFar, Ends, MaySendRows}
use Rattle.web_client.specs.declared.wire.SentPage.{SentPage}
use Rattle.web_client.specs.declared.wire.Wire.{Wire}
use Rattle.web_client.proofs.Rows.{both_add, rows_add, shows, then_adds, then_all, then_same}
use Rattle.web_client.proofs.wire.Wire.show.Goals as goal
use Rattle.web_client.proofs.wire.Wire.show.Goals.{then-is_due+in_ok-send_rows, else-is_due}

pub returns-clause-due : goal.returns-clause-due
returns-clause-due c = λ due.
    elim c.if-is_due.branch [
      | then-is_due+in_ok-send_rows w ↦
          shows c.end.result c.args.display.now c.args.view.now.since c.args.self.now c.welcome.new.self
          c.if-is_due.self c.if-is_due.display c.if-is_due.view.since c.end.new.self
          c.in_ok-welcome.ensures.adds c.end.ensures.adds
          (λ t b s f. rw (w.self-is, w.view-is, w.display-is) (w.in_ok-send_rows.ensures.rows t b s
          (subst (λ (n : ℕ). IsAsFar n c.args.display.now.sheet b) (sym c.welcome.ensures.since) f)))
      | else-is_due w ↦ absurd (cc (w.if-is_due.false, c.is_due-is_due.ensures.1 due))
    ]

pub returns-clause-sends : goal.returns-clause-sends
returns-clause-sends c =
    let same : c.if-is_due.display.told ≡ c.args.display.now.told =
    elim c.if-is_due.branch [
      | then-is_due+in_ok-send_rows w ↦ ap (λ (d : WebDisplay). d.told) (w.display-is ∙ w.send_rows.ensures.same)
      | else-is_due w ↦ ap (λ (d : WebDisplay). d.told) w.display-is
    ] in
    let rows : MaySendRows c.welcome.new.self c.if-is_due.self =
    elim c.if-is_due.branch [
      | then-is_due+in_ok-send_rows w ↦ rw w.self-is w.in_ok-send_rows.ensures.sends
      | else-is_due w ↦ inl w.self-is
    ] in
    let view : c.if-is_due.view.is_welcomed ≡ c.welcome.new.view.is_welcomed =
    elim c.if-is_due.branch [
      | then-is_due+in_ok-send_rows w ↦ rw w.view-is w.send_rows.ensures.welcomed
      | else-is_due w ↦ ap (λ (v : SentPage). v.is_welcomed) w.view-is
    ] in
    then_all c.end.result c.args.display.now.told c.args.view.now c.if-is_due.view c.args.self.now c.welcome.new.self
    c.if-is_due.self c.end.new.self c.in_ok-welcome.ensures.welcomes (view ∙ c.welcome.ensures.once) rows
    (subst (λ (t : Told). OnOk c.end.result (Ends t.refusal t.gone c.if-is_due.self c.end.new.self)) same
    c.end.ensures.ends)

pub returns-clause-needed : goal.returns-clause-needed
returns-clause-needed c = λ least.
    elim c.if-is_due.branch [
      | then-is_due+in_ok-send_rows w ↦
          let d : c.if-is_due.display.sheet.moment ≤ c.welcome.new.view.since =
          rw c.welcome.ensures.since least in
          let same : w.send_rows.new.self ≡ c.welcome.new.self =
          w.in_ok-send_rows.ensures.needed (subst (λ (x : WebDisplay). x.sheet.moment ≤ c.welcome.new.view.since) w.display-is d) in
          let sent : c.if-is_due.self.sent ≡ c.args.self.now.sent =
          rw w.self-is (ap (λ (x : Wire). x.sent) same ∙ c.welcome.ensures.sent) in
          then_same c.end.result _ _ _ sent c.end.ensures.sent
      | else-is_due w ↦
          let sent : c.if-is_due.self.sent ≡ c.args.self.now.sent = rw w.self-is c.welcome.ensures.sent in
          then_same c.end.result _ _ _ sent c.end.ensures.sent
    ]

pub returns-clause-adds : goal.returns-clause-adds
returns-clause-adds c =
    elim c.if-is_due.branch [
      | then-is_due+in_ok-send_rows w ↦
          then_adds c.end.result c.args.self.now c.if-is_due.self c.end.new.self
          (rw w.self-is (both_add c.args.self.now c.welcome.new.self w.send_rows.new.self c.in_ok-welcome.ensures.adds
          (rows_add c.welcome.new.self w.send_rows.new.self w.in_ok-send_rows.ensures.sends))) c.end.ensures.adds
      | else-is_due w ↦
          then_adds c.end.result c.args.self.now c.if-is_due.self c.end.new.self
          (rw w.self-is c.in_ok-welcome.ensures.adds) c.end.ensures.adds
    ]

pub returns-in_err-welcome-clause-later : goal.returns-in_err-welcome-clause-later
returns-in_err-welcome-clause-later c = λ n. (c.welcome.ensures.since, refl, c.welcome.ensures.sent)

pub returns-clause-later : goal.returns-clause-later
returns-clause-later c = λ n.
    elim c.if-is_due.branch [
      | then-is_due+in_ok-send_rows w ↦ absurd (n (w.if-is_due.ensures.0 refl))
      | else-is_due w ↦
          let since : c.if-is_due.view.since ≡ c.args.view.now.since = rw w.view-is c.welcome.ensures.since in
          let sent : c.if-is_due.self.sent ≡ c.args.self.now.sent = rw w.self-is c.welcome.ensures.sent in
          (since, w.display-is, c.end.ensures.sent ∙ sent)
    ]

pub returns-clause-same : goal.returns-clause-same
returns-clause-same c =
    elim c.if-is_due.branch [
      | then-is_due+in_ok-send_rows w ↦ rw w.display-is w.send_rows.ensures.same
      | else-is_due w ↦ rw w.display-is refl
    ]
