use Rattle.std.proofs.Common.{◌≡◌, ℕ, ◌+◌, ◌-◌, ◌^◌, min, List, length, inl, inr, refl, sym, ap, ◌∙◌, subst}
use Rattle.web_page.specs.Laying.{page_of}
use Rattle.web_page.specs.Showing.{IsShown, newer}
use Rattle.web_page.specs.Updates.{Update, spelled}
use Rattle.web_client.specs.Rows.{SendsText, Asks}
use Rattle.web_client.proofs.wire.Wire.send_rows.Goals as goal

pub returns-in_ok-ask-in-Some-clause-sends : goal.returns-in_ok-ask-in-Some-clause-sends
returns-in_ok-ask-in-Some-clause-sends c =
    let u : Update = record {
      head = c.update.new.self.sheet.head;
      rows = newer c.args.view.now.since 0 c.update.new.self.sheet.rows;
    } in
    let made = rw c.in-Some.is at c.in_ok-text.ensures.rows in
    let count : c.saturating_add-self.result ≡ min (c.send_text.new.self.sent + length (spelled u)) (2 ^ 64 - 1) =
    c.saturating_add-self.ensures
    ∙ ap (λ (n : ℕ). min (c.send_text.new.self.sent + n) (2 ^ 64 - 1))
    (c.len.ensures ∙ c.in-Some.text.bytes.ok.0 ∙ ap length made) in
    inr (
      u,
      c.send_text.new.self,
      subst (λ (l : List ℕ). SendsText l c.args.self.now c.send_text.new.self) (c.as_str.ensures.value ∙ made)
          c.in_ok-send_text-in-Some.ensures.sends,
      subst (λ (n : ℕ). Asks (record c.send_text.new.self { sent = n }) c.ask.new.self) count
          c.in_ok-ask-in-Some.ensures,
    )

pub returns-in_ok-ask-in-Some-clause-rows : goal.returns-in_ok-ask-in-Some-clause-rows
returns-in_ok-ask-in-Some-clause-rows c = λ t b w h.
    let made = rw c.in-Some.is at (c.in_ok-text.ensures.shows t b w h) in
    let then = c.in_ok-text.ensures.then t w in
    let count : c.saturating_add-self.result ≡ min (c.send_text.new.self.sent + length (spelled made.0)) (2 ^ 64 - 1) =
    c.saturating_add-self.ensures
    ∙ ap (λ (n : ℕ). min (c.send_text.new.self.sent + n) (2 ^ 64 - 1))
    (c.len.ensures ∙ c.in-Some.text.bytes.ok.0 ∙ ap length made.1) in (
      inr (
        made.0,
        c.send_text.new.self,
        made.2,
        subst (λ (l : List ℕ). SendsText l c.args.self.now c.send_text.new.self)
            (c.as_str.ensures.value ∙ made.1) c.in_ok-send_text-in-Some.ensures.sends,
        subst (λ (n : ℕ). Asks (record c.send_text.new.self { sent = n }) c.ask.new.self) count
            c.in_ok-ask-in-Some.ensures,
      ),
      then.0,
      (
        c.moment-view.ensures,
        subst (λ (n : ℕ). IsShown n c.update.new.self.sheet (page_of t.screen)) (sym c.moment-view.ensures) then.1,
      ),
    )

pub returns-in-None-clause-rows : goal.returns-in-None-clause-rows
returns-in-None-clause-rows c = λ t b w h.
    let same = rw c.in-None.is at (c.in_ok-text.ensures.shows t b w h) in
    let then = c.in_ok-text.ensures.then t w in (
      inl (refl, same),
      then.0,
      (
        c.moment-view-in-None.ensures,
        subst (λ (n : ℕ). IsShown n c.update.new.self.sheet (page_of t.screen)) (sym c.moment-view-in-None.ensures)
            then.1,
      ),
    )
