use Rattle.std.proofs.Common.{◌≡◌, ◌∙◌, ℕ, List, subst}
use Rattle.std.specs.String.{string_bytes}
use Rattle.web_client.specs.Rows.{SendsText, gone}
use Rattle.web_client.proofs.wire.Wire.tell_gone.Goals as goal

pub returns-clause-tells : goal.returns-clause-tells
returns-clause-tells c =
    let text : string_bytes c.in_ok-text.text ≡ gone c.args.why = rw (← c.number-number.ensures) c.in_ok-text.ensures.ok
    in (
      c.send_text.new.self,
      subst (λ (l : List ℕ). SendsText l c.args.self.now c.send_text.new.self) (c.as_str.ensures.value ∙ text)
          c.in_ok-send_text.ensures.sends,
      c.in_ok-close.ensures.closes,
    )
