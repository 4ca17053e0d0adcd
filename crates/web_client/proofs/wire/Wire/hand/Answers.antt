use Rattle.std.proofs.Common.{◌∙◌, ℕ, List, subst}
use Rattle.web_client.specs.Rows.{SendsText}
use Rattle.web_client.proofs.Rows.{five}
use Rattle.web_client.proofs.wire.Wire.hand.Goals as goal

pub returns : goal.returns
returns c =
    let text = five _ _ _ _ _ _ _ _ _ _ c.in_ok-out.ensures.ok c.in_ok-put_text.ensures c.in_ok-push_str.ensures.bytes
    c.in_ok-put_text-2.ensures c.in_ok-push_str-2.ensures.bytes in (
      c.send_text.new.self,
      subst (λ (l : List ℕ). SendsText l c.args.self.now c.send_text.new.self) (c.as_str.ensures.value ∙ text)
          c.in_ok-send_text.ensures.sends,
      c.in_ok-close.ensures.closes,
    )
