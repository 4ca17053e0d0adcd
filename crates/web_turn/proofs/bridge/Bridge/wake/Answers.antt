use Rattle.web_turn.proofs.Waking.{marks}
use Rattle.web_turn.proofs.bridge.Bridge.wake.Goals as goal

pub returns-in_default : goal.returns-in_default
returns-in_default g c =
    marks c.args.woken c.args.self.now c.mark.new.relays c.mark.new.halls c.in_default.not-Listener
    c.mark.ensures.browser c.mark.ensures.server c.mark.ensures.hall
