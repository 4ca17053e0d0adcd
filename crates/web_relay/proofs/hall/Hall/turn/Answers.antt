use Rattle.std.proofs.Common.{refl}
use Rattle.web_relay.proofs.hall.Hall.turn.Goals as goal

pub returns : goal.returns
returns g c = (
  c.hear_all.new.self,
  c.hear_all.ensures,
  record {
    whole = c.send_all-is_whole.result;
    written = c.send_all-is_whole.ensures.sent;
    shown = c.send_all-is_whole.ensures.display;
    lost = refl;
    rest = refl;
  },
)
