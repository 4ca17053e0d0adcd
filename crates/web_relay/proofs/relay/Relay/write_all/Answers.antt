use Rattle.std.proofs.Common.{◌||◌, ap, refl}
use Rattle.std.specs.Prelude.{not}
use Rattle.web_relay.proofs.Vocabulary.{Visitor}
use Rattle.web_relay.proofs.relay.Relay.write_all.Goals as goal

pub returns : goal.returns
returns g c =
    let mid = c.write_server.new.self in (
      mid,
      c.write_server.ensures,
      record {
        whole = c.send_all-is_whole.result;
        written = c.send_all-is_whole.ensures.sent;
        over = refl;
        rest = ap (λ (v : Visitor). record mid {
          visitor = v;
          browser = c.send_all-is_whole.new.browser;
          is_over = mid.is_over || not c.send_all-is_whole.result;
        }) c.send_all-is_whole.ensures.same;
      },
    )
