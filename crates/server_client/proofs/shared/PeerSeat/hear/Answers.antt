use Rattle.std.proofs.Common.{refl, sym, ap, ◌≡◌, ◌∙◌, None, Some, Ok}
use Rattle.server_client.specs.Handing.{after, ended, goes_on}
use Rattle.server_client.proofs.shared.PeerSeat.hear.Goals.{in-Ok-Some, in-Err}
use Rattle.server_client.proofs.shared.PeerSeat.hear.Goals as goal

pub returns-in-Ok-None : goal.returns-in-Ok-None
returns-in-Ok-None c =
    let is : c.take_read.result ≡ Ok None = c.in-Ok-None.is ∙ ap (λ o. Ok o) c.in-Ok-None.field-0-is in
    record {
      heard = c.take_read.result;
      at = c.take_read.new.self;
      ends = (sym (ap (λ h. after h c.take_read.new.self) is), sym (ap goes_on is));
      stream = c.take_read.ensures.ends;
      ping = c.take_read.ensures.ping;
      hears = c.take_read.ensures.hears;
      fault = c.take_read.ensures.fault;
      rest = refl;
    }

pub returns : goal.returns
returns c = record {
  heard = c.take_read.result;
  at = c.take_read.new.self;
  ends = elim c.match-take_read.branch [
    | in-Ok-Some w ↦
        let is : c.take_read.result ≡ Ok (Some w.in-Ok-Some.end) =
        w.in-Ok-Some.is ∙ ap (λ o. Ok o) w.in-Ok-Some.field-0-is in (
          c.end_by.ensures.ends ∙ ap (λ e. ended c.take_read.new.self e) w.end-is
              ∙ sym (ap (λ h. after h c.take_read.new.self) is),
          sym (ap goes_on is),
        )
    | in-Err w ↦ (
      c.end_by.ensures.ends ∙ ap (λ e. ended c.take_read.new.self e) w.end-is
          ∙ sym (ap (λ h. after h c.take_read.new.self) w.in-Err.is),
      sym (ap goes_on w.in-Err.is),
    )
  ];
  stream = c.take_read.ensures.ends;
  ping = c.take_read.ensures.ping;
  hears = c.take_read.ensures.hears;
  fault = c.take_read.ensures.fault;
  rest = refl;
}
