use Rattle.session_state.proofs.Vocabulary.{refl, None, Silence, Client}
use Rattle.session_state.proofs.Keeping.{new_stands}
use Rattle.session_state.proofs.client.Client.new.Goals as goal

pub returns : goal.returns
returns c =
    let made : Client = record {
      serial = c.args.client.serial;
      user = c.args.client.user;
      keys = c.new-2.result;
      layout = c.in_ok-layout.layout;
      last = c.args.client.window;
      former = None;
      message = Silence;
      shadow = c.unknown.result;
    } in
    new_stands made (record { rows = c.args.client.rows; columns = c.args.client.columns; known = None }) c.requires
    c.new-2.ensures.stands c.unknown.ensures c.in_ok-layout.ensures refl refl
