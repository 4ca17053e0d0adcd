use Rattle.std.proofs.Common.{◌≡◌, Some, rules}
use Rattle.web_client.specs.Asking.{IsWatcher}
use Rattle.web_relay.proofs.Sitting.{shows_hall}
use Rattle.web_relay.proofs.halls.Halls.show.Goals as goal

pub returns-in-Some : goal.returns-in-Some
returns-in-Some g c =
    let is : c.args.relay.now.hall ≡ Some c.in-Some.number = search rules in
    let watches : IsWatcher c.args.relay.now.visitor.identity = search rules in
    shows_hall c.args.self.now c.args.relay.now c.show_hall.new.self c.show_hall.new.relay c.in-Some.number is watches
    c.show_hall.ensures.none c.show_hall.ensures.hall
