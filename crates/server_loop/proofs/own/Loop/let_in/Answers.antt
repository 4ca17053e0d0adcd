use Rattle.server_loop.proofs.Vocabulary.{◌≡◌, ◌∙◌, ap, subst, changed, Connections, Role, Guest, Tells, State}
use Rattle.server_loop.proofs.Vocabulary.{state_of, Loop}
use Rattle.attach_proto.specs.declared.message.Message.TheVariants.{Welcome}
use Rattle.server_seat.specs.declared.news.News.TheVariants.{Came}
use Rattle.server_steps.specs.Meaning.{guest_of, joined, role_of}
use Rattle.server_steps.specs.Telling.{with_news}
use Rattle.server_loop.proofs.own.Loop.let_in.Goals as goal

pub returns : goal.returns
returns g c =
    let own = λ (l : Loop g.row.S.Denot g.row.G.Denot g.row.J.Denot). state_of l in
    let made = λ (role : Role) (guest : Guest). record (state_of c.args.self.now) {
      connections = changed (joined c.args.newcomer.user role guest) c.args.newcomer.key
          c.args.self.now.connections;
      news = with_news (Came guest) c.args.self.now.news;
    } in
    let is : state_of c.tell.new.self
    ≡ made (role_of c.args.newcomer.kind c.args.done.now)
    (guest_of c.args.newcomer.kind c.args.newcomer.user c.args.done.now) =
    ap own c.tell.ensures ∙ ap (λ (s : Connections g.row.S.Denot). record (state_of c.args.self.now) {
      connections = s;
      news = with_news (Came c.guest_of-guest.result) c.args.self.now.news;
    }) c.make_guest.ensures
    ∙ ap (λ (role : Role). made role c.guest_of-guest.result) c.role_of.ensures
    ∙ ap (λ (guest : Guest). made (role_of c.args.newcomer.kind c.args.done.now) guest)
    c.guest_of-guest.ensures in
    subst (λ (s : State g.row.S.Denot g.row.J.Denot). Tells g.J.SessionSeat (Welcome c.args.done.now.number)
    c.args.newcomer.key s (state_of c.send.new.self)) is c.send.ensures
