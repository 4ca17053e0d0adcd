use Rattle.server_loop.proofs.Vocabulary.{ℕ, List, None, sym, subst, Hands, state_of}
use Rattle.attach_proto.specs.declared.kind.Kind.TheVariants as kind
use Rattle.session.specs.event.Effect.{Effect}
use Rattle.server_connections.specs.declared.peer.Role.TheVariants as role
use Rattle.server_sending.specs.Frames.{PutsFrames, PutsFront}
use Rattle.server_loop.specs.Handing.{HandsFor}
use Rattle.server_loop.proofs.own.Loop.hand_one.Goals as goal

pub returns-in-Input : goal.returns-in-Input
returns-in-Input g c = subst (λ (e : Effect). Hands g.J.SessionSeat e c.args.typist
    (state_of c.args.self.now) (state_of c.hand.new.self)) (sym c.in-Input.is)
    (subst (λ (bytes : List ℕ). HandsFor g.J.SessionSeat (role.Window c.in-Input.window)
    (PutsFrames kind.Input c.args.typist bytes) (PutsFront kind.Input c.args.typist bytes)
    (state_of c.args.self.now) (state_of c.hand.new.self)) c.as_slice.ensures c.hand.ensures)

pub returns-in-Deliver : goal.returns-in-Deliver
returns-in-Deliver g c = subst (λ (e : Effect). Hands g.J.SessionSeat e c.args.typist
    (state_of c.args.self.now) (state_of c.hand-in-Deliver.new.self)) (sym c.in-Deliver.is)
    (subst (λ (bytes : List ℕ). HandsFor g.J.SessionSeat (role.Client c.in-Deliver.client)
    (PutsFrames kind.Draw None bytes) (PutsFront kind.Draw None bytes)
    (state_of c.args.self.now) (state_of c.hand-in-Deliver.new.self)) c.as_slice-in-Deliver.ensures
    c.hand-in-Deliver.ensures)

pub returns-in-Size : goal.returns-in-Size
returns-in-Size g c = subst (λ (e : Effect). Hands g.J.SessionSeat e c.args.typist
    (state_of c.args.self.now) (state_of c.hand-in-Size.new.self)) (sym c.in-Size.is) c.hand-in-Size.ensures
