use Rattle.client_typing.proofs.Typed.{let-through}
use Rattle.client_typing.proofs.typing.Typing.read.Goals as goal

pub returns-in-Some-clause-through : goal.returns-in-Some-clause-through
returns-in-Some-clause-through c = λ none.
    rw c.in-Some.is
    (let-through c.feed.result _ _ c.args.input.now c.args.out.now.items c.feed.new.out.items none
    c.feed.ensures.stands c.feed.ensures.sent)
