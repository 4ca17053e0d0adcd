use Rattle.server_loop.proofs.Vocabulary.{◌≡◌, ◌∙◌, ℕ, List, true, codes, sym, subst, rules, Connections}
use Rattle.server_loop.proofs.Vocabulary.{state_of, with_peer}
use Rattle.attach_proto.specs.declared.message.Message.TheVariants as message
use Rattle.server_sending.specs.Frames.{PutsMessage}
use Rattle.server_sending.specs.Written.{Waiting}
use Rattle.server_steps.specs.Typing.{told_news}
use Rattle.server_loop.specs.Handing.{SendsTo}
use Rattle.server_loop.proofs.Telling.{if_true}
use Rattle.server_loop.proofs.own.Loop.say_dropped.Goals as goal

pub returns-then-take_news : goal.returns-then-take_news
returns-then-take_news g c =
    let yes : c.take_news.result ≡ true = search rules in
    let text : c.as_bytes.result.now ≡ codes "keys were dropped: they waited for a second" = c.as_bytes.ensures.value in
    if_true _ _ _ (sym c.take_news.ensures.news ∙ yes)
    (subst (λ (bytes : List ℕ). SendsTo g.J.SessionSeat c.args.key (PutsMessage (message.Say bytes))
    (λ (waited left : Waiting). left ≡ waited)
    (with_peer (told_news c.args.now) c.args.key (state_of c.args.self.now)) (state_of c.send.new.self)) text
    (subst (λ (s : Connections g.row.S.Denot). SendsTo g.J.SessionSeat c.args.key
    (PutsMessage (message.Say c.as_bytes.result.now)) (λ (waited left : Waiting). left ≡ waited)
    (record (state_of c.args.self.now) { connections = s }) (state_of c.send.new.self)) c.take_news.ensures.told
    c.send.ensures))
