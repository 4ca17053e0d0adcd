use Rattle.web_relay.proofs.Vocabulary.{arith, rules, HearsOnce, IsToHear}
use Rattle.web_relay.proofs.Steps.{all_done, stepped, stopped}
use Rattle.web_relay.proofs.relay.Relay.read_server.Goals as goal

pub reads-preserved : goal.reads-preserved
reads-preserved g c = λ new rest.
    let time : IsToHear c.reads.self = search rules in
    c.reads.invariant new
    (stepped IsToHear (HearsOnce g.S.WebStream) 16 c.reads.counter c.reads.self c.hear.new.self new
    (omega arith) time c.hear.ensures
    rest)

pub returns-then-not-self : goal.returns-then-not-self
returns-then-not-self g c =
    let no : IsToHear c.reads.self → ⊥ = search rules in
    c.reads.invariant c.reads.self (stopped IsToHear (HearsOnce g.S.WebStream) 16 c.reads.counter c.reads.self
    (omega arith) no)

pub returns : goal.returns
returns g c = c.reads.invariant c.reads.self (all_done IsToHear
    (HearsOnce g.S.WebStream) 16 c.reads.counter c.reads.self (omega arith))
