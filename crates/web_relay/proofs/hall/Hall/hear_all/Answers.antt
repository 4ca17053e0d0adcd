use Rattle.web_relay.proofs.Vocabulary.{arith, rules, HallHears, IsHallToHear}
use Rattle.web_relay.proofs.Steps.{all_done, stepped, stopped}
use Rattle.web_relay.proofs.hall.Hall.hear_all.Goals as goal

pub reads-preserved : goal.reads-preserved
reads-preserved g c = λ new rest.
    let time : IsHallToHear c.reads.self = search rules in
    c.reads.invariant new
    (stepped IsHallToHear (HallHears g.S.WebStream) 16 c.reads.counter c.reads.self c.hear.new.self new
    (omega arith) time
    c.hear.ensures rest)

pub returns-then-not-is_to_hear : goal.returns-then-not-is_to_hear
returns-then-not-is_to_hear g c =
    let no : IsHallToHear c.reads.self → ⊥ = search rules in
    c.reads.invariant c.reads.self (stopped IsHallToHear (HallHears g.S.WebStream) 16 c.reads.counter c.reads.self
    (omega arith) no)

pub returns : goal.returns
returns g c =
    c.reads.invariant c.reads.self (all_done IsHallToHear (HallHears g.S.WebStream) 16 c.reads.counter c.reads.self
    (omega arith))
