use Rattle.web_relay.proofs.Vocabulary.{arith, rules, IsToRead, ReadsOnce}
use Rattle.web_client.proofs.Adding.{more, nothing}
use Rattle.web_relay.proofs.Steps.{all_done, stepped, stopped}
use Rattle.web_relay.proofs.relay.Relay.read_some.Goals as goal

pub reads-init : goal.reads-init
reads-init g c = record { asks = nothing c.args.self.now.visitor.identity; later = λ new all. all }

pub reads-preserved : goal.reads-preserved
reads-preserved g c =
    let first = c.args.self.now in
    let old = c.reads.self in
    let mid = c.read_once.new.self in
    let time : IsToRead old = search rules in record {
      asks = more first.visitor.identity old.visitor.identity mid.visitor.identity c.reads.invariant.asks
          c.read_once.ensures.asks;
      later = λ new rest. c.reads.invariant.later new
          (stepped IsToRead (ReadsOnce g.S.WebStream c.args.around.site.now c.args.around.now) 16 c.reads.counter old
          mid new
          (omega arith) time c.read_once.ensures.reads rest);
    }

pub returns-then-not-is_to_read-clause-reads : goal.returns-then-not-is_to_read-clause-reads
returns-then-not-is_to_read-clause-reads g c =
    let no : IsToRead c.reads.self → ⊥ = search rules in
    c.reads.invariant.later c.reads.self
    (stopped IsToRead (ReadsOnce g.S.WebStream c.args.around.site.now c.args.around.now) 16 c.reads.counter c.reads.self
    (omega arith) no)

pub returns-clause-reads : goal.returns-clause-reads
returns-clause-reads g c =
    c.reads.invariant.later c.reads.self
    (all_done IsToRead (ReadsOnce g.S.WebStream c.args.around.site.now c.args.around.now) 16 c.reads.counter
    c.reads.self
    (omega arith))
