use Rattle.std.proofs.Common.{rules, ◌∙◌, refl, sym, ap, Some, None, option_map}
use Rattle.client_peer.specs.Ending.{end_for}
use Rattle.client_peer.specs.Failing.{FailsRead}
use Rattle.client_peer.proofs.Hearing.{fails_read, heard_read}
use Rattle.client_peer.proofs.Passing.{if_err_given, passes_same}
use Rattle.client_peer.proofs.peer.Peer.take_read.Goals as goal

pub returns-then-matches-clause-ok : goal.returns-then-matches-clause-ok
returns-then-matches-clause-ok c = passes_same c.args.self.now

pub returns-then-is_empty-clause-ok : goal.returns-then-is_empty-clause-ok
returns-then-is_empty-clause-ok c = passes_same c.args.self.now

pub returns-in-Some-clause-hears : goal.returns-in-Some-clause-hears
returns-in-Some-clause-hears c = λ ping empty.
    heard_read c.args.self.now c.take_all.new.self c.args.reader.now c.feed-fed.new.self c.args.piece.bytes.now
    c.new-messages.result.items c.feed-fed.new.out.items c.feed-fed.new.out.items c.feed-fed.result
    c.in_ok-why.field-0 c.new-messages.ensures.items refl c.in_ok-why.ensures.hears
    (Some c.ended.result)
    (ap Some (c.ended.ensures ∙ ap (λ s. end_for s c.in-Some.why) c.in_ok-why.ensures.ok.subcommand)
    ∙ ap (option_map (end_for c.args.self.now.subcommand)) (sym c.in-Some.is)) c.in_ok-why.ensures.fed
    (λ r. (c.feed-fed.ensures.memory r).1) c.feed-fed.ensures.reads

pub returns-in-None-clause-hears : goal.returns-in-None-clause-hears
returns-in-None-clause-hears c = λ ping empty.
    heard_read c.args.self.now c.take_all.new.self c.args.reader.now c.feed-fed.new.self c.args.piece.bytes.now
    c.new-messages.result.items c.feed-fed.new.out.items c.feed-fed.new.out.items c.feed-fed.result
    c.in_ok-why.field-0 c.new-messages.ensures.items refl c.in_ok-why.ensures.hears None
    (ap (option_map (end_for c.args.self.now.subcommand)) (sym c.in-None.is)) c.in_ok-why.ensures.fed
    (λ r. (c.feed-fed.ensures.memory r).1) c.feed-fed.ensures.reads

pub returns-in_err-why-clause-fault : goal.returns-in_err-why-clause-fault
returns-in_err-why-clause-fault c =
    if_err_given (FailsRead c.args.self.now c.args.reader.now c.args.piece.bytes.now c.feed-fed.new.self)
    c.from_residual.result _
    (fails_read c.args.self.now c.args.reader.now c.feed-fed.new.self c.args.piece.bytes.now c.new-messages.result.items
    c.feed-fed.new.out.items c.feed-fed.new.out.items _ c.new-messages.ensures.items refl c.feed-fed.result
    c.in_err-why.ensures.fault (λ r. (c.feed-fed.ensures.memory r).1) c.feed-fed.ensures.reads
    c.feed-fed.ensures.answer)
    (search rules)
