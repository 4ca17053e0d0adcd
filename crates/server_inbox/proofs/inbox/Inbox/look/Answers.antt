use Rattle.std.specs.Prelude.{drop}
use Rattle.server_inbox.proofs.Asking.{fed_whole}
use Rattle.server_inbox.proofs.inbox.Inbox.look.Goals as goal

pub returns-clause-lies : goal.returns-clause-lies
returns-clause-lies c = λ taken stream none sound h.
    let old = c.args.self.now in
    fed_whole (drop old.seen old.rest.items) _ _ c.args.reader.now c.feed.new.self old.messages.items
    c.feed.new.out.items c.reverse.new.self.items taken stream c.feed.result old.is_broken c.is_err-self.result
    (record {
      memory = c.feed.ensures.memory;
      reads = c.feed.ensures.reads;
      answer = c.feed.ensures.answer;
      stays = c.feed.ensures.stays;
    }) c.is_err-self.ensures.value none sound c.reverse.ensures.items h
    (rw (← c.deref.ensures.value) c.piece_of-end.ensures.piece)
