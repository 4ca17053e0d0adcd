use Rattle.std.proofs.Common.{◌≡◌, ◌∙◌, ◌++◌, [], List, ℕ, sym, ap, append-nil}
use Rattle.std.specs.Prelude.{drop}
use Rattle.server_inbox.proofs.Asking.{added, fed_whole}
use Rattle.server_inbox.proofs.inbox.Inbox.take_all.Goals as goal

pub returns-clause-stands : goal.returns-clause-stands
returns-clause-stands c = λ taken stream none sound h.
    let old = c.args.self.now in
    let bytes = c.args.bytes.now in
    let unseen = drop old.seen old.rest.items in
    let seen : (old.rest.items ≡ []) × (old.seen ≡ 0) = h.through none sound in
    let empty : unseen ≡ [] = ap (λ (xs : List ℕ). drop old.seen xs) seen.0 ∙ ap (λ (n : ℕ). drop n []) seen.1 in
    let more = added old.messages.items unseen bytes old.is_broken c.args.reader.now taken stream h.lies in
    record {
      lies = fed_whole (unseen ++ bytes) bytes unseen c.args.reader.now c.feed.new.self old.messages.items
          c.feed.new.out.items c.reverse.new.self.items taken (stream ++ bytes) c.feed.result old.is_broken
          c.is_err-self.result (record {
            memory = c.feed.ensures.memory;
            reads = c.feed.ensures.reads;
            answer = c.feed.ensures.answer;
            stays = c.feed.ensures.stays;
          }) c.is_err-self.ensures.value none sound c.reverse.ensures.items more
          (ap (λ (xs : List ℕ). xs ++ bytes) empty ∙ sym (append-nil bytes)
          ∙ ap (λ (xs : List ℕ). bytes ++ xs) (sym empty));
      through = λ _ _. seen;
    }
