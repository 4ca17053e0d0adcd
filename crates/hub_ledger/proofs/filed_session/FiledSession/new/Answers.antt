use Rattle.hub_ledger.proofs.Vocabulary.{List, length, ap, subst, sym, begun, Entry, Trail, AreSeats, Owners, views}
use Rattle.hub_ledger.proofs.filed_session.FiledSession.new.Goals as goal

pub returns-clause-kept : goal.returns-clause-kept
returns-clause-kept c =
    let trail : List Entry
    → Trail = λ (es : List Entry). record { edition = c.args.edition; owner = c.args.owner; entries = es } in
    let none = sym c.new-3.ensures in
    record {
      past = (
        begun c.args.edition c.args.owner,
        record {
          stands = c.requires;
          trail = ap trail (sym c.in_ok-new.ensures);
          clients = ap (λ (o : Owners). length o.clients) c.new-3.ensures;
          windows = ap (λ (o : Owners). length o.windows) c.new-3.ensures;
        },
      );
      seats = subst (AreSeats (length (views c.in_ok-waiting.waiting.lists.items))) none
          (record { clients = tt; windows = tt });
    }
