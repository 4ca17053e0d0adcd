use Rattle.std.proofs.Common.{◌≡◌, ◌∙◌, ◌++◌, ℕ, List, [], sym, ap, refl, subst, rules, arith, eq-eqb, ne_eqb, length}
use Rattle.std.proofs.lemmas.List.{length-take-le}
use Rattle.std.specs.Prelude.{take, true}
use Rattle.server_inbox.specs.Asking.{Stands}
use Rattle.server_connections.specs.Reading.{after_none}
use Rattle.server_connections.specs.declared.peer.Peer.{Peer}
use Rattle.server_connections.specs.declared.peer_stream.Arrival.TheVariants as arrival
use Rattle.server_connections.proofs.Reading.{more_than_none, more_than_some, more_than_much, much_came}
use Rattle.server_connections.proofs.Reading.{some_came, typed_after}
use Rattle.server_connections.proofs.Standing.{quiet, typed_anew, unbroken}
use Rattle.server_connections.proofs.peer.Peer.read.Goals as goal

pub returns-then-count-eq0-clause-read : goal.returns-then-count-eq0-clause-read
returns-then-count-eq0-clause-read g c = λ readable.
    let zero : c.read_once-count.result.0 ≡ 0 = search rules in
    let nothing : take c.read_once-count.result.0 c.read_once-count.new.buffer ≡ [] =
    ap (λ (n : ℕ). take n c.read_once-count.new.buffer) zero in
    let old = c.args.self.now in record {
      stream = c.in-Some.stream;
      left = c.read_once-count.new.self;
      piece = [];
      came = c.read_once-count.result.1;
      was = search rules;
      is = ap (λ (p : Peer g.row.S.Denot). p.stream) c.note_none.ensures;
      read = subst (λ (xs : List ℕ). g.S.PeerStream.reads c.in-Some.stream (length c.args.buffer.now) xs
          c.read_once-count.result.1 c.read_once-count.new.self) nothing c.read_once-count.ensures.read;
      arrives = refl;
      notes = (
        ap (λ (p : Peer g.row.S.Denot). p.has_more) c.note_none.ensures
            ∙ more_than_none old c.read_once-count.result.1 (c.read_once-count.ensures.none zero),
        ap (λ (p : Peer g.row.S.Denot). p.inbox.typed) c.note_none.ensures,
      );
      stands = λ taken all h. subst (λ (p : Peer g.row.S.Denot). Stands p.inbox p.reader taken (all ++ []))
          (sym c.note_none.ensures)
          (typed_anew old.inbox (after_none c.args.now c.read_once-count.result.1 old.inbox.typed) old.reader taken
          (all ++ [])
          (quiet old.inbox old.reader taken all h));
    }

pub returns-then-is_much-clause-read : goal.returns-then-is_much-clause-read
returns-then-is_much-clause-read g c = λ readable.
    let may : c.may_read.result ≡ true = search rules in
    let more : c.has_more.result ≡ true = search rules in
    let piece = take c.read_once-count.result.0 c.read_once-count.new.buffer in
    let len : length piece ≡ c.read_once-count.result.0 =
    length-take-le c.read_once-count.result.0 c.read_once-count.new.buffer c.read_once-count.ensures.within in
    let some : length piece ≡ 0 → ⊥ = λ e. c.if-count-eq0.false (sym len ∙ e) in
    let old = c.args.self.now in record {
      stream = c.in-Some.stream;
      left = c.read_once-count.new.self;
      piece = piece;
      came = c.read_once-count.result.1;
      was = search rules;
      is = ap (λ (p : Peer g.row.S.Denot). p.stream) c.feed.ensures.same;
      read = c.read_once-count.ensures.read;
      arrives = much_came _ _ c.read_once-count.result.1 some (omega (arith, len));
      notes = (
        ap (λ (p : Peer g.row.S.Denot). p.has_more) c.feed.ensures.same ∙ (c.may_have_more-has_more.ensures
            ∙ more_than_much old (length piece) _ (eq-eqb _ _ c.if-is_much.true)),
        ap (λ (p : Peer g.row.S.Denot). p.inbox.typed) c.feed.ensures.same ∙ (c.note_read.ensures
            ∙ typed_after c.args.now (length piece) arrival.Much _ old.inbox.typed (eq-eqb _ _ c.if-is_much.true) some),
      );
      stands = λ taken all h. c.feed.ensures.stands taken all (c.may_read.ensures.none may)
          (unbroken old.has_more old.inbox.is_broken (sym c.has_more.ensures ∙ more))
          (typed_anew old.inbox c.note_read.new.self old.reader taken all h);
    }

pub returns-else-is_much-clause-read : goal.returns-else-is_much-clause-read
returns-else-is_much-clause-read g c = λ readable.
    let may : c.may_read.result ≡ true = search rules in
    let more : c.has_more.result ≡ true = search rules in
    let piece = take c.read_once-count.result.0 c.read_once-count.new.buffer in
    let len : length piece ≡ c.read_once-count.result.0 =
    length-take-le c.read_once-count.result.0 c.read_once-count.new.buffer c.read_once-count.ensures.within in
    let some : length piece ≡ 0 → ⊥ = λ e. c.if-count-eq0.false (sym len ∙ e) in
    let old = c.args.self.now in record {
      stream = c.in-Some.stream;
      left = c.read_once-count.new.self;
      piece = piece;
      came = c.read_once-count.result.1;
      was = search rules;
      is = ap (λ (p : Peer g.row.S.Denot). p.stream) c.feed.ensures.same;
      read = c.read_once-count.ensures.read;
      arrives = some_came (length c.args.buffer.now) (length piece) c.read_once-count.result.1 some
          (λ e. c.if-is_much.false (omega (arith, len, e)));
      notes = (
        ap (λ (p : Peer g.row.S.Denot). p.has_more) c.feed.ensures.same ∙ (c.may_have_more-has_more.ensures
            ∙ more_than_some old (length piece) _ (ne_eqb _ _ c.if-is_much.false) some),
        ap (λ (p : Peer g.row.S.Denot). p.inbox.typed) c.feed.ensures.same ∙ (c.note_read.ensures
            ∙ typed_after c.args.now (length piece) arrival.Some _ old.inbox.typed (ne_eqb _ _ c.if-is_much.false) some),
      );
      stands = λ taken all h. c.feed.ensures.stands taken all (c.may_read.ensures.none may)
          (unbroken old.has_more old.inbox.is_broken (sym c.has_more.ensures ∙ more))
          (typed_anew old.inbox c.note_read.new.self old.reader taken all h);
    }
