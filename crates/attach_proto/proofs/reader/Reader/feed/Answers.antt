use Rattle.std.proofs.Common.{[], ap, sym, ◌∙◌}
use Rattle.std.proofs.lemmas.List.{append-nil}
use Rattle.attach_proto.specs.Streams.{Reading}
use Rattle.attach_proto.proofs.Joining.{reader_stays}
use Rattle.attach_proto.proofs.reader.Reader.feed.Goals as goal

pub returns-in-Some-clause-reads : goal.returns-in-Some-clause-reads
returns-in-Some-clause-reads c = λ ne. (
  [],
  sym (append-nil c.args.out.now.items),
  λ messages stream h.
      reader_stays c.args.self.now c.args.piece.now c.in-Some.fault messages stream
      (sym (ap (λ (r : Reading). r.fault) c.self.view_is) ∙ c.in-Some.is) h,
)
