use Rattle.emulator.proofs.Vocabulary.{◌≡◌, ◌++◌, ℕ, List, take, ap, ◌∙◌, subst, arith, reads, HasRead}
use Rattle.emulator.proofs.Feeding.{byte-has-read}
use Rattle.emulator.proofs.emulator.Emulator.feed_some.Goals as goal

pub returns-then-count-gt0-clause-ok : goal.returns-then-count-gt0-clause-ok
returns-then-count-gt0-clause-ok c = λ t h.
    subst
    (λ (said : List ℕ). HasRead t (take c.read_pieces-count.result c.args.bytes.now) said
    c.read_pieces-count.new.self c.reserve.new.self.items) c.reserve.ensures.items
    (c.read_pieces-count.ensures.taken c.reserve.new.self.items t h)

pub returns-clause-ok : goal.returns-clause-ok
unfolding reads
returns-clause-ok c = λ t h.
    let none : c.read_pieces-count.result ≡ 0 = omega arith in
    let read = subst (λ (n : ℕ). HasRead t (take n c.args.bytes.now)
    c.reserve.new.self.items c.read_pieces-count.new.self c.reserve.new.self.items) none
    (c.read_pieces-count.ensures.taken c.reserve.new.self.items t h) in
    byte-has-read t c.args.bytes.now c.args.out.now.items c.feed-report.result c.append.new.out.items
    c.feed-report.new.self c.requires (c.feed-report.ensures.read t read.stands)
    (c.append.ensures.items ∙ ap (λ (v : List ℕ). v ++ c.feed-report.result) c.reserve.ensures.items)
