use Rattle.std.proofs.Common.{◌≡◌, ◌≤◌, ◌<◌, ◌||◌, true, false, length, refl, ap, ◌∙◌, arith}
use Rattle.std.specs.Prelude.{is_none}
use Rattle.std.proofs.lemmas.Grind.{common_steps}
use Rattle.std.proofs.lemmas.Bool.Decides.{nat_tests}
use Rattle.client_words.specs.Lines.{is_feed, size_of}
use Rattle.client_words.proofs.Standing.{stands-room, stands-full, stands-feed}
use Rattle.client_words.proofs.size_lines.SizeLines.take.Goals as goal

pub returns-then-len-lt-TOO_LONG-clause-stands : goal.returns-then-len-lt-TOO_LONG-clause-stands
returns-then-len-lt-TOO_LONG-clause-stands c = λ bytes s.
    let other : is_feed c.args.byte ≡ false = grind (arith, nat_tests) in
    let room : length c.args.self.now.line.items < 64 = grind (arith, common_steps) in
    stands-room c.args.self.now _ bytes c.args.byte other room c.push_reserved.ensures.items refl s

pub returns-else-len-lt-TOO_LONG-clause-stands : goal.returns-else-len-lt-TOO_LONG-clause-stands
returns-else-len-lt-TOO_LONG-clause-stands c = λ bytes s.
    let other : is_feed c.args.byte ≡ false = grind (arith, nat_tests) in
    let full : 64 ≤ length c.args.self.now.line.items = grind (arith, common_steps) in
    stands-full c.args.self.now _ bytes c.args.byte other full refl refl s

pub returns-clause-stands : goal.returns-clause-stands
returns-clause-stands c = λ bytes s.
    let feed : is_feed c.args.byte ≡ true = grind (arith, nat_tests) in
    let none : c.is_none.result ≡ is_none c.read-size.result = grind (arith, nat_tests) in
    let dropped = ap (λ b. c.args.self.now.has_dropped || b)
    (none ∙ ap is_none (c.read-size.ensures ∙ ap size_of c.as_slice.ensures.value)) in
    stands-feed c.args.self.now _ bytes c.args.byte feed c.clear.ensures.items dropped s
