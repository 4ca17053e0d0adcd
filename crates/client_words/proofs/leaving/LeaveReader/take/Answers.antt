use Rattle.std.proofs.Common.{◌≡◌, ◌==◌, ◌∷◌, [], true, false, arith, sym, ◌∙◌}
use Rattle.std.proofs.lemmas.Bool.Decides.{nat_tests}
use Rattle.client_words.specs.declared.leaving.InputStage.TheVariants.{Reading, Waiting, Left}
use Rattle.client_words.proofs.Pairs.{reads-more, reads-same, sends-more, next-yes, next-no, next-pair, next-lone}
use Rattle.client_words.proofs.Pairs.{next-left, more-yes, more-no, more-pair, more-lone, more-left}
use Rattle.client_words.proofs.leaving.LeaveReader.take.Goals as goal

pub returns-in-Reading-clause-sent : goal.returns-in-Reading-clause-sent
returns-in-Reading-clause-sent c = λ before s.
    let h : c.args.byte == c.args.self.now.byte ≡ true = grind (arith, nat_tests) in
    sends-more c.args.self.now before c.args.byte [] s (more-yes _ _ _ c.in-Reading.is h)

pub returns-in-Reading-clause-stands : goal.returns-in-Reading-clause-stands
returns-in-Reading-clause-stands c = λ before s.
    let h : c.args.byte == c.args.self.now.byte ≡ true = grind (arith, nat_tests) in
    reads-more c.args.self.now before c.args.byte Waiting s (next-yes _ _ _ c.in-Reading.is h)

pub returns-in-Reading-2-clause-sent : goal.returns-in-Reading-2-clause-sent
returns-in-Reading-2-clause-sent c = λ before s.
    let h : c.args.byte == c.args.self.now.byte ≡ false = grind (arith, nat_tests) in
    sends-more c.args.self.now before c.args.byte (c.args.byte ∷ []) s (more-no _ _ _ c.in-Reading-2.is h)

pub returns-in-Reading-2-clause-stands : goal.returns-in-Reading-2-clause-stands
returns-in-Reading-2-clause-stands c = λ before s.
    let h : c.args.byte == c.args.self.now.byte ≡ false = grind (arith, nat_tests) in
    reads-same c.args.self.now before c.args.byte s (next-no _ _ _ c.in-Reading-2.is h ∙ sym c.in-Reading-2.is)

pub returns-in-Waiting-clause-sent : goal.returns-in-Waiting-clause-sent
returns-in-Waiting-clause-sent c = λ before s.
    let h : c.args.byte == c.args.self.now.byte ≡ true = grind (arith, nat_tests) in
    sends-more c.args.self.now before c.args.byte (c.args.byte ∷ []) s
    (more-pair _ _ _ c.in-Waiting.is h (grind (arith, nat_tests)))

pub returns-in-Waiting-clause-stands : goal.returns-in-Waiting-clause-stands
returns-in-Waiting-clause-stands c = λ before s.
    let h : c.args.byte == c.args.self.now.byte ≡ true = grind (arith, nat_tests) in
    reads-more c.args.self.now before c.args.byte Reading s (next-pair _ _ _ c.in-Waiting.is h)

pub returns-in-Waiting-2-clause-sent : goal.returns-in-Waiting-2-clause-sent
returns-in-Waiting-2-clause-sent c = λ before s.
    let h : c.args.byte == c.args.self.now.byte ≡ false = grind (arith, nat_tests) in
    sends-more c.args.self.now before c.args.byte [] s (more-lone _ _ _ c.in-Waiting-2.is h)

pub returns-in-Waiting-2-clause-stands : goal.returns-in-Waiting-2-clause-stands
returns-in-Waiting-2-clause-stands c = λ before s.
    let h : c.args.byte == c.args.self.now.byte ≡ false = grind (arith, nat_tests) in
    reads-more c.args.self.now before c.args.byte Left s (next-lone _ _ _ c.in-Waiting-2.is h)

pub returns-in-Left-clause-sent : goal.returns-in-Left-clause-sent
returns-in-Left-clause-sent c = λ before s.
    sends-more c.args.self.now before c.args.byte [] s (more-left _ _ _ c.in-Left.is)

pub returns-in-Left-clause-stands : goal.returns-in-Left-clause-stands
returns-in-Left-clause-stands c = λ before s.
    reads-same c.args.self.now before c.args.byte s (next-left _ _ _ c.in-Left.is ∙ sym c.in-Left.is)
