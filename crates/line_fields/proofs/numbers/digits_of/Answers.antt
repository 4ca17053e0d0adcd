use Rattle.std.proofs.Common.{◌≡◌, Bool, List, ℕ, true, false, sym, subst}
use Rattle.std.specs.Prelude.{Option, MatchOption}
use Rattle.std.specs.Borrow.{Bor}
use Rattle.line_fields.specs.Numbers.{is_number}
use Rattle.line_fields.proofs.Digits.{digits_read}
use Rattle.line_fields.proofs.numbers.digits_of.Goals as goal

pub returns : goal.returns
returns c =
    subst
    (λ (r : Option (Bor (List ℕ))). MatchOption r (is_number c.args.word.now ≡ false)
    (λ digits. (digits.now ≡ c.args.word.now) × (is_number c.args.word.now ≡ true)))
    (sym c.ok.ensures.value)
    (digits_read _ c.from_utf8.result c.args.word.now c.from_utf8.ensures.cases (sym c.if-not-is_number.ensures))
