-- A text that was printed is read as the same bytes.
use Rattle.session.proofs.Vocabulary.{◌≡◌, ℕ, ◌≤◌, length, List, ap, ◌∙◌, arith, Bool, true, cond, nat_le, Some, None}
use Rattle.session.proofs.Vocabulary.{nat_tests, if_short}
use Rattle.line_fields.proofs.ReadBack.{read_back}
use Rattle.session.specs.ReadBack.{ReadsTexts}

is_short : (bytes : List ℕ) (is : Bool) → is ≡ true → cond is (Some bytes) None ≡ Some bytes
is_short bytes is e = ap (λ short. cond short (Some bytes) None) e

pub reads_texts : ReadsTexts
reads_texts bytes text =
    let short : length bytes ≤ 8192 = text.1 in
    ap if_short (read_back 0x20 bytes text.0) ∙ is_short bytes (nat_le (length bytes) 8192) (grind (arith, nat_tests))
