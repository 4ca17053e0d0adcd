-- Rows that are lent so that they can be changed.
use Rattle.std.specs.Prelude.{ℕ, ◌≡◌, List, ◌++◌, Option, OnSome, length, take, drop}
use Rattle.std.specs.Borrow.{Lends, LendsSo, Array, RattleType, MutBor, Fml}
use Rattle.windows_model.specs.Finding.{with_row}
use Rattle.windows_model.specs.contracts.rows.Rows.{the_row}

-- the new rows, in place of as many of the old rows, cut to the number of the old rows
abbrev pub written_over : {A : Type 0} → List A → List A → List A
written_over old rows = take (length old) (rows ++ drop (length rows) old)

-- the first row with this serial is lent; what it becomes stands in its place
abbrev pub LendsRow : (R : RattleType) →
    (R.Denot → ℕ) → MutBor (List R.Denot) → ℕ → Option (MutBor R.Denot) → Fml
LendsRow R serial_of s serial r =
    LendsSo (the_row R) R s r (λ rows row. OnSome r (rows ≡ with_row serial_of s.now serial row))
    (λ rows. rows ≡ s.now)

-- all rows are lent; what they become stands in their place
abbrev pub LendsAll : (R : RattleType) → MutBor (List R.Denot) → MutBor (List R.Denot) → Fml
LendsAll R s r = Lends (the_row R) (Array R 0) s r (written_over s.now)
