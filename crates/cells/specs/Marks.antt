-- The codes that hold a cell's marks: 0 for none, and else a code point and one more.
use Rattle.std.specs.Prelude.{◌≡◌, ℕ, zero, suc, Option, Some, None}
use Rattle.std.specs.Char.{IsScalar}
use Rattle.std.proofs.Common.{refl, sym, ap}
use Rattle.cells.specs.declared.marks.Marks.{Marks}
use Rattle.cells.specs.declared.marks.Marks.TheVariants.{Bare, One, Two}

abbrev pub mark_of : ℕ → Option ℕ
mark_of zero = None
mark_of (suc c) = Some c

abbrev pub marks_of : ℕ → ℕ → Marks
marks_of zero second = Bare
marks_of (suc first) zero = One first
marks_of (suc first) (suc second) = Two first second

abbrev pub codes_of : Marks → ℕ × ℕ
codes_of Bare = (0, 0)
codes_of (One first) = (suc first, 0)
codes_of (Two first second) = (suc first, suc second)

-- the code of no mark, or of a mark
abbrev pub IsCode : ℕ → Type 0
IsCode zero = Unit {0}
IsCode (suc c) = IsScalar c

-- codes of no marks, of one, or of two
abbrev pub ArePacked : ℕ → ℕ → Type 0
ArePacked zero second = second ≡ 0
ArePacked (suc first) second = IsScalar first × IsCode second

pub codes_back : (first second : ℕ) → ArePacked first second → codes_of (marks_of first second) ≡ (first, second)
codes_back zero second order = sym (ap (λ s. (0, s)) order)
codes_back (suc first) zero order = refl
codes_back (suc first) (suc second) order = refl
