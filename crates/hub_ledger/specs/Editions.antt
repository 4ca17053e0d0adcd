-- The number of each edition.
use Rattle.std.specs.Prelude.{ℕ}
use Rattle.acl.specs.declared.leaders.Edition.{Edition}
use Rattle.acl.specs.declared.leaders.Edition.TheVariants.{First, Second}

abbrev pub number_of_edition : Edition → ℕ
number_of_edition First = 1
number_of_edition Second = 2
