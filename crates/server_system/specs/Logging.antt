-- Lines on their way to standard error.
use Rattle.std.specs.Prelude.{◌≡◌, ℕ, ◌+◌, ◌-◌, ◌^◌, List, ◌++◌, min}
use Rattle.server_system.specs.declared.log.UnwrittenLines.{UnwrittenLines}

-- the line stands after the others
pub record IsKept (line : List ℕ) (old new : UnwrittenLines) : Type 0 where
  pub text : new.text.items ≡ old.text.items ++ line
  pub left_out : new.left_out ≡ old.left_out

-- the line is left out, and counted
pub record IsLeftOut (old new : UnwrittenLines) : Type 0 where
  pub text : new.text.items ≡ old.text.items
  pub left_out : new.left_out ≡ min (old.left_out + 1) (2 ^ 64 - 1)
