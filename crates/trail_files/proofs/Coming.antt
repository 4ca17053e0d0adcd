-- A line that came was there.
use Rattle.std.proofs.Common.{◌≡◌, ◌≢◌, ◌∙◌, ◌++◌, ◌∷◌, [], ℕ, List, Bool, true, false, Option, Some, None, ap, sym}
use Rattle.std.proofs.Common.{true≢false}
use Rattle.std.specs.Prelude.{IfSome}
use Rattle.trail_lines.specs.declared.halt.NextLine.TheVariants as came
use Rattle.trail_lines.specs.Lines.{ComesAs, OfKnown, feed}

abbrev has_any : List ℕ → Bool
has_any [] = false
has_any (x ∷ xs) = true

not_empty : (line rest : List ℕ) → line ++ feed ∷ rest ≡ [] → ⊥
not_empty [] rest e = true≢false (ap has_any e)
not_empty (x ∷ line) rest e = true≢false (ap has_any e)

pub whole_came : (line : List ℕ) (old new : Option (List ℕ)) → OfKnown old new (ComesAs came.Whole line)
    → IfSome old (λ bytes. bytes ≢ [])
whole_came line None new a = tt
whole_came line (Some bytes) None a = absurd a
whole_came line (Some bytes) (Some rest) a = λ e. not_empty line rest (sym a.1 ∙ e)
