-- One entry more.
use Rattle.std.proofs.Common.{◌≡◌, List, [], ◌∷◌, ◌++◌, refl, ap}
use Rattle.trail_lines.specs.Entries.{Said}
use Rattle.trail_log.specs.Logging.{entry_in, entries_in}
use Rattle.trail_log.specs.Naming.{Names, names_after, names_with}

pub names_more : (n : Names) (said : List Said) (x : Said)
    → names_after n (said ++ x ∷ []) ≡ names_with (names_after n said) x
names_more n [] x = refl
names_more n (y ∷ said) x = names_more (names_with n y) said x

pub entries_more : (said : List Said) (x : Said)
    → entries_in (said ++ x ∷ []) ≡ entries_in said ++ entry_in x ∷ []
entries_more [] x = refl
entries_more (y ∷ said) x = ap (λ es. entry_in y ∷ es) (entries_more said x)
