-- The windows that are open.
use Rattle.std.specs.Prelude.{◌≡◌, ℕ, not, ◌==◌, List, [], ◌∷◌, ◌++◌, filter}
use Rattle.std.specs.List.{list_any}
use Rattle.acl.specs.declared.act.Act.{Act}
use Rattle.acl.specs.declared.act.Act.TheVariants.{Opened, Closed}
use Rattle.acl.specs.History.{History, is_open}

abbrev pub without_window : ℕ → List ℕ → List ℕ
without_window w windows = filter (λ x. not (x == w)) windows

-- in the order in which they were opened
abbrev pub windows_after : Act → List ℕ → List ℕ
windows_after (Opened by w) before = without_window w before ++ w ∷ []
windows_after (Closed w) before = without_window w before
windows_after _ before = before

abbrev pub windows_of : History → List ℕ
windows_of [] = []
windows_of (a ∷ h) = windows_after a (windows_of h)

-- these are the windows that are open
abbrev pub OpenAreListed : Type 0
OpenAreListed = (h : History) (w : ℕ) → list_any (λ x. x == w) (windows_of h) ≡ is_open h w
