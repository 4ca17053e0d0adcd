-- What comes behind the lines that were read comes behind all of them.
use Rattle.std.proofs.Common.{◌≡◌, ◌+◌, ℕ, zero, suc, List, Option, Some, None, refl}
use Rattle.std.specs.Prelude.{IfSome}
use Rattle.trail_lines.specs.Lines.{ComesAs, OfKnown}
use Rattle.trail_lines.specs.declared.halt.NextLine.{NextLine}
use Rattle.trail_files.specs.Beginning.{ComesBy, LastBy, LastIs, LastOf}
use Rattle.trail_files.specs.Showing.{ShowsAs, ShowsFrom, ShowsTo, stop_at}
use Rattle.trail_files.specs.declared.show.LineKind.{LineKind}
use Rattle.trail_files.specs.declared.show.LineKind.TheVariants as kind

-- the last place after the rest is the last one after these bytes
abbrev pub GoesOn : ℕ → Option ℕ → List ℕ → List ℕ → Type 0
GoesOn time so_far bytes rest = (n : ℕ) (last : Option ℕ) → LastIs time n so_far rest last → LastBy time last bytes

pub begun : (time : ℕ) (a : Option (List ℕ)) → OfKnown a a (GoesOn time None)
begun time None = tt
begun time (Some bytes) = λ n last is. (n, is)

pub gone_on : (time place : ℕ) (so_far : Option ℕ) (a b c : Option (List ℕ)) → OfKnown a b (GoesOn time so_far)
    → OfKnown b c (ComesBy time (Some place)) → OfKnown a c (GoesOn time (Some place))
gone_on time place so_far None b c on come = tt
gone_on time place so_far (Some x) None c on come = absurd on
gone_on time place so_far (Some x) (Some y) None on come = absurd come
gone_on time place so_far (Some x) (Some y) (Some z) on come = λ n last is. on (suc n) last (place, z, come, is)

pub ended : (time : ℕ) (so_far : Option ℕ) (a b c : Option (List ℕ)) → OfKnown a b (GoesOn time so_far)
    → OfKnown b c (ComesBy time None) → IfSome a (LastBy time so_far)
ended time so_far None b c on come = tt
ended time so_far (Some x) None c on come = absurd on
ended time so_far (Some x) (Some y) None on come = absurd come
ended time so_far (Some x) (Some y) (Some z) on come = on zero so_far (z, come, refl)

pub behind_first : (time : ℕ) (last : Option ℕ) (came : NextLine) (line : List ℕ) (a b : Option (List ℕ))
    → OfKnown a b (ComesAs came line) → IfSome b (LastBy time last) → IfSome a (LastOf time last)
behind_first time last came line None b come is = tt
behind_first time last came line (Some x) None come is = absurd come
behind_first time last came line (Some x) (Some y) come is = (came, line, y, come, is)

-- where the showing of the rest stops, that of these bytes does
abbrev pub ShowsOn : ℕ → List ℕ → List ℕ → Type 0
ShowsOn number bytes rest =
    (n : ℕ) (stopped : Option ℕ) → ShowsTo n number rest stopped → ShowsFrom 2 stopped bytes

pub shown_on : (number : ℕ) (a b c : Option (List ℕ)) → OfKnown a b (ShowsOn number)
    → OfKnown b c (ShowsAs kind.Entry) → OfKnown a c (ShowsOn (number + 1))
shown_on number None b c on come = tt
shown_on number (Some x) None c on come = absurd on
shown_on number (Some x) (Some y) None on come = absurd come
shown_on number (Some x) (Some y) (Some z) on come = λ n stopped shows. on (suc n) stopped (z, come, shows)

pub shown_to : (number : ℕ) (k : LineKind) (stopped : Option ℕ) (a b c : Option (List ℕ))
    → OfKnown a b (ShowsOn number) → OfKnown b c (ShowsAs k) → stop_at number k ≡ Some stopped
    → IfSome a (ShowsFrom 2 stopped)
shown_to number k stopped None b c on come stops = tt
shown_to number k stopped (Some x) None c on come stops = absurd on
shown_to number k stopped (Some x) (Some y) None on come stops = absurd come
shown_to number k stopped (Some x) (Some y) (Some z) on come stops = on zero stopped (k, z, come, stops)
