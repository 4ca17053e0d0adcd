-- The lines of entries that were read, one after another.
use Rattle.trail_lines.proofs.Vocabulary.{◌≡◌, ℕ, suc, ◌+◌, List, [], ◌∷◌, ◌++◌, Option, Some, None, length, refl, ap}
use Rattle.trail_lines.proofs.Vocabulary.{◌∙◌, subst, false, Edition, UserId, Said, read_line, Audit, Halt, Times}
use Rattle.trail_lines.proofs.Vocabulary.{ComesAs, OfKnown, time_after, times_after, HasRead, entry_in, entries_in}
use Rattle.trail_lines.proofs.Vocabulary.{is_last, AreRead, Halts, NextIs, IsReadTo}
use Rattle.trail_lines.specs.declared.audit.Wrong.{Wrong}
use Rattle.trail_lines.specs.declared.halt.Halt.TheVariants as halt
use Rattle.trail_lines.specs.declared.halt.NextLine.TheVariants as came

-- ---- their entries

pub entries_more : (said : List Said) (x : Said) → entries_in (said ++ x ∷ []) ≡ entries_in said ++ entry_in x ∷ []
entries_more [] x = refl
entries_more (y ∷ said) x = ap (λ entries. entry_in y ∷ entries) (entries_more said x)

pub count_in : (said : List Said) → length (entries_in said) ≡ length said
count_in [] = refl
count_in (x ∷ said) = ap suc (count_in said)

pub count_more : (said : List Said) (x : Said) → length (said ++ x ∷ []) ≡ suc (length said)
count_more [] x = refl
count_more (y ∷ said) x = ap suc (count_more said x)

pub times_more : (t : Times) (said : List Said) (x : Said)
    → times_after t (said ++ x ∷ []) ≡ time_after (times_after t said) x.0 x.1
times_more t [] x = refl
times_more t (y ∷ said) x = times_more (time_after t y.0 y.1) said x

-- ---- one line more

one_more : (said : List Said) (x : Said) (line bytes mid rest : List ℕ) → AreRead said bytes mid
    → ComesAs came.Whole line mid rest → is_last line ≡ false → read_line line ≡ Some x
    → AreRead (said ++ x ∷ []) bytes rest
one_more [] x line bytes mid rest a whole last is = (line, rest, (whole.0, a ∙ whole.1), last, is, refl)
one_more (y ∷ said) x line bytes mid rest a whole last is =
    (a.0, a.1, a.2, a.3, a.4, one_more said x line a.1 mid rest a.5 whole last is)

pub read_more : (said : List Said) (x : Said) (line : List ℕ) (number : ℕ) (old mid new : Option (List ℕ))
    → OfKnown old mid (AreRead said) → OfKnown mid new (NextIs None number line) → read_line line ≡ Some x
    → OfKnown old new (AreRead (said ++ x ∷ []))
read_more said x line number None mid new a next is = tt
read_more said x line number (Some bytes) None new a next is = absurd a
read_more said x line number (Some bytes) (Some mid) None a next is = absurd next
read_more said x line number (Some bytes) (Some mid) (Some rest) a next is =
    one_more said x line bytes mid rest a next.0 next.1 is

-- ---- what halts it

pub read_to : (h : Halt) (said : List Said) (line : List ℕ) (number : ℕ) (old mid new : Option (List ℕ))
    → number ≡ length said + 2 → OfKnown old mid (AreRead said) → OfKnown mid new (Halts h number line)
    → OfKnown old new (IsReadTo h said line)
read_to h said line number None mid new at a halts = tt
read_to h said line number (Some bytes) None new at a halts = absurd a
read_to h said line number (Some bytes) (Some mid) None at a halts = absurd halts
read_to h said line number (Some bytes) (Some mid) (Some rest) at a halts =
    (mid, a, subst (λ n. Halts h n line mid rest) at halts)

pub stops_at : (w : Wrong) (line : List ℕ) (number : ℕ) (mid new : Option (List ℕ))
    → OfKnown mid new (NextIs None number line) → OfKnown mid new (Halts (halt.Stopped number w) number line)
stops_at w line number None new next = tt
stops_at w line number (Some bytes) None next = absurd next
stops_at w line number (Some bytes) (Some rest) next = (refl, next.0, next.1)

-- ---- so far

-- these entries were read, up to the line of this number, from a reader that had the old bytes
pub record HasComeTo (before : Times) (audit : Audit) (number : ℕ) (edition : Edition) (owner : UserId)
    (old now : Option (List ℕ)) : Type 0 where
  pub said : List Said
  pub read : HasRead audit edition owner (entries_in said)
  pub times : audit.times ≡ times_after before said
  pub place : number ≡ length said + 2
  pub from : OfKnown old now (AreRead said)
