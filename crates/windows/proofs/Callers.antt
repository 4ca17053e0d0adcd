-- What a caller knows of the answer of a call on a row that is there.
use Rattle.windows.proofs.Vocabulary.{◌≡◌, ℕ, List, Some, Ok, Err, refl, ap, sym, subst, ◌∙◌, Result, WindowsFault}
use Rattle.windows.proofs.Vocabulary.{with_row, Window, StandFor, serial, in_place, in_row, changed}
use Rattle.windows_model.specs.Table as model
use Rattle.windows.specs.Standing.{Answered, Change, at_serial}

module _ (rows : List model.Window) (s : ℕ) (change : Change) (m : model.Window) (here : at_serial s rows ≡ Some m)
  where
    answer_is : changed s change rows ≡ in_place rows s (change m)
    answer_is = ap (λ o. in_row rows s o change) here

    done_by : (r : Result model.Window WindowsFault) → change m ≡ r → (after : List model.Window)
        → in_place rows s r ≡ Ok after → (n : model.Window) × (change m ≡ Ok n) × (after ≡ with_row serial rows s n)
    done_by (Ok n) is after same = (n, is, sym (cc (same)))
    done_by (Err r) is after same = absurd (cc (same))

    refused_by : (r : Result model.Window WindowsFault) → change m ≡ r → (why : WindowsFault)
        → in_place rows s r ≡ Err why → change m ≡ Err why
    refused_by (Ok n) is why same = absurd (cc (same))
    refused_by (Err r) is why same = is ∙ ap (λ e. Err e) (cc (same))

    -- if the call was done, the change allows it, and only this row changed, as the change says
    pub row_done : {A : Type 0} (a : A) (new : List Window) → Answered (changed s change rows) (Ok a) new
        → (n : model.Window) × (change m ≡ Ok n) × StandFor (with_row serial rows s n) new
    row_done a new answer =
        let did = done_by (change m) refl answer.0 (sym answer_is ∙ answer.1) in
        (did.0, did.1, subst (λ after. StandFor after new) did.2 answer.2)

    -- if the call was refused, the change refuses it for this reason
    pub row_refused_as : (why : WindowsFault) → changed s change rows ≡ Err why → change m ≡ Err why
    row_refused_as why answer = refused_by (change m) refl why (sym answer_is ∙ answer)
