-- What a call on the table answers, from what it did to the rows.
use Rattle.windows.proofs.Vocabulary.{◌≡◌, ℕ, List, [], ◌∷◌, ◌++◌, Option, Some, None, Ok, Err, filter, not, refl, ap}
use Rattle.windows.proofs.Vocabulary.{sym, subst, ◌∙◌, true, false, inl, inr, MutBor, Result, OnSome, OnOk, OnErr}
use Rattle.windows.proofs.Vocabulary.{IfErr, ◌==◌, if◌then◌else◌, option_copied_mut, WindowsFault, row_of, with_row}
use Rattle.windows.proofs.Vocabulary.{is_title, Output, if_true, if_false, with_back, serial_is, rows_match, Window}
use Rattle.windows.proofs.Vocabulary.{taken_by_other, AnswersReports, WindowStands, StandFor, serial, written}
use Rattle.windows.proofs.Vocabulary.{written_to, in_place, in_row, changed, is_taken, new_row, Becomes, HasFed}
use Rattle.windows_model.specs.declared.rows.WindowsFault.TheVariants.{NoSuchWindow, NumberTaken, NoMemory}
use Rattle.windows_model.specs.Table as model
use Rattle.windows_model.proofs.Matching.{none_back, with_match, row_back, row_there, without_match, push_match}
use Rattle.windows.specs.Standing.{Answers, AnswersIfRoom, without, closed, renumbered, numbered, number_for, opened}
use Rattle.windows.proofs.Nearest.{taken_both}

abbrev pub own : Window → ℕ
own w = w.serial

pub same : (a : model.Window) (b : Window) → WindowStands a b → own b ≡ serial a
same a b st = st.serial_is

-- ---- the row that is lent

pub lent : (o : Option (MutBor Window)) (b : MutBor Window) (xs ws : List Window) (s : ℕ) → o ≡ Some b
    → option_copied_mut o ≡ row_of own xs s → xs ≡ ws → row_of own ws s ≡ Some b.now
lent o b xs ws s is value view = subst (λ vs. row_of own vs s ≡ Some b.now) view (sym value ∙ ap option_copied_mut is)

pub not_lent : (o : Option (MutBor Window)) (xs ws : List Window) (s : ℕ) → o ≡ None
    → option_copied_mut o ≡ row_of own xs s → xs ≡ ws → row_of own ws s ≡ None
not_lent o xs ws s is value view = subst (λ vs. row_of own vs s ≡ None) view (sym value ∙ ap option_copied_mut is)

pub put_back : (o : Option (MutBor Window)) (b : MutBor Window) (xs ws new : List Window) (s : ℕ) (made : Window)
    → o ≡ Some b → OnSome o (new ≡ with_row own xs s made) → xs ≡ ws → new ≡ with_row own ws s made
put_back o b xs ws new s made is back view = subst (λ vs. new ≡ with_row own vs s made) view
    (subst (λ p. OnSome p (new ≡ with_row own xs s made)) is back)

-- ---- a row that changes

module _ (old new : List Window) (s : ℕ) (change : model.Window → Result model.Window WindowsFault) (w made : Window)
    (at : row_of own old s ≡ Some w) where
  answered_with : (rows : List model.Window) (r : Result model.Window WindowsFault) (m : model.Window)
      → row_of serial rows s ≡ Some m → change m ≡ r → changed s change rows ≡ in_place rows s r
  answered_with rows r m here is = ap (λ o. in_row rows s o change) here ∙ ap (λ k. in_place rows s k) is

  pub row_changed : {A : Type 0} (a : A) → new ≡ with_row own old s made
      → ((m : model.Window) → WindowStands m w → (n : model.Window) × (change m ≡ Ok n) × WindowStands n made)
      → Answers (changed s change) old (Ok a) new
  row_changed a is on = λ rows st.
      let found = row_back WindowStands serial own same rows old s w st at in
      let became = on found.0 found.2 in (
        with_row serial rows s became.0,
        answered_with rows (Ok became.0) found.0 found.1 became.1,
        subst (λ ws. StandFor (with_row serial rows s became.0) ws) (sym is)
            (with_match WindowStands serial own same rows old s became.0 made became.2 st),
      )

  pub row_refused : (A : Type 0) (r : WindowsFault) → ((m : model.Window) → WindowStands m w → change m ≡ Err r)
      → Answers {A = A} (changed s change) old (Err r) new
  row_refused A r on = λ rows st.
      let found = row_back WindowStands serial own same rows old s w st at in
      answered_with rows (Err r) found.0 found.1 (on found.0 found.2)

  pub row_became : {A : Type 0} (result : Result A WindowsFault) → new ≡ with_row own old s made
      → Becomes change w result made → AnswersIfRoom (changed s change) old result new
  row_became (Ok a) is on = row_changed a is on
  row_became (Err r) is on = λ rows st.
      let found = row_back WindowStands serial own same rows old s w st at in
      elim (on found.0 found.2)
      [ inl full ↦ inl full | inr because ↦ inr (answered_with rows (Err r) found.0 found.1 because) ]

  pub row_stays : {A : Type 0} (result : Result A WindowsFault) → new ≡ with_row own old s made
      → OnErr result (made ≡ w) → OnErr result (new ≡ old)
  row_stays (Ok a) is kept = tt
  row_stays (Err r) is kept = is ∙ ap (λ v. with_row own old s v) kept ∙ with_back own old s w at

pub row_missing : (A : Type 0) (old new : List Window) (s : ℕ)
    (change : model.Window → Result model.Window WindowsFault) → row_of own old s ≡ None
    → Answers {A = A} (changed s change) old (Err NoSuchWindow) new
row_missing A old new s change none = λ rows st.
    ap (λ o. in_row rows s o change)
    (none_back WindowStands (row_of serial rows s) (row_of own old s)
    (rows_match WindowStands serial own same rows old s st) none)

pub missing_if_room : (A : Type 0) (old new : List Window) (s : ℕ)
    (change : model.Window → Result model.Window WindowsFault) → row_of own old s ≡ None
    → AnswersIfRoom {A = A} (changed s change) old (Err NoSuchWindow) new
missing_if_room A old new s change none = λ rows st. inr (row_missing A old new s change none rows st)

-- ---- output

pub fed_becomes : {A : Type 0} (result : Result A WindowsFault) (w made : Window) (bytes before after : List ℕ)
    → OnOk result (HasFed w bytes before after made) → IfErr result (λ r. r ≡ NoMemory)
    → Becomes (written (Output bytes)) w result made
fed_becomes (Ok a) w made bytes before after fed full = λ m st. (written_to (Output bytes) m, refl, fed.writes m st)
fed_becomes (Err r) w made bytes before after fed full = λ m st. inl full

pub fed_answers : {A : Type 0} (result : Result A WindowsFault) (old : List Window) (s : ℕ) (w made : Window)
    (bytes before after : List ℕ) → row_of own old s ≡ Some w
    → OnOk result (HasFed w bytes before after made) → OnOk result (AnswersReports s bytes old before after)
fed_answers (Err r) old s w made bytes before after at fed = tt
fed_answers (Ok a) old s w made bytes before after at fed = λ rows m st here.
    let found = row_there WindowStands serial own same rows old s m st here in
    let there : found.0 ≡ w = cc (found.1, at) in
    fed.reports m (subst (λ v. WindowStands m v) there found.2)

pub both_stay : (A P Q : Type 0) (result : Result A WindowsFault) → OnErr result P → OnErr result Q
    → OnErr result (P × Q)
both_stay A P Q (Ok a) p q = tt
both_stay A P Q (Err r) p q = (p, q)

-- ---- a window that is closed

pub one_closed : {A : Type 0} (a : A) (old new : List Window) (s : ℕ) (w : Window) → row_of own old s ≡ Some w
    → new ≡ filter (λ v. not (own v == s)) old → Answers (closed s) old (Ok a) new
one_closed a old new s w at is = λ rows st.
    let found = row_back WindowStands serial own same rows old s w st at in (
      filter (λ (v : model.Window). not (v.serial == s)) rows,
      ap (λ o. without rows s o) found.1,
      subst (λ ws. StandFor (filter (λ (v : model.Window). not (v.serial == s)) rows) ws) (sym is)
          (without_match WindowStands serial own same rows old s st),
    )

pub none_closed : (A : Type 0) (old new : List Window) (s : ℕ) → row_of own old s ≡ None
    → Answers {A = A} (closed s) old (Err NoSuchWindow) new
none_closed A old new s none = λ rows st.
    ap (λ o. without rows s o)
    (none_back WindowStands (row_of serial rows s) (row_of own old s)
    (rows_match WindowStands serial own same rows old s st) none)

-- ---- another number

module _ (old new : List Window) (s n : ℕ) (w : Window) (at : row_of own old s ≡ Some w) where
  here_is : (m : model.Window) → WindowStands m w → m.serial ≡ s
  here_is m st = sym st.serial_is ∙ serial_is own old s w at

  pub number_taken : (A : Type 0) → taken_by_other old s n ≡ true
      → Answers {A = A} (renumbered s n) old (Err NumberTaken) new
  number_taken A taken = λ rows st. row_refused old new s
      (λ v. if is_taken rows v n then Err NumberTaken else Ok (record v { number = n })) w w at A NumberTaken
      (λ m mine. if_true (is_taken rows m n) _ _ (sym (taken_both s n rows old m st (here_is m mine)) ∙ taken)) rows st

  pub number_given : {A : Type 0} (a : A) → taken_by_other old s n ≡ false
      → new ≡ with_row own old s (record w { number = n }) → Answers (renumbered s n) old (Ok a) new
  number_given a free is = λ rows st. row_changed old new s
      (λ v. if is_taken rows v n then Err NumberTaken else Ok (record v { number = n })) w (record w { number = n }) at
      a is
      (λ m mine. (
        record m { number = n },
        if_false (is_taken rows m n) _ _ (sym (taken_both s n rows old m st (here_is m mine)) ∙ free),
        record {
          serial_is = mine.serial_is;
          number_is = refl;
          title_is = mine.title_is;
          stands = mine.stands;
          drawable =
              mine.drawable;
        },
      )) rows st

pub number_missing : (A : Type 0) (old new : List Window) (s n : ℕ) → row_of own old s ≡ None
    → Answers {A = A} (renumbered s n) old (Err NoSuchWindow) new
number_missing A old new s n none = λ rows st. row_missing A old new s _ none rows st

-- ---- a window that opens

pub one_opened : {A : Type 0} (a : A) (old new : List Window) (s number rows columns keep : ℕ) (title : List ℕ)
    (w : Window)
    → ((ms : List model.Window) → StandFor ms old → number_for s ms ≡ Some number) → is_title title ≡ true
    → WindowStands (new_row s number rows columns keep title) w → new ≡ old ++ w ∷ []
    → AnswersIfRoom (opened s rows columns keep title) old (Ok a) new
one_opened a old new s number rows columns keep title w free named stands is = λ ms st.
    let made : model.Window = new_row s number rows columns keep title in (
      ms ++ made ∷ [],
      ap (λ o. numbered ms o (λ n. new_row s n rows columns keep title) title) (free ms st)
          ∙ if_true (is_title title) _ _ named,
      subst (λ ws. StandFor (ms ++ made ∷ []) ws) (sym is) (push_match WindowStands ms made old w st stands),
    )
