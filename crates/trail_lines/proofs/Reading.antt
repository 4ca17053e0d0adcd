-- What loops read, from its front.
use Rattle.trail_lines.proofs.Vocabulary.{◌≡◌, ℕ, List, [], ◌∷◌, ap, refl, sym, ◌∙◌, ◌<◌, Option, Some, None, UserId}
use Rattle.trail_lines.proofs.Vocabulary.{named_by, ◌>>=◌, leaders_of, with_leader, Noted, note_in, noting, notes_of}
use Rattle.trail_lines.specs.declared.entries.Remark.{Remark}

abbrev leaders_with : Option UserId → List (List ℕ) → List UserId → Option (List UserId)
leaders_with user ws before = user >>= λ u. with_leader before u >>= λ now. leaders_of ws now

abbrev leaders_on : Option (List UserId) → List (List ℕ) → Option (List UserId)
leaders_on now ws = now >>= λ n. leaders_of ws n

first_leader : (ws others : List (List ℕ)) (name : List ℕ) (before : List UserId) → ws ≡ name ∷ others
    → leaders_of ws before ≡ leaders_with (named_by name) others before
unfolding leaders_of
first_leader ws others name before e = ap (λ l. leaders_of l before) e

module _ (ws others : List (List ℕ)) (name : List ℕ) (before : List UserId) (e : ws ≡ name ∷ others) where
  pub no_name : None ≡ named_by name → None ≡ leaders_of ws before
  no_name none = sym (first_leader ws others name before e ∙ ap (λ u. leaders_with u others before) (sym none))

  pub some_name : (user : UserId) → Some user ≡ named_by name
      → leaders_on (with_leader before user) others ≡ leaders_of ws before
  some_name user some = sym (first_leader ws others name before e ∙ ap (λ u. leaders_with u others before) (sym some))

  pub too_many : (user : UserId) → Some user ≡ named_by name → None ≡ with_leader before user
      → None ≡ leaders_of ws before
  too_many user some none = ap (λ now. leaders_on now others) none ∙ some_name user some

  pub one_leader : (user : UserId) (now : List UserId) → Some user ≡ named_by name → Some now ≡ with_leader before user
      → leaders_of others now ≡ leaders_of ws before
  one_leader user now some is = ap (λ n. leaders_on n others) is ∙ some_name user some

pub all_leaders : (before : List UserId) → leaders_of [] before ≡ Some before
unfolding leaders_of
all_leaders before = refl

-- ---- verdicts and acts

abbrev noted_with : Option Remark → List (List ℕ) → Noted → Option Noted
noted_with note ws before = note >>= λ n. notes_of ws (noting before n)

first_note : (ws others : List (List ℕ)) (word : List ℕ) (before : Noted) → ws ≡ word ∷ others
    → notes_of ws before ≡ noted_with (note_in word) others before
unfolding notes_of
first_note ws others word before e = ap (λ l. notes_of l before) e

pub no_note : (ws others : List (List ℕ)) (word : List ℕ) (before : Noted) → ws ≡ word ∷ others → None ≡ note_in word
    → notes_of ws before ≡ None
no_note ws others word before e none = first_note ws others word before e
    ∙ ap (λ n. noted_with n others before) (sym none)

pub one_note : (ws others : List (List ℕ)) (word : List ℕ) (before after : Noted) (note : Remark) → ws ≡ word ∷ others
    → Some note ≡ note_in word → after ≡ noting before note → notes_of others after ≡ notes_of ws before
one_note ws others word before after note e some is =
    ap (notes_of others) is ∙ sym (first_note ws others word before e ∙ ap (λ n. noted_with n others before) (sym some))

pub all_notes : (before : Noted) → notes_of [] before ≡ Some before
unfolding notes_of
all_notes before = refl
