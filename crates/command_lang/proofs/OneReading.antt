-- Each line is a command or has a fault, and not both.
use Rattle.command_lang.proofs.Vocabulary.{◌≡◌, ℕ, ◌<◌, ◌≤◌, Bool, true, false, cond, List, [], ◌∷◌, length, refl, sym}
use Rattle.command_lang.proofs.Vocabulary.{ap, ◌∙◌, subst, arith, Option, Some, None, Result, Ok, Err, inl, inr, ◌⊎◌}
use Rattle.command_lang.proofs.Vocabulary.{true≢false, nat_lt, nat_tests, is_some, option_and_then, chars, is_utf8}
use Rattle.command_lang.proofs.Vocabulary.{CommandName, Word, words-are, words-cut, Command, ParseFault, command_named}
use Rattle.command_lang.proofs.Vocabulary.{takes, at, first_of, command_of, texts_of, line_command, named_faults}
use Rattle.command_lang.proofs.Vocabulary.{line_faults, HasWords, Relates, Refuses, faults_of, command_or, read_line}
use Rattle.strings.specs.Lines.{words}
use Rattle.command_lang.specs.declared.fault.FaultKind.TheVariants as faults
use Rattle.command_lang.proofs.Fits.{fits, means_one}

-- what is computed for such a line
short : (line : List ℕ) → length line ≤ 1024 → nat_lt 1024 (length line) ≡ false
short line h = grind (arith, nat_tests)

long : (line : List ℕ) → 1024 < length line → nat_lt 1024 (length line) ≡ true
long line h = grind (arith, nat_tests)

at-most : (n : ℕ) → nat_lt 1024 n ≡ false → n ≤ 1024
at-most n h = grind (arith, nat_tests)

more-than : (n : ℕ) → nat_lt 1024 n ≡ true → 1024 < n
more-than n h = grind (arith, nat_tests)

choice : List ℕ → Bool → Bool → List ParseFault
choice line a b = cond a (at 1024 faults.TooLong ∷ [])
    (cond b (line_faults (length line) (words (chars line))) (at 0 faults.BadWord ∷ []))

words_faults_are : (line : List ℕ) (ws : List Word) → HasWords line ws → faults_of line ≡ line_faults (length line) ws
unfolding choice
words_faults_are line ws h =
    ap (λ a. choice line a (is_utf8 line)) (short line h.short) ∙ ap (choice line false) h.text
    ∙ ap (line_faults (length line)) (words-are (chars line) ws h.cut)

first_fault : (line : List ℕ) (f : ParseFault) → Refuses line f → first_of (faults_of line) ≡ Some f
unfolding choice
first_fault line f (Refuses.long l) = ap (λ a. first_of (choice line a (is_utf8 line))) (long line l)
first_fault line f (Refuses.no_text l e) = ap (λ a. first_of (choice line a (is_utf8 line))) (short line l)
    ∙ ap (λ b. first_of (choice line false b)) e
first_fault line f (Refuses.fault {ws = ws} h e) = ap first_of (words_faults_are line ws h) ∙ e

answer : Option ParseFault → Option Command → Result Command ParseFault
answer o c = elim o [ Some f ↦ Err f | None ↦ command_or c ]

pub relates-reads : (line : List ℕ) (c : Command) → Relates line c → read_line line ≡ Ok c
unfolding answer
relates-reads line c r =
    ap (λ fs. answer (first_of fs) (line_command (words (chars line)))) (words_faults_are line r.words r.has ∙ r.fine)
    ∙ ap command_or (ap line_command (words-are (chars line) r.words r.has.cut) ∙ r.means)

pub refuses-reads : (line : List ℕ) (f : ParseFault) → Refuses line f → read_line line ≡ Err f
unfolding answer
refuses-reads line f r = ap (λ o. answer o (line_command (words (chars line)))) (first_fault line f r)

-- words without a fault mean a command
no-fault : (fs : List ParseFault) → first_of fs ≡ None → fs ≡ []
no-fault [] h = refl
no-fault (f ∷ fs) h = absurd (true≢false (ap is_some h))

means-some : (end : ℕ) (ws : List Word) → first_of (line_faults end ws) ≡ None → is_some (line_command ws) ≡ true
means-some end [] h = absurd (true≢false (ap is_some h))
means-some end (w ∷ ws) h = by w.is_closed (command_named w.text) h
  where
    by : (b : Bool) (o : Option CommandName)
        → first_of (cond b (named_faults o w.place end ws) (at w.place faults.BadQuote ∷ [])) ≡ None
        → is_some (option_and_then (λ n. command_of n (texts_of ws)) o) ≡ true
    by true None k = absurd (true≢false (ap is_some k))
    by true (Some n) k = means_one n (texts_of ws) (fits (takes n) end ws k)
    by false o k = absurd (true≢false (ap is_some k))

abbrev pub Answered : List ℕ → Type 0
Answered line = ((c : Command) × Relates line c) ⊎ ((f : ParseFault) × Refuses line f)

of-words : (line : List ℕ) (ws : List Word) → HasWords line ws → (o : Option ParseFault)
    → first_of (line_faults (length line) ws) ≡ o → Answered line
of-words line ws h (Some f) e = inr (f, Refuses.fault h e)
of-words line ws h None e = means (line_command ws) refl (means-some (length line) ws e)
  where
    means : (c : Option Command) → line_command ws ≡ c → is_some c ≡ true → Answered line
    means None m k = absurd (true≢false (sym k))
    means (Some c) m k = inl
        (c, record { words = ws; has = h; fine = no-fault (line_faults (length line) ws) e; means = m })

pub answered : (line : List ℕ) → Answered line
answered line = by (nat_lt 1024 (length line)) (is_utf8 line) refl refl
  where
    by : (a b : Bool) → nat_lt 1024 (length line) ≡ a → is_utf8 line ≡ b → Answered line
    by true b e g = inr (at 1024 faults.TooLong, Refuses.long (more-than (length line) e))
    by false false e g = inr (at 0 faults.BadWord, Refuses.no_text (at-most (length line) e) g)
    by false true e g =
        of-words line (words (chars line))
        (record { short = at-most (length line) e; text = g; cut = words-cut (chars line) }) _ refl

same-command : (c d : Command) (r : Result Command ParseFault) → r ≡ Ok c → r ≡ Ok d → c ≡ d
same-command c d r h k = let e = sym h ∙ k in cc

same-fault : (f g : ParseFault) (r : Result Command ParseFault) → r ≡ Err f → r ≡ Err g → f ≡ g
same-fault f g r h k = let e = sym h ∙ k in cc

apart : (c : Command) (f : ParseFault) → Ok c ≡ Err f → ⊥
apart c f h = cc

pub reads-relates : (line : List ℕ) (c : Command) → read_line line ≡ Ok c → Relates line c
reads-relates line c h = by (answered line)
  where
    by : Answered line → Relates line c
    by (inl r) = subst (Relates line) (same-command r.0 c (read_line line) (relates-reads line r.0 r.1) h) r.1
    by (inr r) = absurd (apart c r.0 (sym h ∙ refuses-reads line r.0 r.1))

pub reads-refuses : (line : List ℕ) (f : ParseFault) → read_line line ≡ Err f → Refuses line f
reads-refuses line f h = by (answered line)
  where
    by : Answered line → Refuses line f
    by (inl r) = absurd (apart r.0 f (sym (relates-reads line r.0 r.1) ∙ h))
    by (inr r) = subst (Refuses line) (same-fault r.0 f (read_line line) (refuses-reads line r.0 r.1) h) r.1

pub not_both : (line : List ℕ) (c : Command) (f : ParseFault) → Relates line c → Refuses line f → ⊥
not_both line c f r s = apart c f (sym (relates-reads line c r) ∙ refuses-reads line f s)
