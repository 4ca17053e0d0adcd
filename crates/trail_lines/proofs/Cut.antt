-- A file that is cut reads as the entries whose line is whole.
use Rattle.trail_lines.proofs.Vocabulary.{◌≡◌, ◌∙◌, ℕ, suc, ◌+◌, ◌≤◌, List, [], ◌∷◌, ◌++◌, Some, take, length, refl, ap}
use Rattle.trail_lines.proofs.Vocabulary.{sym, arith, append_assoc, append-nil, length-append, Bool, true, false, cond}
use Rattle.trail_lines.proofs.Vocabulary.{not, ◌==◌, ◌&&◌, ◌⊎◌, list_all, ◌>>=◌, is_other, Said, line_of, feed}
use Rattle.std.proofs.Common.{zero, ⊎_elim, inl, inr}
use Rattle.std.proofs.lemmas.Bool.{and_parts}
use Rattle.trail_lines.proofs.Told.{reads_printed}
use Rattle.trail_lines.specs.Files.{ended_line, text_of, lines_from, read_lines, read_file, CutFilesAreRead}
use Rattle.trail_lines.specs.Files.{ReadIsTheFile}
use Rattle.trail_lines.proofs.Unbroken.{line_free}

is_not : (b : Bool) → not b ≡ true → b ≡ false
is_not true e = cc
is_not false e = refl

no_line : (begun bytes : List ℕ) → list_all (is_other feed) bytes ≡ true → lines_from begun bytes ≡ []
no_line begun [] all = refl
no_line begun (b ∷ bytes) all =
    let both = and_parts (is_other feed b) (list_all (is_other feed) bytes) all in
    ap (λ t. cond t (begun ∷ lines_from [] bytes) (lines_from (begun ++ b ∷ []) bytes)) (is_not (b == feed) both.0)
    ∙ no_line (begun ++ b ∷ []) bytes both.1

one_line : (begun word rest : List ℕ) → list_all (is_other feed) word ≡ true
    → lines_from begun (word ++ feed ∷ rest) ≡ (begun ++ word) ∷ lines_from [] rest
one_line begun [] rest all = ap (λ line. line ∷ lines_from [] rest) (sym (append-nil begun))
one_line begun (b ∷ word) rest all =
    let both = and_parts (is_other feed b) (list_all (is_other feed) word) all in
    ap (λ t. cond t (begun ∷ lines_from [] (word ++ feed ∷ rest)) (lines_from (begun ++ b ∷ []) (word ++ feed ∷ rest)))
    (is_not (b == feed) both.0)
    ∙ one_line (begun ++ b ∷ []) word rest both.1
    ∙ ap (λ line. line ∷ lines_from [] rest) (append_assoc begun (b ∷ []) word)

taken : (n : ℕ) (bytes : List ℕ) → list_all (is_other feed) bytes ≡ true
    → list_all (is_other feed) (take n bytes) ≡ true
taken zero bytes all = refl
taken (suc n) [] all = refl
taken (suc n) (b ∷ bytes) all =
    let both = and_parts (is_other feed b) (list_all (is_other feed) bytes) all in
    (λ i. both.0 i && taken n bytes both.1 i)

-- a cut within a line, or after its line feed
abbrev Cuts : List ℕ → List ℕ → ℕ → Type 0
Cuts word rest n =
    ((take n (word ++ feed ∷ rest) ≡ take n word) × (n ≤ length word))
    ⊎ ((m : ℕ) × (n ≡ length word + suc m) × (take n (word ++ feed ∷ rest) ≡ word ++ feed ∷ take m rest))

cuts : (word rest : List ℕ) (n : ℕ) → Cuts word rest n
cuts [] rest zero = inl (refl, omega arith)
cuts [] rest (suc m) = inr (m, omega arith, refl)
cuts (b ∷ word) rest zero = inl (refl, omega arith)
cuts (b ∷ word) rest (suc n) = ⊎_elim
    (λ c. inl (ap (λ bytes. b ∷ bytes) c.0, omega (arith, c.1)))
    (λ c. inr (c.0, omega (arith, c.1), ap (λ bytes. b ∷ bytes) c.2))
    (cuts word rest n)

first_line : (x : Said) (rest : List ℕ) → ended_line x ++ rest ≡ line_of x ++ feed ∷ rest
first_line x rest = append_assoc (line_of x) (feed ∷ []) rest

longer : (x : Said) (rest : List ℕ) → length (ended_line x ++ rest) ≡ length (line_of x) + suc (length rest)
longer x rest = ap length (first_line x rest) ∙ length-append (line_of x) (feed ∷ rest)

no_text : (n : ℕ) → take n (text_of []) ≡ []
no_text zero = refl
no_text (suc n) = refl

pub cut_read : CutFilesAreRead
cut_read [] all n =
    (0, record { within = omega arith; no_more = λ less. absurd (omega (arith, less)) }, ap read_file (no_text n))
cut_read (x ∷ said) all n =
    let free = line_free x all.0 in
    let text = first_line x (text_of said) in ⊎_elim
    (λ c. (
      0,
      record { within = omega arith; no_more = λ less. omega (arith, c.1, longer x []) },
      ap (λ bytes. read_file (take n bytes)) text ∙ ap read_file c.0
          ∙ ap read_lines (no_line [] (take n (line_of x)) (taken n (line_of x) free.free)),
    ))
    (λ c.
    let behind = cut_read said all.1 c.0 in (
      suc behind.0,
      record {
        within = omega (arith, c.1, behind.1.within, longer x (text_of (take behind.0 said)));
        no_more = λ less. let more = behind.1.no_more (omega (arith, less)) in
            omega (arith, c.1, more, longer x (text_of (take (suc behind.0) said)));
      },
      ap (λ bytes. read_file (take n bytes)) text ∙ ap read_file c.2
          ∙ ap read_lines (one_line [] (line_of x) (take c.0 (text_of said)) free.free)
          ∙ ap (λ o. o >>= λ y. read_file (take c.0 (text_of said)) >>= λ ys. Some (y ∷ ys)) (reads_printed x all.0)
          ∙ ap (λ o. o >>= λ ys. Some (x ∷ ys)) behind.2,
    ))
    (cuts (line_of x) (text_of said) n)

-- what was read of a file, line by line, is all that it reads as
pub file_read : ReadIsTheFile
file_read [] bytes rest same unbroken = ap read_file same ∙ ap read_lines (no_line [] rest unbroken)
file_read (x ∷ said) bytes rest a unbroken =
    ap read_file a.2.1 ∙ ap read_lines (one_line [] a.0 a.1 a.2.0)
    ∙ ap (λ o. o >>= λ y. read_file a.1 >>= λ ys. Some (y ∷ ys)) a.4
    ∙ ap (λ o. o >>= λ ys. Some (x ∷ ys)) (file_read said a.1 rest a.5 unbroken)
