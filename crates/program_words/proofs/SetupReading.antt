-- The lines of a file, read one after another.
use Rattle.std.proofs.Common.{◌≡◌, ℕ, ◌+◌, ◌<◌, ◌≤◌, Bool, true, false, List, [], ◌∷◌, ◌++◌, length, map, drop, get_or}
use Rattle.std.proofs.Common.{Option, Some, None, Result, Ok, Err, Bor, refl, sym, ap, subst, ◌∙◌, append_assoc, arith}
use Rattle.std.specs.Prelude.{nat_lt, if◌then◌else◌, IfOk, IfErr}
use Rattle.std.specs.Result.{IsErrAnd}
use Rattle.std.specs.List.{slice_split}
use Rattle.std.specs.Option.{option_or}
use Rattle.std.specs.Str.{IsUtf8, is_utf8}
use Rattle.std.proofs.Math.ListN.{drop_of_length-le}
use Rattle.std.proofs.lemmas.List.{append-nil, drop_more, map_push}
use Rattle.std.proofs.lemmas.Str.{is_utf8-from_IsUtf8, IsUtf8-from_is_utf8}
use Rattle.std.proofs.lemmas.Bool.Decides.{nat_tests}
use Rattle.program_words.specs.declared.setup.SetupLine.{SetupLine}
use Rattle.program_words.specs.declared.setup.SetupFault.{SetupFault}
use Rattle.program_words.specs.declared.setup.SetupFault.TheVariants.{TooLong, NotText}
use Rattle.program_words.specs.SetupLines.{Line, numbered, is_skipped, is_feed, commands_from, commands_in, fault_of}
use Rattle.program_words.specs.SetupLines.{first_fault, line_of}

-- ---- one line

short : (bytes : List ℕ) → length bytes ≤ 1024 → nat_lt 1024 (length bytes) ≡ false
short bytes le = grind (arith, nat_tests, le)

fault_is : (n : ℕ) (bytes : List ℕ) (text : Bool) → length bytes ≤ 1024 → is_utf8 bytes ≡ text
    → fault_of (numbered n bytes) ≡ (if text then None else Some (NotText n))
fault_is n bytes text le is = ap (λ b. if b then Some (TooLong n) else if is_utf8 bytes then None else Some (NotText n))
    (short bytes le) ∙ ap (λ b. if b then None else Some (NotText n)) is

pub is_text : (n : ℕ) (bytes : List ℕ) → length bytes ≤ 1024 → IsUtf8 bytes → fault_of (numbered n bytes) ≡ None
is_text n bytes le is = fault_is n bytes true le (is_utf8-from_IsUtf8 bytes is)

not_utf8 : (bytes : List ℕ) (b : Bool) → is_utf8 bytes ≡ b → (IsUtf8 bytes → ⊥) → is_utf8 bytes ≡ false
not_utf8 bytes true is not = absurd (not (IsUtf8-from_is_utf8 bytes is))
not_utf8 bytes false is not = is

pub no_text : (n : ℕ) (bytes : List ℕ) → length bytes ≤ 1024 → (IsUtf8 bytes → ⊥)
    → fault_of (numbered n bytes) ≡ Some (NotText n)
no_text n bytes le not = fault_is n bytes false le (not_utf8 bytes (is_utf8 bytes) refl not)

-- ---- lines, one after another

behind_fine : (o : Option SetupFault) (ls lms ms : Option SetupFault) → option_or o ls ≡ None → (ls ≡ None → lms ≡ ms)
    → option_or o lms ≡ ms
behind_fine None ls lms ms none rest = rest none
behind_fine (Some f) ls lms ms none rest = absurd (cc (none))

first_behind : (ls ms : List Line) → first_fault ls ≡ None → first_fault (ls ++ ms) ≡ first_fault ms
first_behind [] ms none = refl
first_behind (l ∷ ls) ms none = behind_fine (fault_of l) (first_fault ls) (first_fault (ls ++ ms)) (first_fault ms) none
    (λ rest. first_behind ls ms rest)

-- some lines of a file were read, and `rest` are left: the commands of the former, which have no
-- fault
pub record HaveRead (file : List ℕ) (lines : List Line) (number : ℕ) (rest : List (List ℕ)) : Type 0 where
  pub sound : first_fault lines ≡ None
  pub whole : commands_in file ≡ lines ++ commands_from (number + 1) rest

pub none_read : (file : List ℕ) → HaveRead file [] 0 (slice_split is_feed file)
none_read file = record { sound = refl; whole = refl }

skips : (n : ℕ) (x : List ℕ) (rest : List (List ℕ)) (b : Bool) → is_skipped x ≡ b
    → commands_from n (x ∷ rest) ≡ (if b then commands_from (n + 1) rest else numbered n x ∷ commands_from (n + 1) rest)
skips n x rest b is = ap (λ c. if c then commands_from (n + 1) rest else numbered n x ∷ commands_from (n + 1) rest) is

pub skipped : (file : List ℕ) (lines : List Line) (n : ℕ) (x : List ℕ) (rest : List (List ℕ)) → is_skipped x ≡ true
    → HaveRead file lines n (x ∷ rest) → HaveRead file lines (n + 1) rest
skipped file lines n x rest is h = record {
  sound = h.sound;
  whole = h.whole ∙ ap (λ ls. lines ++ ls) (skips (n + 1) x rest true is);
}

pub pushed : (file : List ℕ) (lines : List Line) (n : ℕ) (x : List ℕ) (rest : List (List ℕ)) → is_skipped x ≡ false
    → fault_of (numbered (n + 1) x) ≡ None
    → HaveRead file lines n (x ∷ rest) → HaveRead file (lines ++ numbered (n + 1) x ∷ []) (n + 1) rest
pushed file lines n x rest is fine h = record {
  sound = first_behind lines (numbered (n + 1) x ∷ []) h.sound ∙ ap (λ o. option_or o None) fine;
  whole = h.whole
      ∙
      (ap (λ ls. lines ++ ls) (skips (n + 1) x rest false is)
      ∙ sym (append_assoc lines (numbered (n + 1) x ∷ []) (commands_from (n + 1 + 1) rest)));
}

pub stopped : (file : List ℕ) (lines : List Line) (n : ℕ) (x : List ℕ) (rest : List (List ℕ)) (fault : SetupFault)
    → is_skipped x ≡ false
    → fault_of (numbered (n + 1) x) ≡ Some fault
    → HaveRead file lines n (x ∷ rest) → first_fault (commands_in file) ≡ Some fault
stopped file lines n x rest fault is bad h =
    ap first_fault (h.whole ∙ ap (λ ls. lines ++ ls) (skips (n + 1) x rest false is))
    ∙ (first_behind lines (numbered (n + 1) x ∷ commands_from (n + 1 + 1) rest) h.sound
    ∙ ap (λ o. option_or o (first_fault (commands_from (n + 1 + 1) rest))) bad)

pub all_read : (file : List ℕ) (lines : List Line) (n : ℕ) → HaveRead file lines n []
    → (lines ≡ commands_in file) × (first_fault (commands_in file) ≡ None)
all_read file lines n h =
    let is : commands_in file ≡ lines = h.whole ∙ append-nil lines in (sym is, ap first_fault is ∙ h.sound)

-- ---- by places

abbrev pub texts : List (Bor (List ℕ)) → List (List ℕ)
texts parts = map (λ x. x.now) parts

next : (parts : List (Bor (List ℕ))) (i : ℕ) (d : Bor (List ℕ)) → i < length parts
    → texts (drop i parts) ≡ (get_or parts i d).now ∷ texts (drop (i + 1) parts)
next parts i d lt = ap texts (drop_more parts i d lt)

pub skip_at : (file : List ℕ) (old new : List SetupLine) (parts : List (Bor (List ℕ))) (i : ℕ) (d : Bor (List ℕ))
    (b : Bool) → i < length parts
    → b ≡ is_skipped (get_or parts i d).now → b ≡ true → new ≡ old
    → HaveRead file (map line_of old) i (texts (drop i parts))
    → HaveRead file (map line_of new) (i + 1) (texts (drop (i + 1) parts))
skip_at file old new parts i d b lt is hash same h =
    subst (λ ls. HaveRead file (map line_of ls) (i + 1) (texts (drop (i + 1) parts))) (sym same)
    (skipped file (map line_of old) i (get_or parts i d).now (texts (drop (i + 1) parts)) (sym is ∙ hash)
    (subst (λ rest. HaveRead file (map line_of old) i rest) (next parts i d lt) h))

pub push_at : (file : List ℕ) (old new : List SetupLine) (line : SetupLine) (parts : List (Bor (List ℕ))) (i : ℕ)
    (d : Bor (List ℕ)) (b : Bool) → i < length parts
    → b ≡ is_skipped (get_or parts i d).now → b ≡ false
    → line.number ≡ i + 1 → line.text.now ≡ (get_or parts i d).now
    → fault_of (numbered line.number (get_or parts i d).now) ≡ None
    → new ≡ old ++ line ∷ []
    → HaveRead file (map line_of old) i (texts (drop i parts))
    → HaveRead file (map line_of new) (i + 1) (texts (drop (i + 1) parts))
push_at file old new line parts i d b lt is other number text fine pushes h =
    let here : line_of line ≡ numbered (i + 1) (get_or parts i d).now = ap (λ n. numbered n line.text.now) number
    ∙ ap (λ t. numbered (i + 1) t) text in
    subst (λ ls. HaveRead file ls (i + 1) (texts (drop (i + 1) parts)))
    (sym (ap (λ ls. map line_of ls) pushes ∙ (map_push line_of old line ∙ ap (λ l. map line_of old ++ l ∷ []) here)))
    (pushed file (map line_of old) i (get_or parts i d).now (texts (drop (i + 1) parts)) (sym is ∙ other)
    (ap (λ n. fault_of (numbered n (get_or parts i d).now)) (sym number) ∙ fine)
    (subst (λ rest. HaveRead file (map line_of old) i rest) (next parts i d lt) h))

pub stop_at : (file : List ℕ) (lines : List Line) (parts : List (Bor (List ℕ))) (i n : ℕ) (d : Bor (List ℕ)) (b : Bool)
    (fault : SetupFault) → i < length parts
    → b ≡ is_skipped (get_or parts i d).now → b ≡ false
    → n ≡ i + 1 → fault_of (numbered n (get_or parts i d).now) ≡ Some fault
    → HaveRead file lines i (texts (drop i parts)) → first_fault (commands_in file) ≡ Some fault
stop_at file lines parts i n d b fault lt is other number bad h =
    stopped file lines i (get_or parts i d).now (texts (drop (i + 1) parts)) fault (sym is ∙ other)
    (ap (λ m. fault_of (numbered m (get_or parts i d).now)) (sym number) ∙ bad)
    (subst (λ rest. HaveRead file lines i rest) (next parts i d lt) h)

pub begin_at : (file : List ℕ) (lines : List SetupLine) (parts : List (Bor (List ℕ))) → lines ≡ []
    → texts parts ≡ slice_split is_feed file → HaveRead file (map line_of lines) 0 (texts parts)
begin_at file lines parts none all =
    subst (λ ls. HaveRead file (map line_of ls) 0 (texts parts)) (sym none)
    (subst (λ rest. HaveRead file [] 0 rest) (sym all) (none_read file))

pub end_at : (file : List ℕ) (lines : List Line) (parts : List (Bor (List ℕ))) (i : ℕ) → length parts ≤ i
    → HaveRead file lines i (texts (drop i parts))
    → (lines ≡ commands_in file) × (first_fault (commands_in file) ≡ None)
end_at file lines parts i le h = all_read file lines i
    (subst (λ rest. HaveRead file lines i rest) (ap texts (drop_of_length-le parts le)) h)

-- ---- what calls return

pub of_ok : {X E : Type 0} (r : Result X E) (x : X) (P : X → Type 0) → r ≡ Ok x → IfOk r P → P x
of_ok r x P is h = subst (λ s. IfOk s P) is h

pub if_err : {X : Type 0} (r : Result X SetupFault) (e : SetupFault) (P : SetupFault → Type 0) → IsErrAnd r (λ f. f ≡ e)
    → P e → IfErr r P
if_err (Ok x) e P is h = absurd is
if_err (Err f) e P is h = subst P (sym is) h
