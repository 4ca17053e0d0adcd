-- Entries that were printed are read again.
use Rattle.trail_lines.proofs.Vocabulary.{◌≡◌, ℕ, ◌<◌, ◌^◌, List, [], ◌∷◌, ◌++◌, ap, refl, sym, ◌∙◌, arith, append-nil}
use Rattle.trail_lines.proofs.Vocabulary.{append_assoc, Bool, true, false, cond, Option, Some, None, decimal}
use Rattle.trail_lines.proofs.Vocabulary.{map, AllByRecursion, flat_map, bytes_eq, is_utf8, nat_tests, bytes_eq-Decides}
use Rattle.trail_lines.proofs.Vocabulary.{Act, Verdict, Kept, Entry, act_text, verdict_text, ◌>>=◌, words, Field, User}
use Rattle.trail_lines.proofs.Vocabulary.{Number, Serial, Window, Bytes, Text, Title, Value, row_of, word_of, Parts}
use Rattle.trail_lines.proofs.Vocabulary.{blank, field, nobody, fields_in, made_in, all_then, IsAct, IsVerdict}
use Rattle.trail_lines.proofs.Vocabulary.{EventKind, number_again, word_part, IsFree, first_field, one_word, first_word}
use Rattle.trail_lines.proofs.Vocabulary.{checked_text, done_text, tail_text, Said, line_of, Noted, notes_of, tail_of}
use Rattle.trail_lines.proofs.Vocabulary.{tail_in, said_in, if_spelled, read_line, text_field, title_of, window_text}
use Rattle.trail_lines.proofs.Vocabulary.{field_then, parts_then, event_then, reply_text, AreBytes, IsNumberIfAny}
use Rattle.trail_lines.proofs.Vocabulary.{IsField, AreFields, IsEvent, IsEntry, IsSayable, ReadsPrinted, IsSpelledSo}
use Rattle.std.proofs.lemmas.Option.{same_Some}
use Rattle.hub.specs.kept.Kept.TheVariants as kept
use Rattle.line_fields.specs.declared.events.EventKind.TheVariants as kind
use Rattle.line_fields.proofs.Again.{apart_blank, wide, most64, most32, most16, most8, number_at_again, user_at_again}
use Rattle.line_fields.proofs.Again.{act_again, act_free, verdict_again, verdict_free}
use Rattle.line_fields.proofs.Digits.{AreDigits, digits}
use Rattle.line_fields.proofs.EventParts.{kind_again}
use Rattle.line_fields.proofs.ReadBack.{read_back}
use Rattle.line_fields.proofs.Rows.{row_all_again}
use Rattle.trail_lines.specs.Events.{text_in, title_in, window_in, field_at, is_kept, kept_with, event_at}
use Rattle.trail_lines.proofs.Free.{free_part, text_free, window_free, reply_free}
use Rattle.trail_lines.proofs.Replied.{reply_again}

low : 0x20 < 0x21
low = omega arith

-- ---- texts

text_again : (bytes : List ℕ) → AreBytes bytes → text_in (text_field bytes) ≡ Some bytes
text_again bytes all = read_back 0x21 bytes all

title_again : (bytes : List ℕ) → AreBytes bytes → is_utf8 bytes ≡ true → title_in (text_field bytes) ≡ Some bytes
title_again bytes all is = ap (λ o. o >>= title_of) (text_again bytes all) ∙ ap (λ b. cond b (Some bytes) None) is

-- ---- events

word_no_dash : (word : List ℕ) → AreDigits word → bytes_eq word nobody ≡ false
word_no_dash [] all = refl
word_no_dash (c ∷ word) all = grind (arith, nat_tests)

digits_no_dash : (n : ℕ) → n < 2 ^ 8 → bytes_eq (decimal n) nobody ≡ false
digits_no_dash n small = word_no_dash (decimal n) (digits n (wide (2 ^ 8) n small most8))

window_again : (window : Option ℕ) → IsNumberIfAny window → window_in (window_text window) ≡ Some window
window_again None is = refl
window_again (Some n) is = rw (digits_no_dash n is, number_again (2 ^ 8) n is most8) refl

field_again : (f : Field) (v : Value f) (rest : List ℕ) → IsField f v
    → field_at f (field_then f v rest) ≡ Some (v, rest)
field_again User user rest is = user_at_again blank user rest apart_blank is
field_again Number n rest is = number_at_again blank (2 ^ 16) n rest apart_blank is most16
field_again Serial n rest is = number_at_again blank (2 ^ 32) n rest apart_blank is most32
field_again Window window rest is =
    rw (first_field blank (window_text window) rest (window_free blank low window is), window_again window is) refl
field_again Bytes bytes rest is = ap (λ b. Some (b, rest)) (sym is)
field_again Text text rest is =
    rw (first_field blank (text_field text) rest (text_free blank low text), text_again text is) refl
field_again Title title rest is =
    rw (first_field blank (text_field title) rest (text_free blank low title), title_again title is.0 is.1) refl

kind_read : (k : EventKind) (v : Parts k) (rest : List ℕ) → AreFields k v → is_kept k ≡ true
    → event_at (parts_then rest k v) ≡ kept_with (made_in (row_of k) v, rest)
unfolding event_at
kind_read k v rest is kept =
    rw (
      first_field blank (word_of k) (all_then field_then (fields_in (row_of k)) v rest)
          (free_part blank low (word_of k) (word_part k)),
      kind_again k,
      kept,
    ) (ap (λ o. o >>= kept_with) (row_all_again Value field_then field_at IsField field_again (row_of k) v rest is))

event_again : (e : Kept) (rest : List ℕ) → IsEvent e → event_at (event_then e rest) ≡ Some (e, rest)
event_again (kept.Attach user rows columns) rest is = kind_read kind.Attach (user, (rows, (columns, tt))) rest is refl
event_again (kept.Detach client) rest is = kind_read kind.Detach (client, tt) rest is refl
event_again (kept.Keys client) rest is = kind_read kind.Keys (client, ([], tt)) rest is refl
event_again (kept.Command user window line) rest is =
    kind_read kind.Command (user, (window, (line, tt))) rest is refl
event_again (kept.Open user rows columns keep title) rest is =
    kind_read kind.Open (user, (rows, (columns, (keep, (title, tt))))) rest is refl
event_again (kept.Closed window) rest is = kind_read kind.Closed (window, tt) rest is refl

-- ---- what follows an event

abbrev asked : Verdict → List ℕ
asked v = 0x3F ∷ verdict_text v

abbrev did : Act → List ℕ
did a = 0x21 ∷ act_text a

abbrev spaced : List (List ℕ) → List ℕ
spaced [] = []
spaced (word ∷ words) = 0x20 ∷ (word ++ spaced words)

acts_spaced : (acts : List Act) → flat_map done_text acts ≡ spaced (map did acts)
acts_spaced [] = refl
acts_spaced (a ∷ acts) = ap (λ more. 0x20 ∷ 0x21 ∷ (act_text a ++ more)) (acts_spaced acts)

notes_spaced : (verdicts : List Verdict) (acts : List Act)
    → flat_map checked_text verdicts ++ flat_map done_text acts ≡ spaced (map asked verdicts ++ map did acts)
notes_spaced [] acts = acts_spaced acts
notes_spaced (v ∷ verdicts) acts =
    append_assoc (checked_text v) (flat_map checked_text verdicts) (flat_map done_text acts)
    ∙ ap (λ more. 0x20 ∷ 0x3F ∷ (verdict_text v ++ more)) (notes_spaced verdicts acts)

abbrev all_free : List (List ℕ) → Type 0
all_free ws = AllByRecursion (IsFree blank) ws

words_again : (word : List ℕ) (others : List (List ℕ)) → IsFree blank word → all_free others
    → words blank (word ++ spaced others) ≡ word ∷ others
words_again word [] is all = ap (words blank) (append-nil word) ∙ one_word blank word is
words_again word (next ∷ others) is all =
    first_word blank word (next ++ spaced others) is ∙ ap (λ ws. word ∷ ws) (words_again next others all.0 all.1)

acts_free : (acts : List Act) → AllByRecursion IsAct acts → all_free (map did acts)
acts_free [] all = tt
acts_free (a ∷ acts) all = (record { free = (act_free blank apart_blank refl a all.0).free }, acts_free acts all.1)

notes_free : (verdicts : List Verdict) (acts : List Act) → AllByRecursion IsVerdict verdicts → AllByRecursion IsAct acts
    → all_free (map asked verdicts ++ map did acts)
notes_free [] acts all more = acts_free acts more
notes_free (v ∷ verdicts) acts all more =
    (record { free = (verdict_free blank apart_blank refl v all.0).free }, notes_free verdicts acts all.1 more)

acts_again : (acts : List Act) (before : Noted) → AllByRecursion IsAct acts
    → notes_of (map did acts) before ≡ Some (before.0, before.1 ++ acts)
unfolding notes_of
acts_again [] before all = ap (λ acts. Some (before.0, acts)) (sym (append-nil before.1))
acts_again (a ∷ acts) before all =
    rw (act_again a all.0)
    (acts_again acts (before.0, before.1 ++ a ∷ []) all.1
    ∙ ap (λ acts. Some (before.0, acts)) (append_assoc before.1 (a ∷ []) acts))

notes_again : (verdicts : List Verdict) (acts : List Act) (before : Noted) → AllByRecursion IsVerdict verdicts
    → AllByRecursion IsAct acts
    → notes_of (map asked verdicts ++ map did acts) before ≡ Some (before.0 ++ verdicts, before.1 ++ acts)
unfolding notes_of
notes_again [] acts before all more = acts_again acts before more
    ∙ ap (λ verdicts. Some (verdicts, before.1 ++ acts)) (sym (append-nil before.0))
notes_again (v ∷ verdicts) acts before all more =
    rw (verdict_again v all.0)
    (notes_again verdicts acts (before.0 ++ v ∷ [], before.1) all.1 more
    ∙ ap (λ verdicts. Some (verdicts, before.1 ++ acts)) (append_assoc before.0 (v ∷ []) verdicts))

tail_again : (e : Entry) → IsEntry e → tail_in (tail_text e) ≡ Some (e.reply, (e.verdicts, e.acts))
tail_again e is =
    ap (λ more. tail_in (reply_text e.reply ++ more)) (notes_spaced e.verdicts e.acts)
    ∙ ap tail_of
    (words_again (reply_text e.reply) (map asked e.verdicts ++ map did e.acts) (reply_free blank low e.reply is.reply)
    (notes_free e.verdicts e.acts is.verdicts is.acts))
    ∙ rw (reply_again e.reply is.reply, notes_again e.verdicts e.acts ([], []) is.verdicts is.acts) refl

-- ---- lines

said_again : (x : Said) → IsSayable x → said_in (line_of x) ≡ Some x
unfolding said_in
said_again x is =
    let event = event_then x.2.event (tail_text x.2) in
    rw (
      number_at_again blank (2 ^ 64) x.0 (field blank (decimal x.1) event) apart_blank is.0 most64,
      number_at_again
          blank (2 ^ 64) x.1 event apart_blank is.1 most64,
      event_again x.2.event (tail_text x.2) is.2.event,
      tail_again
          x.2 is.2,
    ) refl

same_bytes : (bytes : List ℕ) → bytes_eq bytes bytes ≡ true
same_bytes bytes = (bytes_eq-Decides bytes bytes).1 refl

pub reads_printed : ReadsPrinted
unfolding read_line
reads_printed x is =
    ap (λ o. o >>= if_spelled (line_of x)) (said_again x is) ∙ ap (λ b. cond b (Some x) None) (same_bytes (line_of x))

spelled_where : (line : List ℕ) (x y : Said) (b : Bool) → bytes_eq (line_of x) line ≡ b → cond b (Some x) None ≡ Some y
    → line ≡ line_of y
spelled_where line x y true e is = sym ((bytes_eq-Decides (line_of x) line).0 e) ∙ ap line_of (some_same x y is)
  where
    some_same : (x y : Said) → cond true (Some x) None ≡ Some y → x ≡ y
    some_same x y is = same_Some x y is
spelled_where line x y false e is = cc

spelled_if : (line : List ℕ) (o : Option Said) (y : Said) → (o >>= if_spelled line) ≡ Some y → line ≡ line_of y
spelled_if line None y is = cc
spelled_if line (Some x) y is = spelled_where line x y (bytes_eq (line_of x) line) refl is

pub is_spelled_so : IsSpelledSo
unfolding read_line
is_spelled_so line x is = spelled_if line (said_in line) x is
