-- The line of an entry has no line feed.
use Rattle.trail_lines.proofs.Vocabulary.{◌≡◌, ℕ, ◌<◌, ◌^◌, List, [], ◌∷◌, ◌++◌, refl, arith, codes, decimal}
use Rattle.trail_lines.proofs.Vocabulary.{AllByRecursion, flat_map, Act, name_of, Verdict, Kept, Entry, act_text}
use Rattle.trail_lines.proofs.Vocabulary.{verdict_text, Field, User, Number, Serial, Window, Bytes, Text, Title, Value}
use Rattle.trail_lines.proofs.Vocabulary.{row_of, word_of, Parts, blank, field, fields_in, IsAct, IsVerdict, EventKind}
use Rattle.trail_lines.proofs.Vocabulary.{word_part, all_free, IsFree, free_append, checked_text, done_text, tail_text}
use Rattle.trail_lines.proofs.Vocabulary.{Said, line_of, text_field, window_text, field_then, parts_then, event_then}
use Rattle.trail_lines.proofs.Vocabulary.{feed, reply_text, IsField, AreFields, IsEvent, IsEntry, IsSayable}
use Rattle.hub.specs.kept.Kept.TheVariants as kept
use Rattle.line_fields.specs.declared.events.EventKind.TheVariants as kind
use Rattle.line_fields.proofs.Again.{IsApart, number_part, act_free, verdict_free}
use Rattle.trail_lines.proofs.Free.{low_apart, free_part, name_free, serial_free, half_free, text_free, window_free}
use Rattle.trail_lines.proofs.Free.{reply_free}

low : 0x0A < 0x21
low = omega arith

apart : IsApart feed
apart = low_apart feed low

-- ---- fields one after another, each ended by a blank

blank_free : (a b : List ℕ) → IsFree feed a → IsFree feed b → IsFree feed (field blank a b)
blank_free a b f g = free_append feed a (blank ∷ b) f (record { free = g.free })

long_free : (n : ℕ) → n < 2 ^ 64 → IsFree feed (decimal n)
long_free n small = free_part feed low (decimal n) (number_part n small)

field_free : (f : Field) (v : Value f) (rest : List ℕ) → IsField f v → IsFree feed rest
    → IsFree feed (field_then f v rest)
field_free User user rest is f = blank_free (name_of user) rest (name_free feed low user is) f
field_free Number n rest is f = blank_free (decimal n) rest (half_free feed low n is) f
field_free Serial n rest is f = blank_free (decimal n) rest (serial_free feed low n is) f
field_free Window window rest is f = blank_free (window_text window) rest (window_free feed low window is) f
field_free Bytes bytes rest is f = f
field_free Text text rest is f = blank_free (text_field text) rest (text_free feed low text) f
field_free Title title rest is f = blank_free (text_field title) rest (text_free feed low title) f

kind_free : (k : EventKind) (v : Parts k) (rest : List ℕ) → AreFields k v → IsFree feed rest
    → IsFree feed (parts_then rest k v)
kind_free k v rest is f = blank_free (word_of k) _ (free_part feed low (word_of k) (word_part k))
    (all_free Value feed field_then IsField field_free (fields_in (row_of k)) v rest is f)

event_free : (e : Kept) (rest : List ℕ) → IsEvent e → IsFree feed rest → IsFree feed (event_then e rest)
event_free (kept.Attach user rows columns) rest is f = kind_free kind.Attach (user, (rows, (columns, tt))) rest is f
event_free (kept.Detach client) rest is f = kind_free kind.Detach (client, tt) rest is f
event_free (kept.Keys client) rest is f = kind_free kind.Keys (client, ([], tt)) rest is f
event_free (kept.Command user window line) rest is f =
    kind_free kind.Command (user, (window, (line, tt))) rest is f
event_free (kept.Open user rows columns keep title) rest is f =
    kind_free kind.Open (user, (rows, (columns, (keep, (title, tt))))) rest is f
event_free (kept.Closed window) rest is f = kind_free kind.Closed (window, tt) rest is f

checks_free : (verdicts : List Verdict) → AllByRecursion IsVerdict verdicts
    → IsFree feed (flat_map checked_text verdicts)
checks_free [] all = record { free = refl }
checks_free (v ∷ verdicts) all =
    free_append feed (checked_text v) (flat_map checked_text verdicts)
    (free_append feed (codes " ?") (verdict_text v) (record { free = refl }) (verdict_free feed apart refl v all.0))
    (checks_free verdicts all.1)

acts_free : (acts : List Act) → AllByRecursion IsAct acts → IsFree feed (flat_map done_text acts)
acts_free [] all = record { free = refl }
acts_free (a ∷ acts) all = free_append feed (done_text a) (flat_map done_text acts)
    (free_append feed (codes " !") (act_text a) (record { free = refl }) (act_free feed apart refl a all.0))
    (acts_free acts all.1)

tail_free : (e : Entry) → IsEntry e → IsFree feed (tail_text e)
tail_free e is =
    free_append feed (reply_text e.reply) _ (reply_free feed low e.reply is.reply)
    (free_append feed (flat_map checked_text e.verdicts) (flat_map done_text e.acts)
    (checks_free e.verdicts is.verdicts) (acts_free e.acts is.acts))

pub line_free : (x : Said) → IsSayable x → IsFree feed (line_of x)
line_free x is = blank_free (decimal x.0) _ (long_free x.0 is.0)
    (blank_free (decimal x.1) _ (long_free x.1 is.1)
    (event_free x.2.event (tail_text x.2) is.2.event (tail_free x.2 is.2)))
