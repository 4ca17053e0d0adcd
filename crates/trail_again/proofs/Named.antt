-- Users who become known by the entries of a file have names.
use Rattle.trail_again.proofs.Vocabulary.{◌≡◌, ◌∙◌, ℕ, zero, suc, Bool, true, false, List, [], ◌∷◌, ◌++◌, refl, ap}
use Rattle.trail_again.proofs.Vocabulary.{subst, if◌then◌else◌, Option, Some, None, length, arith, ◌==◌, ◌-◌, ◌^◌}
use Rattle.trail_again.proofs.Vocabulary.{option_map, replicate, AllByRecursion, list_all, nat_tests, bytes_eq}
use Rattle.trail_again.proofs.Vocabulary.{same_user-refl, Act, UserId, History, followed_by, users_after, users_of}
use Rattle.trail_again.proofs.Vocabulary.{without_user, before_zero, is_name, is_name_byte, name_of, named_by}
use Rattle.trail_again.proofs.Vocabulary.{same_user, and-parts, blank, colon, entries_in}
use Rattle.acl.specs.declared.act.Act.TheVariants as act
use Rattle.hub.specs.Trails.{Ending}
use Rattle.line_fields.specs.Acts.{ActRow, PartKind, Value, part_in, rest_in, row_of, verdict_in}
unfoldable use Rattle.line_fields.specs.Acts.{act_in, kind_in}
use Rattle.line_fields.specs.Cutting.{◌>>=◌, words}
unfoldable use Rattle.line_fields.specs.Cutting.{cut}
use Rattle.line_fields.specs.Numbers.{number_at}
use Rattle.line_fields.specs.Rows.{Maker, Values, fields_in, made_by, made_in, read_between, read_in, row}
use Rattle.line_fields.specs.declared.acts.ActKind.{ActKind}
use Rattle.line_fields.specs.declared.acts.ActKind.TheVariants as kind
use Rattle.session.proofs.Lists.{all_append}
use Rattle.trail_lines.specs.Entries.{Noted, Said, if_spelled, line_of, note_in, noting, tail_in, tail_of}
unfoldable use Rattle.trail_lines.specs.Entries.{notes_of, read_line, said_in}
use Rattle.trail_lines.specs.Halting.{AreRead}
use Rattle.trail_lines.specs.Replies.{reply_in}
use Rattle.trail_lines.specs.Events.{event_at}
use Rattle.trail_lines.specs.declared.entries.Remark.{Remark}
use Rattle.trail_lines.specs.declared.entries.Remark.TheVariants as note
use Rattle.trail_again.proofs.Trails.{acts_of}
use Rattle.trail_again.proofs.Wording.{HasName, bytes_of_name}

-- ---- what is read, if something is

some_of : {A B : Type 0} (o : Option A) (f : A → Option B) (y : B) → o >>= f ≡ Some y
    → (x : A) × (o ≡ Some x) × (f x ≡ Some y)
some_of None f y e = absurd (cc (e))
some_of (Some x) f y e = (x, refl, e)

map_some : {A B : Type 0} (f : A → B) (o : Option A) (y : B) → option_map f o ≡ Some y
    → (x : A) × (o ≡ Some x) × (f x ≡ y)
map_some f None y e = absurd (cc (e))
map_some f (Some x) y e = (x, refl, cc (e))

if_some : {A : Type 0} (b : Bool) (x y : A) → (if b then Some x else None) ≡ Some y → (b ≡ true) × (x ≡ y)
if_some true x y e = (refl, cc (e))
if_some false x y e = absurd (cc (e))

-- ---- names

not_zero : (b : ℕ) → is_name_byte b ≡ true → (b == 0) ≡ false
not_zero b is = grind (arith, nat_tests)

name_bytes : (word : List ℕ) (k : ℕ) → list_all is_name_byte word ≡ true → before_zero (word ++ replicate k 0) ≡ word
name_bytes [] zero all = refl
name_bytes [] (suc k) all = refl
name_bytes (b ∷ word) k all =
    let both = and-parts (is_name_byte b) (list_all is_name_byte word) all in
    ap (λ c. if c then [] else b ∷ before_zero (word ++ replicate k 0)) (not_zero b both.0)
    ∙ ap (λ xs. b ∷ xs) (name_bytes word k both.1)

named_again : (word : List ℕ) (u : UserId) → named_by word ≡ Some u → HasName u
named_again word u e =
    let of : UserId = record { name = word ++ replicate (20 - length word) 0 } in
    let is = if_some (is_name word) of u e in
    let same : name_of of ≡ word = name_bytes word (20 - length word) (bytes_of_name word is.0) in
    subst HasName is.1 (ap named_by same ∙ ap (λ b. if b then Some of else None) is.0)

-- ---- acts

-- who becomes known has a name
abbrev pub IsNaming : Act → Type 0
IsNaming (act.Known u) = HasName u
IsNaming a = Unit {0}

made : (fs : List PartKind) (make : Maker Value Act fs) (bytes : List ℕ) (a : Act)
    → read_between Value colon part_in fs make bytes ≡ Some a
    → ((v : Values Value fs) → IsNaming (made_by Value fs make v)) → IsNaming a
made [] make bytes a e all = absurd (cc (e))
made (f ∷ []) make bytes a e all =
    let m = map_some make (part_in f bytes) a e in subst IsNaming m.2 (all (m.0, tt))
made (f ∷ g ∷ fs) make bytes a e all =
    let m = some_of _ (λ x. read_between Value colon part_in (g ∷ fs) (make x.0) x.1) a e in
    made (g ∷ fs) (make m.0.0) m.0.1 a m.2 (λ v. all (m.0.0, v))

made_row : (r : ActRow) (bytes : List ℕ) (a : Act) → read_in colon part_in r bytes ≡ Some a
    → ((v : Values Value (fields_in r)) → IsNaming (made_in r v)) → IsNaming a
made_row (row word fields make) bytes a e all = made fields make bytes a e all

rest_named : (k : ActKind) (rest : List ℕ) (a : Act) → rest_in k rest ≡ Some a → IsNaming a
rest_named kind.Known rest a e =
    let m = map_some act.Known (named_by rest) a e in subst IsNaming m.2 (named_again rest m.0 m.1)
rest_named k rest a e = made_row (row_of k) rest a e (λ v. tt)

act_named : (word : List ℕ) (a : Act) → act_in word ≡ Some a → IsNaming a
unfolding act_in
act_named word a e =
    let parts = some_of (cut colon word) (λ parts. kind_in parts.0 >>= λ k. rest_in k parts.1) a e in
    let k = some_of (kind_in parts.0.0) (λ k. rest_in k parts.0.1) a parts.2 in
    rest_named k.0 parts.0.1 a k.2

-- ---- entries

abbrev NoteNamed : Remark → Type 0
NoteNamed (note.Checked v) = Unit {0}
NoteNamed (note.Done a) = IsNaming a

note_named : (word : List ℕ) (n : Remark) → note_in word ≡ Some n → NoteNamed n
note_named [] n e = absurd (cc (e))
note_named (first ∷ rest) n e = on (first == 0x3F) (first == 0x21) e where
  on : (b c : Bool) → (if b then option_map note.Checked (verdict_in rest)
      else if c then option_map note.Done (act_in rest) else None) ≡ Some n → NoteNamed n
  on true c e = let m = map_some note.Checked (verdict_in rest) n e in subst NoteNamed m.2 tt
  on false true e = let m = map_some note.Done (act_in rest) n e in subst NoteNamed m.2 (act_named rest m.0 m.1)
  on false false e = absurd (cc (e))

notes_named : (ws : List (List ℕ)) (before after : Noted) → notes_of ws before ≡ Some after
    → AllByRecursion IsNaming before.1 → AllByRecursion IsNaming after.1
unfolding notes_of
notes_named [] before after e all =
    let same : before ≡ after = cc (e) in subst (λ (n : Noted). AllByRecursion IsNaming n.1) same all
notes_named (word ∷ ws) before after e all =
    let n = some_of (note_in word) (λ n. notes_of ws (noting before n)) after e in
    notes_named ws (noting before n.0) after n.2 (also n.0 (note_named word n.0 n.1)) where
      also : (n : Remark) → NoteNamed n → AllByRecursion IsNaming (noting before n).1
      also (note.Checked v) is = all
      also (note.Done a) is = all_append IsNaming before.1 (a ∷ []) all (is, tt)

tail_named : (ws : List (List ℕ)) (t : Ending × Noted) → tail_of ws ≡ Some t → AllByRecursion IsNaming t.1.1
tail_named [] t e = absurd (cc (e))
tail_named (word ∷ ws) t e =
    let r = some_of (reply_in word) _ t e in
    let n = some_of (notes_of ws ([], [])) _ t r.2 in
    let same : (r.0, n.0) ≡ t = cc (n.2) in
    subst (λ (t : Ending × Noted). AllByRecursion IsNaming t.1.1) same (notes_named ws ([], []) n.0 n.1 tt)

said_named : (line : List ℕ) (x : Said) → said_in line ≡ Some x → AllByRecursion IsNaming x.2.acts
unfolding said_in
said_named line x e =
    let p = some_of (number_at (2 ^ 64) blank line) _ x e in
    let ms = some_of (number_at (2 ^ 64) blank p.0.1) _ x p.2 in
    let event = some_of (event_at ms.0.1) _ x ms.2 in
    let tail = some_of (tail_in event.0.1) _ x event.2 in
    let made : Said = (
      p.0.0,
      ms.0.0,
      record { event = event.0.0; verdicts = tail.0.1.0; acts = tail.0.1.1; reply = tail.0.0 },
    ) in
    let same : made ≡ x = cc (tail.2) in
    subst (λ (x : Said). AllByRecursion IsNaming x.2.acts) same (tail_named (words blank event.0.1) tail.0 tail.1)

read_named : (line : List ℕ) (x : Said) → read_line line ≡ Some x → AllByRecursion IsNaming x.2.acts
unfolding read_line
read_named line x e =
    let said = some_of (said_in line) (if_spelled line) x e in
    let same = if_some (bytes_eq (line_of said.0) line) said.0 x said.2 in
    said_named line x (said.1 ∙ ap (λ (y : Said). Some y) same.1)

pub all_named : (said : List Said) (bytes rest : List ℕ) → AreRead said bytes rest
    → AllByRecursion IsNaming (acts_of (entries_in said))
all_named [] bytes rest read = tt
all_named (x ∷ said) bytes rest read =
    all_append IsNaming x.2.acts (acts_of (entries_in said)) (read_named read.0 x read.4)
    (all_named said read.1 rest read.5)

-- ---- users

module _ (owner : UserId) where
  abbrev pub IfOther : UserId → Type 0
  IfOther u = same_user owner u ≡ false → HasName u

  without : (u : UserId) (us : List UserId) → AllByRecursion IfOther us → AllByRecursion IfOther (without_user u us)
  without u [] all = tt
  without u (v ∷ us) all = on (same_user u v) (without u us all.1) where
    on : (b : Bool) → AllByRecursion IfOther (without_user u us)
        → AllByRecursion IfOther (if b then us else v ∷ without_user u us)
    on true rest = all.1
    on false rest = (all.0, rest)

  named_after : (a : Act) (us : List UserId) → IsNaming a → AllByRecursion IfOther us
      → AllByRecursion IfOther (users_after a us)
  named_after (act.Known u) us is all = all_append IfOther us (u ∷ []) all ((λ other. is), tt)
  named_after (act.Gone u) us is all = without u us all
  named_after _ us is all = all

  users_named : (acts : List Act) (h : History) → AllByRecursion IsNaming acts
      → AllByRecursion IfOther (users_of owner h) → AllByRecursion IfOther (users_of owner (followed_by h acts))
  users_named [] h acts us = us
  users_named (a ∷ acts) h named us =
      users_named acts (a ∷ h) named.1 (named_after a (users_of owner h) named.0 us)

  pub known_named : (acts : List Act) → AllByRecursion IsNaming acts
      → AllByRecursion IfOther (users_of owner (followed_by [] acts))
  known_named acts named = users_named acts [] named ((λ other. absurd (cc (other, same_user-refl owner))), tt)

  pub others_named : (us : List UserId) → AllByRecursion IfOther us
      → AllByRecursion (λ u. same_user owner u ≡ false) us → AllByRecursion HasName us
  others_named [] named apart = tt
  others_named (u ∷ us) named apart = (named.0 apart.0, others_named us named.1 apart.1)
