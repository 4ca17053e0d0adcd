-- The words of acts and verdicts.
use Rattle.std.specs.Prelude.{ℕ, ◌^◌, Bool, if◌then◌else◌, List, [], ◌∷◌, ◌++◌, Option, Some, find, codes, decimal}
use Rattle.std.specs.Str.{bytes_eq}
use Rattle.acl.specs.declared.act.Act.{Act}
use Rattle.acl.specs.declared.act.Act.TheVariants as act
use Rattle.acl.specs.declared.act.LockMode.{LockMode}
use Rattle.acl.specs.declared.act.Object.{Object}
use Rattle.acl.specs.declared.act.PresetKind.{PresetKind}
use Rattle.acl.specs.declared.bits.BitChange.{BitChange}
use Rattle.acl.specs.declared.user_id.UserId.{UserId}
use Rattle.acl.specs.Names.{name_of, named_by}
use Rattle.session_model.specs.declared.refusal.Verdict.{Verdict}
use Rattle.session_model.specs.declared.refusal.Verdict.TheVariants as verdict
use Rattle.line_fields.specs.Cutting.{◌>>=◌, cut}
use Rattle.line_fields.specs.Numbers.{number_below, number_at}
use Rattle.line_fields.specs.Parts.{colon, field, user_at, user_text, user_in, change_text, change_in}
use Rattle.line_fields.specs.Parts.{object_text, object_in, mode_text, mode_in, preset_text, preset_in}
use Rattle.line_fields.specs.Rows.{Row, row, Values, word_in, fields_in, after_each, read_in}
use Rattle.line_fields.specs.declared.acts.ActKind.{ActKind}
use Rattle.line_fields.specs.declared.acts.ActKind.TheVariants as kind
use Rattle.line_fields.specs.declared.acts.Part.{Part}
use Rattle.line_fields.specs.declared.acts.Part.TheVariants as part

-- ---- the parts of an act

-- the object of a part is its target
pub data PartKind : Type 0 where
  User : PartKind
  Leader : PartKind
  Serial : PartKind
  Change : PartKind
  Target : PartKind
  Mode : PartKind
  Preset : PartKind

abbrev pub Value : PartKind → Type 0
Value User = UserId
Value Leader = Option UserId
Value Serial = ℕ
Value Change = BitChange
Value Target = Object
Value Mode = LockMode
Value Preset = PresetKind

abbrev pub part_text : (p : PartKind) → Value p → List ℕ
part_text User user = name_of user
part_text Leader user = user_text user
part_text Serial serial = decimal serial
part_text Change change = change_text change.bit change.value
part_text Target o = object_text o
part_text Mode m = mode_text m
part_text Preset p = preset_text p

abbrev pub part_in : (p : PartKind) → List ℕ → Option (Value p)
part_in User word = named_by word
part_in Leader word = user_in word
part_in Serial word = number_below (2 ^ 32) word
part_in Change word = change_in word
part_in Target word = object_in word
part_in Mode word = mode_in word
part_in Preset word = preset_in word

-- ---- the table of acts: `set:bob:-w:3`

abbrev pub ActRow : Type 0
ActRow = Row Value Act

abbrev pub row_of : ActKind → ActRow
row_of kind.Known = row (codes "known") (User ∷ []) act.Known
row_of kind.Gone = row (codes "gone") (User ∷ []) act.Gone
row_of kind.Set = row (codes "set") (User ∷ Change ∷ Target ∷ []) (λ u c o. act.Set u c.bit o c.value)
row_of kind.Grouped = row (codes "grouped") (User ∷ Leader ∷ []) act.Grouped
row_of kind.Masked = row (codes "masked") (User ∷ User ∷ Change ∷ []) (λ by u c. act.Masked by u c.bit c.value)
row_of kind.Preset = row (codes "preset") (Preset ∷ Change ∷ []) (λ p c. act.Preset p c.bit c.value)
row_of kind.Opened = row (codes "opened") (User ∷ Serial ∷ []) act.Opened
row_of kind.Closed = row (codes "closed") (Serial ∷ []) act.Closed
row_of kind.Attached = row (codes "attached") (Serial ∷ User ∷ []) act.Attached
row_of kind.Parted = row (codes "parted") (Serial ∷ []) act.Parted
row_of kind.Entered = row (codes "entered") (User ∷ Serial ∷ []) act.Entered
row_of kind.Left = row (codes "left") (User ∷ Serial ∷ []) act.Left
row_of kind.Mode = row (codes "mode") (User ∷ Serial ∷ Mode ∷ []) act.Mode
row_of kind.Default = row (codes "default") (Mode ∷ []) act.Default

abbrev pub all_kinds : List ActKind
all_kinds =
    kind.Known ∷ kind.Gone ∷ kind.Set ∷ kind.Grouped ∷ kind.Masked ∷ kind.Preset ∷ kind.Opened
    ∷ kind.Closed ∷ kind.Attached ∷ kind.Parted ∷ kind.Entered ∷ kind.Left ∷ kind.Mode
    ∷ kind.Default ∷ []

-- the word that acts of a kind begin with
abbrev pub kind_text : ActKind → List ℕ
kind_text k = word_in (row_of k)

abbrev pub Parts : ActKind → Type 0
Parts k = Values Value (fields_in (row_of k))

-- a function of an act's kind and of its parts
abbrev pub of_parts {ℓ} : {A : Type ℓ} → ((k : ActKind) → Parts k → A) → Act → A
of_parts f (act.Known u) = f kind.Known (u, tt)
of_parts f (act.Gone u) = f kind.Gone (u, tt)
of_parts f (act.Set u b o value) = f kind.Set (u, (record { bit = b; value = value }, (o, tt)))
of_parts f (act.Grouped u leader) = f kind.Grouped (u, (leader, tt))
of_parts f (act.Masked by u b value) = f kind.Masked (by, (u, (record { bit = b; value = value }, tt)))
of_parts f (act.Preset p b value) = f kind.Preset (p, (record { bit = b; value = value }, tt))
of_parts f (act.Opened by w) = f kind.Opened (by, (w, tt))
of_parts f (act.Closed w) = f kind.Closed (w, tt)
of_parts f (act.Attached c u) = f kind.Attached (c, (u, tt))
of_parts f (act.Parted c) = f kind.Parted (c, tt)
of_parts f (act.Entered u w) = f kind.Entered (u, (w, tt))
of_parts f (act.Left u w) = f kind.Left (u, (w, tt))
of_parts f (act.Mode by w m) = f kind.Mode (by, (w, (m, tt)))
of_parts f (act.Default m) = f kind.Default (m, tt)

-- the word of a kind, and a colon before each part
abbrev pub text_of : (k : ActKind) → Parts k → List ℕ
text_of k v = kind_text k ++ after_each colon part_text (fields_in (row_of k)) v

abbrev pub act_text : Act → List ℕ
act_text a = of_parts text_of a

unfoldable pub kind_in : List ℕ → Option ActKind
kind_in word = find (λ k. bytes_eq (kind_text k) word) all_kinds

abbrev pub rest_in : ActKind → List ℕ → Option Act
rest_in k rest = read_in colon part_in (row_of k) rest

unfoldable pub act_in : List ℕ → Option Act
act_in word = do
  parts ← cut colon word
  kind ← kind_in parts.0
  rest_in kind parts.1

-- ---- as the code has it

abbrev pub said : Part → List ℕ
said (part.User user) = part_text User user
said (part.Leader user) = part_text Leader user
said (part.Serial serial) = part_text Serial serial
said (part.Change b value) = change_text b value
said (part.Target o) = part_text Target o
said (part.Mode m) = part_text Mode m
said (part.Preset p) = part_text Preset p

abbrev pub after_colon : Part → List ℕ
after_colon p = colon ∷ said p

-- ---- verdicts

abbrev pub lock : List ℕ
lock = codes "lock"

-- `bob:+w:3`, or of a lock `bob:lock:3:eve`
abbrev pub verdict_text : Verdict → List ℕ
verdict_text (verdict.Right u b o answer) =
    field colon (name_of u) (field colon (change_text b answer) (object_text o))
verdict_text (verdict.Lock u w held) =
    field colon (name_of u) (field colon lock (field colon (decimal w) (user_text held)))

abbrev pub lock_in : UserId → List ℕ → Option Verdict
lock_in user rest = do
  window ← number_at (2 ^ 32) colon rest
  holder ← user_in window.1
  Some (verdict.Lock user window.0 holder)

abbrev pub right_in : UserId → List ℕ → List ℕ → Option Verdict
right_in user word rest = do
  change ← change_in word
  object ← object_in rest
  Some (verdict.Right user change.bit object change.value)

unfoldable pub verdict_in : List ℕ → Option Verdict
verdict_in word = do
  user ← user_at colon word
  parts ← cut colon user.1
  if bytes_eq parts.0 lock then lock_in user.0 parts.1 else right_in user.0 parts.0 parts.1
