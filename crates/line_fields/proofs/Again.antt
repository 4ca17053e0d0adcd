-- Parts, acts and verdicts that were printed are read again.
use Rattle.std.proofs.Common.{◌≡◌, ℕ, ◌<◌, ◌≤◌, ◌^◌, List, [], ◌∷◌, ◌++◌, ap, refl, sym, ◌∙◌, arith, append-nil, subst}
use Rattle.std.specs.Prelude.{Bool, true, false, cond, not, ◌&&◌, ◌||◌, ◌==◌, Option, Some, None, option_map, decimal}
use Rattle.std.specs.List.{list_all}
use Rattle.std.specs.Char.{is_ascii_digit}
use Rattle.std.specs.Str.{bytes_eq}
use Rattle.std.proofs.lemmas.Bool.{and_parts}
use Rattle.std.proofs.lemmas.Bool.Decides.{nat_tests}
use Rattle.acl.specs.declared.act.Act.{Act}
use Rattle.acl.specs.declared.act.Act.TheVariants as act
use Rattle.acl.specs.declared.act.Object.{Object}
use Rattle.acl.specs.declared.act.Object.TheVariants as object
use Rattle.acl.specs.declared.act.PresetKind.{PresetKind}
use Rattle.acl.specs.declared.act.PresetKind.TheVariants as preset
use Rattle.acl.specs.declared.act.LockMode.{LockMode}
use Rattle.acl.specs.declared.act.LockMode.TheVariants as mode
use Rattle.acl.specs.declared.bits.Bit.{Bit}
use Rattle.acl.specs.declared.bits.Bit.TheVariants as bit
use Rattle.acl.specs.declared.command_name.CommandName.{CommandName}
use Rattle.acl.specs.declared.command_name.CommandName.TheVariants as name
use Rattle.acl.specs.declared.user_id.UserId.{UserId}
use Rattle.acl.specs.Names.{is_name_byte, is_name, begins_with_letter, name_of}
use Rattle.command_lang.specs.Names.{name_text}
use Rattle.session_model.specs.declared.refusal.Verdict.{Verdict}
use Rattle.session_model.specs.declared.refusal.Verdict.TheVariants as verdict
use Rattle.line_fields.specs.Cutting.{◌>>=◌, is_byte, cut}
use Rattle.line_fields.specs.Numbers.{is_number}
use Rattle.line_fields.proofs.Words.{IsFree, passing, first_field, free_append}
use Rattle.line_fields.proofs.Digits.{digits, number_again, not_number}
use Rattle.line_fields.specs.declared.acts.ActKind.{ActKind}
use Rattle.line_fields.specs.declared.acts.ActKind.TheVariants as kind
use Rattle.line_fields.specs.Parts.{colon, blank, comma, field, user_at, nobody, user_text, user_in, change_text}
use Rattle.line_fields.specs.Parts.{change_in, object_text, command_in, window_or, object_in, mode_text, mode_in}
use Rattle.line_fields.specs.Parts.{preset_text, preset_in}
use Rattle.line_fields.specs.Numbers.{number_at}
use Rattle.line_fields.specs.Acts.{PartKind, User, Leader, Serial, Change, Target, Mode, Preset, Value}
use Rattle.line_fields.specs.Acts.{part_text, part_in, row_of, Parts, of_parts, kind_text, text_of, kind_in}
use Rattle.line_fields.specs.Acts.{act_text, act_in, lock, verdict_text, verdict_in}
use Rattle.line_fields.specs.Rows.{fields_in, made_in}
use Rattle.line_fields.proofs.Rows.{IsAgain, HasField, first_then, after_is, row_again, each_but, after_free}
use Rattle.line_fields.specs.Sayable.{IsNamed, IsNamedIfAny, IsSerial, IsObject, IsPartOfAct, AreParts}
use Rattle.line_fields.specs.Sayable.{IsAct, IsVerdict}

-- ---- bytes of parts

-- what a part between separators may have
abbrev pub part_byte : ℕ → Bool
part_byte c = is_name_byte c || c == 0x2B || c == 0x2D || c == 0x3F

pub record IsPart (word : List ℕ) : Type 0 where
  pub bytes : list_all part_byte word ≡ true

-- no separator is such a byte
pub record IsApart (separator : ℕ) : Type 0 where
  pub apart : (c : ℕ) → part_byte c ≡ true → is_byte separator c ≡ false

pub apart_colon : IsApart colon
apart_colon = record { apart = λ c is. by c is }
  where
    by : (c : ℕ) → part_byte c ≡ true → is_byte colon c ≡ false
    by c is = grind (arith, nat_tests)

pub apart_blank : IsApart blank
apart_blank = record { apart = λ c is. by c is }
  where
    by : (c : ℕ) → part_byte c ≡ true → is_byte blank c ≡ false
    by c is = grind (arith, nat_tests)

pub apart_comma : IsApart comma
apart_comma = record { apart = λ c is. by c is }
  where
    by : (c : ℕ) → part_byte c ≡ true → is_byte comma c ≡ false
    by c is = grind (arith, nat_tests)

pub free : (separator : ℕ) (word : List ℕ) → IsApart separator → IsPart word → IsFree separator word
free separator word a is = passing separator part_byte a.apart word is.bytes

of_bytes : (p : ℕ → Bool) → ((c : ℕ) → p c ≡ true → part_byte c ≡ true) → (word : List ℕ) → list_all p word ≡ true
    → list_all part_byte word ≡ true
of_bytes p more [] all = refl
of_bytes p more (c ∷ word) all =
    let both = and_parts (p c) (list_all p word) all in
    (λ i. more c both.0 i && of_bytes p more word both.1 i)

-- ---- numbers

digit_is : (c : ℕ) → is_ascii_digit c ≡ true → part_byte c ≡ true
digit_is c is = grind (arith, nat_tests)

pub number_part : (n : ℕ) → n < 2 ^ 64 → IsPart (decimal n)
number_part n small = record { bytes = of_bytes is_ascii_digit digit_is (decimal n) (digits n small) }

pub wide : (limit n : ℕ) → n < limit → limit ≤ 2 ^ 64 → n < 2 ^ 64
wide limit n small most = omega (arith, small, most)

pub number_at_again : (separator limit n : ℕ) (rest : List ℕ) → IsApart separator → n < limit → limit ≤ 2 ^ 64
    → number_at limit separator (field separator (decimal n) rest) ≡ Some (n, rest)
number_at_again separator limit n rest a small most =
    rw (
      first_field separator (decimal n) rest (free separator (decimal n) a (number_part n (wide limit n small most))),
      number_again limit n small most,
    ) refl

pub most64 : 2 ^ 64 ≤ 2 ^ 64
most64 = omega arith

pub most32 : 2 ^ 32 ≤ 2 ^ 64
most32 = omega arith

pub most16 : 2 ^ 16 ≤ 2 ^ 64
most16 = omega arith

pub most8 : 2 ^ 8 ≤ 2 ^ 64
most8 = omega arith

-- ---- users

name_is : (c : ℕ) → is_name_byte c ≡ true → part_byte c ≡ true
name_is c is = grind (arith, nat_tests)

is_there : {A : Type 0} (b : Bool) (x y : A) → cond b (Some x) None ≡ Some y → b ≡ true
is_there true x y e = refl
is_there false x y e = cc

bytes_of_name : (word : List ℕ) → is_name word ≡ true → list_all is_name_byte word ≡ true
bytes_of_name word is = grind (arith, nat_tests)

first_of_name : (word : List ℕ) → is_name word ≡ true → begins_with_letter word ≡ true
first_of_name word is = grind (arith, nat_tests)

pub is_name_of : (user : UserId) → IsNamed user → is_name (name_of user) ≡ true
is_name_of user named = is_there _ _ _ named

pub name_part : (user : UserId) → IsNamed user → IsPart (name_of user)
name_part user named = record
    { bytes = of_bytes is_name_byte name_is (name_of user) (bytes_of_name (name_of user) (is_name_of user named)) }

pub user_at_again : (separator : ℕ) (user : UserId) (rest : List ℕ) → IsApart separator → IsNamed user
    → user_at separator (field separator (name_of user) rest) ≡ Some (user, rest)
user_at_again separator user rest a named =
    rw (first_field separator (name_of user) rest (free separator (name_of user) a (name_part user named)), named) refl

pub no_dash : (word rest : List ℕ) → begins_with_letter word ≡ true → bytes_eq (word ++ rest) nobody ≡ false
no_dash [] rest first = cc
no_dash (c ∷ word) rest first = grind (arith, nat_tests)

pub no_dash_name : (user : UserId) (rest : List ℕ) → IsNamed user → bytes_eq (name_of user ++ rest) nobody ≡ false
no_dash_name user rest named = no_dash (name_of user) rest (first_of_name (name_of user) (is_name_of user named))

no_dash_alone : (user : UserId) → IsNamed user → bytes_eq (name_of user) nobody ≡ false
no_dash_alone user named = ap (λ w. bytes_eq w nobody) (sym (append-nil (name_of user))) ∙ no_dash_name user [] named

pub user_again : (user : Option UserId) → IsNamedIfAny user → user_in (user_text user) ≡ Some user
user_again None is = refl
user_again (Some u) is = rw (no_dash_alone u is, is) refl

pub user_part : (user : Option UserId) → IsNamedIfAny user → IsPart (user_text user)
user_part None is = record { bytes = refl }
user_part (Some u) is = name_part u is

-- ---- bits, modes, presets

pub change_again : (b : Bit) (value : Bool) → change_in (change_text b value) ≡ Some (record { bit = b; value = value })
change_again bit.Read true = refl
change_again bit.Write true = refl
change_again bit.Execute true = refl
change_again bit.Read false = refl
change_again bit.Write false = refl
change_again bit.Execute false = refl

pub change_part : (b : Bit) (value : Bool) → IsPart (change_text b value)
change_part bit.Read true = record { bytes = refl }
change_part bit.Write true = record { bytes = refl }
change_part bit.Execute true = record { bytes = refl }
change_part bit.Read false = record { bytes = refl }
change_part bit.Write false = record { bytes = refl }
change_part bit.Execute false = record { bytes = refl }

pub mode_again : (m : LockMode) → mode_in (mode_text m) ≡ Some m
mode_again mode.Off = refl
mode_again _ = refl

pub mode_part : (m : LockMode) → IsPart (mode_text m)
mode_part mode.Off = record { bytes = refl }
mode_part _ = record { bytes = refl }

pub preset_again : (p : PresetKind) → preset_in (preset_text p) ≡ Some p
preset_again preset.Windows = refl
preset_again preset.Commands = refl

pub preset_part : (p : PresetKind) → IsPart (preset_text p)
preset_part preset.Windows = record { bytes = refl }
preset_part preset.Commands = record { bytes = refl }

-- ---- commands

pub command_again : (c : CommandName) → command_in (name_text c) ≡ Some c
unfolding command_in
command_again name.Acladd = refl
command_again _ = refl

pub command_part : (c : CommandName) → IsPart (name_text c)
command_part name.Acladd = record { bytes = refl }
command_part _ = record { bytes = refl }

no_number : (c : CommandName) → is_number (name_text c) ≡ false
unfolding is_number
no_number name.Acladd = refl
no_number _ = refl

pub object_again : (o : Object) → IsObject o → object_in (object_text o) ≡ Some o
object_again (object.Window w) is = ap (window_or (command_in (decimal w))) (number_again (2 ^ 32) w is most32)
object_again (object.Command c) is =
    ap (window_or (command_in (name_text c))) (not_number (2 ^ 32) (name_text c) (no_number c))
    ∙ ap (option_map object.Command) (command_again c)

pub object_part : (o : Object) → IsObject o → IsPart (object_text o)
object_part (object.Window w) is = number_part w (wide (2 ^ 32) w is most32)
object_part (object.Command c) is = command_part c

-- ---- acts

kind_again : (k : ActKind) → kind_in (kind_text k) ≡ Some k
unfolding kind_in
kind_again kind.Known = refl
kind_again _ = refl

kind_part : (k : ActKind) → IsPart (kind_text k)
kind_part kind.Known = record { bytes = refl }
kind_part _ = record { bytes = refl }

has_part : (k : ActKind) → HasField (fields_in (row_of k))
has_part kind.Known = tt
has_part _ = tt

user_colon : (user : UserId) (rest : List ℕ) → IsNamed user
    → user_at colon (field colon (name_of user) rest) ≡ Some (user, rest)
user_colon user rest named = user_at_again colon user rest apart_colon named

serial_colon : (n : ℕ) (rest : List ℕ) → IsSerial n
    → number_at (2 ^ 32) colon (field colon (decimal n) rest) ≡ Some (n, rest)
serial_colon n rest small = number_at_again colon (2 ^ 32) n rest apart_colon small most32

cut_part : (word rest : List ℕ) → IsPart word → cut colon (field colon word rest) ≡ Some (word, rest)
cut_part word rest is = first_field colon word rest (free colon word apart_colon is)

value_again : (p : PartKind) (v : Value p) → IsPartOfAct p v → part_in p (part_text p v) ≡ Some v
value_again User user is = is
value_again Leader user is = user_again user is
value_again Serial n is = number_again (2 ^ 32) n is most32
value_again Change c is = change_again c.bit c.value
value_again Target o is = object_again o is
value_again Mode m is = mode_again m
value_again Preset p is = preset_again p

value_part : (p : PartKind) (v : Value p) → IsPartOfAct p v → IsPart (part_text p v)
value_part User user is = name_part user is
value_part Leader user is = user_part user is
value_part Serial n is = number_part n (wide (2 ^ 32) n is most32)
value_part Change c is = change_part c.bit c.value
value_part Target o is = object_part o is
value_part Mode m is = mode_part m
value_part Preset p is = preset_part p

each_again : (p : PartKind) (v : Value p) → IsPartOfAct p v → IsAgain Value colon part_text part_in p v
each_again p v is =
    record { free = free colon (part_text p v) apart_colon (value_part p v is); again = value_again p v is }

text_again : (k : ActKind) (v : Parts k) → AreParts k v → act_in (text_of k v) ≡ Some (made_in (row_of k) v)
unfolding act_in
text_again k v said =
    let fields = fields_in (row_of k) in
    ap (λ more. act_in (kind_text k ++ more)) (after_is colon part_text fields v (has_part k))
    ∙ rw (cut_part (kind_text k) (first_then colon part_text fields v) (kind_part k), kind_again k)
    (row_again Value colon part_text part_in IsPartOfAct IsPartOfAct each_again value_again (row_of k) v (has_part k)
    (each_but IsPartOfAct fields v said))

abbrev Whole : Type 0
Whole = (k : ActKind) × Parts k

abbrev whole : (k : ActKind) → Parts k → Whole
whole k v = (k, v)

abbrev parts_of : Act → Whole
parts_of a = of_parts whole a

-- an act is made of its parts
made_again : (a : Act) → made_in (row_of (parts_of a).0) (parts_of a).1 ≡ a
made_again (act.Known u) = refl
made_again _ = refl

again : (k : ActKind) (v : Parts k) → IsAct (made_in (row_of k) v)
    → act_in (act_text (made_in (row_of k) v)) ≡ Some (made_in (row_of k) v)
again kind.Known v is = text_again kind.Known v is
again k v is = text_again k v is

pub act_again : (a : Act) → IsAct a → act_in (act_text a) ≡ Some a
act_again a = subst (λ n. IsAct n → act_in (act_text n) ≡ Some n) (made_again a) (again (parts_of a).0 (parts_of a).1)

-- a byte that no part has, and that isn't the colon
text_free : (byte : ℕ) → IsApart byte → is_byte byte colon ≡ false → (k : ActKind) (v : Parts k) → AreParts k v
    → IsFree byte (text_of k v)
text_free byte apart other k v said =
    free_append byte (kind_text k) _ (free byte (kind_text k) apart (kind_part k))
    (after_free Value byte colon part_text IsPartOfAct other
    (λ p v is. free byte (part_text p v) apart (value_part p v is)) (fields_in (row_of k)) v said)

made_free : (byte : ℕ) → IsApart byte → is_byte byte colon ≡ false → (k : ActKind) (v : Parts k)
    → IsAct (made_in (row_of k) v) → IsFree byte (act_text (made_in (row_of k) v))
made_free byte apart other kind.Known v is = text_free byte apart other kind.Known v is
made_free byte apart other k v is = text_free byte apart other k v is

pub act_free : (byte : ℕ) → IsApart byte → is_byte byte colon ≡ false → (a : Act) → IsAct a → IsFree byte (act_text a)
act_free byte apart other a = subst (λ n. IsAct n → IsFree byte (act_text n)) (made_again a)
    (made_free byte apart other (parts_of a).0 (parts_of a).1)

-- ---- verdicts

no_lock : (b : Bit) (value : Bool) → bytes_eq (change_text b value) lock ≡ false
no_lock bit.Read true = refl
no_lock bit.Write true = refl
no_lock bit.Execute true = refl
no_lock bit.Read false = refl
no_lock bit.Write false = refl
no_lock bit.Execute false = refl

pub verdict_again : (v : Verdict) → IsVerdict v → verdict_in (verdict_text v) ≡ Some v
unfolding verdict_in
verdict_again (verdict.Right u b o answer) is =
    rw (
      user_colon u (field colon (change_text b answer) (object_text o)) is.0,
      cut_part (change_text b answer)
          (object_text o) (change_part b answer),
      no_lock b answer,
      change_again b answer,
      object_again o is.1,
    ) refl
verdict_again (verdict.Lock u w held) is =
    rw (
      user_colon u (field colon lock (field colon (decimal w) (user_text held))) is.0,
      cut_part lock
          (field colon (decimal w) (user_text held)) (record { bytes = refl }),
      serial_colon w (user_text held) is.1,
      user_again held is.2,
    ) refl

colon_then : (byte : ℕ) (a b : List ℕ) → is_byte byte colon ≡ false → IsFree byte a → IsFree byte b
    → IsFree byte (field colon a b)
colon_then byte a b other f g =
    free_append byte a (colon ∷ b) f (record { free = λ i. not (other i) && g.free i })

pub verdict_free : (byte : ℕ) → IsApart byte → is_byte byte colon ≡ false → (v : Verdict) → IsVerdict v
    → IsFree byte (verdict_text v)
verdict_free byte apart other (verdict.Right u b o answer) is =
    colon_then byte (name_of u) _ other (free byte _ apart (name_part u is.0))
    (colon_then byte (change_text b answer) _ other (free byte _ apart (change_part b answer))
    (free byte _ apart (object_part o is.1)))
verdict_free byte apart other (verdict.Lock u w held) is =
    colon_then byte (name_of u) _ other (free byte _ apart (name_part u is.0))
    (colon_then byte lock _ other (free byte lock apart (record { bytes = refl }))
    (colon_then byte (decimal w) _ other (free byte _ apart (number_part w (wide (2 ^ 32) w is.1 most32)))
    (free byte _ apart (user_part held is.2))))
