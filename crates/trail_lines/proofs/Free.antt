-- Words, texts and fields don't have a byte below 0x21: a blank, which ends words, or a line feed.
use Rattle.trail_lines.proofs.Vocabulary.{◌≡◌, ℕ, ◌<◌, ◌≤◌, ◌^◌, List, [], ◌∷◌, ◌++◌, refl, arith, Bool, true, false}
use Rattle.trail_lines.proofs.Vocabulary.{cond, not, ◌&&◌, Option, Some, None, Ok, Err, codes, decimal, map, nat_tests}
use Rattle.trail_lines.proofs.Vocabulary.{UserId, name_of, name_text, Denied, Refusal, behind, Ending, is_byte, Window}
use Rattle.trail_lines.proofs.Vocabulary.{colon, field, nobody, mark, IsNamed, IsSerial, IsFree, is_other, free_append}
use Rattle.trail_lines.proofs.Vocabulary.{text_field, window_text, leaders_text, denied_then, why_text, reply_text}
use Rattle.trail_lines.proofs.Vocabulary.{IsDenied, IsRefusal, IsReply, IsNumberIfAny}
use Rattle.std.proofs.Common.{◌/◌, ◌%◌}
use Rattle.std.specs.Fmt.{digit_glyph}
use Rattle.session.specs.refusal.Denied.TheVariants as denied
use Rattle.session.specs.refusal.Refusal.TheVariants as refusal
use Rattle.hub.specs.kept.Kept.TheVariants as kept
use Rattle.line_fields.specs.Texts.{coded, is_plain, escape, escaped}
use Rattle.line_fields.proofs.Again.{IsPart, IsApart, part_byte, free, name_part, number_part, wide, most32, most16}
use Rattle.line_fields.proofs.Again.{most8, command_part}
use Rattle.trail_lines.proofs.Replied.{mark_part, named_all, all_named, acl_small, windows_small, regions_small}
use Rattle.trail_lines.proofs.Replied.{line_small}

abbrev IsLow : ℕ → Type 0
IsLow byte = byte < 0x21

part_high : (low c : ℕ) → IsLow low → part_byte c ≡ true → is_byte low c ≡ false
part_high low c is part = grind (arith, nat_tests)

pub low_apart : (low : ℕ) → IsLow low → IsApart low
low_apart low is = record { apart = λ c part. part_high low c is part }

pub not_colon : (low : ℕ) → IsLow low → is_byte low colon ≡ false
not_colon low is = grind (arith, nat_tests)

not_comma : (low : ℕ) → IsLow low → is_other low 0x2C ≡ true
not_comma low is = grind (arith, nat_tests)

not_dot : (low : ℕ) → IsLow low → is_other low 0x2E ≡ true
not_dot low is = grind (arith, nat_tests)

not_backslash : (low : ℕ) → IsLow low → is_other low 0x5C ≡ true
not_backslash low is = grind (arith, nat_tests)

glyph_other : (low d : ℕ) → IsLow low → is_other low (digit_glyph false d) ≡ true
glyph_other low d is = grind (arith, nat_tests)

plain_other : (low byte : ℕ) → IsLow low → is_plain 0x21 byte ≡ true → is_other low byte ≡ true
plain_other low byte is plain = grind (arith, nat_tests)

module _ (out : ℕ) (low : IsLow out) where
  pub free_part : (word : List ℕ) → IsPart word → IsFree out word
  free_part word is = free out word (low_apart out low) is

  colon_free : (a b : List ℕ) → IsFree out a → IsFree out b → IsFree out (field colon a b)
  colon_free a b f g = free_append out a (colon ∷ b) f (record { free = λ i. not (not_colon out low i) && g.free i })

  pub name_free : (user : UserId) → IsNamed user → IsFree out (name_of user)
  name_free user named = free_part (name_of user) (name_part user named)

  pub serial_free : (n : ℕ) → IsSerial n → IsFree out (decimal n)
  serial_free n small = free_part (decimal n) (number_part n (wide (2 ^ 32) n small most32))

  pub half_free : (n : ℕ) → n < 2 ^ 16 → IsFree out (decimal n)
  half_free n small = free_part (decimal n) (number_part n (wide (2 ^ 16) n small most16))

  small_free : (n : ℕ) → n < 2 ^ 8 → IsFree out (decimal n)
  small_free n small = free_part (decimal n) (number_part n (wide (2 ^ 8) n small most8))

  comma_free : IsFree out (codes ",")
  comma_free = record { free = λ i. not_comma out low i && true }

  -- ---- replies

  others_free : (users : List UserId) → named_all users → IsFree out (behind (codes ",") (map name_of users))
  others_free [] all = record { free = refl }
  others_free (u ∷ users) all =
      free_append out (codes ",") (name_of u ++ behind (codes ",") (map name_of users)) comma_free
      (free_append out (name_of u) (behind (codes ",") (map name_of users)) (name_free u all.0)
      (others_free users all.1))

  leaders_free : (users : List UserId) → named_all users → IsFree out (leaders_text users)
  leaders_free [] all = free_part (leaders_text []) (record { bytes = refl })
  leaders_free (u ∷ users) all = free_append out (name_of u) (behind (codes ",") (map name_of users))
      (name_free u all.0) (others_free users all.1)

  denied_free : (on : Denied) (rest : List ℕ) → IsDenied on → IsFree out rest → IsFree out (denied_then on rest)
  denied_free (denied.Window serial number) rest is f =
      colon_free (decimal serial) (field colon (decimal number) rest) (serial_free serial is.0)
      (colon_free (decimal number) rest (small_free number is.1) f)
  denied_free (denied.Command c) rest is f =
      colon_free (name_text c) (field colon nobody rest) (free_part (name_text c) (command_part c))
      (colon_free nobody rest (free_part nobody (record { bytes = refl })) f)

  why_free : (r : Refusal) → IsRefusal r → IsFree out (why_text r)
  why_free (refusal.EntryDenied d) is =
      colon_free (codes "entry") _ (free_part (codes "entry") (record { bytes = refl }))
      (colon_free (name_of d.user) _ (name_free d.user is.0)
      (colon_free (mark d.bit ∷ []) _ (free_part (mark d.bit ∷ []) (mark_part d.bit))
      (denied_free d.on (leaders_text d.leaders) is.1 (leaders_free d.leaders (all_named [] d.leaders is.2)))))
  why_free (refusal.LockDenied d) is =
      colon_free (codes "lock") _ (free_part (codes "lock") (record { bytes = refl }))
      (colon_free (decimal d.serial) _ (serial_free d.serial is.0)
      (colon_free (decimal d.number) _ (small_free d.number is.1) (name_free d.holder is.2)))
  why_free refusal.NotMultiuser is = free_part (why_text refusal.NotMultiuser) (record { bytes = refl })
  why_free refusal.UnknownUser is = free_part (why_text refusal.UnknownUser) (record { bytes = refl })
  why_free refusal.NoWindow is = free_part (why_text refusal.NoWindow) (record { bytes = refl })
  why_free refusal.TooManyClients is = free_part (why_text refusal.TooManyClients) (record { bytes = refl })
  why_free refusal.NoMemory is = free_part (why_text refusal.NoMemory) (record { bytes = refl })
  why_free refusal.BadSize is = free_part (why_text refusal.BadSize) (record { bytes = refl })
  why_free (refusal.Acl f) is =
      colon_free (codes "acl") _ (free_part (codes "acl") (record { bytes = refl })) (small_free _ (acl_small f).0)
  why_free (refusal.Windows f) is =
      colon_free (codes "windows") _ (free_part (codes "windows") (record { bytes = refl }))
      (small_free _ (windows_small f).0)
  why_free (refusal.Line f) is =
      colon_free (codes "line") _ (free_part (codes "line") (record { bytes = refl }))
      (colon_free _ (decimal f.place) (small_free _ (line_small f.kind).0)
      (free_part (decimal f.place) (number_part f.place is)))
  why_free (refusal.Regions f) is =
      colon_free (codes "regions") _ (free_part (codes "regions") (record { bytes = refl }))
      (small_free _ (regions_small f).0)

  pub reply_free : (r : Ending) → IsReply r → IsFree out (reply_text r)
  reply_free (Ok f) is =
      colon_free (codes "ok") _ (free_part (codes "ok") (record { bytes = refl }))
      (colon_free (decimal f.taken) _ (free_part (decimal f.taken) (number_part f.taken is.0))
      (colon_free (decimal f.made) _ (serial_free f.made is.1) (small_free f.number is.2)))
  reply_free (Err r) is =
      colon_free (codes "no") (why_text r) (free_part (codes "no") (record { bytes = refl })) (why_free r is)

  -- ---- texts

  escape_free : (byte : ℕ) (is : Bool) → is_plain 0x21 byte ≡ is → IsFree out (cond is (byte ∷ []) (coded byte))
  escape_free byte true plain = record { free = λ i. plain_other out byte low plain i && true }
  escape_free byte false plain = record {
    free = λ i. not_backslash out low i
        && (glyph_other out (byte / 16) low i && (glyph_other out (byte % 16) low i && true));
  }

  escaped_free : (bytes : List ℕ) → IsFree out (escaped 0x21 bytes)
  escaped_free [] = record { free = refl }
  escaped_free (byte ∷ bytes) = free_append out (escape 0x21 byte) (escaped 0x21 bytes)
      (escape_free byte (is_plain 0x21 byte) refl) (escaped_free bytes)

  pub text_free : (bytes : List ℕ) → IsFree out (text_field bytes)
  text_free bytes =
      free_append out (codes ".") (escaped 0x21 bytes) (record { free = λ i. not_dot out low i && true })
      (escaped_free bytes)

  pub window_free : (window : Option ℕ) → IsNumberIfAny window → IsFree out (window_text window)
  window_free None is = free_part nobody (record { bytes = refl })
  window_free (Some n) is = small_free n is
