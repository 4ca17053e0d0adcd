-- Replies that were printed are read again.
use Rattle.trail_lines.proofs.Vocabulary.{◌≡◌, ℕ, ◌<◌, ◌≤◌, ◌^◌, ◌+◌, List, [], ◌∷◌, ◌++◌, length, ap, refl, sym, ◌∙◌}
use Rattle.trail_lines.proofs.Vocabulary.{arith, append-nil, append_assoc, length-append, Bool, true, false, cond}
use Rattle.trail_lines.proofs.Vocabulary.{nat_le, Option, Some, None, Ok, Err, codes, decimal, map, AllByRecursion}
use Rattle.trail_lines.proofs.Vocabulary.{nat_tests, UserId, name_of, name_text, Denied, Refusal, behind, separated}
use Rattle.trail_lines.proofs.Vocabulary.{windows_number, Ending, ◌>>=◌, cut, words, IsFree, first_field, one_word}
use Rattle.trail_lines.proofs.Vocabulary.{first_word, number_again, colon, comma, field, user_at, nobody, mark, bit_in}
use Rattle.trail_lines.proofs.Vocabulary.{leaders_text, with_leader, leaders_of, denied_then, why_text, reply_text}
use Rattle.trail_lines.proofs.Vocabulary.{IsNamed, IsSerial, AreLeaders, IsDenied, IsRefusal, IsReply}
use Rattle.acl.specs.declared.act.Object.TheVariants as object
use Rattle.acl.specs.declared.bits.Bit.{Bit}
use Rattle.acl.specs.declared.bits.Bit.TheVariants as bit
use Rattle.acl.specs.declared.entries.AclFault.{AclFault}
use Rattle.acl.specs.declared.entries.AclFault.TheVariants as acl
use Rattle.acl.specs.Commands.{number_of_fault}
use Rattle.acl.specs.History.{among}
use Rattle.command_lang.specs.declared.fault.FaultKind.{FaultKind}
use Rattle.command_lang.specs.declared.fault.FaultKind.TheVariants as line
use Rattle.command_lang.specs.FaultNumbers.{number_of}
use Rattle.regions.specs.declared.layout.RegionFault.{RegionFault}
use Rattle.regions.specs.declared.layout.RegionFault.TheVariants as region
use Rattle.regions.specs.Faults as regions
use Rattle.session.specs.refusal.Denied.TheVariants as denied
use Rattle.session.specs.refusal.Refusal.TheVariants as refusal
use Rattle.session.specs.rows.WindowsFault.{WindowsFault}
use Rattle.session.specs.rows.WindowsFault.TheVariants as windows
use Rattle.line_fields.specs.Numbers.{number_at}
use Rattle.trail_lines.specs.Replies.{few, leaders_in, denied_at, acl_fault, windows_fault, regions_fault, line_fault}
use Rattle.trail_lines.specs.Replies.{why_in, reply_in}
use Rattle.line_fields.proofs.Again.{IsPart, free, apart_colon, apart_comma, name_part, number_part, wide, most64}
use Rattle.line_fields.proofs.Again.{most32, most8, number_at_again, user_at_again, no_dash_name, object_again}
use Rattle.line_fields.proofs.Again.{command_part}

cut_part : (word rest : List ℕ) → IsPart word → cut colon (field colon word rest) ≡ Some (word, rest)
cut_part word rest is = first_field colon word rest (free colon word apart_colon is)

-- ---- leaders

abbrev pub named_all : List UserId → Type 0
named_all users = AllByRecursion IsNamed users

comma_free : (user : UserId) → IsNamed user → IsFree comma (name_of user)
comma_free user named = free comma (name_of user) apart_comma (name_part user named)

words_again : (user : UserId) (users : List UserId) → IsNamed user → named_all users
    → words comma (separated (codes ",") (map name_of (user ∷ users))) ≡ map name_of (user ∷ users)
words_again user [] is all = ap (words comma) (append-nil (name_of user))
    ∙ one_word comma (name_of user) (comma_free user is)
words_again user (next ∷ users) is all =
    first_word comma (name_of user) (separated (codes ",") (map name_of (next ∷ users))) (comma_free user is)
    ∙ ap (λ ws. name_of user ∷ ws) (words_again next users all.0 all.1)

pub all_named : (before users : List UserId) → AreLeaders before users → named_all users
all_named before [] is = tt
all_named before (u ∷ users) is = (is.0, all_named (before ++ u ∷ []) users is.3)

within : (users : List UserId) → length users ≤ 8 → few users ≡ Some users
within users small = let fits : nat_le (length users) 8 ≡ true = grind (arith, nat_tests) in ap
    (λ b. cond b (Some users) None) fits

one_more : (before : List UserId) (u : UserId) → among before u ≡ false → length before < 8
    → with_leader before u ≡ Some (before ++ u ∷ [])
one_more before u new less =
    ap (λ b. few (cond b before (before ++ u ∷ []))) new
    ∙ within (before ++ u ∷ []) (omega (arith, length-append before (u ∷ []), less))

leaders_of_again : (before users : List UserId) → AreLeaders before users
    → leaders_of (map name_of users) before ≡ Some (before ++ users)
unfolding leaders_of
leaders_of_again before [] is = ap Some (sym (append-nil before))
leaders_of_again before (u ∷ users) is =
    rw (is.0, one_more before u is.1 is.2)
    (leaders_of_again (before ++ u ∷ []) users is.3 ∙ ap Some (append_assoc before (u ∷ []) users))

leaders_again : (users : List UserId) → AreLeaders [] users → leaders_in (leaders_text users) ≡ Some users
leaders_again [] is = refl
leaders_again (u ∷ users) is =
    let all : named_all (u ∷ users) = all_named [] (u ∷ users) is in
    rw (no_dash_name u (behind (codes ",") (map name_of users)) is.0, words_again u users all.0 all.1)
    (leaders_of_again [] (u ∷ users) is)

-- ---- denials

denied_again : (on : Denied) (rest : List ℕ) → IsDenied on → denied_at (denied_then on rest) ≡ Some (on, rest)
denied_again (denied.Window serial number) rest is =
    rw (
      cut_part (decimal serial) (field colon (decimal number) rest)
          (number_part serial (wide (2 ^ 32) serial is.0 most32)),
      object_again (object.Window serial) is.0,
      cut_part
          (decimal number) rest (number_part number (wide (2 ^ 8) number is.1 most8)),
      number_again (2 ^ 8) number is.1
          most8,
    ) refl
denied_again (denied.Command c) rest is =
    rw (
      cut_part (name_text c) (field colon nobody rest) (command_part c),
      object_again (object.Command c) tt,
      cut_part
          nobody rest (record { bytes = refl }),
    ) refl

mark_again : (b : Bit) → bit_in (mark b ∷ []) ≡ Some b
mark_again bit.Read = refl
mark_again bit.Write = refl
mark_again bit.Execute = refl

pub mark_part : (b : Bit) → IsPart (mark b ∷ [])
mark_part bit.Read = record { bytes = refl }
mark_part bit.Write = record { bytes = refl }
mark_part bit.Execute = record { bytes = refl }

user_colon : (user : UserId) (rest : List ℕ) → IsNamed user
    → user_at colon (field colon (name_of user) rest) ≡ Some (user, rest)
user_colon user rest named = user_at_again colon user rest apart_colon named

serial_colon : (n : ℕ) (rest : List ℕ) → IsSerial n
    → number_at (2 ^ 32) colon (field colon (decimal n) rest) ≡ Some (n, rest)
serial_colon n rest small = number_at_again colon (2 ^ 32) n rest apart_colon small most32

small_colon : (n : ℕ) (rest : List ℕ) → n < 2 ^ 8
    → number_at (2 ^ 8) colon (field colon (decimal n) rest) ≡ Some (n, rest)
small_colon n rest small = number_at_again colon (2 ^ 8) n rest apart_colon small most8

-- ---- faults

pub acl_small : (f : AclFault) → (number_of_fault f < 2 ^ 8) × (acl_fault (number_of_fault f) ≡ Some f)
acl_small acl.UnknownUser = (omega arith, refl)
acl_small acl.OwnerKept = (omega arith, refl)
acl_small acl.TooManyUsers = (omega arith, refl)
acl_small acl.ReservedName = (omega arith, refl)
acl_small acl.NoSuchGroup = (omega arith, refl)
acl_small acl.NoMemory = (omega arith, refl)
acl_small acl.TooManyGroups = (omega arith, refl)

pub windows_small : (f : WindowsFault) → (windows_number f < 2 ^ 8) × (windows_fault (windows_number f) ≡ Some f)
windows_small windows.Full = (omega arith, refl)
windows_small windows.NoSuchWindow = (omega arith, refl)
windows_small windows.NumberTaken = (omega arith, refl)
windows_small windows.BadTitle = (omega arith, refl)
windows_small windows.NoMemory = (omega arith, refl)

pub regions_small : (f : RegionFault) → (regions.number f < 2 ^ 8) × (regions_fault (regions.number f) ≡ Some f)
regions_small region.TooSmall = (omega arith, refl)
regions_small region.TooMany = (omega arith, refl)
regions_small region.LastRegion = (omega arith, refl)
regions_small region.NoMemory = (omega arith, refl)

pub line_small : (f : FaultKind) → (number_of f < 2 ^ 8) × (line_fault (number_of f) ≡ Some f)
line_small line.UnknownCommand = (omega arith, refl)
line_small line.MissingWord = (omega arith, refl)
line_small line.ExtraWord = (omega arith, refl)
line_small line.BadNumber = (omega arith, refl)
line_small line.BadBits = (omega arith, refl)
line_small line.BadQuote = (omega arith, refl)
line_small line.TooLong = (omega arith, refl)
line_small line.NoMemory = (omega arith, refl)
line_small line.BadWord = (omega arith, refl)

-- ---- refusals

pub why_again : (r : Refusal) → IsRefusal r → why_in (why_text r) ≡ Some r
unfolding why_in
why_again (refusal.EntryDenied d) is =
    rw (
      cut_part (codes "entry")
          (field colon (name_of d.user) (field colon (mark d.bit ∷ []) (denied_then d.on (leaders_text d.leaders))))
          (record { bytes = refl }),
      user_colon d.user
          (field colon (mark d.bit ∷ []) (denied_then d.on (leaders_text d.leaders))) is.0,
      cut_part (mark d.bit ∷ [])
          (denied_then d.on (leaders_text d.leaders)) (mark_part d.bit),
      mark_again d.bit,
      denied_again d.on
          (leaders_text d.leaders) is.1,
      leaders_again d.leaders is.2,
    ) refl
why_again (refusal.LockDenied d) is =
    rw (
      cut_part (codes "lock") (field colon (decimal d.serial) (field colon (decimal d.number) (name_of d.holder)))
          (record { bytes = refl }),
      serial_colon d.serial (field colon (decimal d.number) (name_of d.holder)) is.0,
      small_colon d.number (name_of d.holder) is.1,
      is.2,
    ) refl
why_again refusal.NotMultiuser is = refl
why_again refusal.UnknownUser is = refl
why_again refusal.NoWindow is = refl
why_again refusal.TooManyClients is = refl
why_again refusal.NoMemory is = refl
why_again refusal.BadSize is = refl
why_again (refusal.Acl f) is =
    rw (
      cut_part (codes "acl") (decimal (number_of_fault f)) (record { bytes = refl }),
      number_again (2 ^ 8)
          (number_of_fault f) (acl_small f).0 most8,
      (acl_small f).1,
    ) refl
why_again (refusal.Windows f) is =
    rw (
      cut_part (codes "windows") (decimal (windows_number f)) (record { bytes = refl }),
      number_again (2 ^ 8)
          (windows_number f) (windows_small f).0 most8,
      (windows_small f).1,
    ) refl
why_again (refusal.Line f) is =
    rw (
      cut_part (codes "line") (field colon (decimal (number_of f.kind)) (decimal f.place)) (record { bytes = refl }),
      small_colon (number_of f.kind) (decimal f.place) (line_small f.kind).0,
      (line_small f.kind).1,
      number_again
          (2 ^ 64) f.place is most64,
    ) refl
why_again (refusal.Regions f) is =
    rw (
      cut_part (codes "regions") (decimal (regions.number f)) (record { bytes = refl }),
      number_again (2 ^ 8)
          (regions.number f) (regions_small f).0 most8,
      (regions_small f).1,
    ) refl

-- ---- replies

pub reply_again : (r : Ending) → IsReply r → reply_in (reply_text r) ≡ Some r
unfolding reply_in
reply_again (Ok f) is =
    rw (
      cut_part (codes "ok") (field colon (decimal f.taken) (field colon (decimal f.made) (decimal f.number)))
          (record { bytes = refl }),
      number_at_again colon (2 ^ 64) f.taken
          (field colon (decimal f.made) (decimal f.number)) apart_colon is.0 most64,
      serial_colon f.made
          (decimal f.number) is.1,
      number_again (2 ^ 8) f.number is.2 most8,
    ) refl
reply_again (Err r) is =
    rw (cut_part (codes "no") (why_text r) (record { bytes = refl }), why_again r is) refl
