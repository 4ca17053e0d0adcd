-- The rows of the consoles, proved by computing.
use Rattle.session_laws.proofs.Vocabulary.{◌≡◌, List, [], ◌∷◌, refl, inl, inr, AllByRecursion, is_utf8, chars, digits}
use Rattle.session_laws.proofs.Vocabulary.{char_width, First, Second, Bit, Read, Write, Execute, UserId, command_named}
use Rattle.session_laws.proofs.Vocabulary.{single, double, words_faults, unless, refused_if, given, Tables, AreShutOut}
use Rattle.session_laws.proofs.Vocabulary.{ann}
use lib.Utf8.{encode}
use Rattle.strings.specs.Lines.{parts, line}
use Rattle.session_laws.specs.WorkedConsoles as rows
use Rattle.session_laws.proofs.WorkedKnowing.{named}
use Rattle.session_laws.proofs.WorkedShutting.{None5, guests, IsOut, Shuts, shut_out}

abbrev names : List UserId
names = rows.guest ∷ rows.wall ∷ ann ∷ []

record AreOut (t : Tables) : Type 0 where
  names_are : named t.acts ≡ names
  five : AllByRecursion (None5 t) rows.all_three
  out : AllByRecursion (IsOut t) rows.all_three
  read : AllByRecursion (Shuts t Read rows.all_three) (t.owner ∷ names)
  write : AllByRecursion (Shuts t Write rows.all_three) (t.owner ∷ names)
  execute : AllByRecursion (Shuts t Execute rows.all_three) (t.owner ∷ names)

first : AreOut (rows.let_in First)
unfolding is_utf8 chars encode char_width digits command_named single double parts line words_faults
    unless refused_if given
first = record {
  names_are = refl;
  five = ((refl, refl, refl, refl, refl), ((refl, refl, refl, refl, refl), ((refl, refl, refl, refl, refl), tt)));
  out = (
    record { circled = refl; known = refl; opens = refl },
    (
      record { circled = refl; known = refl; opens = refl },
      (record { circled = refl; known = refl; opens = refl }, tt),
    ),
  );
  read = (inr (refl, (refl, (refl, tt))), (inl refl, (inl refl, (inl refl, tt))));
  write = (inr (refl, (refl, (refl, tt))), (inl refl, (inl refl, (inl refl, tt))));
  execute = (inr (refl, (refl, (refl, tt))), (inl refl, (inl refl, (inl refl, tt))));
}

second : AreOut (rows.let_in Second)
unfolding is_utf8 chars encode char_width digits command_named single double parts line words_faults
    unless refused_if given
second = record {
  names_are = refl;
  five = ((refl, refl, refl, refl, refl), ((refl, refl, refl, refl, refl), ((refl, refl, refl, refl, refl), tt)));
  out = (
    record { circled = refl; known = refl; opens = refl },
    (
      record { circled = refl; known = refl; opens = refl },
      (record { circled = refl; known = refl; opens = refl }, tt),
    ),
  );
  read = (inr (refl, (refl, (refl, tt))), (inl refl, (inl refl, (inl refl, tt))));
  write = (inr (refl, (refl, (refl, tt))), (inl refl, (inl refl, (inl refl, tt))));
  execute = (inr (refl, (refl, (refl, tt))), (inl refl, (inl refl, (inl refl, tt))));
}

pub granted : rows.Granted
unfolding is_utf8 chars encode char_width digits command_named single double parts line words_faults
    unless refused_if given
granted = ((refl, refl, refl, refl, refl), (refl, refl, refl, refl, refl))

pub are_guests : rows.AreGuestsThen
are_guests = (
  guests (rows.let_in First) rows.all_three first.five,
  guests (rows.let_in Second) rows.all_three second.five,
)

each : (t : Tables) → AreOut t → (bit : Bit) → AreShutOut t rows.is_one bit
each t a Read = shut_out t Read rows.all_three a.out names a.names_are a.read
each t a Write = shut_out t Write rows.all_three a.out names a.names_are a.write
each t a Execute = shut_out t Execute rows.all_three a.out names a.names_are a.execute

pub all_shut_out : rows.AllShutOut
all_shut_out = (each (rows.let_in First) first, each (rows.let_in Second) second)

pub reopened : rows.Reopened
unfolding is_utf8 chars encode char_width digits command_named single double parts line words_faults
    unless refused_if given
reopened = ((refl, refl, refl, refl, refl), (refl, refl, refl, refl, refl))

pub by_hand : rows.ByHand
unfolding is_utf8 chars encode char_width digits command_named single double parts line words_faults
    unless refused_if given
by_hand = ((refl, refl), (refl, refl))
