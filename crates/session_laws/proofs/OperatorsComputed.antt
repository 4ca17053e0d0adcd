-- The rows of the operators, proved by computing.
use Rattle.session_laws.proofs.Vocabulary.{◌≡◌, List, [], ◌∷◌, refl, inl, inr, AllByRecursion, is_utf8, chars, digits}
use Rattle.session_laws.proofs.Vocabulary.{char_width, First, Second, Write, Execute, UserId, command_named, single}
use Rattle.session_laws.proofs.Vocabulary.{double, words_faults, unless, refused_if, given, Tables, AreShutOut, ann, jo}
use Rattle.session_laws.proofs.Vocabulary.{kim}
use lib.Utf8.{encode}
use Rattle.strings.specs.Lines.{parts, line}
use Rattle.session_laws.specs.WorkedPolicies.{bob}
use Rattle.session_laws.specs.WorkedOperators as rows
use Rattle.session_laws.proofs.WorkedKnowing.{named}
use Rattle.session_laws.proofs.WorkedShutting.{None5, guests, IsOut, Shuts, shut_out}

abbrev names : List UserId
names = rows.console ∷ kim ∷ jo ∷ bob ∷ ann ∷ []

record AreOut (t : Tables) : Type 0 where
  names_are : named t.acts ≡ names
  five : AllByRecursion (None5 t) rows.watchers
  out : AllByRecursion (IsOut t) rows.watchers
  write : AllByRecursion (Shuts t Write rows.watchers) (t.owner ∷ names)
  execute : AllByRecursion (Shuts t Execute rows.watchers) (t.owner ∷ names)

first : AreOut (rows.consoled First)
unfolding is_utf8 chars encode char_width digits command_named single double parts line words_faults
    unless refused_if given
first = record {
  names_are = refl;
  five = ((refl, refl, refl, refl, refl), ((refl, refl, refl, refl, refl), tt));
  out = (
    record { circled = refl; known = refl; opens = refl },
    (record { circled = refl; known = refl; opens = refl }, tt),
  );
  write = (
    inr (refl, (refl, tt)),
    (inr (refl, (refl, tt)), (inl refl, (inl refl, (inr (refl, (refl, tt)), (inr (refl, (refl, tt)), tt))))),
  );
  execute = (
    inr (refl, (refl, tt)),
    (inr (refl, (refl, tt)), (inl refl, (inl refl, (inr (refl, (refl, tt)), (inr (refl, (refl, tt)), tt))))),
  );
}

second : AreOut (rows.consoled Second)
unfolding is_utf8 chars encode char_width digits command_named single double parts line words_faults
    unless refused_if given
second = record {
  names_are = refl;
  five = ((refl, refl, refl, refl, refl), ((refl, refl, refl, refl, refl), tt));
  out = (
    record { circled = refl; known = refl; opens = refl },
    (record { circled = refl; known = refl; opens = refl }, tt),
  );
  write = (
    inr (refl, (refl, tt)),
    (inr (refl, (refl, tt)), (inl refl, (inl refl, (inr (refl, (refl, tt)), (inr (refl, (refl, tt)), tt))))),
  );
  execute = (
    inr (refl, (refl, tt)),
    (inr (refl, (refl, tt)), (inl refl, (inl refl, (inr (refl, (refl, tt)), (inr (refl, (refl, tt)), tt))))),
  );
}

pub watchers_are_guests : rows.WatchersAreGuests
watchers_are_guests = (
  guests (rows.consoled First) rows.watchers first.five,
  guests (rows.consoled Second) rows.watchers second.five,
)

no_write : (t : Tables) → AreOut t → AreShutOut t rows.watches Write
no_write t a = shut_out t Write rows.watchers a.out names a.names_are a.write

no_execute : (t : Tables) → AreOut t → AreShutOut t rows.watches Execute
no_execute t a = shut_out t Execute rows.watchers a.out names a.names_are a.execute

pub none_types : rows.NoneTypes
none_types = (no_write (rows.consoled First) first, no_write (rows.consoled Second) second)

pub none_acts : rows.NoneActs
none_acts = (no_execute (rows.consoled First) first, no_execute (rows.consoled Second) second)

pub come : rows.Come
unfolding is_utf8 chars encode char_width digits command_named single double parts line words_faults
    unless refused_if given
come = ((refl, refl), (refl, refl))
