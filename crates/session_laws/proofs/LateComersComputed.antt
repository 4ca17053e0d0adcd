-- The rows of a guest who becomes known late, proved by computing.
use Rattle.session_laws.proofs.Vocabulary.{◌≡◌, true, false, List, [], ◌∷◌, refl, ap, sym, subst, inl, inr}
use Rattle.session_laws.proofs.Vocabulary.{AllByRecursion, is_utf8, chars, digits, char_width, First, Second, Bit, Read}
use Rattle.session_laws.proofs.Vocabulary.{Write, Execute, UserId, command_named, single, double, words_faults, unless}
use Rattle.session_laws.proofs.Vocabulary.{refused_if, given, codes, ◌||◌, same_user-refl, Tables, is_known, may_in}
use Rattle.session_laws.proofs.Vocabulary.{outcome, Outcome, Open, Entry, IsStep, after, contradicts, AreGuests}
use Rattle.session_laws.proofs.Vocabulary.{may_open, circle, AreShutOut, GrantsAreTheirs, came, ann, console, guest}
use lib.Utf8.{encode}
use Rattle.strings.specs.Lines.{parts, line}
use Rattle.acl.specs.declared.act.Object.TheVariants as object
use Rattle.session_laws.specs.WorkedPolicies.{bob, closes}
use Rattle.session_laws.specs.WorkedLateComers as rows
use Rattle.session_laws.proofs.WorkedKnowing.{named}
use Rattle.session_laws.proofs.WorkedShutting.{None5, guests, among, IsOut, Shuts, shut_out}

abbrev one : List UserId
one = guest ∷ []

abbrev names : List UserId
names = guest ∷ console ∷ bob ∷ ann ∷ []

record AreOut (t : Tables) : Type 0 where
  names_are : named t.acts ≡ names
  five : AllByRecursion (None5 t) one
  out : AllByRecursion (IsOut t) one
  read : AllByRecursion (Shuts t Read one) (t.owner ∷ names)
  write : AllByRecursion (Shuts t Write one) (t.owner ∷ names)
  execute : AllByRecursion (Shuts t Execute one) (t.owner ∷ names)

five_first : AllByRecursion (None5 (rows.let_in First)) one
unfolding is_utf8 chars encode char_width digits command_named single double parts line words_faults
    unless refused_if given
five_first = ((refl, refl, refl, refl, refl), tt)

first : AreOut (rows.mended First)
unfolding is_utf8 chars encode char_width digits command_named single double parts line words_faults
    unless refused_if given
first = record {
  names_are = refl;
  five = ((refl, refl, refl, refl, refl), tt);
  out = (record { circled = refl; known = refl; opens = refl }, tt);
  read = (inr (refl, tt), (inl refl, (inr (refl, tt), (inl refl, (inl refl, tt)))));
  write = (inr (refl, tt), (inl refl, (inr (refl, tt), (inl refl, (inl refl, tt)))));
  execute = (inr (refl, tt), (inl refl, (inr (refl, tt), (inl refl, (inl refl, tt)))));
}

five_second : AllByRecursion (None5 (rows.let_in Second)) one
unfolding is_utf8 chars encode char_width digits command_named single double parts line words_faults
    unless refused_if given
five_second = ((refl, refl, refl, refl, refl), tt)

second : AreOut (rows.mended Second)
unfolding is_utf8 chars encode char_width digits command_named single double parts line words_faults
    unless refused_if given
second = record {
  names_are = refl;
  five = ((refl, refl, refl, refl, refl), tt);
  out = (record { circled = refl; known = refl; opens = refl }, tt);
  read = (inr (refl, tt), (inl refl, (inr (refl, tt), (inl refl, (inl refl, tt)))));
  write = (inr (refl, tt), (inl refl, (inr (refl, tt), (inl refl, (inl refl, tt)))));
  execute = (inr (refl, tt), (inl refl, (inr (refl, tt), (inl refl, (inl refl, tt)))));
}

pub is_guest : rows.IsGuest
unfolding is_utf8 chars encode char_width digits command_named single double parts line words_faults
    unless refused_if given
is_guest = (
  (guests (rows.let_in First) one five_first, refl, refl),
  (guests (rows.let_in Second) one five_second, refl, refl),
)

pub unmasked : rows.Unmasked
unfolding is_utf8 chars encode char_width digits command_named single double parts line words_faults
    unless refused_if given
unmasked = ((refl, refl), (refl, refl))

pub reopened : rows.Reopened
unfolding is_utf8 chars encode char_width digits command_named single double parts line words_faults
    unless refused_if given
reopened = (refl, refl)

each : (t : Tables) → AreOut t → AreGuests t rows.is_guest × ((bit : Bit) → AreShutOut t rows.is_guest bit)
each t a = (guests t one a.five, bits) where
  bits : (bit : Bit) → AreShutOut t rows.is_guest bit
  bits Read = shut_out t Read one a.out names a.names_are a.read
  bits Write = shut_out t Write one a.out names a.names_are a.write
  bits Execute = shut_out t Execute one a.out names a.names_are a.execute

pub mended : rows.Mended
mended = (each (rows.mended First) first, each (rows.mended Second) second)

pub nothing_comes : rows.NothingComes
unfolding is_utf8 chars encode char_width digits command_named single double parts line words_faults
    unless refused_if given
nothing_comes = (refl, refl)

-- ---- without its premise on masks, the law doesn't hold

closed : Tables
closed = closes 1 (rows.let_in Second)

opening : Entry
opening = let o : Outcome = outcome closed (Open console 24 80 0 (codes "web2")) in record {
  event = Open console 24 80 0 (codes "web2");
  reply = o.reply;
  acts = o.acts;
  verdicts = o.verdicts;
  effects = o.effects;
}

closed_five : AllByRecursion (None5 closed) one
unfolding closed is_utf8 chars encode char_width digits command_named single double parts line words_faults
    unless refused_if given
closed_five = ((refl, refl, refl, refl, refl), tt)

closed_circle : (circle closed guest ≡ guest ∷ []) × (is_known closed guest ≡ true) × (may_open closed guest ≡ false)
unfolding closed is_utf8 chars encode char_width digits command_named single double parts line words_faults
    unless refused_if given
closed_circle = (refl, refl, refl)

opening_step : IsStep closed opening
unfolding opening
opening_step = record { reply = refl; acts = refl; verdicts = refl; effects = refl }

came_then : (came closed (after closed opening) 2 ≡ true)
    × (may_in (after closed opening) guest Write (object.Window 2) ≡ true)
unfolding closed opening is_utf8 chars encode char_width digits command_named single double parts line words_faults
    unless refused_if given
came_then = (refl, refl)

no_grants : GrantsAreTheirs rows.is_guest closed opening
unfolding opening
no_grants = tt

among_one : rows.is_guest guest ≡ true
among_one = ap (λ b. b || false) (same_user-refl guest)

abbrev IsNoOpener : UserId → Type 0
IsNoOpener v = (is_known closed v ≡ true) × (may_open closed v ≡ false)

pub masks_are_needed : rows.MasksAreNeeded
masks_are_needed law =
    contradicts (may_in (after closed opening) guest Write (object.Window 2)) came_then.1
    (law closed opening rows.is_guest Write (guests closed one closed_five)
    (among (λ u. AllByRecursion IsNoOpener (circle closed u)) one
    (subst (AllByRecursion IsNoOpener) (sym closed_circle.0) ((closed_circle.1, closed_circle.2), tt), tt))
    opening_step no_grants guest 2 among_one came_then.0)
