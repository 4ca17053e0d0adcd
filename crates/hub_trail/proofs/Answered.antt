-- When the verdicts and the reply of an entry are legal, and that those of a Command are.
use Rattle.hub_trail.proofs.Vocabulary.{◌≡◌, ◌∙◌, ℕ, Bool, true, false, List, [], ◌++◌, Option, Some, None, refl, subst}
use Rattle.hub_trail.proofs.Vocabulary.{inl, inr, if◌then◌else◌, AllByRecursion, both_ways, Edition, UserId, History}
use Rattle.hub_trail.proofs.Vocabulary.{Execute, same_user, same_user-refl, ParseFault, name_of, read_line, Check}
use Rattle.hub_trail.proofs.Vocabulary.{Done, Refusal, UnknownUser, Line, Command, Tables, is_known, may_in, Caller}
use Rattle.hub_trail.proofs.Vocabulary.{line_caller, verdicts, first_fault, checks, Deed, Answer, does, taken, Outcome}
use Rattle.hub_trail.proofs.Vocabulary.{finished, refused, left_acts, reply_of, done, outcome, line_ruling, answered}
use Rattle.hub_trail.proofs.Vocabulary.{commanded, told, Either, all_weaken, Kept, Entry, IsTrue, AsksFirst}
use Rattle.hub_trail.proofs.Vocabulary.{CarriesFailed, IsDenied, is_granted, failed, first_names, user_of, ending_of}
use Rattle.std.proofs.Common.{Result, Ok, Err, ap, sym}
use Rattle.acl.specs.declared.act.Object.TheVariants as object
use Rattle.command_lang.specs.declared.command.Command.{Command as Order}
use Rattle.command_lang.proofs.OneReading.{relates-reads}
use Rattle.session.specs.Outcomes.{where_passed}
use Rattle.session.proofs.Quiet.{Of}
use Rattle.session.proofs.Outcomes as outcomes
use Rattle.hub_trail.specs.declared.kept.Kept.TheVariants as kept
use Rattle.hub_trail.specs.Legal.{AreOfUser, AsksForCommand, AreLet, HasItsActs, is_let, is_of_user}
use Rattle.hub_trail.proofs.Verdicts.{true_verdicts, own_verdicts, all_pass, Tells, IsPlain, IsCheckOf, tells}
use Rattle.hub_trail.proofs.Verdicts.{plain_refusal, plain_tells, denial_carries, refusal_denies, none_denied}
use Rattle.hub_trail.proofs.Verdicts.{plain_checks, own_checks}
use Rattle.hub_trail.proofs.Names.{HasFirst, HasEach, has_first, each_then}
use Rattle.hub_trail.proofs.Rules.{Still, stills}

abbrev pub entry : Kept → Outcome → Entry
entry k o = record { event = k; verdicts = o.verdicts; acts = o.acts; reply = ending_of o.reply }

-- the verdicts and the reply of an entry are legal, and it has its acts; `Fitting`, `Saying` and
-- `Knowing` prove the rest
pub record IsAnswered (edition : Edition) (owner : UserId) (h : History) (e : Entry) : Type 0 where
  pub verdicts : AllByRecursion (IsTrue edition owner h) e.verdicts
  pub user : AreOfUser h e.event e.verdicts
  pub first : AsksForCommand owner h e.event e.verdicts
  pub acts : AreLet e.event e.verdicts e.acts
  pub denial : CarriesFailed (failed e.verdicts) e.reply
  pub denied : IsDenied e.event (failed e.verdicts) e.reply
  pub done : HasItsActs owner h e.event e.reply e.acts

abbrev pub Legal : Tables → Kept → Outcome → Type 0
Legal t k o = IsAnswered t.edition t.owner t.acts (entry k o)

-- ---- a refused step, and one that was done

pub refused_legal : (t : Tables) (k : Kept) (cs : List Check) (r : Refusal) → AreOfUser t.acts k (verdicts t cs)
    → AsksForCommand t.owner t.acts k (verdicts t cs)
    → Tells (Some r) (failed (verdicts t cs)) → Legal t k (refused t (verdicts t cs) r)
refused_legal t k cs r user first told = record {
  verdicts = true_verdicts t cs;
  user = user;
  first = first;
  acts = inl refl;
  denial = denial_carries r (failed (verdicts t cs)) told;
  denied = refusal_denies k r (failed (verdicts t cs)) told;
  done = tt;
}

pub finished_legal : (t : Tables) (k : Kept) (cs : List Check) (y : Done) (d : Deed)
    → AreOfUser t.acts k (verdicts t cs)
    → AsksForCommand t.owner t.acts k (verdicts t cs)
    → is_let k (verdicts t cs) ≡ true → Tells None (failed (verdicts t cs))
    → HasItsActs t.owner t.acts k (ending_of (Ok y)) (finished t (verdicts t cs) (Ok y) d).acts
    → Legal t k (finished t (verdicts t cs) (Ok y) d)
finished_legal t k cs y d user first passing told has = record {
  verdicts = true_verdicts t cs;
  user = user;
  first = first;
  acts = inr passing;
  denial = tt;
  denied = none_denied k (failed (verdicts t cs)) (ending_of (Ok y)) told;
  done = has;
}

-- a step that isn't a command is done if its checks pass
pub passed_legal : (t : Tables) (k : Kept) (cs : List Check) (y : Done) (d : Deed) → AllByRecursion IsPlain cs
    → AreOfUser t.acts k (verdicts t cs) → AsksForCommand t.owner t.acts k (verdicts t cs)
    → (first_fault t cs ≡ None → is_let k (verdicts t cs) ≡ true)
    → HasItsActs t.owner t.acts k (ending_of (Ok y)) (finished t (verdicts t cs) (Ok y) d).acts
    → Legal t k (where_passed t cs (Ok y) d)
passed_legal t k cs y d plain user first passing has =
    outcomes.passed (Legal t k) t (verdicts t cs) (first_fault t cs) (Ok y) d
    (λ r is. refused_legal t k cs r user first (subst (λ f. Tells f (failed (verdicts t cs))) is (tells t cs plain)))
    (λ is. finished_legal t k cs y d user first (passing is)
    (subst (λ f. Tells f (failed (verdicts t cs))) is (tells t cs plain)) has)

-- the checks of one user give verdicts on this user
pub own_user : (t : Tables) (user : UserId) (cs : List Check) → AllByRecursion (IsCheckOf user) cs
    → AllByRecursion (λ v. is_of_user user v ≡ true) (verdicts t cs)
own_user t user cs own =
    all_weaken (λ v. user_of v ≡ user) (λ v. is_of_user user v ≡ true) (verdicts t cs)
    (λ v same. ap (λ u. same_user u user) same ∙ same_user-refl user) (own_verdicts t user cs own)

-- ---- a line that is a command

order_in : Order → Result Order ParseFault → Order
order_in c (Ok d) = d
order_in c (Err f) = c

one_order : (c d : Order) (r : Result Order ParseFault) → r ≡ Ok c → r ≡ Ok d → c ≡ d
unfolding order_in
one_order c d r a b = ap (order_in c) (sym a ∙ b)

fault_or_order : {P : Type 0} (f : ParseFault) (c : Order) (r : Result Order ParseFault) → r ≡ Err f → r ≡ Ok c → P
fault_or_order f c r a b = let e : Err f ≡ Ok c = sym a ∙ b in absurd (cc (e))

pub granted_first : (t : Tables) (k : Caller) (c : Order) → first_fault t (checks t k c) ≡ None
    → is_granted (verdicts t (checks t k c)) ≡ true
granted_first t k c none = all_pass t (checks t k c) none

asks_own : (t : Tables) (k : Caller) (c d : Order) → c ≡ d → AsksFirst k.user (name_of d) (verdicts t (checks t k c))
asks_own t k c d e = subst (λ (d : Order). AsksFirst k.user (name_of d) (verdicts t (checks t k c))) e
    (may_in t k.user Execute (object.Command (name_of c)), refl)

module _ (t : Tables) (user : UserId) (number : Option ℕ) (bytes : List ℕ) where
  abbrev k : Caller
  k = line_caller t user number

  abbrev event : Kept
  event = kept.Command user number bytes

  -- the command of the line
  module _ (c : Order) (read : read_line bytes ≡ Ok c) where
    own : AreOfUser t.acts event (verdicts t (checks t k c))
    own = own_user t user (checks t k c) (own_checks t k c)

    first : AsksForCommand t.owner t.acts event (verdicts t (checks t k c))
    first known d said = asks_own t k c d (one_order c d (read_line bytes) read (relates-reads bytes d said))

    named : (d : Deed) → HasFirst t c d
        → HasItsActs t.owner t.acts event (ending_of (reply_of 0 0 0 d.lists))
        (d.acts ++ left_acts t.clients d.tables.clients)
    named d has o said =
        subst (λ (o : Order). HasEach (d.acts ++ left_acts t.clients d.tables.clients) (first_names t.owner t.acts o))
        (one_order c o (read_line bytes) read (relates-reads bytes o said))
        (each_then d.acts (left_acts t.clients d.tables.clients) (first_names t.owner t.acts c) has)

    does_legal : (a : Answer) → first_fault t (checks t k c) ≡ None → Tells None (failed (verdicts t (checks t k c)))
        → Either (Still t) a → Of (HasFirst t c) a
        → Legal t event (answered t (verdicts t (checks t k c)) a)
    does_legal (Err r) none told plain has = refused_legal t event (checks t k c) r own first
        (plain_tells r (failed (verdicts t (checks t k c))) (plain_refusal r plain) told)
    does_legal (Ok d) none told still has =
        finished_legal t event (checks t k c) (record { taken = 0; made = 0; number = 0; text = d.lists }) d own first
        (granted_first t k c none) told (named d has)

    ruled_legal : (f : Option Refusal) → first_fault t (checks t k c) ≡ f
        → Tells f (failed (verdicts t (checks t k c)))
        → Legal t event (answered t (verdicts t (checks t k c))
        (elim f as (λ _. Answer) [ Some r ↦ Err r | None ↦ does t k c ]))
    ruled_legal (Some r) is told = refused_legal t event (checks t k c) r own first told
    ruled_legal None is told = does_legal (does t k c) is told (stills t k c) (has_first t k c)

  line_legal : (r : Result Order ParseFault) → read_line bytes ≡ r → Legal t event (commanded t (line_ruling t k r))
  line_legal (Ok c) read = ruled_legal c read (first_fault t (checks t k c)) refl
      (tells t (checks t k c) (plain_checks t k c))
  line_legal (Err f) read =
      refused_legal t event [] (Line f) tt
      (λ known d said. fault_or_order f d (read_line bytes) read (relates-reads bytes d said)) refl

  known_legal : (b : Bool) → is_known t user ≡ b
      → Legal t event (if b then commanded t (line_ruling t k (read_line bytes)) else refused t [] UnknownUser)
  known_legal true is = line_legal (read_line bytes) refl
  known_legal false is = refused_legal t event [] UnknownUser tt
      (λ known d said. absurd (both_ways (is_known t user) is known)) refl

  pub command_legal : Legal t event (outcome t (Command user number bytes))
  command_legal = known_legal (is_known t user) refl
