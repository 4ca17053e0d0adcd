-- Parts of entries, and entries one after another.
use Rattle.hub_check.proofs.Vocabulary.{◌≡◌, ◌∷◌, [], ℕ, List, true, Some, Ok, Err, refl, sym, subst, zero, suc, ◌↔◌}
use Rattle.hub_check.proofs.Vocabulary.{false≢true, AllByRecursion, Edition, UserId, History, followed_by, Command}
use Rattle.hub_check.proofs.Vocabulary.{Verdict, Kept, Ending, Entry, AreOfUser, AreLet, IsOfKnown, AreGood, IsBadAt}
use Rattle.hub_check.proofs.Vocabulary.{AreTrue, IsReading, HaveActs, FitsLine, IsJudged}
use Rattle.std.proofs.Common.{Option, None}
use Rattle.std.specs.Prelude.{is_err}
use Rattle.command_lang.specs.Names.{name_of}
use Rattle.hub_trail.specs.declared.kept.Kept.TheVariants as kept
use Rattle.hub_trail.specs.Legal.{AsksFirst, IsTrue, HasItsActs, AreLegal, Fits, IsSaid}
use Rattle.hub_trail.specs.Saying.{says as line_says}
use Rattle.hub_trail.specs.Judging.{is_on_there, AreJudgeable, IsIllegalAt}
use Rattle.hub_check.specs.Parts.{HaveActsIfDone, AreSaidIfDone, FitsCommand, IsAnswered}

-- ---- verdicts

pub there_of : (edition : Edition) (owner : UserId) (h : History) (vs : List Verdict) → AreTrue edition owner h vs
    → AllByRecursion (λ v. is_on_there h v ≡ true) vs
there_of edition owner h [] a = tt
there_of edition owner h (v ∷ vs) a = (a.0.0, there_of edition owner h vs a.1)

pub true_of : (edition : Edition) (owner : UserId) (h : History) (vs : List Verdict) → AreTrue edition owner h vs
    → AllByRecursion (IsTrue edition owner h) vs
true_of edition owner h [] a = tt
true_of edition owner h (v ∷ vs) a = (a.0.1, true_of edition owner h vs a.1)

-- ---- lines

-- a line that is no command fits what was refused alone
pub no_command : (owner : UserId) (h : History) (user : UserId) (window : Option ℕ) (line : List ℕ) (e : Entry)
    → IsReading line None → (is_err e.reply ≡ true) ↔ FitsLine owner h (kept.Command user window line) e
no_command owner h user window line e none = (at e.reply, λ fits. back e.reply fits.2)
  where
    at : (r : Ending) → is_err r ≡ true
        → FitsLine owner h (kept.Command user window line)
        (record { event = e.event; verdicts = e.verdicts; acts = e.acts; reply = r })
    at (Ok finished) is = absurd (false≢true is)
    at (Err r) is = (λ known c relates. absurd (none c relates), tt, tt)

    back : (r : Ending) → IsSaid owner h (kept.Command user window line) r e.acts → is_err r ≡ true
    back (Ok finished) said = absurd (none said.0 said.1)
    back (Err r) said = refl

pub one_fits : (owner : UserId) (h : History) (user : UserId) (window : Option ℕ) (line : List ℕ) (c : Command)
    (e : Entry) → IsReading line (Some c)
    → FitsCommand owner h user c e ↔ FitsLine owner h (kept.Command user window line) e
one_fits owner h user window line c e reading = (
  λ fits. (
    λ known d relates. subst (λ x. AsksFirst user (name_of x) e.verdicts) (sym (reading.1 d relates)) (fits.0 known),
    on e.reply fits.1,
    says e.reply fits.2,
  ),
  λ fits. (λ known. fits.0 known c reading.0, back e.reply fits.1, said e.reply fits.2),
)
  where
    on : (r : Ending) → HaveActsIfDone owner h c r e.acts
        → HasItsActs owner h (kept.Command user window line) r e.acts
    on (Ok finished) acts = λ d relates. subst (λ x. HaveActs owner h x e.acts) (sym (reading.1 d relates)) acts
    on (Err r) acts = tt

    back : (r : Ending) → HasItsActs owner h (kept.Command user window line) r e.acts
        → HaveActsIfDone owner h c r e.acts
    back (Ok finished) acts = acts c reading.0
    back (Err r) acts = tt

    says : (r : Ending) → AreSaidIfDone owner h c r e.acts
        → IsSaid owner h (kept.Command user window line) r e.acts
    says (Ok finished) all = (c, reading.0, all)
    says (Err r) all = tt

    said : (r : Ending) → IsSaid owner h (kept.Command user window line) r e.acts
        → AreSaidIfDone owner h c r e.acts
    said (Ok finished) all = subst (λ x. AllByRecursion (λ a. line_says owner h x a ≡ true) e.acts)
        (reading.1 all.0 all.1) all.2
    said (Err r) all = tt

-- ---- entries

-- the parts of an entry that is judged
pub judged : (edition : Edition) (owner : UserId) (h : History) (e : Entry) (event : Kept) → event ≡ e.event
    → AreTrue edition owner h e.verdicts → AreOfUser h event e.verdicts → AreLet event e.verdicts e.acts
    → IsAnswered event e → Fits h event e.reply e.verdicts e.acts → IsOfKnown owner h event e.reply
    → FitsLine owner h event e → IsJudged edition owner h e
judged edition owner h e event is true_ user let_ answered can known fits = (
  there_of edition owner h e.verdicts true_,
  record {
    verdicts = true_of edition owner h e.verdicts true_;
    user = subst (λ k. AreOfUser h k e.verdicts) is user;
    first = (subst (λ k. FitsLine owner h k e) is fits).0;
    acts = subst (λ k. AreLet k e.verdicts e.acts) is let_;
    denial = answered.0;
    denied = (subst (λ k. IsAnswered k e) is answered).1;
    done = (subst (λ k. FitsLine owner h k e) is fits).1;
    fits = subst (λ k. Fits h k e.reply e.verdicts e.acts) is can;
    says = (subst (λ k. FitsLine owner h k e) is fits).2;
    known = subst (λ k. IsOfKnown owner h k e.reply) is known;
  },
)

pub good_legal : (edition : Edition) (owner : UserId) (h : History) (es : List Entry) → AreGood edition owner h es
    → AreLegal edition owner h es
good_legal edition owner h [] good = tt
good_legal edition owner h (e ∷ es) good = (good.0.legal, good_legal edition owner (followed_by h e.acts) es good.1)

pub good_not_bad : (edition : Edition) (owner : UserId) (h : History) (es : List Entry) (place : ℕ)
    → AreGood edition owner h es → IsBadAt edition owner h es place → ⊥
good_not_bad edition owner h [] place good bad = bad
good_not_bad edition owner h (e ∷ es) zero good bad = bad good.0
good_not_bad edition owner h (e ∷ es) (suc place) good bad =
    good_not_bad edition owner (followed_by h e.acts) es place good.1 bad.1

pub legal_good : (edition : Edition) (owner : UserId) (h : History) (es : List Entry) → AreJudgeable edition owner h es
    → AreLegal edition owner h es → AreGood edition owner h es
legal_good edition owner h [] can legal = tt
legal_good edition owner h (e ∷ es) can legal =
    (record { judgeable = can.0; legal = legal.0 }, legal_good edition owner (followed_by h e.acts) es can.1 legal.1)

pub bad_illegal : (edition : Edition) (owner : UserId) (h : History) (es : List Entry) (place : ℕ)
    → AreJudgeable edition owner h es → IsBadAt edition owner h es place → IsIllegalAt edition owner h es place
bad_illegal edition owner h [] place can bad = absurd bad
bad_illegal edition owner h (e ∷ es) zero can bad = λ legal. bad (record { judgeable = can.0; legal = legal })
bad_illegal edition owner h (e ∷ es) (suc place) can bad =
    (bad.0.legal, bad_illegal edition owner (followed_by h e.acts) es place can.1 bad.1)
