-- The trail of a run is legal.
use Rattle.hub_trail.proofs.Vocabulary.{AllByRecursion, ◌≡◌, ◌∙◌, List, [], ◌∷◌, ◌++◌, Option, Some, None, refl, ap}
use Rattle.hub_trail.proofs.Vocabulary.{subst, sym, Edition, UserId, History, followed_by, Verdict, Effect, EventValue}
use Rattle.hub_trail.proofs.Vocabulary.{AreFit, Tables, fresh, outcome, IsStep, IsRun, IsRunFrom, drawn, tables_from}
use Rattle.hub_trail.proofs.Vocabulary.{run_fit, fresh_fit, Kept, Entry, IsTrue, acts_after, kept_of, entry_of, filed}
use Rattle.hub_trail.proofs.Vocabulary.{entries_of, ending_of}
use Rattle.acl.specs.History.{may}
use Rattle.writelock.specs.Holding.{holder}
use Rattle.session.specs.refusal.Verdict.TheVariants.{Right as right, Lock as lock}
use Rattle.session.specs.Trace as trace
use Rattle.session.specs.Run.{after, tables_of}
use Rattle.session.proofs.ActsOfRuns.{after_acts}
use Rattle.hub_trail.specs.Laws.{AskTheSame}
use Rattle.hub_trail.specs.Legal.{AreLegal, IsLegal, acts_of}
use Rattle.hub_trail.specs.Filing.{trail_of}
use Rattle.hub_trail.proofs.Rules.{Rules}
use Rattle.hub_trail.proofs.Serials.{rules_after}
use Rattle.hub_trail.proofs.Answered.{entry, IsAnswered}
use Rattle.hub_trail.proofs.Entries.{IsLegalStep, legal_step}
use Rattle.hub_trail.proofs.Fitting.{EntryFits, filed_fits}
use Rattle.hub_trail.proofs.Saying.{EntrySays, filed_says}
use Rattle.hub_trail.proofs.Knowing.{EntryIsOfKnown, filed_known}

-- ---- trails

pub acts_append : (h : History) (es fs : List Entry) → acts_after h (es ++ fs) ≡ acts_after (acts_after h es) fs
acts_append h [] fs = refl
acts_append h (e ∷ es) fs = acts_append (followed_by h e.acts) es fs

pub legal_append : (edition : Edition) (owner : UserId) (h : History) (es fs : List Entry) → AreLegal edition owner h es
    → AreLegal edition owner (acts_after h es) fs
    → AreLegal edition owner h (es ++ fs)
legal_append edition owner h [] fs these those = those
legal_append edition owner h (e ∷ es) fs these those =
    (these.0, legal_append edition owner (followed_by h e.acts) es fs these.1 those)

pub legal_parts : (edition : Edition) (owner : UserId) (h : History) (es fs : List Entry)
    → AreLegal edition owner h (es ++ fs)
    → AreLegal edition owner h es × AreLegal edition owner (acts_after h es) fs
legal_parts edition owner h [] fs all = (tt, all)
legal_parts edition owner h (e ∷ es) fs all =
    let rest : AreLegal edition owner (followed_by h e.acts) es × AreLegal edition owner
    (acts_after (followed_by h e.acts) es) fs = legal_parts edition owner (followed_by h e.acts) es fs all.1 in
    ((all.0, rest.0), rest.1)

pub decided : (edition : Edition) (owner : UserId) (h : History) (v w : Verdict) → AskTheSame v w
    → IsTrue edition owner h v → IsTrue edition owner h w → v ≡ w
decided edition owner h (right u b o x) (right v c p y) same is other =
    let answers : x ≡ y = is ∙ (λ i. may edition owner h (same.0 i) (same.1 i) (same.2 i)) ∙ sym other in
    λ i. right (same.0 i) (same.1 i) (same.2 i) (answers i)
decided edition owner h (lock u n x) (lock v m y) same is other =
    let answers : x ≡ y = is ∙ (λ i. holder edition owner h (same.1 i)) ∙ sym other in
    λ i. lock (same.0 i) (same.1 i) (answers i)
decided edition owner h (right u b o x) (lock v m y) same is other = absurd same
decided edition owner h (lock u n x) (right v c p y) same is other = absurd same

-- ---- the owner and the edition are unchanged

abbrev pub Named : Type 0
Named = UserId × Edition

abbrev pub names : Tables → Named
names t = (t.owner, t.edition)

names_after : (t : Tables) (event : EventValue) (effects : List Effect)
    → names (drawn event effects (outcome t event).tables) ≡ names t
names_after t event effects = ap (λ (x : Rules). (x.0, x.1)) (rules_after t event effects)

-- ---- steps

-- the entry of a step is that of its outcome
filed_of : (t : Tables) (k : Kept) (e : trace.Entry) → IsStep t e
    → entry k (outcome t e.event) ≡ record {
      event = k;
      verdicts = e.verdicts;
      acts = e.acts;
      reply = ending_of e.reply;
    }
filed_of t k e s =
    λ i. record { event = k; verdicts = sym s.verdicts i; acts = sym s.acts i; reply = ending_of (sym s.reply i) }

legal_filed : (t : Tables) (e : trace.Entry) (o : Option Kept) → IsStep t e → IsLegalStep t o (outcome t e.event)
    → AllByRecursion (EntryFits t.acts) (entry_of o e) → AllByRecursion (EntrySays t.owner t.acts) (entry_of o e)
    → AllByRecursion (EntryIsOfKnown t.owner t.acts) (entry_of o e) → AreLegal t.edition t.owner t.acts (entry_of o e)
legal_filed t e None s answered fits says known = tt
legal_filed t e (Some k) s answered fits says known =
    let all = subst (λ (x : Entry). IsAnswered t.edition t.owner t.acts x) (filed_of t k e s) answered in (
      record {
        verdicts = all.verdicts;
        user = all.user;
        first = all.first;
        acts = all.acts;
        denial = all.denial;
        denied = all.denied;
        done = all.done;
        fits = fits.0;
        says = says.0;
        known = known.0;
      },
      tt,
    )

pub legal_entries : (t : Tables) (e : trace.Entry) → AreFit t → IsStep t e → AreLegal t.edition t.owner t.acts (filed e)
legal_entries t e fit s =
    legal_filed t e (kept_of e.event) s (legal_step t e.event fit.agree)
    (filed_fits t e.event e.reply e.acts e.verdicts e.effects fit s)
    (filed_says t e.event e.reply e.acts e.verdicts e.effects s)
    (filed_known t e.event e.reply e.acts e.verdicts e.effects s)

-- the acts of the entry are all acts of the step
pub acts_filed : (t : Tables) (e : trace.Entry) (o : Option Kept) → IsStep t e → IsLegalStep t o (outcome t e.event)
    → acts_after t.acts (entry_of o e) ≡ followed_by t.acts e.acts
acts_filed t e None s legal = ap (followed_by t.acts) (sym (s.acts ∙ legal))
acts_filed t e (Some k) s legal = refl

-- ---- runs

-- the trail is legal, and its acts, owner and edition are those of the tables
pub record IsJudged (edition : Edition) (owner : UserId) (t : Tables) (entries : List Entry) : Type 0 where
  pub named : names t ≡ (owner, edition)
  pub acts : acts_after [] entries ≡ t.acts
  pub legal : AreLegal edition owner [] entries

judged_step : (edition : Edition) (owner : UserId) (t : Tables) (entries : List Entry) (e : trace.Entry) → AreFit t
    → IsJudged edition owner t entries → IsStep t e
    → IsJudged edition owner (after t e) (entries ++ filed e)
judged_step edition owner t entries e fit j s =
    let legal : IsLegalStep t (kept_of e.event) (outcome t e.event) = legal_step t e.event fit.agree in
    record {
      named = names_after t e.event e.effects ∙ j.named;
      acts = acts_append [] entries (filed e) ∙ ap (λ (h : History). acts_after h (filed e)) j.acts
          ∙ acts_filed t e (kept_of e.event) s legal
          ∙ ap (followed_by t.acts) s.acts ∙ sym (after_acts t e.event e.effects);
      legal = legal_append edition owner [] entries (filed e) j.legal
          (subst (λ (h : History). AreLegal edition owner h (filed e)) (sym j.acts)
          (subst (λ (x : Named). AreLegal x.1 x.0 t.acts (filed e)) j.named (legal_entries t e fit s)));
    }

pub judged : (edition : Edition) (owner : UserId) (steps : List trace.Entry) → IsRunFrom (fresh edition owner) steps
    → IsJudged edition owner (tables_from (fresh edition owner) steps) (entries_of steps)
judged edition owner [] run = record { named = refl; acts = refl; legal = tt }
judged edition owner (e ∷ past) run =
    judged_step edition owner (tables_from (fresh edition owner) past) (entries_of past) e
    (run_fit (fresh edition owner) past (fresh_fit edition owner)) (judged edition owner past run.0) run.1

pub legal_run : (h : trace.Trace) → IsRun h → IsLegal (trail_of h)
legal_run h run = (judged h.edition h.owner h.entries run).legal

pub acts_run : (h : trace.Trace) → IsRun h → acts_of (trail_of h) ≡ (tables_of h).acts
acts_run h run = (judged h.edition h.owner h.entries run).acts
