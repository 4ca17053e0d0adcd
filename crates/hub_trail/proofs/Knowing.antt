-- An event that isn't refused is one of a known user.
use Rattle.hub_trail.proofs.Vocabulary.{◌≡◌, ℕ, Bool, true, false, List, [], Option, None, Ok, Err, refl, ap, sym}
use Rattle.hub_trail.proofs.Vocabulary.{if◌then◌else◌, is_ok, AllByRecursion, UserId, Act, History, Effect, UnknownUser}
use Rattle.hub_trail.proofs.Vocabulary.{Verdict, EventValue, Attach, Detach, Keys, Command, Open, Closed}
use Rattle.hub_trail.proofs.Vocabulary.{Reply, Tables, Window, is_known, line_caller, first_fault, verdicts, outcome}
use Rattle.hub_trail.proofs.Vocabulary.{Outcome, reply_of, refused, attach_checks, attaches, new_client, open_checks}
use Rattle.hub_trail.proofs.Vocabulary.{opens, new_window, commanded, line_ruling, IsStep, Entry, kept_of, entry_of}
use Rattle.session.specs.Trace as trace
use Rattle.session.specs.Lines.{read_line}
use Rattle.session.proofs.Outcomes as outcomes
use Rattle.session.proofs.Gating.{first_passed}
use Rattle.hub_trail.specs.Legal.{IsOfKnown}

abbrev pub EntryIsOfKnown : UserId → History → Entry → Type 0
EntryIsOfKnown owner h e = IsOfKnown owner h e.event e.reply

abbrev Known : Tables → UserId → Outcome → Type 0
Known t user o = is_ok o.reply ≡ true → is_known t user ≡ true

attach_known : (t : Tables) (user : UserId) (rows columns : ℕ) → Known t user (outcome t (Attach user rows columns))
attach_known t user rows columns =
    outcomes.passed (Known t user) t (verdicts t (attach_checks t user rows columns))
    (first_fault t (attach_checks t user rows columns)) (reply_of 0 t.next_client 0 None)
    (attaches t (new_client t user rows columns))
    (λ r is ok. absurd (cc (ok))) (λ is ok. first_passed (is_known t user) _ _ is)

open_known : (t : Tables) (user : UserId) (rows columns keep : ℕ) (title : List ℕ)
    → Known t user (outcome t (Open user rows columns keep title))
open_known t user rows columns keep title =
    let w : Window = new_window t rows columns keep title in
    outcomes.passed (Known t user) t (verdicts t (open_checks t user rows columns keep title))
    (first_fault t (open_checks t user rows columns keep title)) (reply_of 0 w.serial w.number None)
    (opens t user w)
    (λ r is ok. absurd (cc (ok))) (λ is ok. first_passed (is_known t user) _ _ is)

command_known : (t : Tables) (user : UserId) (number : Option ℕ) (bytes : List ℕ)
    → Known t user (outcome t (Command user number bytes))
command_known t user number bytes = on (is_known t user) where
  on : (b : Bool)
      → is_ok (if b then commanded t (line_ruling t (line_caller t user number) (read_line bytes)) else refused t []
      UnknownUser).reply ≡ true → b ≡ true
  on true ok = refl
  on false ok = absurd (cc (ok))

pub filed_known : (t : Tables) (event : EventValue) (reply : Reply) (acts : List Act) (vs : List Verdict)
    (effects : List Effect)
    → let e : trace.Entry =
    record { event = event; reply = reply; acts = acts; verdicts = vs; effects = effects } in IsStep t e
    → AllByRecursion (EntryIsOfKnown t.owner t.acts) (entry_of (kept_of event) e)
filed_known t (Attach user rows columns) (Ok y) acts vs effects step =
    (attach_known t user rows columns (ap is_ok (sym step.reply)), tt)
filed_known t (Open user rows columns keep title) (Ok y) acts vs effects step =
    (open_known t user rows columns keep title (ap is_ok (sym step.reply)), tt)
filed_known t (Command user number bytes) (Ok y) acts vs effects step =
    (command_known t user number bytes (ap is_ok (sym step.reply)), tt)
filed_known t (Attach user rows columns) (Err r) acts vs effects step = (tt, tt)
filed_known t (Open user rows columns keep title) (Err r) acts vs effects step = (tt, tt)
filed_known t (Command user number bytes) (Err r) acts vs effects step = (tt, tt)
filed_known t (Detach client) reply acts vs effects step = (tt, tt)
filed_known t (Keys client bytes) reply acts vs effects step = (tt, tt)
filed_known t (Closed window) reply acts vs effects step = (tt, tt)
filed_known t event reply acts vs effects step = tt
