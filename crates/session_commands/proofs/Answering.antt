-- A deed that found its client and what it looks for answers as the command's row says; one that didn't is
-- refused so.
use Rattle.session_commands.proofs.Vocabulary.{◌≡◌, ℕ, Bool, Some, sym, ◌∙◌, is_some, ◌⊎◌, IfSome, Refusal, NoMemory}
use Rattle.session_commands.proofs.Vocabulary.{NoWindow, Tables, window_at, Deed, Answer, caller_client, on_client}
use Rattle.session_commands.proofs.Vocabulary.{BothOrNone, both_back, none_back, WindowStands, Caller, StepOutput}
use Rattle.session_commands.proofs.Vocabulary.{State, Stands, AreFit, Answers, HasDone, caller_in}
use Rattle.std.proofs.Common.{true, false, Option, None, Ok, Err, refl, ap, inl, inr}
use Rattle.std.specs.Prelude.{unwrap_or}
use Rattle.regions.specs.declared.layout.RegionFault.{RegionFault}
use Rattle.regions.specs.declared.layout.RegionFault.TheVariants as fault
use Rattle.session_model.specs.declared.refusal.Refusal.TheVariants.{Regions}
use Rattle.session_model.specs.Tables as model
use Rattle.session_model.specs.Deeds.{given, unless, refused_if, selects}
use Rattle.windows.specs.declared.window.Window.{Window}
use Rattle.session_commands.specs.Entering.{Selects}
use Rattle.session_commands.specs.Giving.{refusal_of}
use Rattle.session_commands.proofs.Members.{StandsAt, of_some}
use Rattle.session_commands.proofs.Paging.{Gives}

pub given_some : {X : Type 0} (o : Option X) (r : Refusal) (f : X → Answer) (x : X) → o ≡ Some x → given o r f ≡ f x
unfolding given
given_some o r f x is = ap (λ p. given p r f) is

pub given_none : {X : Type 0} (o : Option X) (r : Refusal) (f : X → Answer) → o ≡ None → given o r f ≡ Err r
unfolding given
given_none o r f is = ap (λ p. given p r f) is

pub faultless : {F : Type 0} (as_refusal : F → Refusal) (o : Option F) (d : Deed) → o ≡ None
    → unless as_refusal o d ≡ Ok d
unfolding unless
faultless as_refusal o d is = ap (λ p. unless as_refusal p d) is

faulty : {F : Type 0} (as_refusal : F → Refusal) (f : F) (d : Deed) → unless as_refusal (Some f) d ≡ Err (as_refusal f)
unfolding unless
faulty as_refusal f d = refl

pub not_refused : (b : Bool) (r : Refusal) (d : Deed) → b ≡ false → refused_if b r d ≡ Ok d
unfolding refused_if
not_refused b r d is = ap (λ p. refused_if p r d) is

pub refused : (b : Bool) (r : Refusal) (d : Deed) → b ≡ true → refused_if b r d ≡ Err r
unfolding refused_if
refused b r d is = ap (λ p. refused_if p r d) is

memory_or_not : (f : RegionFault) → (refusal_of f ≡ NoMemory) ⊎ (refusal_of f ≡ Regions f)
memory_or_not fault.NoMemory = inl refl
memory_or_not fault.TooSmall = inr refl
memory_or_not fault.TooMany = inr refl
memory_or_not fault.LastRegion = inr refl

-- a layout's fault, or want of memory
pub split_refused : (o : Option RegionFault) (d : Deed) (f : RegionFault) → f ≡ unwrap_or o fault.NoMemory
    → (refusal_of f ≡ NoMemory) ⊎ (unless Regions o d ≡ Err (refusal_of f))
split_refused None d f is = inl (ap refusal_of is)
split_refused (Some g) d f is = elim (memory_or_not f) [
  | inl full ↦ inl full
  | inr same ↦ inr (faulty Regions g d ∙ (ap (λ h. Err (Regions h)) (sym is) ∙ ap (λ r. Err r) (sym same)))
]

-- ---- on the client that gives the command

-- there is none
pub no_client : (t : Tables) (k : Caller) (f : model.Client → Answer) → caller_client t (caller_in t k) ≡ None
    → on_client t (caller_in t k) f ≡ Err NoWindow
no_client t k f is = given_none (caller_client t (caller_in t k)) NoWindow f is

module _ (t : Tables) (k : Caller) (client : ℕ) (m : model.Client) (by : Gives t k client m) where
  pub on_giver : (f : model.Client → Answer) → on_client t (caller_in t k) f ≡ f m
  on_giver f = given_some (caller_client t (caller_in t k)) NoWindow f m by.is

  pub done_on : (f : model.Client → Answer) (d : Deed) (new : State) (before after : StepOutput) → f m ≡ Ok d
      → d.lists ≡ None → HasDone t d new before after
      → Answers t (on_client t (caller_in t k) f) (Ok None) new before after
  done_on f d new before after is quiet done = (d, on_giver f ∙ is, sym quiet, done)

  -- a window that was looked for, and is shown
  pub shown_on : (find : model.Client → Option model.Window) (r : Refusal) (found : Option Window) (v : Window)
      (old new : State) (before after : StepOutput)
      → Stands t old → AreFit t → BothOrNone WindowStands (find m) found → found ≡ Some v
      → IfSome (find m) (StandsAt t.windows) → Selects client v.serial old new before after
      → Answers t (on_client t (caller_in t k) (λ d. given (find d) r (λ w. Ok (selects t d w)))) (Ok None) new before
      after
  shown_on find r found v old new before after st fit both is there done =
      let row = both_back WindowStands (find m) found v both is in
      let opened = fit.agree.open_is v.serial
      ∙
      (ap (λ n. is_some (window_at t n)) row.2.serial_is ∙ of_some (StandsAt t.windows) (find m) row.0 row.1 there)
      in
      done_on (λ d. given (find d) r (λ w. Ok (selects t d w))) (selects t m row.0) new before after
      (given_some (find m) r (λ w. Ok (selects t m w)) row.0 row.1) refl
      (done t m row.0 st by.at (sym row.2.serial_is) opened)

  -- there is no such window
  pub not_shown_on : (find : model.Client → Option model.Window) (r : Refusal) (found : Option Window)
      → BothOrNone WindowStands (find m) found → found ≡ None
      → on_client t (caller_in t k) (λ d. given (find d) r (λ w. Ok (selects t d w))) ≡ Err r
  not_shown_on find r found both is =
      on_giver (λ d. given (find d) r (λ w. Ok (selects t d w)))
      ∙ given_none (find m) r (λ w. Ok (selects t m w)) (none_back WindowStands (find m) found both is)
