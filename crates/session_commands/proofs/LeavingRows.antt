-- What the rows of `detach`, `kill`, `quit` and `multiuser` answer.
use Rattle.session_commands.proofs.Vocabulary.{◌≡◌, ◌∙◌, sym, subst, ◌⊎◌, ◌==◌, option_and_then, UserId, AclFault}
use Rattle.session_commands.proofs.Vocabulary.{Refusal, NoMemory, Tables, window_at, client_at, known_users, Answer}
use Rattle.session_commands.proofs.Vocabulary.{closes, parts, removes, serial_is, Caller, caller_in, detaching}
use Rattle.std.proofs.Common.{ℕ, List, Option, Some, None, Ok, Err, refl, ap, inl, inr}
use Rattle.acl.specs.declared.entries.AclFault.TheVariants as fault
use Rattle.acl.specs.Names.{named_by}
use Rattle.acl.specs.Commands.{known_name_fault}
use Rattle.acl.specs.Commands as acl
use Rattle.command_lang.specs.declared.command.Command.TheVariants as command
use Rattle.session_model.specs.declared.event.Reason.TheVariants as reason
use Rattle.session_model.specs.declared.refusal.Refusal.TheVariants.{NoWindow, Acl}
use Rattle.session_model.specs.Tables as model
use Rattle.session_model.specs.Lines as model_lines
use Rattle.session_model.specs.Deeds.{given, unless}
use Rattle.session_model.specs.Commands.{does}
use Rattle.session_commands.specs.Closing.{closing}
use Rattle.session_commands.specs.Asked.{refusal_of}

-- ---- what is there, or the refusal

pub given_some : {X : Type 0} (o : Option X) (r : Refusal) (f : X → Answer) (x : X) → o ≡ Some x → given o r f ≡ f x
unfolding given
given_some o r f x is = ap (λ p. given p r f) is

pub given_none : {X : Type 0} (o : Option X) (r : Refusal) (f : X → Answer) → o ≡ None → given o r f ≡ Err r
unfolding given
given_none o r f is = ap (λ p. given p r f) is

given_same : {X : Type 0} (o : Option X) (r : Refusal) (f g : X → Answer) → ((x : X) → o ≡ Some x → f x ≡ g x)
    → given o r f ≡ given o r g
unfolding given
given_same None r f g same = refl
given_same (Some x) r f g same = same x refl

-- ---- rows of commands

abbrev model_window : model.Window → ℕ
model_window w = w.serial

abbrev model_client : model.Client → ℕ
model_client c = c.serial

pub kill_is : (t : Tables) (k : Caller) (window : ℕ) → k.window ≡ Some window
    → closing window reason.Killed t ≡ does t (caller_in t k) command.Kill
kill_is t k window is =
    given_same (window_at t window) NoWindow (λ w. Ok (closes (λ v. v.serial == window) reason.Killed t))
    (λ w. Ok (closes (λ v. v.serial == w.serial) reason.Killed t))
    (λ w at. ap (λ n. Ok (closes (λ v. v.serial == n) reason.Killed t))
    (sym (serial_is model_window t.windows window w at)))
    ∙ ap (λ o. given (option_and_then (window_at t) o) NoWindow
    (λ w. Ok (closes (λ v. v.serial == w.serial) reason.Killed t))) (sym is)

pub detach_is : (t : Tables) (k : Caller) (client : ℕ) → k.client ≡ Some client
    → detaching client t ≡ does t (caller_in t k) command.Detach
detach_is t k client is =
    given_same (client_at t client) NoWindow (λ c. Ok (parts (λ d. d.serial == client) reason.Detached t))
    (λ c. Ok (parts (λ d. d.serial == c.serial) reason.Detached t))
    (λ c at. ap (λ n. Ok (parts (λ d. d.serial == n) reason.Detached t))
    (sym (serial_is model_client t.clients client c at)))
    ∙ ap (λ o. given (option_and_then (client_at t) o) NoWindow
    (λ c. Ok (parts (λ d. d.serial == c.serial) reason.Detached t))) (sym is)

-- an answer that equals another one
pub refused_alike : (a b : Answer) (r : Refusal) → a ≡ b → (r ≡ NoMemory) ⊎ (a ≡ Err r) → (r ≡ NoMemory) ⊎ (b ≡ Err r)
refused_alike a b r same answer = subst (λ x. (r ≡ NoMemory) ⊎ (x ≡ Err r)) same answer

-- ---- acldel

pub removal : (t : Tables) (k : model_lines.Caller) (word : List ℕ) (user : UserId) → named_by word ≡ Some user
    → known_name_fault t.owner (known_users t) (Some user) ≡ None
    → does t k (command.Acldel word) ≡ Ok (removes (Some user) t)
unfolding unless
removal t k word user named none =
    ap (λ name. unless Acl (known_name_fault t.owner (known_users t) name) (removes name t)) named
    ∙ ap (λ f. unless Acl f (removes (Some user) t)) none

module _ (t : Tables) (k : model_lines.Caller) (word : List ℕ) (user : UserId) (named : named_by word ≡ Some user) where
  refused : (f : AclFault) → known_name_fault t.owner (known_users t) (Some user) ≡ Some f
      → does t k (command.Acldel word) ≡ Err (Acl f)
  unfolding unless
  refused f is =
      ap (λ name. unless Acl (known_name_fault t.owner (known_users t) name) (removes name t)) named
      ∙ ap (λ g. unless Acl g (removes (Some user) t)) is

  pub removal_refused : (f : AclFault)
      → acl.Answers {X = Unit {0}} (Err f) (known_name_fault t.owner (known_users t) (Some user))
      → (refusal_of f ≡ NoMemory) ⊎ (does t k (command.Acldel word) ≡ Err (refusal_of f))
  removal_refused fault.NoMemory is = inl refl
  removal_refused fault.UnknownUser is = inr (refused fault.UnknownUser is)
  removal_refused fault.OwnerKept is = inr (refused fault.OwnerKept is)
  removal_refused fault.TooManyUsers is = inr (refused fault.TooManyUsers is)
  removal_refused fault.ReservedName is = inr (refused fault.ReservedName is)
  removal_refused fault.NoSuchGroup is = inr (refused fault.NoSuchGroup is)
  removal_refused fault.TooManyGroups is = inr (refused fault.TooManyGroups is)

pub removal_unnamed : (t : Tables) (k : model_lines.Caller) (word : List ℕ) → named_by word ≡ None
    → does t k (command.Acldel word) ≡ Err (Acl fault.ReservedName)
unfolding unless
removal_unnamed t k word none =
    ap (λ name. unless Acl (known_name_fault t.owner (known_users t) name) (removes name t)) none
