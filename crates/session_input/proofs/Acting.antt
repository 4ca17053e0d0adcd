-- A command that needs a client or a window is refused if there is none.
use Rattle.session_input.proofs.Vocabulary.{◌≡◌, Bool, List, Some, Ok, ap, sym, ◌∙◌, inr, Result, IfOk, is_some, UserId}
use Rattle.session_input.proofs.Vocabulary.{Refusal, Tables, window_at, Caller, StepOutput, State, Does, IsAsBefore}
use Rattle.session_input.proofs.Vocabulary.{caller_in}
use Rattle.std.proofs.Common.{true, false, not, refl, ℕ, Option, None, Err, subst}
use Rattle.std.specs.Option.{option_and_then}
use Rattle.acl.specs.declared.act.LockMode.{LockMode}
use Rattle.acl.specs.declared.act.LockMode.TheVariants.{Off, Auto, On}
use Rattle.command_lang.specs.declared.command.Command.{Command}
use Rattle.command_lang.specs.declared.command.Command.TheVariants as command
use Rattle.command_lang.specs.Needs.{needs, of_lock}
use Rattle.session_model.specs.declared.refusal.Refusal.TheVariants.{NoWindow}
use Rattle.session_model.specs.Lines as model
use Rattle.session_model.specs.Deeds.{given}
use Rattle.session_model.specs.Commands.{does, caller_client}
use Rattle.session_state.specs.Doing.{IsSilent}
use Rattle.session_commands.specs.Giving.{NobodyGives}

-- a fact of what is needed
abbrev IfNeeded : Bool → Type 0 → Type 0
IfNeeded true P = P
IfNeeded false P = Unit {0}

module _ (t : Tables) (k : model.Caller) (none : caller_client t k ≡ None) where
  -- Each command's row of the table is asked. Only the command whose needs its row doesn't say is named.
  by_row : (c : Command) → IfNeeded (needs c).client (does t k c ≡ Err NoWindow)
  unfolding given
  by_row (command.Writelock Off) = tt
  by_row (command.Writelock mode) = tt
  by_row c = search

  refused : (c : Command) → (needs c).client ≡ true → does t k c ≡ Err NoWindow
  refused c needed = subst (λ b. IfNeeded b (does t k c ≡ Err NoWindow)) needed (by_row c)

module _ (t : Tables) (user : UserId) (client : Option ℕ) where
  nowhere : model.Caller
  nowhere = record { user = user; client = client; window = None }

  -- what a command answers that needs a window and no client
  abbrev Unplaced : Command → Type 0
  Unplaced c = IfNeeded (not (needs c).client) (does t nowhere c ≡ Err NoWindow)

  by_window : (c : Command) → IfNeeded (needs c).window (Unplaced c)
  unfolding given nowhere
  by_window (command.Writelock Off) = refl
  by_window (command.Writelock mode) = refl
  by_window c = search

  unplaced : (c : Command) → (needs c).client ≡ false → (needs c).window ≡ true → does t nowhere c ≡ Err NoWindow
  unplaced c alone needed = subst (λ b. IfNeeded (not b) (does t nowhere c ≡ Err NoWindow)) alone
      (subst (λ b. IfNeeded b (Unplaced c)) needed (by_window c))

-- such a command is refused if no client that is attached gives it
pub nobody_gives : (k : Caller) (c : Command) (s : State) (made : StepOutput) (r : Refusal) → (needs c).client ≡ true
    → (r ≡ NoWindow) × NobodyGives k s → Does k c s (Err r) s made made
nobody_gives k c s made r acts none = λ t st fit passed.
    inr (refused t (caller_in t k) (none.1 t st) c acts ∙ ap (λ (e : Refusal). Err e) (sym none.0))

-- a command that needs a window and no client is refused if it is given for no window
pub given_nowhere : (k : Caller) (c : Command) (s : State) (made : StepOutput) (r : Refusal) → (needs c).client ≡ false
    → (needs c).window ≡ true → (r ≡ NoWindow) × (k.window ≡ None) → Does k c s (Err r) s made made
unfolding nowhere
given_nowhere k c s made r alone needed none = λ t st fit passed.
    let at : Option ℕ → model.Caller = λ w. record {
      user = k.user;
      client = k.client;
      window = option_and_then (window_at t) w;
    } in
    inr
    (ap (λ (w : Option ℕ). does t (at w) c) none.1 ∙ unplaced t k.user k.client c alone needed
    ∙ ap (λ (e : Refusal). Err e) (sym none.0))

-- each mode of a lock needs a window
pub locks_need_window : (m : LockMode) → (of_lock m).window ≡ true
locks_need_window Off = refl
locks_need_window Auto = refl
locks_need_window On = refl

-- a command that lists nothing has nothing to show for the case that it lists
pub silent_lists : (r : Result (Option (List ℕ)) Refusal) (old new : State) (before after : StepOutput)
    → IsSilent r old new before after
    → IfOk r (λ text. is_some text ≡ true → IsAsBefore old new before after)
silent_lists (Ok None) old new before after silent = λ some. absurd (cc (some))
silent_lists (Ok (Some text)) old new before after silent = absurd (cc (silent.0))
silent_lists (Err e) old new before after silent = tt
