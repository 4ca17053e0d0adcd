-- Bytes that are typed go to the window in focus, or their client is told why not.
use Rattle.session_input.proofs.Vocabulary.{◌≡◌, ℕ, true, false, List, [], ◌∷◌, ◌++◌, Option, Some, None, refl, ap, sym}
use Rattle.session_input.proofs.Vocabulary.{◌∙◌, length, inl, inr, ◌⊎◌, ◌==◌, option_and_then, UserId, Effect, Say}
use Rattle.session_input.proofs.Vocabulary.{StatusMessage, Silence, Text, Refusal, NoMemory, Window, Client, Tables}
use Rattle.session_input.proofs.Vocabulary.{window_at, client_at, focused_window, first_fault, typing_checks, Deed}
use Rattle.session_input.proofs.Vocabulary.{changing, input_in, says_why, text_of, serial_is, Step, Passed, Failed}
use Rattle.session_input.proofs.Vocabulary.{wants_memory, Typed, input_to}
use Rattle.session_model.specs.declared.event.Effect.TheVariants.{Input}
use Rattle.session_model.specs.Tables.{focused}

-- if the checks passed, there is a window in focus
focus_there : (t : Tables) (user : UserId) (o : Option Window)
    → first_fault t (typing_checks user o) ≡ None → (w : Window) × (o ≡ Some w)
focus_there t user None passed = absurd (cc (passed))
focus_there t user (Some w) passed = (w, refl)

input_there : (t : Tables) (s : Option ℕ) (w : Window) (typed : List ℕ)
    → option_and_then (window_at t) s ≡ Some w
    → input_to s typed ≡ input_in (option_and_then (window_at t) s) typed
input_there t None w typed at = absurd (cc (at))
input_there t (Some n) w typed at =
    ap (λ (k : ℕ). Input k typed ∷ [])
    (sym (serial_is (λ (v : Window). v.serial) t.windows n w at))
    ∙ ap (λ (o : Option Window). input_in o typed) (sym at)

-- the bytes go to it
pub typed_through : (t : Tables) (c : Client) (typed : List ℕ) (before after : Step)
    → (length typed == 0) ≡ false
    → Passed t (typing_checks c.user (focused_window t c)) before.verdicts.items after.verdicts.items
    → after.made.effects.items ≡ before.made.effects.items ++ input_to (focused c) typed
    → Typed t c typed Silence before after
typed_through t c [] before after some passed put = absurd (cc (some))
typed_through t c (b ∷ bytes) before after some passed put =
    let there = focus_there t c.user (focused_window t c) passed.none in
    let typed : List ℕ = b ∷ bytes in
    let through : Deed = record (changing t) { effects = input_in (focused_window t c) typed } in
    record {
      message_is = sym (ap (λ (o : Option Refusal). elim o as (λ _. StatusMessage) [
        | None ↦ Silence
        | Some r ↦ Text (text_of r)
      ]) passed.none);
      effects = put ∙ ap (λ (more : List Effect). before.made.effects.items ++ more)
          (input_there t (focused c) there.0 typed there.1
          ∙ sym (ap (λ (o : Option Refusal). (elim o as (λ _. Deed) [
            | Some r ↦ says_why t c.serial r
            | None ↦ through
          ]).effects) passed.none));
      verdicts = passed.noted;
    }

-- the client is told why not
typed_refused : (t : Tables) (c : Client) (n : ℕ) (typed : List ℕ) (r : Refusal)
    (before after : Step) → (length typed == 0) ≡ false → c.serial ≡ n
    → Failed t (typing_checks c.user (focused_window t c)) r before.verdicts.items after.verdicts.items
    → after.made.effects.items ≡ before.made.effects.items ++ Say n (text_of r) ∷ []
    → Typed t c typed (Text (text_of r)) before after
typed_refused t c n [] r before after some same failed put = absurd (cc (some))
typed_refused t c n (b ∷ bytes) r before after some same failed put =
    let typed : List ℕ = b ∷ bytes in
    let through : Deed = record (changing t) { effects = input_in (focused_window t c) typed } in
    record {
      message_is = sym (ap (λ (o : Option Refusal). elim o as (λ _. StatusMessage) [
        | None ↦ Silence
        | Some r ↦ Text (text_of r)
      ]) failed.first);
      effects = put ∙ ap (λ (more : List Effect). before.made.effects.items ++ more)
          (ap (λ (k : ℕ). Say k (text_of r) ∷ []) (sym same)
          ∙ sym (ap (λ (o : Option Refusal). (elim o as (λ _. Deed) [
            | Some r ↦ says_why t c.serial r
            | None ↦ through
          ]).effects) failed.first));
      verdicts = failed.noted;
    }

pub typed_refused_or : (t : Tables) (c : Client) (n : ℕ) (typed : List ℕ) (r : Refusal)
    (before after : Step) → (length typed == 0) ≡ false
    → client_at t n ≡ Some c → wants_memory r ≡ false
    → (r ≡ NoMemory)
    ⊎ Failed t (typing_checks c.user (focused_window t c)) r before.verdicts.items after.verdicts.items
    → after.made.effects.items ≡ before.made.effects.items ++ Say n (text_of r) ∷ []
    → Typed t c typed (Text (text_of r)) before after
typed_refused_or t c n typed r before after some at other (inl full) put =
    let want : wants_memory r ≡ true = ap wants_memory full in absurd (cc (want, other))
typed_refused_or t c n typed r before after some at other (inr failed) put =
    typed_refused t c n typed r before after some
    (serial_is (λ (d : Client). d.serial) t.clients n c at) failed put
