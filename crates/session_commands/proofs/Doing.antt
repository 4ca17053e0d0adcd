-- What a row is on the caller's window, and what `stuff` types there.
use Rattle.session_commands.proofs.Vocabulary.{◌≡◌, ℕ, ◌∷◌, length, false, Some, ◌∙◌, if◌then◌else◌, ◌==◌, Tables}
use Rattle.session_commands.proofs.Vocabulary.{Window, Answer, changing, does, on_window, if_false, Caller, caller_in}
use Rattle.std.proofs.Common.{List, [], true, Ok, ap, is_ok}
use Rattle.std.specs.Prelude.{Result}
use Rattle.command_lang.specs.declared.command.Command.TheVariants as command
use Rattle.session_model.specs.declared.event.Effect.TheVariants.{Input}
use Rattle.session_model.specs.declared.refusal.Refusal.TheVariants.{NoWindow}
use Rattle.session_model.specs.Lines as model
use Rattle.session_model.specs.Deeds.{given, input_of}
use Rattle.windows_model.proofs.Serials.{if_true}
use Rattle.session_commands.proofs.Passing.{IsOn}

-- a command on a caller's window
pub on_row : (t : Tables) (k : model.Caller) (f : Window → Answer) (w : Window)
    → k.window ≡ Some w → on_window t k f ≡ f w
unfolding given
on_row t k f w is = ap (λ o. given o NoWindow f) is

-- what a push that can't fail leaves
pub pushed : {A B E : Type 0} (r : Result B E) (b : B) (items more old : List A) → r ≡ Ok b
    → items ≡ (if is_ok r then more else old) → items ≡ more
pushed r b items more old is made = made ∙ ap (λ x. if is_ok x then more else old) is

-- bytes for a window's program
pub no_input : (w : ℕ) (bytes : List ℕ) → (length bytes == 0) ≡ true → input_of w bytes ≡ []
no_input w bytes is = if_true (length bytes == 0) [] (Input w bytes ∷ []) is

pub some_input : (w : ℕ) (bytes : List ℕ) → (length bytes == 0) ≡ false
    → input_of w bytes ≡ Input w bytes ∷ []
some_input w bytes is = if_false (length bytes == 0) [] (Input w bytes ∷ []) is

-- `stuff` is bytes for the program of the caller's window
pub stuff_row : (t : Tables) (k : Caller) (s : ℕ) (w : Window) (bytes : List ℕ) → IsOn t k s w
    → does t (caller_in t k) (command.Stuff bytes)
    ≡ Ok (record (changing t) { effects = input_of s bytes })
stuff_row t k s w bytes on =
    on_row t (caller_in t k)
    (λ (v : Window). Ok (record (changing t) { effects = input_of v.serial bytes })) w on.given
    ∙ ap (λ (n : ℕ). Ok (record (changing t) { effects = input_of n bytes })) on.serial
