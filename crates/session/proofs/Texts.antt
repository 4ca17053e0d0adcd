-- What the steps of one event print.
use Rattle.session.proofs.Vocabulary.{ℕ, ◌≡◌, refl, sym, ◌∙◌, ap, Bool, true, false, List, [], ◌∷◌, ◌++◌, length, drop}
use Rattle.session.proofs.Vocabulary.{Ok, Err, append_assoc, nat_lt, if◌then◌else◌, flat_map, flat_map-append}
use Rattle.session.proofs.Vocabulary.{append-nil, EventValue, Keys, Reply, Entry, Serves, untaken_keys, last_reply}
use Rattle.session.proofs.Vocabulary.{replies_of, effects_of, effect_line, reply_line, printed}

-- nothing is left of an event, or an event with the same lines for replies
data IsLeft (event : EventValue) : List EventValue → Type 0 where
  none : IsLeft event []
  next : (more : EventValue) → ((reply : Reply) → reply_line more reply ≡ reply_line event reply)
      → IsLeft event (more ∷ [])

same_keys : (client : ℕ) (xs ys : List ℕ) (reply : Reply)
    → reply_line (Keys client xs) reply ≡ reply_line (Keys client ys) reply
same_keys client xs ys (Ok done) = refl
same_keys client xs ys (Err refusal) = refl

keys_left : (client taken : ℕ) (bytes : List ℕ) (b : Bool)
    → IsLeft (Keys client bytes) (if b then Keys client (drop taken bytes) ∷ [] else [])
keys_left client taken bytes true = next (Keys client (drop taken bytes))
    (λ reply. same_keys client (drop taken bytes) bytes reply)
keys_left client taken bytes false = none

is_left : (event : EventValue) (reply : Reply) → IsLeft event (untaken_keys event reply)
is_left (Keys client bytes) (Ok done) = keys_left client done.taken bytes (nat_lt done.taken (length bytes))
is_left (Keys client bytes) (Err refusal) = none
is_left event reply = none

same_replies : (more event : EventValue) (replies : List Reply)
    → ((reply : Reply) → reply_line more reply ≡ reply_line event reply)
    → flat_map (reply_line more) replies ≡ flat_map (reply_line event) replies
same_replies more event [] same = refl
same_replies more event (reply ∷ replies) same = ap (λ xs. xs ++ flat_map (reply_line more) replies) (same reply)
    ∙ ap (λ xs. reply_line event reply ++ xs) (same_replies more event replies same)

abbrev pub text_of_steps : EventValue → List Entry → List ℕ
text_of_steps event steps = flat_map effect_line (effects_of steps) ++ flat_map (reply_line event) (replies_of steps)

abbrev effects_text : List Entry → List ℕ
effects_text steps = flat_map effect_line (effects_of steps)

first_step : (event : EventValue) (e : Entry) (steps : List Entry) (left : List EventValue) → IsLeft e.event left
    → e.event ≡ event → Serves (left ++ []) steps []
    → ((more : EventValue) → Serves (more ∷ []) steps [] → printed steps ≡ text_of_steps more steps)
    → (flat_map effect_line e.effects ++ flat_map (reply_line e.event) (last_reply left e.reply)) ++ printed steps
    ≡ flat_map effect_line (e.effects ++ effects_of steps) ++ flat_map (reply_line event)
    (last_reply left e.reply ++ replies_of steps)
first_step event e [] _ none is serves more_steps =
    append-nil _
    ∙
    (ap (λ es. flat_map effect_line es ++ flat_map (reply_line e.event) (e.reply ∷ [])) (sym (append-nil e.effects))
    ∙ ap (λ v. flat_map effect_line (e.effects ++ []) ++ flat_map (reply_line v) (e.reply ∷ [])) is)
first_step event e (f ∷ steps) _ none is serves more_steps = absurd serves
first_step event e steps _ (next more same) is serves more_steps =
    ap (λ xs. xs ++ printed steps) (append-nil (flat_map effect_line e.effects))
    ∙ (ap (λ xs. flat_map effect_line e.effects ++ xs) (more_steps more serves)
    ∙ (sym
    (append_assoc (flat_map effect_line e.effects) (effects_text steps)
    (flat_map (reply_line more) (replies_of steps)))
    ∙ (ap (λ xs. xs ++ flat_map (reply_line more) (replies_of steps))
    (sym (flat_map-append effect_line e.effects (effects_of steps)))
    ∙ ap (λ xs. flat_map effect_line (e.effects ++ effects_of steps) ++ xs)
    (same_replies more e.event (replies_of steps) same ∙ ap (λ v. flat_map (reply_line v) (replies_of steps)) is))))

-- the steps' effects stand together, and the last step's reply ends them
pub one_event : (event : EventValue) (steps : List Entry) → Serves (event ∷ []) steps []
    → printed steps ≡ text_of_steps event steps
one_event event [] serves = cc
one_event event (e ∷ steps) serves = first_step event e steps (untaken_keys e.event e.reply) (is_left e.event e.reply)
    serves.0 serves.1 (λ more s. one_event more steps s)
