-- The bytes that the effects of deeds put into windows.
use Rattle.session_laws.proofs.Vocabulary.{◌≡◌, ℕ, Bool, true, false, not, List, [], ◌∷◌, ◌++◌, Option, Some, None, Ok}
use Rattle.session_laws.proofs.Vocabulary.{Err, refl, ap, sym, ◌∙◌, append_assoc, if◌then◌else◌, ◌==◌, list_any, Effect}
use Rattle.session_laws.proofs.Vocabulary.{Input, Deliver, Say, Size, Gone, Verdict, StatusMessage, Deed, Answer}
use Rattle.session_laws.proofs.Vocabulary.{answered, keyed, with_listed, says_same, unsaid, inputs, Tables}
use Rattle.session_model.specs.declared.event.Peer.TheVariants as peer

abbrev pub is_say : Effect → Bool
is_say (Say client bytes) = true
is_say _ = false

pub append_nil : {A : Type 0} (xs : List A) → xs ++ [] ≡ xs
append_nil [] = refl
append_nil (x ∷ xs) = ap (λ ys. x ∷ ys) (append_nil xs)

pub inputs_append : (a b : List Effect) (w : ℕ) → inputs (a ++ b) w ≡ inputs a w ++ inputs b w
inputs_append [] b w = refl
inputs_append (Input at bytes ∷ a) b w = ap (λ bs. (if at == w then bytes else []) ++ bs) (inputs_append a b w)
    ∙ sym (append_assoc (if at == w then bytes else []) (inputs a w) (inputs b w))
inputs_append (x ∷ a) b w = inputs_append a b w

-- an effect that isn't a Say is never dropped
never_same : (e : Effect) (said : List Effect) → is_say e ≡ false → list_any (says_same e) said ≡ false
never_same (Say to bytes) said is = absurd (cc (is))
never_same e [] is = refl
never_same (Input at bytes) (s ∷ said) is = never_same (Input at bytes) said is
never_same (Deliver at bytes) (s ∷ said) is = never_same (Deliver at bytes) said is
never_same (Size at rows columns) (s ∷ said) is = never_same (Size at rows columns) said is
never_same (Gone (peer.Window at) why) (s ∷ said) is = never_same (Gone (peer.Window at) why) said is
never_same (Gone (peer.Client at) why) (s ∷ said) is = never_same (Gone (peer.Client at) why) said is

kept_inputs : (b : Bool) (e : Effect) (fs es : List Effect) (w : ℕ) → b ≡ false → inputs fs w ≡ inputs es w
    → inputs (if not b then e ∷ fs else fs) w ≡ inputs (e ∷ es) w
kept_inputs true e fs es w is rest = absurd (cc (is))
kept_inputs false e fs es w is rest = inputs_append (e ∷ []) fs w ∙ ap (λ bs. inputs (e ∷ []) w ++ bs) rest
    ∙ sym (inputs_append (e ∷ []) es w)

said_inputs : (b : Bool) (to : ℕ) (bytes : List ℕ) (fs es : List Effect) (w : ℕ) → inputs fs w ≡ inputs es w
    → inputs (if not b then Say to bytes ∷ fs else fs) w ≡ inputs es w
said_inputs true to bytes fs es w rest = rest
said_inputs false to bytes fs es w rest = rest

pub inputs_unsaid : (said es : List Effect) (w : ℕ) → inputs (unsaid said es) w ≡ inputs es w
inputs_unsaid said [] w = refl
inputs_unsaid said (Say to bytes ∷ es) w = said_inputs (list_any (says_same (Say to bytes)) said) to bytes
    (unsaid said es) es w (inputs_unsaid said es w)
inputs_unsaid said (e ∷ es) w = kept_inputs (list_any (says_same e) said) e (unsaid said es) es w
    (never_same e said refl) (inputs_unsaid said es w)

-- the bytes of an answer's effects
abbrev pub answer_inputs : Answer → ℕ → List ℕ
answer_inputs (Ok d) w = inputs d.effects w
answer_inputs (Err r) w = []

pub answered_inputs : (t : Tables) (vs : List Verdict) (a : Answer) (w : ℕ)
    → inputs (answered t vs a).effects w ≡ answer_inputs a w
answered_inputs t vs (Ok d) w = refl
answered_inputs t vs (Err r) w = refl

listed_inputs : (client : ℕ) (m : List ℕ → StatusMessage) (lists : Option (List ℕ)) (d : Deed) (w : ℕ)
    → inputs (with_listed client m lists d).effects w ≡ inputs d.effects w
listed_inputs client m None d w = refl
listed_inputs client m (Some bytes) d w = inputs_append d.effects (Say client bytes ∷ []) w
    ∙ append_nil (inputs d.effects w)

pub keyed_inputs : (u : Tables) (client : ℕ) (m : List ℕ → StatusMessage) (a : Answer) (w : ℕ)
    → inputs (keyed u client m a).effects w ≡ answer_inputs a w
keyed_inputs u client m (Ok d) w = listed_inputs client m d.lists d w
keyed_inputs u client m (Err r) w = refl

-- an event whose deed puts no bytes into windows
