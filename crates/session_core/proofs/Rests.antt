-- Keys read in steps, each with the rest that the step before left, are all the keys that were read.
use Rattle.session_core.proofs.Vocabulary.{◌≡◌, ℕ, ◌+◌, ◌-◌, ◌<◌, ◌≤◌, List, [], ◌∷◌, length, take, drop, refl, ap, sym}
use Rattle.session_core.proofs.Vocabulary.{◌∙◌, arith, ◌⊎◌, Effect, Keys, Reply, Noted, Session, Takes, read_by}
use Rattle.session_core.proofs.Vocabulary.{SomeSteps}
use Rattle.std.proofs.Common.{length-drop, drop-drop}
use Rattle.std.proofs.lemmas.List.{take_all}
use Rattle.session_core.specs.declared.session.Taken.TheVariants.{Whole}
use Rattle.session_core.specs.Headline.{take_call}
use Rattle.session_core.proofs.RunReading.{last_read, some_left}
use Rattle.session_core.proofs.Runs.{one_step, then_steps}

-- the part after a place
pub rest_from : (bytes : List ℕ) (part : ℕ) → take (length bytes - part) (drop part bytes) ≡ drop part bytes
rest_from bytes part = take_all (length bytes - part) (drop part bytes) (omega (arith, length-drop part bytes))

pub within_rest : (bytes : List ℕ) (part read : ℕ) → read < length (take (length bytes - part) (drop part bytes))
    → part + read ≤ length bytes
within_rest bytes part read less = omega
    (arith, ap (λ ks. length ks) (rest_from bytes part), length-drop part bytes, less)

module _ (old mid new : Session) (client part : ℕ) (bytes : List ℕ) (noted : Noted) (e1 e2 e3 : List Effect)
    (reply : Reply) (read : ℕ) (read_is : read ≡ read_by reply)
    (before : SomeSteps old
    (record {
      events = Keys client bytes ∷ [];
      effects = e1;
      more_effects = e2;
      replies = [];
      more_replies = [];
      left = Keys
          client (drop part bytes) ∷ [];
    }) mid) where
  -- a step that read some of it, and left some
  pub goes_on : (rest : List ℕ) → rest ≡ drop part bytes → Takes mid (Keys client rest) noted e2 e3 reply new → 0 < read
      → read < length rest
      → SomeSteps old
      (record {
        events = Keys client bytes ∷ [];
        effects = e1;
        more_effects = e3;
        replies = [];
        more_replies = [];
        left =
            Keys client (drop (part + read) bytes) ∷ [];
      }) new
  goes_on rest rest_is takes some less =
      then_steps old mid new _ (Keys client rest ∷ []) (Keys client (drop read rest) ∷ []) []
      (Keys client (drop part bytes) ∷ []) (Keys client (drop (part + read) bytes) ∷ []) e1 e2 e3 [] [] [] []
      (ap (λ ks. Keys client ks ∷ []) (sym rest_is))
      (ap (λ ks. Keys client ks ∷ []) (sym (ap (λ ks. drop read ks) rest_is ∙ drop-drop read part bytes)))
      refl before
      (one_step mid new (Keys client rest) (Keys client (drop read rest) ∷ []) noted e2 e3 reply
      (λ t is. some_left client rest reply read read_is some less) takes)

  -- the last step
  pub ends : (rest : List ℕ) → rest ≡ drop part bytes → Takes mid (Keys client rest) noted e2 e3 reply new
      → (read ≡ 0) ⊎ (length rest ≤ read)
      → SomeSteps old (take_call (Keys client bytes) e1 e3 (Whole reply)) new
  ends rest rest_is takes last =
      then_steps old mid new _ (Keys client rest ∷ []) [] [] (Keys client (drop part bytes) ∷ []) [] e1 e2 e3 [] []
      (reply ∷ []) (reply ∷ [])
      (ap (λ ks. Keys client ks ∷ []) (sym rest_is)) refl refl before
      (one_step mid new (Keys client rest) [] noted e2 e3 reply
      (λ t is. last_read t client rest reply read is read_is last) takes)
