-- What a client that has keys of its own sends of what its user types.
use Rattle.std.specs.Prelude.{◌≡◌, ◌≢◌, ◌⊎◌, ℕ, ◌<◌, Bool, false, ◌==◌, ◌&&◌, if◌then◌else◌, List, [], ◌∷◌, ◌++◌}
use Rattle.keys.specs.Grammar.{control_a, Rest, nothing, command_key, prompt, items, rest_step}
use Rattle.keys.specs.Kept.{rest_of}
use Rattle.client_typing.specs.Fitting.{awaits_key}
use Rattle.client_typing.specs.Own.{question, IsOwn, IsPageKey, turned, view_keys}
use Rattle.client_typing.specs.declared.typing.Typing.{Typing}

-- What is open after what was typed, how many lines the view is moved back, and whether the last key asks for the help.
pub record Standing : Type 0 where
  pub rest : Rest
  pub back : ℕ
  pub asks : Bool

abbrev pub at : Typing → Standing
at t = record { rest = rest_of t.keys; back = t.back; asks = t.asks_help }

abbrev pub beginning : Standing
beginning = record { rest = nothing; back = 0; asks = false }

-- ---- what is sent of some keys

-- lines that were moved back come to the end before a key where the session waits for none
abbrev pub to_end : Rest → ℕ → List ℕ
to_end nothing back = if back == 0 then [] else view_keys 0
to_end other back = []

abbrev pub end_of : Rest → ℕ → ℕ
end_of nothing back = 0
end_of other back = back

-- A key is sent as it is typed. The command key waits for the key after it; if that asks for the help, neither is sent.
abbrev pub passed : Rest → ℕ → List ℕ
passed nothing k = if k == control_a then [] else k ∷ []
passed command_key k = if k == question then [] else control_a ∷ k ∷ []
passed (prompt bytes) k = k ∷ []

abbrev pub after_key : Standing → ℕ → Standing
after_key s k = record {
  rest = (rest_step s.rest k).1;
  back = end_of s.rest s.back;
  asks = awaits_key s.rest && k == question;
}

-- the session waits for no key, and the first keys scroll by a page of so many lines
pub record TurnsPage (lines : ℕ) (old : Standing) (keys sent later : List ℕ) (new : Standing) : Type 0 where
  pub taken : List ℕ
  pub is_up : Bool
  pub is : IsPageKey taken is_up
  pub whole : keys ≡ taken ++ later
  pub rests : old.rest ≡ nothing
  pub sends : sent ≡ view_keys (turned is_up lines old.back)
  pub after : new ≡ record { rest = nothing; back = turned is_up lines old.back; asks = false }

-- they don't, and the first key isn't the client's own
pub record PassesKey (old : Standing) (keys sent later : List ℕ) (new : Standing) : Type 0 where
  pub first : ℕ
  pub whole : keys ≡ first ∷ later
  pub other : old.rest ≡ nothing → (page after : List ℕ) (is_up : Bool) → IsPageKey page is_up → keys ≡ page ++ after
      → ⊥
  pub sends : sent ≡ to_end old.rest old.back ++ passed old.rest first
  pub after : new ≡ after_key old first

-- What is made of the first of some keys: what is sent, and which keys come later.
abbrev pub MakesFirst : ℕ → Standing → List ℕ → List ℕ → List ℕ → Standing → Type 0
MakesFirst lines old keys sent later new =
    TurnsPage lines old keys sent later new ⊎ PassesKey old keys sent later new

-- what is made of all keys of one read, and what is sent of them
pub data Makes (lines : ℕ) : Standing → List ℕ → List ℕ → Standing → Type 0 where
  none : {s : Standing} → Makes lines s [] [] s
  next : {s middle last : Standing} {keys sent later more : List ℕ} → MakesFirst lines s keys sent later middle
      → Makes lines middle later more last → Makes lines s keys (sent ++ more) last

-- the first of some keys are taken, and what is sent of them comes after `before`
pub record Takes (lines : ℕ) (old : Typing) (keys before later : List ℕ) (new : Typing) (after : List ℕ) : Type 0 where
  pub sent : List ℕ
  pub added : after ≡ before ++ sent
  pub makes : MakesFirst lines (at old) keys sent later (at new)

-- these keys are typed
pub record Assists (lines : ℕ) (old : Typing) (keys before : List ℕ) (new : Typing) (after : List ℕ) : Type 0 where
  pub sent : List ℕ
  pub added : after ≡ before ++ sent
  pub makes : Makes lines (at old) keys sent (at new)

-- ---- what was sent of all that was typed

-- A key is sent as it is typed, unless it asks for the help. Where the session waits for no key, the view has come to
-- the end first.
abbrev pub IsSent : Rest → ℕ → ℕ → Type 0
IsSent nothing back k = back ≡ 0
IsSent command_key back k = k ≢ question
IsSent (prompt bytes) back k = Unit {0}

-- What was typed, what was sent of it, and how many lines the view is moved back. Each key that was typed is sent, in
-- order and once, but for those that the client takes. What it gives of its own comes where the session waits for no
-- key.
pub data Assisted : List ℕ → List ℕ → ℕ → Type 0 where
  none : Assisted [] [] 0
  key : {typed sent : List ℕ} {back : ℕ} (k : ℕ) → IsSent (items sent).1 back k → Assisted typed sent back
      → Assisted (typed ++ k ∷ []) (sent ++ k ∷ []) back
  own : {typed sent taken given : List ℕ} {back after : ℕ} → (items sent).1 ≡ nothing → IsOwn back taken given after
      → Assisted typed sent back → Assisted (typed ++ taken) (sent ++ given) after

-- the command key waits for the key after it, so it isn't sent yet
abbrev pub waiting : Rest → List ℕ
waiting nothing = []
waiting command_key = control_a ∷ []
waiting (prompt bytes) = []

abbrev pub without_waiting : Rest → Rest
without_waiting nothing = nothing
without_waiting command_key = nothing
without_waiting (prompt bytes) = prompt bytes

-- after all that was typed this is open, and the view is moved back by so many lines
pub record HasSent (rest : Rest) (back : ℕ) (typed sent : List ℕ) : Type 0 where
  pub taken : List ℕ
  pub whole : typed ≡ taken ++ waiting rest
  pub assisted : Assisted taken sent back
  pub reads : (items sent).1 ≡ without_waiting rest
  pub last : rest ≡ command_key → back ≡ 0
  pub few : back < 65536
