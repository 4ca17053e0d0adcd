-- A command by keys that was done or refused, and told of, is the definitions' deed.
use Rattle.session_input.proofs.Vocabulary.{◌≡◌, ℕ, true, false, List, ◌++◌, Option, Some, Result, Ok, Err, ap, sym}
use Rattle.session_input.proofs.Vocabulary.{subst, ◌∙◌, append-nil, append_assoc, inl, inr, OnOk, Command, Effect, Text}
use Rattle.session_input.proofs.Vocabulary.{Refusal, Client, Tables, client_at, Deed, Ruling, ruling, says, text_of}
use Rattle.session_input.proofs.Vocabulary.{ClientStands, both_back, serials, Step, StepOutput, State, Stands, HasDone}
use Rattle.session_input.proofs.Vocabulary.{caller_in, did, caller_by, Ruled, Says, wants_memory, Obeyed}
use Rattle.session_model.specs.Lines as model
use Rattle.session_model.specs.Answering.{keyed, with_listed, message_of}
use Rattle.windows_model.proofs.Matching.{rows_match, both_there}
use Rattle.session_state.specs.declared.client.Client.{Client as Row}
use Rattle.session_input.proofs.Telling.{told_there}

-- the caller is the client
pub called : (t : Tables) (c : Client) (n : ℕ) → c.serial ≡ n
    → caller_in t (caller_by n c) ≡ model.caller_of t c
called t c n same = ap (λ (k : ℕ). caller_in t (caller_by k c)) (sym same)

-- a refusal is said
obeyed_refused : (t : Tables) (c : Client) (n : ℕ) (k : Command) (r : Refusal)
    (new : State) (before after : Step) → c.serial ≡ n
    → (ruling t (caller_in t (caller_by n c)) k).answer ≡ Err r
    → after.verdicts.items ≡ before.verdicts.items ++ (ruling t (caller_in t (caller_by n c)) k).verdicts
    → HasDone t (says t n (Text (text_of r)) (text_of r)) new before.made after.made
    → Obeyed t c (Some (Ok k)) new before after
obeyed_refused t c n k r new before after same answer told said =
    let is : ruling t (caller_in t (caller_by n c)) k ≡ ruling t (model.caller_of t c) k =
    ap (λ (m : model.Caller). ruling t m k) (called t c n same) in
    let deed : keyed t c.serial (message_of k) (ruling t (model.caller_of t c) k).answer
    ≡ says t n (Text (text_of r)) (text_of r) =
    ap (keyed t c.serial (message_of k)) (ap (λ (r : Ruling). r.answer) (sym is) ∙ answer)
    ∙ ap (λ (m : ℕ). says t m (Text (text_of r)) (text_of r)) same in
    record {
      done = subst (λ (e : Deed). HasDone t e new before.made after.made) (sym deed) said;
      verdicts = told ∙ ap (λ (r : Ruling). before.verdicts.items ++ r.verdicts) is;
    }

-- a client that is there in one state's tables is there in all
pub still_there : (t u : Tables) (s : State) (n : ℕ) (c : Client) → Stands t s → Stands u s
    → client_at t n ≡ Some c → (d : Client) × (client_at u n ≡ Some d)
still_there t u s n c st other at =
    let mine = both_there ClientStands (client_at t n) _ c
    (rows_match ClientStands (λ (m : Client). m.serial) (λ (r : Row). r.serial) serials
    t.clients s.clients n st.clients) at in
    let found = both_back ClientStands (client_at u n) _ mine.0
    (rows_match ClientStands (λ (m : Client). m.serial) (λ (r : Row). r.serial) serials
    u.clients s.clients n other.clients) mine.1 in
    (found.0, found.1)

-- what a command lists is said
pub obeyed_listing : (t : Tables) (c d' : Client) (n : ℕ) (k : Command) (d : Deed) (text : List ℕ)
    (s new : State) (before middle : Step) (made : StepOutput) → c.serial ≡ n
    → Stands t s → client_at t n ≡ Some d'
    → (ruling t (caller_in t (caller_by n c)) k).answer ≡ Ok d → Some text ≡ d.lists
    → HasDone t d s before.made middle.made
    → middle.verdicts.items ≡ before.verdicts.items ++ (ruling t (caller_in t (caller_by n c)) k).verdicts
    → Says n (message_of k text) text s new middle.made made
    → Obeyed t c (Some (Ok k)) new before (record middle { made = made })
obeyed_listing t c d' n k d text s new before middle made same st at answer lists done told said =
    let is : ruling t (caller_in t (caller_by n c)) k ≡ ruling t (model.caller_of t c) k =
    ap (λ (m : model.Caller). ruling t m k) (called t c n same) in
    let u : Tables = did t d in
    let there = still_there t u s n d' st done.stands at in
    let e : HasDone u (says u n (message_of k text) text) new middle.made made =
    said u there.0 done.stands there.1 in
    let listed : Deed = with_listed n (message_of k) (Some text) d in
    let deed : keyed t c.serial (message_of k) (ruling t (model.caller_of t c) k).answer ≡ listed =
    ap (keyed t c.serial (message_of k)) (ap (λ (r : Ruling). r.answer) (sym is) ∙ answer)
    ∙ ap (λ (l : Option (List ℕ)). with_listed c.serial (message_of k) l d) (sym lists)
    ∙ ap (λ (m : ℕ). with_listed m (message_of k) (Some text) d) same in
    record {
      done = subst (λ (e : Deed). HasDone t e new before.made made) (sym deed) (record {
        stands = subst (λ (v : Tables). Stands v new)
            (ap (λ (o : Tables). record o { acts = u.acts })
            (told_there u n (message_of k text) there.0 there.1)
            ∙ sym (ap (λ (o : Tables). record o { acts = u.acts })
            (told_there d.tables n (message_of k text) there.0 there.1))) e.stands;
        acts = e.acts ∙ append-nil middle.made.acts.items ∙ done.acts;
        effects = e.effects
            ∙ ap (λ (fs : List Effect). fs ++ (says u n (message_of k text) text).effects) done.effects
            ∙ append_assoc before.made.effects.items d.effects _;
      });
      verdicts = told ∙ ap (λ (r : Ruling). before.verdicts.items ++ r.verdicts) is;
    }

-- what was done after some acts and effects was done after equal ones
pub kept_on : (t : Tables) (d : Deed) (new : State) (before middle after : StepOutput)
    → HasDone t d new before after → before.acts.items ≡ middle.acts.items
    → before.effects.items ≡ middle.effects.items → HasDone t d new middle after
kept_on t d new before middle after done acts effects = record {
  stands = done.stands;
  acts = done.acts ∙ ap (λ xs. xs ++ d.acts) acts;
  effects = done.effects ∙ ap (λ fs. fs ++ d.effects) effects;
}

pub obeyed_refused_or : (t : Tables) (c : Client) (n : ℕ) (k : Command) (r : Refusal)
    (s new : State) (before middle : Step) (made : StepOutput) → c.serial ≡ n
    → wants_memory r ≡ false
    → Ruled t (ruling t (caller_in t (caller_by n c)) k) (Err r) s before middle
    → middle.made.acts.items ≡ before.made.acts.items → middle.made.effects.items ≡ before.made.effects.items
    → HasDone t (says t n (Text (text_of r)) (text_of r)) new middle.made made
    → Obeyed t c (Some (Ok k)) new before (record middle { made = made })
obeyed_refused_or t c n k r s new before middle made same other (inl full) acts effects done =
    let want : wants_memory r ≡ true = ap wants_memory full in absurd (cc (want, other))
obeyed_refused_or t c n k r s new before middle made same other (inr told) acts effects done =
    obeyed_refused t c n k r new before (record middle { made = made }) same told.0 told.1
    (kept_on t _ new middle.made before.made made done acts effects)

pub on_always : {A E P : Type 0} (r : Result A E) → P → OnOk r P
on_always (Ok a) p = p
on_always (Err e) p = tt
