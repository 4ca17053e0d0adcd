-- A Command event that isn't refused did its command's row; it is refused exactly for the reasons
-- that the law lists.
use Rattle.session_laws.proofs.Vocabulary.{◌≡◌, ℕ, Bool, true, false, List, [], ◌++◌, Option, Some, Result, Ok, Err}
use Rattle.session_laws.proofs.Vocabulary.{refl, ap, sym, ◌∙◌, subst, inl, if◌then◌else◌, UserId, Act, followed_by}
use Rattle.session_laws.proofs.Vocabulary.{Effect, Done, Verdict, Refusal, UnknownUser, Line, Order, ParseFault}
use Rattle.session_laws.proofs.Vocabulary.{EventValue, Command, Reply, Entry, Tables, is_known, Caller, line_caller}
use Rattle.session_laws.proofs.Vocabulary.{read_line, checks, verdicts, Deed, Answer, does, ruling, Outcome, finished}
use Rattle.session_laws.proofs.Vocabulary.{reply_of, left_acts, refused, outcome, answered, commanded, line_ruling}
use Rattle.session_laws.proofs.Vocabulary.{Given, commands_of, has_x, with_order, ok_of, SomeOf, IsStep, DidItsRow}
use Rattle.session_laws.proofs.Vocabulary.{LineDidItsRow, refusal_in, IsRefusedSo, some_weaken}
use Rattle.session_laws.proofs.Passing.{passed_has_x}
use Rattle.session_laws.proofs.Asking.{line_given}
use Rattle.session_laws.proofs.Outcomes as outcomes

-- what the outcome has, if its reply is Ok
record Did (t : Tables) (o : Outcome) (done : Done) (g : Given) : Type 0 where
  granted : has_x t g ≡ true
  deed : Deed
  does_it : does t g.caller g.order ≡ Ok deed
  acts : o.acts ≡ deed.acts ++ left_acts t.clients deed.tables.clients
  effects : o.effects ≡ deed.effects
  lists : done.text ≡ deed.lists
  tables : o.tables ≡ record deed.tables
      { acts = followed_by t.acts (deed.acts ++ left_acts t.clients deed.tables.clients) }

abbrev DidIn : Tables → List Given → Outcome → Type 0
DidIn t gs o = (done : Done) → o.reply ≡ Ok done → SomeOf (Did t o done) gs

did : (t : Tables) (user : UserId) (number : Option ℕ) (bytes : List ℕ)
    → DidIn t (commands_of t (Command user number bytes)) (outcome t (Command user number bytes))
did t user number bytes =
    let k : Caller = line_caller t user number in
    outcomes.by_line (DidIn t (commands_of t (Command user number bytes))) t k (is_known t user) (read_line bytes)
    (λ vs f done is. absurd (cc (is)))
    (λ c d known read passes is done answer. subst
    (λ gs. SomeOf (Did t (finished t (verdicts t (checks t k c)) (reply_of 0 0 0 d.lists) d) done) gs)
    (sym (line_given t user number bytes (is_known t user) (read_line bytes) refl refl
    ∙ ap (λ b. if b then with_order k (ok_of (read_line bytes)) else []) known
    ∙ ap (λ r. with_order k (ok_of r)) read))
    (inl (record {
      granted = passed_has_x t k c passes;
      deed = d;
      does_it = is;
      acts = refl;
      effects = refl;
      lists =
          (let same : record { taken = 0; made = 0; number = 0; text = d.lists } ≡ done = cc (answer) in sym
          (ap (λ (x : Done). x.text) same));
      tables = refl;
    })))

pub rows_done : (t : Tables) (event : EventValue) (reply : Reply) (acts : List Act) (vs : List Verdict)
    (effects : List Effect)
    → let e : Entry = record { event = event; reply = reply; acts = acts; verdicts = vs; effects = effects } in IsStep t
    e → LineDidItsRow t e event reply
rows_done t (Command user number bytes) (Ok done) acts vs effects step = some
    (commands_of t (Command user number bytes)) (did t user number bytes done (sym step.reply)) where
      one : (g : Given) → Did t (outcome t (Command user number bytes)) done g
          → DidItsRow t
          (record { event = Command user number bytes; reply = Ok done; acts = acts; verdicts = vs; effects = effects })
          done g
      one g d = record {
        granted = d.granted;
        deed = d.deed;
        does_it = d.does_it;
        acts = step.acts ∙ d.acts;
        effects = step.effects ∙ d.effects;
        lists = d.lists;
        tables = d.tables ∙ ap (λ x. record d.deed.tables { acts = followed_by t.acts x }) (sym (step.acts ∙ d.acts));
      }

      some : (gs : List Given) → SomeOf (Did t (outcome t (Command user number bytes)) done) gs
          → SomeOf
          (DidItsRow t
          (record { event = Command user number bytes; reply = Ok done; acts = acts; verdicts = vs; effects = effects })
          done) gs
      some gs all = some_weaken (Did t (outcome t (Command user number bytes)) done)
          (DidItsRow t
          (record { event = Command user number bytes; reply = Ok done; acts = acts; verdicts = vs; effects = effects })
          done) gs one all
rows_done t (Command user number bytes) (Err r) acts vs effects step = tt
rows_done t event reply acts vs effects step = tt

-- ---- refusals

answer_refused : (t : Tables) (vs : List Verdict) (a : Answer) → refusal_in (answered t vs a).reply ≡ refusal_in a
answer_refused t vs (Ok d) = refl
answer_refused t vs (Err r) = refl

line_refused : (t : Tables) (k : Caller) (b : Bool) (r : Result Order ParseFault)
    → refusal_in (if b then commanded t (line_ruling t k r) else refused t [] UnknownUser).reply
    ≡ (if b then elim r as (λ _. Option Refusal)
    [ Err f ↦ Some (Line f) | Ok order ↦ refusal_in (ruling t k order).answer ] else Some UnknownUser)
line_refused t k true (Ok order) = answer_refused t (verdicts t (checks t k order)) (ruling t k order).answer
line_refused t k true (Err f) = refl
line_refused t k false r = refl

pub refused_so : (t : Tables) (event : EventValue) (reply : Reply) (acts : List Act) (vs : List Verdict)
    (effects : List Effect)
    → let e : Entry = record { event = event; reply = reply; acts = acts; verdicts = vs; effects = effects } in IsStep t
    e → IsRefusedSo t e event
refused_so t (Command user number bytes) reply acts vs effects step = ap refusal_in step.reply
    ∙ line_refused t (line_caller t user number) (is_known t user) (read_line bytes)
refused_so t event reply acts vs effects step = tt
