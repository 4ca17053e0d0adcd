-- What a line or keys answered is the outcome of their event.
use Rattle.session_input.proofs.Vocabulary.{◌≡◌, ℕ, true, List, [], Option, Some, None, Result, Ok, Err, refl, ap, sym}
use Rattle.session_input.proofs.Vocabulary.{◌∙◌, append-nil, inl, inr, ◌⊎◌, Command, ParseFault, Relates, Refuses}
use Rattle.session_input.proofs.Vocabulary.{read_line, no_memory, relates-reads, refuses-reads, UserId, Refusal}
use Rattle.session_input.proofs.Vocabulary.{NoMemory, NoWindow, Line, Reply, Tables, Client, Ruling, ruling, Deed}
use Rattle.session_input.proofs.Vocabulary.{Outcome, refused, reply_of, if_true, Step, StepOutput, State, Stands}
use Rattle.session_input.proofs.Vocabulary.{IsAsBefore, did, HasLeft, Ruled, ReadFor, read_of, Parses, HasHappened}
use Rattle.command_lang.specs.declared.fault.FaultKind.{FaultKind}
use Rattle.command_lang.specs.declared.fault.FaultKind.TheVariants as fault
use Rattle.session_model.specs.Trace.{Command as Given}
use Rattle.session_model.specs.Tables.{is_known}
use Rattle.session_model.specs.Lines.{Caller, line_caller}
use Rattle.session_model.specs.Deeds.{Answer}
use Rattle.session_model.specs.Events.{outcome}
use Rattle.session_model.specs.Answering.{answered, commanded, line_ruling, keys_outcome}
use Rattle.session_input.specs.Lines.{line_refusal, refusal_by}
use Rattle.session_input.specs.Stepping.{Stepped}
use Rattle.session_input.proofs.Outcomes.{was_refused, was_done}

-- ---- lines

pub line_fails : (line : List ℕ) (f : ParseFault) → (f ≡ no_memory) ⊎ Refuses line f
    → Parses line (Err (line_refusal f))
line_fails line f (inl full) = inl (ap line_refusal full)
line_fails line f (inr refuses) = by f.kind where
  by : (kind : FaultKind) → (refusal_by f kind ≡ NoMemory)
      ⊎ ((g : ParseFault) × (read_line line ≡ Err g) × (refusal_by f kind ≡ Line g))
  by fault.NoMemory = inl refl
  by kind = inr (f, refuses-reads line f refuses, refl)

pub line_says : (line : List ℕ) (order : Command) → Relates line order
    → Parses line (Ok order)
line_says line order relates = relates-reads line order relates

module _ (t : Tables) (user : UserId) (number : Option ℕ) (line : List ℕ) where
  abbrev who : Caller
  who = line_caller t user number

  abbrev outcome_here : Outcome
  outcome_here = outcome t (Given user number line)

  module _ (known : is_known t user ≡ true) where
    read_so : (r : Result Command ParseFault) → read_line line ≡ r
        → outcome_here ≡ commanded t (line_ruling t who r)
    read_so r is =
        if_true (is_known t user) _ _ known
        ∙ ap (λ (a : Result Command ParseFault). commanded t (line_ruling t who a)) is

    module _ (order : Command) (says : read_line line ≡ Ok order) where
      abbrev by_table : Ruling
      by_table = ruling t who order

      -- a command is refused
      pub was_ruled_out : (r : Refusal) (old new : State) (before after : Step)
          → Ruled t by_table (Err r) new before after → Stands t old
          → IsAsBefore old new before.made after.made → Stepped outcome_here (Err r) new before after
      was_ruled_out r old new before after (inl full) st same = inl full
      was_ruled_out r old new before after (inr ruled) st same =
          inr (was_refused t by_table.verdicts r outcome_here old new before after
          (read_so (Ok order) says ∙ ap (λ (a : Answer). answered t by_table.verdicts a) ruled.0) st
          same ruled.1)

      -- a command is obeyed
      pub was_obeyed : (lists : Option (List ℕ)) (said : Reply) (middle new : State)
          (before second : Step) (made : StepOutput)
          → Ruled t by_table (Ok lists) middle before second → reply_of 0 0 0 lists ≡ said
          → ((d : Deed) → Stands (did t d) middle → HasLeft t d new second.made made)
          → HasHappened outcome_here said new before (record second { made = made })
      was_obeyed lists said middle new before second made ruled same left =
          let d : Deed = ruled.0.0 in
          was_done t by_table.verdicts d outcome_here (reply_of 0 0 0 d.lists) said middle new before
          (record second { made = made }) before.made second.made
          (read_so (Ok order) says ∙ ap (λ (a : Answer). answered t by_table.verdicts a) ruled.0.1)
          (ap (λ (l : Option (List ℕ)). reply_of 0 0 0 l) (sym ruled.0.2) ∙ same) refl refl ruled.0.3
          (left d ruled.0.3.stands) ruled.1

-- ---- keys

-- the outcome of the keys of a client that may be there
abbrev pub of_keys : Tables → List ℕ → Option Client → Outcome
of_keys t bytes o = elim o [
  | None ↦ refused t [] NoWindow
  | Some c ↦ keys_outcome t c (read_of c bytes)
]

pub was_read : (t : Tables) (o : Option Client) (bytes : List ℕ) (count : ℕ) (said : Reply)
    (new : State) (before after : Step) → ReadFor t o bytes (Ok count) new before after
    → reply_of count 0 0 None ≡ said → HasHappened (of_keys t bytes o) said new before after
was_read t None bytes count said new before after read same = absurd read
was_read t (Some c) bytes count said new before after read same = record {
  replied = ap (λ (n : ℕ). reply_of n 0 0 None) (sym read.count_is) ∙ same;
  stands = read.ended.stands;
  acts = read.ended.acts;
  effects = read.ended.effects;
  verdicts = read.verdicts;
}

pub was_unread : (t : Tables) (o : Option Client) (bytes : List ℕ) (r : Refusal)
    (old new : State) (before after : Step) → ReadFor t o bytes (Err r) new before after
    → Stands t old → IsAsBefore old new before.made after.made
    → Stepped (of_keys t bytes o) (Err r) new before after
was_unread t None bytes r old new before after why st same =
    inr (was_refused t [] r (refused t [] NoWindow) old new before after
    (ap (λ (f : Refusal). refused t [] f) (sym why.0)) st same
    (why.1 ∙ sym (append-nil before.verdicts.items)))
was_unread t (Some c) bytes r old new before after full st same = inl full
