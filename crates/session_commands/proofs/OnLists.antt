-- A command on the lists leaves what its row says; Ending and Parting prove it of windows and clients.
use Rattle.session_commands.proofs.Vocabulary.{◌≡◌, ℕ, refl, sym, subst, ◌∙◌, append-nil, Result, ◌⊎◌, UserId, Act}
use Rattle.session_commands.proofs.Vocabulary.{Table, Locks, LocksStandFor, Refusal, NoMemory, Acl, Windows}
use Rattle.session_commands.proofs.Vocabulary.{NoSuchWindow, Tables, known_users, Deed, acting, StepOutput, State}
use Rattle.session_commands.proofs.Vocabulary.{Stands, Answers}
use Rattle.std.proofs.Common.{List, Option, Some, None, Ok, Err, ap, inl, inr}
use Rattle.std.specs.Prelude.{OnOk, IfOk}
use Rattle.acl.specs.declared.act.Object.{Object}
use Rattle.acl.specs.declared.entries.AclFault.{AclFault}
use Rattle.acl.specs.declared.entries.AclFault.TheVariants as faults
use Rattle.acl.specs.Commands as acl
use Rattle.acl.specs.Commands.{change_fault}
use Rattle.acl.specs.Deeds.{IsDone}
use Rattle.session_model.specs.Deeds.{Answer, changes, unless, given}
use Rattle.session_commands.specs.Asked.{answered, NamesNothing}

-- a command on the lists is refused by a fault as its row says, and acts if there is none
pub acted : {X : Type 0} (t : Tables) (acts : List Act) (old : State) (lists : Table) (locks : Locks)
    (before after : StepOutput) (answer : Answer) (fault : Option AclFault) (done : Result X AclFault)
    (result : Result (Option (List ℕ)) Refusal)
    → result ≡ answered done → Stands t old
    → (fault ≡ None → answer ≡ Ok (acting t acts)) → ((f : AclFault) → fault ≡ Some f → answer ≡ Err (Acl f))
    → acl.Answers done fault
    → OnOk done
    (IsDone t.edition t.owner t.acts acts lists before.acts.items after.acts.items
    (λ e o h. LocksStandFor old.locks e o h) (λ e o h. LocksStandFor locks e o h))
    → after.effects.items ≡ before.effects.items
    → Answers t answer result (record old { acl = lists; locks = locks }) before after
acted t acts old lists locks before after answer fault (Ok x) result is st acts_so refuses asked did same =
    subst (λ r. Answers t answer r (record old { acl = lists; locks = locks }) before after) (sym is) (
      acting t acts,
      acts_so asked,
      refl,
      record {
        stands = record {
          acl = did.stands;
          locks = did.follower st.locks;
          multiuser_is = st.multiuser_is;
          windows = st.windows;
          clients = st.clients;
          next_window_is = st.next_window_is;
          next_client_is = st.next_client_is;
        };
        acts = did.acts;
        effects = same ∙ sym (append-nil before.effects.items);
      },
    )
acted t acts old lists locks before after answer fault (Err faults.NoMemory) result is st acts_so refuses asked did same
    =
    subst (λ r. Answers t answer r (record old { acl = lists; locks = locks }) before after) (sym is) (inl refl)
acted t acts old lists locks before after answer fault (Err f) result is st acts_so refuses asked did same =
    subst (λ r. Answers t answer r (record old { acl = lists; locks = locks }) before after) (sym is)
    (inr (refuses f asked))

-- it lists nothing
pub says_nothing : {X : Type 0} (done : Result X AclFault) (result : Result (Option (List ℕ)) Refusal)
    → result ≡ answered done → IfOk result (λ lists. lists ≡ None)
says_nothing (Ok x) result is = subst (λ r. IfOk r (λ lists. lists ≡ None)) (sym is) refl
says_nothing (Err faults.NoMemory) result is = subst (λ r. IfOk r (λ lists. lists ≡ None)) (sym is) tt
says_nothing (Err f) result is = subst (λ r. IfOk r (λ lists. lists ≡ None)) (sym is) tt

-- ---- rows of list commands

module _ {F : Type 0} (as_refusal : F → Refusal) (deed : Deed) where
  pub unless_none : (f : Option F) → f ≡ None → unless as_refusal f deed ≡ Ok deed
  unfolding unless
  unless_none f is = ap (λ o. unless as_refusal o deed) is

  pub unless_some : (f : Option F) (why : F) → f ≡ Some why → unless as_refusal f deed ≡ Err (as_refusal why)
  unfolding unless
  unless_some f why is = ap (λ o. unless as_refusal o deed) is

module _ (t : Tables) (names asked : List (Option UserId)) (same : names ≡ asked) where
  -- the answer of a change, by its fault and its objects
  abbrev chosen : Option AclFault → Answer → Answer
  chosen fault answer = elim fault [ Some f ↦ Err (Acl f) | None ↦ answer ]

  fault_is : (o : Option AclFault) → change_fault t.owner (known_users t) names ≡ o
      → change_fault t.owner (known_users t) asked ≡ o
  fault_is o is = ap (change_fault t.owner (known_users t)) (sym same) ∙ is

  pub change_refused : (found : Option (List Object)) (acts : List Object → List Act) (f : AclFault)
      → change_fault t.owner (known_users t) names ≡ Some f → changes t asked found acts ≡ Err (Acl f)
  change_refused found acts f is = ap
      (λ o. chosen o (given found (Windows NoSuchWindow) (λ all. Ok (acting t (acts all))))) (fault_is (Some f) is)

  found_is : (found : Option (List Object)) (acts : List Object → List Act)
      → change_fault t.owner (known_users t) names ≡ None
      → changes t asked found acts ≡ given found (Windows NoSuchWindow) (λ all. Ok (acting t (acts all)))
  found_is found acts is = ap (λ o. chosen o (given found (Windows NoSuchWindow) (λ all. Ok (acting t (acts all)))))
      (fault_is None is)

  pub change_done : (found : Option (List Object)) (objects : List Object)
      (acts : List (Option UserId) → List Object → List Act) → found ≡ Some objects
      → change_fault t.owner (known_users t) names ≡ None
      → changes t asked found (acts asked) ≡ Ok (acting t (acts names objects))
  unfolding given
  change_done found objects acts at is =
      found_is found (acts asked) is
      ∙ ap (λ o. given o (Windows NoSuchWindow) (λ all. Ok (acting t (acts asked all)))) at
      ∙ ap (λ ns. Ok (acting t (acts ns objects))) (sym same)

  nothing_is : (found : Option (List Object)) (acts : List Object → List Act) → found ≡ None
      → change_fault t.owner (known_users t) names ≡ None → changes t asked found acts ≡ Err (Windows NoSuchWindow)
  unfolding given
  nothing_is found acts at is = found_is found acts is
      ∙ ap (λ o. given o (Windows NoSuchWindow) (λ all. Ok (acting t (acts all)))) at

  -- an item names nothing
  pub change_without : (found : Option (List Object)) (acts : List Object → List Act) (r : Refusal)
      → change_fault t.owner (known_users t) names ≡ None → NamesNothing r (found ≡ None)
      → (r ≡ NoMemory) ⊎ (changes t asked found acts ≡ Err r)
  change_without found acts r is (inl e) = inl e
  change_without found acts r is (inr p) = inr (nothing_is found acts p.1 is ∙ ap (λ x. Err x) (sym p.0))
