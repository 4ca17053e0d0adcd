-- `aclgrp` without a leader lists the definitions' text, and does nothing else.
use Rattle.session_commands.proofs.Vocabulary.{◌≡◌, ℕ, Bool, false, [], None, sym, ◌∙◌, append-nil, if◌then◌else◌}
use Rattle.session_commands.proofs.Vocabulary.{Tables, known_users, UserId, AclFault, named_by, same_user}
use Rattle.session_commands.proofs.Vocabulary.{known_name_fault, State, StepOutput, Stands, Answers}
use Rattle.std.proofs.Common.{List, Option, Some, Ok, Err, ap}
use Rattle.std.specs.Option.{option_map_or}
use Rattle.session_model.specs.Texts.{group_text}
use Rattle.session_model.specs.Rights.{leaders_in}
use Rattle.session_model.specs.Lines.{Caller}
use Rattle.session_model.specs.Commands.{does, known_fault, leaders_named}
use Rattle.session_model.specs.Deeds.{Deed, Answer, listing, unless}
use Rattle.session_model.specs.declared.refusal.Refusal.TheVariants.{Acl}
use Rattle.command_lang.specs.declared.command.Command.TheVariants as command
use Rattle.acl.specs.declared.entries.AclFault.TheVariants.{OwnerKept, UnknownUser}
use Rattle.acl.specs.History.{among}
use Rattle.acl.specs.Table.{knows}
use Rattle.acl.proofs.FollowingLemmas.{known-among}

-- nothing is done
pub lists : (t : Tables) (s : State) (made : StepOutput) (answer : Answer) (text bytes : List ℕ)
    → Stands t s → answer ≡ Ok (listing t text) → bytes ≡ text
    → Answers t answer (Ok (Some bytes)) s made made
lists t s made answer text bytes st is same = (
  listing t text,
  is,
  ap (λ (x : List ℕ). Some x) same,
  record {
    stands = st;
    acts = sym (append-nil made.acts.items);
    effects = sym (append-nil made.effects.items);
  },
)

-- whether a user other than the owner is known
pub fault_is : (t : Tables) (s : State) (word : List ℕ) (user owner : UserId) (b : Bool)
    → Stands t s → named_by word ≡ Some user → owner ≡ s.acl.owner
    → same_user owner user ≡ false → knows s.acl user ≡ b
    → known_fault t word ≡ (if b then None else Some UnknownUser)
fault_is t s word user owner b st named own other known =
    let among_is : among (known_users t) user ≡ b =
    sym (known-among s.acl t.edition t.owner t.acts st.acl user) ∙ sym (st.acl.known user) ∙ known in
    let not_owner : same_user t.owner user ≡ false =
    ap (λ (o : UserId). same_user o user) (sym (own ∙ st.acl.owned)) ∙ other in
    ap (known_name_fault t.owner (known_users t)) named
    ∙ (ap (λ (c : Bool). if c then Some OwnerKept
    else (if among (known_users t) user then None else Some UnknownUser)) not_owner
    ∙ ap (λ (c : Bool). if c then None else Some UnknownUser) among_is)

-- `aclgrp` without a leader, if its user is known
pub leaders_listed : (t : Tables) (k : Caller) (word : List ℕ) (user : UserId)
    → named_by word ≡ Some user → known_fault t word ≡ None
    → does t k (command.Aclgrp word None) ≡ Ok (listing t (group_text user (leaders_in t user)))
unfolding unless
leaders_listed t k word user named none =
    ap (λ (f : Option AclFault). unless Acl f (listing t (leaders_named t word))) none
    ∙ ap (λ (o : Option UserId). ok_of (listing t (option_map_or (λ (u : UserId). group_text u (leaders_in t u)) o [])))
    named where
      ok_of : Deed → Answer
      ok_of d = Ok d

pub leaders_refused : (t : Tables) (k : Caller) (word : List ℕ) (fault : AclFault)
    → known_fault t word ≡ Some fault → does t k (command.Aclgrp word None) ≡ Err (Acl fault)
unfolding unless
leaders_refused t k word fault is =
    ap (λ (f : Option AclFault). unless Acl f (listing t (leaders_named t word))) is
