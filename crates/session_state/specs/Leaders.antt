-- The text that lists a user's leaders.
use Rattle.std.specs.Prelude.{ℕ, ◌≡◌, List, [], ◌∷◌, ◌++◌, Some, None, Result, Ok, Err, map}
use Rattle.std.specs.List.{flat_map}
use Rattle.std.proofs.Common.{refl, ap, ◌∙◌, sym, append_assoc}
use Rattle.acl.specs.declared.user_id.UserId.{UserId}
use Rattle.acl.specs.declared.entries.AclFault.{AclFault}
use Rattle.acl.specs.Names.{named_by}
use Rattle.session_model.specs.Tables.{Tables}
use Rattle.session_model.specs.Commands.{known_fault}
use Rattle.session_model.specs.Rights.{leaders_in}
use Rattle.session_model.specs.Texts.{behind, group_text}
use Rattle.session_state.specs.declared.state.State.{State}
use Rattle.session_state.specs.Stands.{Stands}

-- a user's leaders
abbrev pub SaysLeaders : State → UserId → List ℕ → Type 0
SaysLeaders s user text = (t : Tables) → Stands t s → text ≡ group_text user (leaders_in t user)

-- a known user other than the owner, or why the user isn't one
abbrev pub IsKnownUser : Tables → List ℕ → Result UserId AclFault → Type 0
IsKnownUser t word (Ok user) = (named_by word ≡ Some user) × (known_fault t word ≡ None)
IsKnownUser t word (Err fault) = known_fault t word ≡ Some fault

-- items, each after a separator
pub behind_each : {A : Type 0} (sep : List ℕ) (f : A → List ℕ) (xs : List A)
    → behind sep (map f xs) ≡ flat_map (λ x. sep ++ f x) xs
behind_each sep f [] = refl
behind_each sep f (x ∷ xs) =
    ap (λ (rest : List ℕ). sep ++ (f x ++ rest)) (behind_each sep f xs)
    ∙ sym (append_assoc sep (f x) (flat_map (λ y. sep ++ f y) xs))
