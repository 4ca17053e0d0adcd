-- The holder of a lock keeps it in the steps of users without rights: nobody else's step takes it,
-- and what frees it is a command that such a user may give.
use Rattle.session_laws.proofs.Vocabulary.{◌≡◌, ℕ, true, false, Some, None, refl, ap, sym, ◌∙◌, inl, inr, ◌⊎◌, UserId}
use Rattle.session_laws.proofs.Vocabulary.{Write, Execute, Order, name_of, Given, commands_of, has_x, SomeOf, may_in}
use Rattle.session_laws.proofs.Vocabulary.{holder_in, IsStep, after, AreFit, Tables, Entry, changes_rights, FreesBy}
use Rattle.session_laws.proofs.Vocabulary.{Frees, IsFreed, user_of, HoldersMayWrite, may_free, MayFree, IsPowerless}
use Rattle.session_laws.proofs.Vocabulary.{HoldersStayIn, contradicts, and_first, some_weaken, some_both}
use Rattle.acl.specs.declared.act.Object.TheVariants as object
use Rattle.command_lang.specs.declared.command.Command.TheVariants as command
use Rattle.session_laws.proofs.Gating.{Below}
use Rattle.session_laws.proofs.Holding.{givers}
use Rattle.session_laws.proofs.GuestsKeeping.{locks_stay}

module _ (t : Tables) (e : Entry) (w : ℕ) (user x : UserId) (weak : IsPowerless t user w) where
  no_list : (g : Given) → g.caller.user ≡ user → has_x t g ≡ true → changes_rights (name_of g.order) ≡ true → ⊥
  no_list g is has changes = contradicts (may_in t user Execute (object.Command (name_of g.order)))
      (ap (λ u. may_in t u Execute (object.Command (name_of g.order))) (sym is)
      ∙ and_first (may_in t g.caller.user Execute (object.Command (name_of g.order))) _ has)
      (weak.lists (name_of g.order) changes)

  frees_so : (g : Given) → g.caller.user ≡ user → Frees t e w x g → MayFree t g
  frees_so g is f = record { frees = on g.order refl f.frees; granted = f.granted } where
    lists : (c : Order) → g.order ≡ c → changes_rights (name_of c) ≡ true → ⊥
    lists c at changes = no_list g is f.granted (ap (λ (o : Order). changes_rights (name_of o)) at ∙ changes)

    on : (c : Order) → g.order ≡ c → FreesBy t e w x g c → may_free c ≡ true
    on command.Kill at by = refl
    on command.Quit at by = refl
    on (command.Multiuser false) at by = refl
    on (command.Acladd names) at by = absurd (lists _ at refl)
    on (command.Aclchg names bits list) at by = absurd (lists _ at refl)
    on (command.Acldel word) at by = absurd (lists _ at refl)
    on (command.Aclgrp word leader) at by = absurd (lists _ at refl)
    on c at by = absurd by

pub holders_stay : Below → (t : Tables) (e : Entry) → AreFit t → HoldersMayWrite t → IsStep t e → HoldersStayIn t e
holders_stay laws t e fit able step w user x is weak old held = on
    (locks_stay laws t e fit able step w x old held other) where
      other : user_of t e.event ≡ Some x → ⊥
      other own = let same : user ≡ x = cc (is, own) in contradicts (may_in t user Write (object.Window w))
          (ap (λ u. may_in t u Write (object.Window w)) same ∙ able w x held) weak.write

      frees : IsFreed t e w x → SomeOf (MayFree t) (commands_of t e.event)
      frees (inl closed) = absurd (let none : None ≡ Some user = sym (ap (user_of t) closed) ∙ is in cc (none))
      frees (inr some) = some_weaken (λ g. (user_of t e.event ≡ Some g.caller.user) × Frees t e w x g) (MayFree t)
          (commands_of t e.event)
          (λ g both. frees_so t e w user x weak g
          (let own : user_of t e.event ≡ Some g.caller.user = both.0 in cc (is, own)) both.1)
          (some_both (λ g. user_of t e.event ≡ Some g.caller.user) (Frees t e w x) (commands_of t e.event)
          (givers t e.event) some)

      on : (holder_in (after t e) w ≡ Some x) ⊎ ((holder_in (after t e) w ≡ None) × IsFreed t e w x)
          → (holder_in (after t e) w ≡ Some x) ⊎ SomeOf (MayFree t) (commands_of t e.event)
      on (inl still) = inl still
      on (inr freed) = inr (frees freed.1)
