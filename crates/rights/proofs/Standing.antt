-- What rights stand for after one act more.
use Rattle.rights.proofs.Vocabulary.{◌≡◌, ◌∙◌, ◌∷◌, Bool, true, false, ◌||◌, Some, None, refl, ap, sym, subst, is_some}
use Rattle.rights.proofs.Vocabulary.{if◌then◌else◌, false≢true, Act, Edition, UserId, History, open_count, Table}
use Rattle.rights.proofs.Vocabulary.{StandsFor, StandsFor-aside, clients_of, LocksStandFor, Rights, StandsAfter, Differ}
use Rattle.acl.specs.Commands.{IsAside}

-- an act that leaves clients and the number of windows
pub stands_on : (old new : Rights) (edition : Edition) (owner : UserId) (h : History) (act : Act)
    → new.clients ≡ old.clients → new.windows ≡ old.windows → clients_of (act ∷ h) ≡ clients_of h
    → open_count (act ∷ h) ≡ open_count h
    → StandsAfter old edition owner h → StandsFor new.acl edition owner (act ∷ h)
    → LocksStandFor new.locks edition owner (act ∷ h)
    → StandsAfter new edition owner (act ∷ h)
stands_on old new edition owner h act rows count clients windows s rights locks = record {
  acl = rights;
  locks = locks;
  clients = ap (λ v. v.items) rows ∙ (s.clients ∙ sym clients);
  differ = subst (λ v. Differ v.items) (sym rows) s.differ;
  count = count ∙ (s.count ∙ sym windows);
}

-- and one that leaves the rights too
pub stands_aside : (old new : Rights) (edition : Edition) (owner : UserId) (h : History) (act : Act)
    → IsAside act → new.acl ≡ old.acl → new.clients ≡ old.clients → new.windows ≡ old.windows
    → clients_of (act ∷ h) ≡ clients_of h → open_count (act ∷ h) ≡ open_count h
    → StandsAfter old edition owner h → LocksStandFor new.locks edition owner (act ∷ h)
    → StandsAfter new edition owner (act ∷ h)
stands_aside old new edition owner h act aside same rows count clients windows s locks =
    stands_on old new edition owner h act rows count clients windows s
    (StandsFor-aside new.acl edition owner h act aside
    (subst (λ (t : Table). StandsFor t edition owner h) (sym same) s.acl)) locks

pub or_rest : (a b : Bool) → (a || b) ≡ true → a ≡ false → b ≡ true
or_rest true b e f = absurd (false≢true (sym f))
or_rest false b e f = e

pub some_if : {X : Type 0} (b : Bool) (x : X) → is_some (if b then Some x else None) ≡ b
some_if true x = refl
some_if false x = refl
