-- A trail that is legal for its own owner, judged as a trail of somebody else: the first entry that
-- isn't good isn't legal. Entries that are legal for both make nobody known.
use Rattle.hub_ledger.proofs.Vocabulary.{◌≡◌, ◌∙◌, ◌∷◌, [], ℕ, zero, suc, Bool, true, false, List, Ok, Err, refl, ap}
use Rattle.hub_ledger.proofs.Vocabulary.{sym, subst, take, inl, inr, ◌&&◌, ◌||◌, ◌==◌, AllByRecursion, list_any}
use Rattle.hub_ledger.proofs.Vocabulary.{Edition, UserId, History, followed_by, Verdict, Kept, Ending, Entry, AreLegal}
use Rattle.hub_ledger.proofs.Vocabulary.{CanFollow, AreJudgeable, IsBadAt, IsIllegalAt, bad_illegal}
use Rattle.std.proofs.lemmas.Bool.{false≢true}
use Rattle.std.specs.List.{list_all}
use Rattle.acl.specs.declared.act.Act.{Act}
use Rattle.acl.specs.declared.act.Act.TheVariants as act
use Rattle.acl.specs.History.{decides_known, is_known, latest}
use Rattle.acl.specs.Same.{same_user}
use Rattle.acl.proofs.StandsForLemmas.{same_user-refl, same_user-true}
use Rattle.writelock.specs.Holding.{clients_after, clients_of}
use Rattle.hub_trail.specs.declared.kept.Kept.TheVariants as kept
use Rattle.hub_trail.specs.Fitting.{detaches, shuts}
use Rattle.hub_trail.specs.Legal.{AreLet, AreOfUser, Fits, IsLegalEntry, IsOfKnown, is_client_of, user_of}

-- ---- acts that make nobody known

abbrev is_going : Act → Bool
is_going (act.Closed w) = true
is_going (act.Parted c) = true
is_going (act.Left u w) = true
is_going a = false

abbrev AreGoing : List Act → Type 0
AreGoing acts = AllByRecursion (λ a. is_going a ≡ true) acts

-- nobody is known but the owner, and no client is attached
record IsBare (h : History) : Type 0 where
  nobody : (u : UserId) → latest (decides_known u) false h ≡ false
  alone : clients_of h ≡ []

stays_bare : (h : History) (acts : List Act) → IsBare h → AreGoing acts → IsBare (followed_by h acts)
stays_bare h [] bare going = bare
stays_bare h (act.Closed w ∷ acts) bare going =
    stays_bare (act.Closed w ∷ h) acts (record { nobody = bare.nobody; alone = bare.alone }) going.1
stays_bare h (act.Left u w ∷ acts) bare going =
    stays_bare (act.Left u w ∷ h) acts (record { nobody = bare.nobody; alone = bare.alone }) going.1
stays_bare h (act.Parted c ∷ acts) bare going =
    stays_bare (act.Parted c ∷ h) acts
    (record { nobody = bare.nobody; alone = ap (clients_after (act.Parted c)) bare.alone }) going.1
stays_bare h (a ∷ acts) bare going = absurd (false≢true going.0)

can_go : (edition : Edition) (owner : UserId) (h : History) (acts : List Act) → AreGoing acts
    → CanFollow edition owner h acts
can_go edition owner h [] going = tt
can_go edition owner h (act.Closed w ∷ acts) going = (refl, can_go edition owner (act.Closed w ∷ h) acts going.1)
can_go edition owner h (act.Left u w ∷ acts) going = (refl, can_go edition owner (act.Left u w ∷ h) acts going.1)
can_go edition owner h (act.Parted c ∷ acts) going = (refl, can_go edition owner (act.Parted c ∷ h) acts going.1)
can_go edition owner h (a ∷ acts) going = absurd (false≢true going.0)

second : (a b : Bool) → (a && b) ≡ true → b ≡ true
second true b both = both
second false b both = absurd (false≢true both)

detach : (is_its_user : UserId → Bool) (client : ℕ) (acts : List Act)
    → list_all (detaches is_its_user client) acts ≡ true → AreGoing acts
detach is_its_user client [] fits = tt
detach is_its_user client (act.Parted c ∷ acts) fits =
    (refl, detach is_its_user client acts (second (c == client) _ fits))
detach is_its_user client (act.Left u w ∷ acts) fits =
    (refl, detach is_its_user client acts (second (is_its_user u) _ fits))
detach is_its_user client (a ∷ acts) fits = absurd (false≢true fits)

shut : (window : ℕ) (acts : List Act) → list_all (shuts window) acts ≡ true → AreGoing acts
shut window [] fits = tt
shut window (act.Closed w ∷ acts) fits = (refl, shut window acts (second (w == window) _ fits))
shut window (act.Left u w ∷ acts) fits = (refl, shut window acts (second (w == window) _ fits))
shut window (a ∷ acts) fits = absurd (false≢true fits)

-- ---- entries that are legal for two owners

module _ (own user : UserId) (differ : own ≡ user → ⊥) (h : History) (bare : IsBare h) where
  owner_is : (owner u : UserId) → is_known owner h u ≡ true → owner ≡ u
  owner_is owner u known = same_user-true owner u (on (same_user owner u) (bare.nobody u) known) where
    on : (b : Bool) → latest (decides_known u) false h ≡ false → (b || latest (decides_known u) false h) ≡ true
        → b ≡ true
    on true none is = refl
    on false none is = absurd (false≢true (sym none ∙ is))

  no_other : (u : UserId) → is_known own h u ≡ true → is_known user h u ≡ true → ⊥
  no_other u mine its = differ (owner_is own u mine ∙ sym (owner_is user u its))

  going : (event : Kept) (reply : Ending) (vs : List Verdict) (acts : List Act) → IsOfKnown own h event reply
      → IsOfKnown user h event reply → AreOfUser h event vs → AreLet event vs acts → Fits h event reply vs acts
      → AreGoing acts
  going event (Err r) vs acts mine its by let_ fits = subst AreGoing (sym fits) tt
  going (kept.Attach u rows columns) (Ok f) vs acts mine its by let_ fits = absurd (no_other u mine its)
  going (kept.Command u window line) (Ok f) vs acts mine its by let_ fits = absurd (no_other u mine its)
  going (kept.Open u rows columns keep title) (Ok f) vs acts mine its by let_ fits = absurd (no_other u mine its)
  going (kept.Detach client) (Ok f) vs acts mine its by let_ fits = detach (is_client_of h client) client acts fits
  going (kept.Closed window) (Ok f) vs acts mine its by let_ fits = shut window acts fits
  going (kept.Keys client) (Ok f) [] acts mine its by let_ fits = elim let_
      [ inl none ↦ subst AreGoing (sym none) tt | inr is ↦ absurd (false≢true is) ]
  going (kept.Keys client) (Ok f) (v ∷ vs) acts mine its by let_ fits =
      let none : is_client_of h client (user_of v) ≡ false =
      ap (list_any (λ (c : ℕ × UserId). (c.0 == client) && same_user c.1 (user_of v))) bare.alone in
      absurd (false≢true (sym none ∙ by.0))

  entry_going : (edition : Edition) (e : Entry) → IsLegalEntry edition own h e → IsLegalEntry edition user h e
      → AreGoing e.acts
  entry_going edition e mine its =
      going e.event e.reply e.verdicts e.acts mine.known its.known its.user its.acts its.fits

foreign_illegal : (edition : Edition) (own user : UserId) (h : History) (es : List Entry) (place : ℕ)
    → (own ≡ user → ⊥) → IsBare h → AreJudgeable edition own h es → AreLegal edition own h (take (suc place) es)
    → IsBadAt edition user h es place → IsIllegalAt edition user h es place
foreign_illegal edition own user h [] place differ bare can legal bad = absurd bad
foreign_illegal edition own user h (e ∷ es) zero differ bare can legal bad = λ its. bad
    (record {
      judgeable = record {
        there = can.0.there;
        follow = can_go edition user h e.acts (entry_going own user differ h bare edition e legal.0 its);
      };
      legal = its;
    })
foreign_illegal edition own user h (e ∷ es) (suc place) differ bare can legal bad = (
  bad.0.legal,
  foreign_illegal edition own user (followed_by h e.acts) es place differ
      (stays_bare h e.acts bare (entry_going own user differ h bare edition e legal.0 bad.0.legal)) can.1 legal.1 bad.1,
)

-- so it is whoever the owner is
pub legal_until : (edition : Edition) (own user : UserId) (es : List Entry) (place : ℕ) → AreJudgeable edition own [] es
    → AreLegal edition own [] (take (suc place) es) → IsBadAt edition user [] es place
    → IsIllegalAt edition user [] es place
legal_until edition own user es place can legal bad = on (same_user own user) refl where
  on : (b : Bool) → same_user own user ≡ b → IsIllegalAt edition user [] es place
  on true same = bad_illegal edition user [] es place
      (subst (λ (u : UserId). AreJudgeable edition u [] es) (same_user-true own user same) can) bad
  on false differ = foreign_illegal edition own user [] es place
      (λ same. false≢true
      (sym differ ∙ ap (same_user own) (sym same) ∙ same_user-refl own))
      (record { nobody = λ u. refl; alone = refl }) can legal bad
