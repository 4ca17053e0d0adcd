-- A decider looks for the latest act that decides.
use Rattle.trail_rights.proofs.Vocabulary.{◌≡◌, ◌∙◌, Bool, true, false, ◌&&◌, ◌||◌, [], ◌∷◌, Option, Some, None, refl}
use Rattle.trail_rights.proofs.Vocabulary.{ap, sym, subst, cond, is_some, unwrap_or, Act, Object, Window, Command, Bit}
use Rattle.trail_rights.proofs.Vocabulary.{UserId, History, decided, decision, greeting, has, there, is_open, is_known}
use Rattle.trail_rights.proofs.Vocabulary.{mask, decides_open, decides_known, Mark, Decider, Marked, acts_in, deciding}
use Rattle.trail_rights.proofs.Vocabulary.{decides, there_after, decider_after, HasDecided, IsDecided, DecidingIsLatest}
use Rattle.acl.specs.declared.act.Act.TheVariants as act
use Rattle.acl.specs.Same.{same_user, same_bit, same_object}

decided_some : (b x : Bool) → is_some (decided b x) ≡ b
decided_some true x = refl
decided_some false x = refl

known_decides : (b : Bool) (h : History) (bit : Bit) (o : Object)
    → is_some (cond b (greeting h bit o) None) ≡ (b && there h o)
known_decides false h bit o = refl
known_decides true h bit (Window w) = decided_some (is_open h w) _
known_decides true h bit (Command c) = refl

opened_decides : (b c k x : Bool) → is_some (cond b (cond c (Some true) (decided k x)) None) ≡ (b && (c || k))
opened_decides false c k x = refl
opened_decides true true k x = refl
opened_decides true false k x = decided_some k x

decides_is : (owner : UserId) (marked : Marked) (d : Decider) (a : Act) → HasDecided owner marked d
    → decides d a ≡ is_some (decision owner a (acts_in marked) d.user d.bit d.object)
decides_is owner marked d (act.Known v) is = ap (λ t. same_user v d.user && t) is.there_is
    ∙ sym (known_decides (same_user v d.user) (acts_in marked) d.bit d.object)
decides_is owner marked d (act.Gone v) is = sym (decided_some (same_user v d.user) false)
decides_is owner marked d (act.Set v c place value) is = sym
    (decided_some (same_user v d.user && same_bit c d.bit && same_object place d.object) value)
decides_is owner marked d (act.Opened by w) is =
    ap (λ o. same_object (Window w) d.object && (same_user by d.user || (same_user o d.user || d.listed))) is.owner_is
    ∙ ap (λ l. same_object (Window w) d.object && (same_user by d.user || (same_user owner d.user || l))) is.listed
    ∙ sym
    (opened_decides (same_object (Window w) d.object) (same_user by d.user) (is_known owner (acts_in marked) d.user)
    (mask (acts_in marked) by d.user d.bit))
decides_is owner marked d (act.Grouped v leader) is = refl
decides_is owner marked d (act.Masked by v c value) is = refl
decides_is owner marked d (act.Preset kind c value) is = refl
decides_is owner marked d (act.Closed w) is = refl
decides_is owner marked d (act.Attached c v) is = refl
decides_is owner marked d (act.Parted c) is = refl
decides_is owner marked d (act.Entered v w) is = refl
decides_is owner marked d (act.Left v w) is = refl
decides_is owner marked d (act.Mode by w m) is = refl
decides_is owner marked d (act.Default m) is = refl

there_step : (h : History) (a : Act) (o : Object) (before : Bool) → before ≡ there h o
    → there_after a o before ≡ there (a ∷ h) o
there_step h a (Window w) before e = ap (unwrap_or (decides_open w a)) e
there_step h a (Command c) before e = e

pub decided_next : (owner : UserId) (marked : Marked) (d : Decider) (m : Mark) (a : Act) → HasDecided owner marked d
    → HasDecided owner ((m, a) ∷ marked) (decider_after m a d)
decided_next owner marked d m a is = record {
  owner_is = is.owner_is;
  listed = ap (unwrap_or (decides_known d.user a)) is.listed;
  there_is = there_step (acts_in marked) a d.object d.there is.there_is;
  found =
      ap (λ b. cond b (Some (m, a)) d.found) (decides_is owner marked d a is)
      ∙ ap (cond (is_some (decision owner a (acts_in marked) d.user d.bit d.object)) (Some (m, a))) is.found;
}

-- ---- what was found is the latest that decides

module _ (owner : UserId) (u : UserId) (bit : Bit) (object : Object) where
  behind : (p : Mark × Act) (marked : Marked) (found : Option (Mark × Act))
      → decision owner p.1 (acts_in marked) u bit object ≡ None → IsDecided owner marked u bit object found
      → IsDecided owner (p ∷ marked) u bit object found
  behind p marked None e is = ap (λ o. unwrap_or o (has owner (acts_in marked) u bit object)) e ∙ is
  behind p marked (Some q) e is = record {
    later = p ∷ is.later;
    before = is.before;
    all = ap (λ ps. p ∷ ps) is.all;
    value = is.value ∙ ap Some (sym (ap (λ o. unwrap_or o (has owner (acts_in marked) u bit object)) e));
    last = (subst (λ ps. decision owner p.1 (acts_in ps) u bit object ≡ None) is.all e, is.last);
  }

  found_by : (p : Mark × Act) (marked : Marked) (o : Option Bool) → decision owner p.1 (acts_in marked) u bit object ≡ o
      → IsDecided owner marked u bit object (deciding owner marked u bit object)
      → IsDecided owner (p ∷ marked) u bit object (cond (is_some o) (Some p) (deciding owner marked u bit object))
  found_by p marked (Some v) e is = record {
    later = [];
    before = marked;
    all = refl;
    value = e ∙ ap Some (sym (ap (λ o. unwrap_or o (has owner (acts_in marked) u bit object)) e));
    last = tt;
  }
  found_by p marked None e is = behind p marked (deciding owner marked u bit object) e is

  latest_is : (marked : Marked) → IsDecided owner marked u bit object (deciding owner marked u bit object)
  latest_is [] = refl
  latest_is (p ∷ marked) = found_by p marked (decision owner p.1 (acts_in marked) u bit object) refl (latest_is marked)

pub deciding_is_latest : DecidingIsLatest
deciding_is_latest owner marked u bit object = latest_is owner u bit object marked
