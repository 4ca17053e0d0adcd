-- Users' rations, by the places at which they are found.
use Rattle.server_users.proofs.Vocabulary.{◌≡◌, ℕ, zero, suc, Bool, true, false, List, [], ◌∷◌, ◌++◌, Some, None, set}
use Rattle.server_users.proofs.Vocabulary.{get_or, refl, ap, sym, subst, ◌∙◌, arith, if◌then◌else◌, unwrap_or}
use Rattle.server_users.proofs.Vocabulary.{option_map, IfSome, IsTrue, as_nanos, same_user, UserId, same_user-true}
use Rattle.server_users.proofs.Vocabulary.{IsFirst, end_of}
use Rattle.std.specs.Prelude.{◌↔◌}
use Rattle.server_users.specs.Rationed.{MayCause}
use Rattle.server_users.specs.declared.ration.Ration.{Ration}
use Rattle.server_users.proofs.Places.{NoneOf, if_true, if_false, other_user, passes}

abbrev pub is_for : UserId → Ration → Bool
is_for u r = same_user r.user u

pub no_ration : (rs : List Ration) (u : UserId) → NoneOf (is_for u) rs → end_of rs u ≡ None
no_ration [] u none = refl
no_ration (r ∷ rs) u none = if_false (same_user r.user u) _ _ none.0 ∙ no_ration rs u none.1

ration_at : (rs : List Ration) (u : UserId) (i : ℕ) (d : Ration) → IsFirst (is_for u) rs i
    → end_of rs u ≡ Some (as_nanos (get_or rs i d).until)
ration_at [] u i d at = absurd at
ration_at (r ∷ rs) u zero d at = if_true (same_user r.user u) _ _ at
ration_at (r ∷ rs) u (suc i) d at = if_false (same_user r.user u) _ _ at.0 ∙ ration_at rs u i d at.1

pub push_own : (rs : List Ration) (u : UserId) (r : Ration) → NoneOf (is_for u) rs → same_user r.user u ≡ true
    → end_of (rs ++ r ∷ []) u ≡ Some (as_nanos r.until)
push_own [] u r none is = if_true (same_user r.user u) _ _ is
push_own (s ∷ rs) u r none is = if_false (same_user s.user u) _ _ none.0 ∙ push_own rs u r none.1 is

pub push_other : (rs : List Ration) (v : UserId) (r : Ration) → same_user r.user v ≡ false
    → end_of (rs ++ r ∷ []) v ≡ end_of rs v
push_other [] v r is = if_false (same_user r.user v) _ _ is
push_other (s ∷ rs) v r is =
    ap (λ rest. if same_user s.user v then Some (as_nanos s.until) else rest) (push_other rs v r is)

set_own : (rs : List Ration) (u : UserId) (i : ℕ) (r : Ration) → IsFirst (is_for u) rs i
    → same_user r.user u ≡ true → end_of (set rs i r) u ≡ Some (as_nanos r.until)
set_own [] u i r at is = absurd at
set_own (s ∷ rs) u zero r at is = if_true (same_user r.user u) _ _ is
set_own (s ∷ rs) u (suc i) r at is = if_false (same_user s.user u) _ _ at.0 ∙ set_own rs u i r at.1 is

set_other : (rs : List Ration) (u v : UserId) (i : ℕ) (r : Ration) → IsFirst (is_for u) rs i
    → same_user r.user u ≡ true → (v ≡ u → ⊥) → end_of (set rs i r) v ≡ end_of rs v
set_other [] u v i r at is differ = absurd at
set_other (s ∷ rs) u v zero r at is differ =
    if_false (same_user r.user v) _ _ (other_user r.user v (λ e. differ (sym e ∙ same_user-true r.user u is)))
    ∙ sym (if_false (same_user s.user v) _ _ (other_user s.user v (λ e. differ (sym e ∙ same_user-true s.user u at))))
set_other (s ∷ rs) u v (suc i) r at is differ =
    ap (λ rest. if same_user s.user v then Some (as_nanos s.until) else rest) (set_other rs u v i r at.1 is differ)

-- the ration that is found first is the user's
module _ (rs : List Ration) (u : UserId) (i : ℕ) (r : Ration) (first : IsFirst (is_for u) rs i)
    (is : r ≡ get_or rs i r) where
  own_name : same_user r.user u ≡ true
  own_name = subst (λ b. same_user b.user u ≡ true) (sym is) (passes (is_for u) rs i r first)

  pub held : end_of rs u ≡ Some (as_nanos r.until)
  held = ration_at rs u i r first ∙ ap (λ b. Some (as_nanos b.until)) (sym is)

  name_of_new : (new : Ration) → new.user ≡ r.user → same_user new.user u ≡ true
  name_of_new new same = ap (λ name. same_user name u) same ∙ own_name

  pub counted : (new : Ration) (f : ℕ → ℕ) → new.user ≡ r.user → as_nanos new.until ≡ f (as_nanos r.until)
      → end_of (set rs i new) u ≡ option_map f (end_of rs u)
  counted new f same until =
      set_own rs u i new first (name_of_new new same) ∙ (ap Some until ∙ sym (ap (option_map f) held))

  pub uncounted : (new : Ration) → new.user ≡ r.user → (v : UserId) → (v ≡ u → ⊥)
      → end_of (set rs i new) v ≡ end_of rs v
  uncounted new same v differ = set_other rs u v i new first (name_of_new new same) differ

  pub may_cause : (now period : ℕ) → MayCause now period (as_nanos r.until)
      → MayCause now period (unwrap_or (end_of rs u) 0)
  may_cause now period may = subst (λ o. MayCause now period (unwrap_or o 0)) (sym held) may

  pub may_not : (now period : ℕ) (may : Bool) → may ≡ false → (IsTrue may ↔ MayCause now period (as_nanos r.until))
      → IfSome (end_of rs u) (λ end. MayCause now period end → ⊥)
  may_not now period may denied is = subst (λ o. IfSome o (λ end. MayCause now period end → ⊥)) (sym held)
      (λ fits. let yes : may ≡ true = is.1 fits in absurd (cc (denied, yes)))

  pub stays : end_of rs u ≡ Some (unwrap_or (end_of rs u) 0)
  stays = held ∙ sym (ap (λ o. Some (unwrap_or o 0)) held)

  pub not_none : end_of rs u ≡ None → ⊥
  not_none none = absurd (cc (none, held))

-- a user who caused nothing may
pub may_first : (rs : List Ration) (u : UserId) (now period : ℕ) → end_of rs u ≡ None
    → MayCause now period (unwrap_or (end_of rs u) 0)
may_first rs u now period none = subst (λ o. MayCause now period (unwrap_or o 0)) (sym none) (omega arith)

pub none_waits : (rs : List Ration) (u : UserId) (P : ℕ → Type 0) → end_of rs u ≡ None → IfSome (end_of rs u) P
none_waits rs u P none = subst (λ o. IfSome o P) (sym none) tt
