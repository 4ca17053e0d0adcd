-- The first user whose name follows another one.
use Rattle.std.proofs.Common.{◌≡◌, ℕ, ◌+◌, ◌<◌, ◌≤◌, Bool, true, false, ◌&&◌, List, [], ◌∷◌, ◌++◌, Option, Some, None}
use Rattle.std.proofs.Common.{◌⊎◌, ⊎_elim, length, get_or, take, refl, sym, ap, subst, ◌∙◌, arith}
use Rattle.std.specs.Prelude.{Contains}
use Rattle.std.specs.Ordering.{is_lt, nat_cmp, ordering_reverse}
use Rattle.std.specs.Cmp.Lexicographic.{slice_cmp, nat_list_cmp_total}
use Rattle.std.specs.declared.cmp.Ordering.{Ordering}
use Rattle.std.specs.declared.cmp.Ordering.TheVariants.{Less, Equal, Greater}
use Rattle.std.proofs.lemmas.Bool.{and_parts}
use Rattle.std.proofs.lemmas.List.{map_more}
use Rattle.std.proofs.lemmas.List.Elements.{Contains-push_cases, Contains-append_right, Contains-append_left}
use Rattle.acl.specs.declared.user_id.UserId.{UserId}
use Rattle.acl.specs.Names.{name_of}
use Rattle.server_sending.specs.declared.typists.TypedFrame.{TypedFrame}
use Rattle.server_sending.specs.Typists.{HasNoTypist, IsNextTypist, comes_before, follows, leads, typists}

-- of the users who typed these frames, this one is the next, or there is none
abbrev pub IsFound : Option UserId → List TypedFrame → Option UserId → Type 0
IsFound last frames None = HasNoTypist last frames
IsFound last frames (Some user) = IsNextTypist last frames user

-- ---- the order of names

less : (r : Ordering) → is_lt r ≡ true → r ≡ Less
less Less is = refl
less Equal is = absurd (cc (is))
less Greater is = absurd (cc (is))

not_itself : (r : Ordering) → r ≡ ordering_reverse r → is_lt r ≡ false
not_itself Less is = ap is_lt is
not_itself Equal is = refl
not_itself Greater is = refl

irreflexive : (u : UserId) → comes_before u u ≡ false
irreflexive u = not_itself (slice_cmp nat_cmp (name_of u) (name_of u))
    (nat_list_cmp_total.antisymm (name_of u) (name_of u))

transitive : (u v w : UserId) → comes_before u v ≡ true → comes_before v w ≡ true → comes_before u w ≡ true
transitive u v w first second = ap is_lt (nat_list_cmp_total.trans (name_of u) (name_of v) (name_of w)
    (less _ first) (less _ second))

-- what doesn't come before a name doesn't come before an earlier one
earlier : (u v w : UserId) (b : Bool) → comes_before u v ≡ b → comes_before v w ≡ true → comes_before u w ≡ false
    → b ≡ false
earlier u v w true is second not = absurd (let e = transitive u v w is second in cc (e, not))
earlier u v w false is second not = refl

-- ---- one frame more

module _ (frames : List TypedFrame) (i : ℕ) (f d : TypedFrame) (within : i < length frames)
    (is : f ≡ get_or frames i d) where
  more : typists (take (i + 1) frames) ≡ typists (take i frames) ++ f.user ∷ []
  more = map_more (λ (g : TypedFrame). g.user) frames i d within
      ∙ ap (λ (g : TypedFrame). typists (take i frames) ++ g.user ∷ []) (sym is)

  seen_or_new : (u : UserId) → Contains (typists (take (i + 1) frames)) u
      → Contains (typists (take i frames)) u ⊎ (f.user ≡ u)
  seen_or_new u typed = Contains-push_cases (typists (take i frames)) f.user u (subst (λ l. Contains l u) more typed)

  still : (u : UserId) → Contains (typists (take i frames)) u → Contains (typists (take (i + 1) frames)) u
  still u typed =
      subst (λ l. Contains l u) (sym more) (Contains-append_left (typists (take i frames)) (f.user ∷ []) u typed)

  now_typed : Contains (typists (take (i + 1) frames)) f.user
  now_typed = subst (λ l. Contains l f.user) (sym more)
      (Contains-append_right (typists (take i frames)) (f.user ∷ []) f.user (0, omega arith, refl))

  step_to : (last next : Option UserId) → IsFound last (take i frames) next → follows last f.user ≡ true
      → leads f.user next ≡ true → IsNextTypist last (take (i + 1) frames) f.user
  step_to last next found behind ahead = record {
    typed = now_typed;
    behind = behind;
    first = λ u typed after.
        ⊎_elim
        (λ seen. before u next found ahead seen after)
        (λ same. subst (λ v. comes_before v f.user ≡ false) same (irreflexive f.user))
        (seen_or_new u typed);
  } where
    before : (u : UserId) (n : Option UserId) → IsFound last (take i frames) n → leads f.user n ≡ true
        → Contains (typists (take i frames)) u → follows last u ≡ true → comes_before u f.user ≡ false
    before u None none leading seen after = absurd (let e = none u seen in cc (e, after))
    before u (Some n) one leading seen after =
        earlier u f.user n (comes_before u f.user) refl leading (one.first u seen after)

  not_behind : (last next : Option UserId) → IsFound last (take i frames) next → follows last f.user ≡ false
      → IsFound last (take (i + 1) frames) next
  not_behind last None none not = λ u typed.
      ⊎_elim (λ seen. none u seen) (λ same. subst (λ v. follows last v ≡ false) same not) (seen_or_new u typed)
  not_behind last (Some n) one not = record {
    typed = still n one.typed;
    behind = one.behind;
    first = λ u typed after.
        ⊎_elim
        (λ seen. one.first u seen after)
        (λ same. absurd (let e = subst (λ v. follows last v ≡ false) same not in cc (e, after)))
        (seen_or_new u typed);
  }

  not_ahead : (last next : Option UserId) → IsFound last (take i frames) next → leads f.user next ≡ false
      → IsFound last (take (i + 1) frames) next
  not_ahead last None none not = absurd (cc (not))
  not_ahead last (Some n) one not = record {
    typed = still n one.typed;
    behind = one.behind;
    first = λ u typed after.
        ⊎_elim
        (λ seen. one.first u seen after)
        (λ same. subst (λ v. comes_before v n ≡ false) same not)
        (seen_or_new u typed);
  }

  pub step_past : (last next : Option UserId) → IsFound last (take i frames) next
      → (follows last f.user && leads f.user next) ≡ false → IsFound last (take (i + 1) frames) next
  step_past last next found not = by (follows last f.user) refl not where
    by : (b : Bool) → follows last f.user ≡ b → (b && leads f.user next) ≡ false
        → IsFound last (take (i + 1) frames) next
    by true is leading = not_ahead last next found leading
    by false is leading = not_behind last next found is

  pub step_on : (last next : Option UserId) → IsFound last (take i frames) next
      → (follows last f.user && leads f.user next) ≡ true → IsNextTypist last (take (i + 1) frames) f.user
  step_on last next found both =
      let parts = and_parts (follows last f.user) (leads f.user next) both in
      step_to last next found parts.0 parts.1
