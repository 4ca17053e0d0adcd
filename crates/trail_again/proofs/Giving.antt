-- Leaders and bits on commands, user by user.
use Rattle.trail_again.proofs.Vocabulary.{◌≡◌, ◌∙◌, ℕ, ◌≤◌, Bool, true, false, List, [], ◌∷◌, ◌++◌, refl, ap, sym}
use Rattle.trail_again.proofs.Vocabulary.{subst, map, if◌then◌else◌, ◌||◌, ◌&&◌, Option, Some, filter, length, arith}
use Rattle.trail_again.proofs.Vocabulary.{slice_index_or, AllByRecursion, flat_map, append-nil, ALL, Act, Command, Bit}
use Rattle.trail_again.proofs.Vocabulary.{Execute, Read, Write, CommandName, Edition, UserId, History, among}
use Rattle.trail_again.proofs.Vocabulary.{followed_by, has, leaders_of, users_of, same_user, followed_by-append}
use Rattle.trail_again.proofs.Vocabulary.{same_user-sym, same_user-true, bit_in, session_after, Object}
use Rattle.acl.specs.declared.act.Act.TheVariants as act
use Rattle.trail_setup.specs.Giving.{all_given, given_line, has_just, leader_line, lines_of, own_bits, same_bits}
use Rattle.trail_again.proofs.Blocks.{group_acts, grouped_value, sets_without}
use Rattle.trail_again.proofs.Commands.{all_there, among_commands, among_filtered}
use Rattle.trail_again.proofs.Lawful.{others_of, given_leaders}
use Rattle.trail_again.proofs.Leading.{Leads, leads_nothing, leads_same, leads_then}
use Rattle.trail_again.proofs.Masking.{pick_is}
use Rattle.trail_again.proofs.Putting.{CanLead, PartsLead, all_acts, given_acts, given_part, just_keeps, leaders_lead}
use Rattle.trail_again.proofs.Putting.{parts_nothing, parts_then}
use Rattle.trail_again.proofs.SetupLines.{IsNamedOther, changes_of}
use Rattle.trail_again.proofs.Setting.{Distinct, keyed, object_among, sets_value}
use Rattle.trail_again.proofs.Touching.{Without, on_users, stays, users_stay, none_flat}

-- ---- leaders

groups_off : (on : Act → Bool) → ((u : UserId) (leader : Option UserId) → on (act.Grouped u leader) ≡ false)
    → (u : UserId) (ls : List UserId) → Without on (map (λ l. act.Grouped u (Some l)) ls)
groups_off on off u [] = tt
groups_off on off u (l ∷ ls) = (off u (Some l), groups_off on off u ls)

pub all_groups_off : (on : Act → Bool) → ((u : UserId) (leader : Option UserId) → on (act.Grouped u leader) ≡ false)
    → (leaders : UserId → List UserId) (us : List UserId) → Without on (flat_map (group_acts leaders) us)
all_groups_off on off leaders us = none_flat on (group_acts leaders) us
    (λ u. groups_off on off u (leaders u))

module _ (edition : Edition) (owner : UserId) (leaders : UserId → List UserId) where
  -- a user who has no leader yet, and those whom they get
  pub record Waits (h : History) (u : UserId) : Type 0 where
    pub other : IsNamedOther owner h u
    pub lead : AllByRecursion (CanLead edition owner h u) (leaders u)
    pub few : length (leaders u) ≤ 8
    pub yet : leaders_of edition h u ≡ []

  still : (h g : History) (u : UserId) → users_of owner g ≡ users_of owner h → IsNamedOther owner h u
      → IsNamedOther owner g u
  still h g u same o = record {
    named = o.named;
    apart = o.apart;
    known = ap (λ (l : List UserId). among l u) same ∙ o.known;
  }

  all_lead : (h g : History) (u : UserId) (ls : List UserId) → users_of owner g ≡ users_of owner h
      → AllByRecursion (CanLead edition owner h u) ls → AllByRecursion (CanLead edition owner g u) ls
  all_lead h g u [] same all = tt
  all_lead h g u (l ∷ ls) same all = ((still h g l same all.0.0, all.0.1), all_lead h g u ls same all.1)

  keeps : (h : History) (u : UserId) → users_of owner (followed_by h (group_acts leaders u)) ≡ users_of owner h
  keeps h u = stays (users_of owner) on_users (users_stay owner) (group_acts leaders u) h
      (groups_off on_users (λ v l. refl) u (leaders u))

  others_wait : (h : History) (u : UserId) (us : List UserId) → AllByRecursion (λ v. same_user v u ≡ false) us
      → AllByRecursion (Waits h) us → AllByRecursion (Waits (followed_by h (group_acts leaders u))) us
  others_wait h u [] apart all = tt
  others_wait h u (v ∷ us) apart all = (
    record {
      other = still h (followed_by h (group_acts leaders u)) v (keeps h u) all.0.other;
      lead = all_lead h (followed_by h (group_acts leaders u)) v (leaders v) (keeps h u) all.0.lead;
      few = all.0.few;
      yet = grouped_value edition u v (leaders u) h
          ∙ ap (λ b. if b then given_leaders edition (leaders_of edition h v) (leaders u)
          else leaders_of edition h v) (same_user-sym u v ∙ apart.0)
          ∙ all.0.yet;
    },
    others_wait h u us apart.1 all.1,
  )

  pub groups_lead : (us : List UserId) (h : History) → Distinct us → AllByRecursion (Waits h) us
      → Leads owner (session_after edition owner h) (flat_map (λ u. flat_map (leader_line u) (leaders u)) us)
      (session_after edition owner (followed_by h (flat_map (group_acts leaders) us)))
  groups_lead [] h d all = leads_nothing owner (session_after edition owner h)
  groups_lead (u ∷ us) h d all =
      let next : History = followed_by h (group_acts leaders u) in
      let none : length (leaders_of edition h u) ≡ 0 = ap length all.0.yet in
      let here : List ℕ = flat_map (leader_line u) (leaders u) in
      let rest : List ℕ = flat_map (λ v. flat_map (leader_line v) (leaders v)) us in
      leads_same owner (session_after edition owner h)
      (session_after edition owner (followed_by next (flat_map (group_acts leaders) us)))
      (session_after edition owner (followed_by h (flat_map (group_acts leaders) (u ∷ us)))) (here ++ rest)
      (here ++ rest) refl
      (ap (session_after edition owner)
      (sym (followed_by-append h (group_acts leaders u) (flat_map (group_acts leaders) us))))
      (leads_then owner (session_after edition owner h) (session_after edition owner next)
      (session_after edition owner (followed_by next (flat_map (group_acts leaders) us))) here rest
      (leaders_lead edition owner u (leaders u) h all.0.other all.0.lead (omega (arith, none, all.0.few)))
      (groups_lead us next d.1 (others_wait h u us (others_of us u d.0) all.1)))

-- ---- bits on commands

module _ (edition : Edition) (owner : UserId) (from : History) where
  keep : (u : UserId) (given : List Bool) (h : History) → IsNamedOther owner h u
      → IsNamedOther owner (followed_by h (given_acts u given (filter (has_just owner from u given) ALL))) u
  keep u given h o = record {
    named = o.named;
    apart = o.apart;
    known = ap (λ (l : List UserId). among l u) (just_keeps edition owner u given from h) ∙ o.known;
  }

  givens_lead : (u : UserId) (givens : List (List Bool)) (h : History) → IsNamedOther owner h u
      → PartsLead edition owner (map (given_line owner from u) givens) h (followed_by h (all_acts owner from u givens))
  givens_lead u [] h o = parts_nothing edition owner h
  givens_lead u (given ∷ givens) h o =
      let now : List Act = given_acts u given (filter (has_just owner from u given) ALL) in
      subst (λ (g : History). PartsLead edition owner (map (given_line owner from u) (given ∷ givens)) h g)
      (sym (followed_by-append h now (all_acts owner from u givens)))
      (parts_then edition owner (given_line owner from u given ∷ []) (map (given_line owner from u) givens) h
      (followed_by h now) (followed_by (followed_by h now) (all_acts owner from u givens))
      (given_part edition owner u given from h o)
      (givens_lead u givens (followed_by h now) (keep u given h o)))

  abbrev pub user_acts : UserId → List Act
  user_acts u = all_acts owner from u all_given

  pub given_off : (on : Act → Bool)
      → ((u : UserId) (bit : Bit) (o : Object) (v : Bool)
      → on (act.Set u bit o v) ≡ false)
      → (us : List UserId) → Without on (flat_map user_acts us)
  given_off on off us = none_flat on user_acts us
      (λ u. none_flat on
      (λ given. given_acts u given (filter (has_just owner from u given) ALL)) all_given
      (λ given. sets_without on off u (changes_of given)
      (map Command (filter (has_just owner from u given) ALL))))

  others_keep : (u : UserId) (h : History) (us : List UserId) → AllByRecursion (IsNamedOther owner h) us
      → AllByRecursion (IsNamedOther owner (followed_by h (user_acts u))) us
  others_keep u h [] all = tt
  others_keep u h (v ∷ us) all = (
    record {
      named = all.0.named;
      apart = all.0.apart;
      known = ap (λ (l : List UserId). among l v)
          (ap (λ (acts : List Act). users_of owner (followed_by h acts)) (sym (append-nil (user_acts u)))
          ∙ stays (users_of owner) on_users (users_stay owner) (flat_map user_acts (u ∷ [])) h
          (given_off on_users (λ w b o x. refl) (u ∷ []))) ∙ all.0.known;
    },
    others_keep u h us all.1,
  )

  pub users_given : (us : List UserId) (h : History) → AllByRecursion (IsNamedOther owner h) us
      → PartsLead edition owner (flat_map (lines_of owner from) us) h (followed_by h (flat_map user_acts us))
  users_given [] h all = parts_nothing edition owner h
  users_given (u ∷ us) h all =
      subst (λ (g : History). PartsLead edition owner (flat_map (lines_of owner from) (u ∷ us)) h g)
      (sym (followed_by-append h (user_acts u) (flat_map user_acts us)))
      (parts_then edition owner (lines_of owner from u) (flat_map (lines_of owner from) us) h
      (followed_by h (user_acts u)) (followed_by (followed_by h (user_acts u)) (flat_map user_acts us))
      (givens_lead u all_given h all.0) (users_given us (followed_by h (user_acts u)) (others_keep u h us all.1)))

-- ---- what users have then

-- a bit after the lines of these choices
abbrev chain : List Bool → Bit → List (List Bool) → Bool → Bool
chain own bit [] old = old
chain own bit (given ∷ givens) old = chain own bit givens (if same_bits own given then bit_in bit given else old)

chain_all : (r w x : Bool) (bit : Bit) → chain (r ∷ w ∷ x ∷ []) bit all_given false ≡ bit_in bit (r ∷ w ∷ x ∷ [])
chain_all true true true bit = refl
chain_all true true false bit = refl
chain_all true false true bit = refl
chain_all true false false bit = refl
chain_all false true true bit = refl
chain_all false true false bit = refl
chain_all false false true bit = refl
chain_all false false false Read = refl
chain_all false false false Write = refl
chain_all false false false Execute = refl

module _ (owner : UserId) (from : History) (k : UserId) (bit : Bit) (c : CommandName) where
  abbrev val : History → Bool
  val g = has owner g k bit (Command c)

  is_just : (x : UserId) (given : List Bool)
      → object_among (map Command (filter (has_just owner from x given) ALL)) (Command c)
      ≡ same_bits (own_bits owner from x c) given
  is_just x given = among_commands (filter (has_just owner from x given) ALL) c
      ∙ among_filtered (has_just owner from x given) ALL c
      ∙ ap (λ b. b && has_just owner from x given c) (all_there c)

  one_given : (x : UserId) (given : List Bool) (h : History)
      → val (followed_by h (given_acts x given (filter (has_just owner from x given) ALL)))
      ≡ (if same_user k x then (if same_bits (own_bits owner from k c) given then bit_in bit given else val h) else
      val h)
  one_given x given h =
      sets_value owner x k bit (Command c) (slice_index_or given 0 false) (slice_index_or given 1 false)
      (slice_index_or given 2 false) (map Command (filter (has_just owner from x given) ALL)) h
      ∙ (λ j. if same_user-sym x k j && is_just x given j then pick_is given bit j else val h)
      ∙ at (same_user k x) (same_bits (own_bits owner from x c) given) refl
    where
      at : (a b : Bool) → same_user k x ≡ a
          → (if a && same_bits (own_bits owner from x c) given then bit_in bit given else val h)
          ≡ (if a then (if same_bits (own_bits owner from k c) given then bit_in bit given else val h) else val h)
      at true b e = ap (λ (y : UserId). if same_bits (own_bits owner from y c) given then bit_in bit given else val h)
          (sym (same_user-true k x e))
      at false b e = refl

  all_of : (x : UserId) (givens : List (List Bool)) (h : History)
      → val (followed_by h (all_acts owner from x givens))
      ≡ (if same_user k x then chain (own_bits owner from k c) bit givens (val h) else val h)
  all_of x [] h = at (same_user k x)
    where
      at : (b : Bool) → val h ≡ (if b then val h else val h)
      at true = refl
      at false = refl
  all_of x (given ∷ givens) h =
      ap val (followed_by-append h (given_acts x given (filter (has_just owner from x given) ALL))
      (all_acts owner from x givens))
      ∙ all_of x givens (followed_by h (given_acts x given (filter (has_just owner from x given) ALL)))
      ∙ ap (λ v. if same_user k x then chain (own_bits owner from k c) bit givens v else v) (one_given x given h)
      ∙ at (same_user k x)
    where
      at : (b : Bool)
          → (if b then chain (own_bits owner from k c) bit givens
          (if b then (if same_bits (own_bits owner from k c) given then bit_in bit given else val h) else val h)
          else (if b then (if same_bits (own_bits owner from k c) given then bit_in bit given else val h) else val h))
          ≡ (if b then chain (own_bits owner from k c) bit (given ∷ givens) (val h) else val h)
      at true = refl
      at false = refl

  own_is : bit_in bit (own_bits owner from k c) ≡ (same_user owner k || has owner from k bit (Command c))
  own_is = at bit
    where
      at : (b : Bit) → bit_in b (own_bits owner from k c) ≡ (same_user owner k || has owner from k b (Command c))
      at Read = refl
      at Write = refl
      at Execute = refl

  pub given_value : (us : List UserId) (h : History) → Distinct us → val h ≡ false → among us k ≡ true
      → val (followed_by h (flat_map (λ u. all_acts owner from u all_given) us))
      ≡ (same_user owner k || has owner from k bit (Command c))
  given_value us h d none is =
      keyed val (λ u. all_acts owner from u all_given) k (λ old. chain (own_bits owner from k c) bit all_given old)
      (λ x g. all_of x all_given g) us h d
      ∙ (λ j. if is j then chain (own_bits owner from k c) bit all_given (none j) else none j)
      ∙ chain_all _ _ _ bit ∙ own_is
