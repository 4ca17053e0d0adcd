-- The parts of a setup lead a session on, one after another.
use Rattle.trail_again.proofs.Vocabulary.{◌≡◌, ◌∙◌, ℕ, ◌+◌, ◌≤◌, Bool, true, false, List, [], ◌∷◌, ◌++◌, refl, ap, sym}
use Rattle.trail_again.proofs.Vocabulary.{subst, map, codes, if◌then◌else◌, Option, Some, None, append_assoc, arith}
use Rattle.trail_again.proofs.Vocabulary.{length, filter, AllByRecursion, flat_map, list_all, append-nil, ALL, Act}
use Rattle.trail_again.proofs.Vocabulary.{LockMode, Command, PresetKind, CommandName, Edition, UserId, sets, sets_on}
use Rattle.trail_again.proofs.Vocabulary.{History, followed_by, leaders_of, leaders_with, users_of, among, name_of}
use Rattle.trail_again.proofs.Vocabulary.{same_user, name_text, preset_text, every_command, Tables, fresh, Part}
use Rattle.trail_again.proofs.Vocabulary.{PutsLines, given_text, line, Kind, session_after, BitChange, Object}
use Rattle.trail_again.proofs.Vocabulary.{same_user-refl}
use Rattle.acl.specs.declared.act.Act.TheVariants as act
use Rattle.acl.specs.declared.act.LockMode.TheVariants as lock_mode
use Rattle.acl.specs.declared.act.PresetKind.TheVariants as preset
use Rattle.acl.specs.declared.command_name.CommandName.TheVariants as name
use Rattle.command_lang.specs.declared.command.Command.TheVariants as command
use Rattle.session.specs.Trace.{Command as Commanded}
use Rattle.trail_setup.specs.Giving.{PutsAll, default_line, first_text, given_kind, given_line, given_words, has_just}
use Rattle.trail_setup.specs.Giving.{leader_line, preset_line, users_kind}
use Rattle.trail_again.proofs.Blocks.{name_acts, names_users, nothing, sets_without}
use Rattle.trail_again.proofs.Commands.{all_kept, name_item, named_objects}
use Rattle.trail_again.proofs.Doing.{IsTaken, here, multiuser_done}
use Rattle.trail_again.proofs.SetupLines.{IsNamedOther, NewNames, auto_leads, change_leads, changes_of, given_say}
use Rattle.trail_again.proofs.SetupLines.{group_leads, later_names, mark_item, names_lead, off_bits, on_leads}
use Rattle.trail_again.proofs.Lawful.{room_with}
use Rattle.trail_again.proofs.Leading.{Brings, EachLeads, Leads, leads_line, leads_nothing, leads_then, lines_lead}
use Rattle.trail_again.proofs.Openers.{both_presets, preset_leads}
use Rattle.trail_again.proofs.Reading.{line_of, reads}
use Rattle.trail_again.proofs.Saying.{not_skipped, of_owner, whole_line}
use Rattle.trail_again.proofs.Setting.{presets_on}
use Rattle.trail_again.proofs.Wording.{IsItem, joined, says_multiuser}
use Rattle.trail_again.proofs.Touching.{on_users, stays, users_stay}

-- ---- bytes, one after another

pub brings_nothing : (owner : UserId) (t : Tables) (start out : List ℕ) → out ≡ start → Brings owner t t start out
brings_nothing owner t start out same = ([], same ∙ sym (append-nil start), leads_nothing owner t)

pub brings_then : (owner : UserId) (t u v : Tables) (start mid out : List ℕ) → Brings owner t u start mid
    → Brings owner u v mid out → Brings owner t v start out
brings_then owner t u v start mid out first second = (
  first.0 ++ second.0,
  second.1 ∙ ap (λ l. l ++ second.0) first.1 ∙ append_assoc start first.0 second.0,
  leads_then owner t u v first.0 second.0 first.2 second.2,
)

pub brings_text : (owner : UserId) (t u : Tables) (text start out : List ℕ) → out ≡ start ++ text
    → Leads owner t text u → Brings owner t u start out
brings_text owner t u text start out put leads = (text, put, leads)

-- parts lead from one history to another
abbrev pub PartsLead : Edition → UserId → List Part → History → History → Type 0
PartsLead edition owner parts h g =
    (start out : List ℕ) → PutsAll parts start out
    → Brings owner (session_after edition owner h) (session_after edition owner g) start out

puts_split : (ps qs : List Part) (a c : List ℕ) → PutsAll (ps ++ qs) a c
    → (b : List ℕ) × PutsAll ps a b × PutsAll qs b c
puts_split [] qs a c all = (a, refl, all)
puts_split (p ∷ ps) qs a c all =
    let later = puts_split ps qs all.0 c all.2 in
    (later.0, (all.0, all.1, later.1), later.2)

pub parts_then : (edition : Edition) (owner : UserId) (ps qs : List Part) (h g k : History)
    → PartsLead edition owner ps h g → PartsLead edition owner qs g k → PartsLead edition owner (ps ++ qs) h k
parts_then edition owner ps qs h g k first second start out all =
    let cut = puts_split ps qs start out all in
    brings_then owner (session_after edition owner h) (session_after edition owner g) (session_after edition owner k)
    start cut.0 out (first start cut.0 cut.1) (second cut.0 out cut.2)

pub parts_nothing : (edition : Edition) (owner : UserId) (h : History) → PartsLead edition owner [] h h
parts_nothing edition owner h start out same = brings_nothing owner (session_after edition owner h) start out same

pub text_part : (edition : Edition) (owner : UserId) (text : List ℕ) (h g : History)
    → Leads owner (session_after edition owner h) text (session_after edition owner g)
    → PartsLead edition owner (Part.text text ∷ []) h g
text_part edition owner text h g leads start out all =
    brings_text owner (session_after edition owner h) (session_after edition owner g) text start out
    (all.2 ∙ all.1) leads

pub lines_part : (edition : Edition) (owner : UserId) (k : Kind)
    (words : List (List ℕ)) (h g : History)
    → ((start out : List ℕ) → PutsLines k start words out
    → Brings owner (session_after edition owner h) (session_after edition owner g) start out)
    → PartsLead edition owner (Part.lines k words ∷ []) h g
lines_part edition owner k words h g brings start out all =
    subst (λ (o : List ℕ). Brings owner (session_after edition owner h) (session_after edition owner g) start o)
    (sym all.2) (brings start all.0 all.1)

-- ---- the first lines

abbrev pub first_acts : List Act
first_acts = presets_on preset.Windows nothing ++ presets_on preset.Commands nothing

multiuser_leads : (edition : Edition) (owner : UserId)
    → Leads owner (fresh edition owner) (line_of name.Multiuser (codes "on" ∷ []) ++ 0x0A ∷ [])
    (session_after edition owner [])
multiuser_leads edition owner =
    let text : List ℕ = line_of name.Multiuser (codes "on" ∷ []) in
    leads_line owner (fresh edition owner) text
    (whole_line name.Multiuser (codes "on" ∷ []) says_multiuser.words) (session_after edition owner [])
    (not_skipped name.Multiuser (codes "on" ∷ []))
    (λ short. subst
    (λ (p : UserId × List ℕ). IsTaken (fresh edition owner) (Commanded p.0 None p.1) (session_after edition owner []))
    (sym (of_owner owner name.Multiuser (codes "on" ∷ []) says_multiuser.words))
    (multiuser_done edition owner text (reads name.Multiuser (codes "on" ∷ []) (command.Multiuser true) says_multiuser
    short)))

pub first_leads : (edition : Edition) (owner : UserId)
    → Leads owner (fresh edition owner) first_text (session_after edition owner (followed_by [] first_acts))
first_leads edition owner =
    leads_then owner (fresh edition owner) (session_after edition owner [])
    (session_after edition owner (followed_by [] first_acts)) (line_of name.Multiuser (codes "on" ∷ []) ++ 0x0A ∷ [])
    (line_of name.Aclumask
    ((preset_text preset.Windows ++ codes "-rwx") ∷ (preset_text preset.Commands ++ codes "-rwx") ∷ []) ++ 0x0A ∷ [])
    (multiuser_leads edition owner)
    (both_presets edition owner [] (codes "-rwx") (codes "-rwx") nothing nothing off_bits off_bits)

-- ---- names

names_shape : (a t l : List ℕ) → a ++ (t ++ l) ≡ (a ++ t) ++ l
names_shape a t l = sym (append_assoc a t l)

pub names_part : (edition : Edition) (owner : UserId) (h : History) (xs : List UserId)
    → NewNames owner (users_of owner h) xs
    → PartsLead edition owner (Part.lines users_kind (map name_of xs) ∷ []) h (followed_by h (flat_map name_acts xs))
names_part edition owner h xs new =
    lines_part edition owner users_kind (map name_of xs) h (followed_by h (flat_map name_acts xs))
    (lines_lead edition owner users_kind name_of name_acts (λ g ys. NewNames owner (users_of owner g) ys) each xs h new)
  where
    each : EachLeads edition owner users_kind name_of name_acts (λ g ys. NewNames owner (users_of owner g) ys)
    each g y ys zs n = (
      subst (λ (b : List ℕ). Leads owner (session_after edition owner g) b
          (session_after edition owner (followed_by g (flat_map name_acts (y ∷ ys)))))
          (ap (λ (l : List ℕ). codes "aclchg " ++ l)
          (sym (names_shape (joined (name_of y) (map name_of ys)) (codes " -rwx ?") (0x0A ∷ []))))
          (names_lead edition owner g y ys zs n),
      subst (λ (l : List UserId). NewNames owner l zs) (sym (names_users owner (y ∷ ys) g))
          (later_names owner (users_of owner g) (y ∷ ys) zs n),
    )

-- ---- presets and the default lock

preset_shape : (b l : List ℕ) → (b ++ []) ++ l ≡ b ++ l
preset_shape b l = ap (λ x. x ++ l) (append-nil b)

pub preset_part : (edition : Edition) (owner : UserId) (h : History) (kind : PresetKind) (given : List Bool)
    → PartsLead edition owner (Part.text (preset_line kind given) ∷ []) h (followed_by h (presets_on kind
    (changes_of given)))
preset_part edition owner h kind given =
    text_part edition owner (preset_line kind given) h (followed_by h (presets_on kind (changes_of given)))
    (subst (λ (b : List ℕ). Leads owner (session_after edition owner h) b
    (session_after edition owner (followed_by h (presets_on kind (changes_of given))))) (shape kind)
    (preset_leads edition owner h kind (given_text given) (changes_of given) (given_say given)))
  where
    shape : (k : PresetKind)
        → line_of name.Aclumask ((preset_text k ++ given_text given) ∷ []) ++ 0x0A ∷ [] ≡ preset_line k given
    shape preset.Windows = ap (λ (l : List ℕ). codes "aclumask ?" ++ l) (preset_shape (given_text given) (0x0A ∷ []))
    shape preset.Commands = ap (λ (l : List ℕ). codes "aclumask ??" ++ l) (preset_shape (given_text given) (0x0A ∷ []))

abbrev pub default_acts : LockMode → List Act
default_acts lock_mode.Off = []
default_acts lock_mode.Auto = act.Default lock_mode.Auto ∷ []
default_acts lock_mode.On = act.Default lock_mode.On ∷ []

pub default_part : (edition : Edition) (owner : UserId) (h : History) (mode : LockMode)
    → PartsLead edition owner (Part.text (default_line mode) ∷ []) h (followed_by h (default_acts mode))
default_part edition owner h lock_mode.Off =
    text_part edition owner [] h h (leads_nothing owner (session_after edition owner h))
default_part edition owner h lock_mode.Auto =
    text_part edition owner (codes "defwritelock auto\n") h (act.Default lock_mode.Auto ∷ h)
    (auto_leads edition owner h)
default_part edition owner h lock_mode.On =
    text_part edition owner (codes "defwritelock on\n") h (act.Default lock_mode.On ∷ h) (on_leads edition owner h)

-- ---- commands

given_shape : (a b c l : List ℕ) → ((a ++ b) ++ c) ++ l ≡ ((a ++ []) ++ (b ++ (c ++ []))) ++ l
given_shape a b c l =
    ap (λ x. x ++ l) (append_assoc a b c ∙ (λ j. sym (append-nil a) j ++ (b ++ sym (append-nil c) j)))

-- the line of a user's bits on commands
given_bytes : (u : UserId) (given : List Bool) (w : List ℕ) (ws : List (List ℕ))
    → line_of name.Aclchg (joined (name_of u) [] ∷ given_text given ∷ joined w ws ∷ []) ++ 0x0A ∷ []
    ≡ line (given_kind u given) (w, ws)
given_bytes u given w ws = ap (λ (l : List ℕ). codes "aclchg " ++ l)
    (sym (given_shape (name_of u) (0x20 ∷ given_text given) (0x20 ∷ joined w ws) (0x0A ∷ [])))

abbrev pub given_acts : UserId → List Bool → List CommandName → List Act
given_acts u given cs = sets u (changes_of given) (map Command cs)

each_acts : (u : UserId) (given : List Bool) (cs : List CommandName)
    → flat_map (λ c. sets_on u (changes_of given) (Command c)) cs ≡ given_acts u given cs
each_acts u given [] = refl
each_acts u given (c ∷ cs) = ap (λ (l : List Act). sets_on u (changes_of given) (Command c) ++ l) (each_acts u given cs)

items_named : (cs : List CommandName) → AllByRecursion IsItem (map name_text cs)
items_named [] = tt
items_named (c ∷ cs) = (name_item c, items_named cs)

module _ (edition : Edition) (owner : UserId) (u : UserId) (given : List Bool) where
  -- users of a history and of one that follows it are the same
  abbrev Follows : History → List Act → Type 0
  Follows h acts = users_of owner (followed_by h acts) ≡ users_of owner h

  still_other : (h : History) (acts : List Act) (v : UserId) → Follows h acts → IsNamedOther owner h v
      → IsNamedOther owner (followed_by h acts) v
  still_other h acts v same o = record {
    named = o.named;
    apart = o.apart;
    known = ap (λ (l : List UserId). among l v) same ∙ o.known;
  }

  sets_keep : (h : History) (changes : List BitChange)
      (objects : List Object) → Follows h (sets u changes objects)
  sets_keep h changes objects = stays (users_of owner)
      on_users (users_stay owner)
      (sets u changes objects) h
      (sets_without on_users
      (λ v bit o w. refl) u changes objects)

  -- on each command
  abbrev OneMark : History → List (List ℕ) → Type 0
  OneMark h ws = IsNamedOther owner h u × (length ws ≤ 1) × AllByRecursion (λ w. w ≡ codes "?") ws

  abbrev mark_acts : List ℕ → List Act
  mark_acts w = given_acts u given ALL

  each_mark : EachLeads edition owner (given_kind u given) (λ w. w) mark_acts OneMark
  each_mark h w [] rest holds = (
    subst (λ (b : List ℕ). Leads owner (session_after edition owner h) b
        (session_after edition owner (followed_by h (given_acts u given ALL ++ []))))
        (given_bytes u given (codes "?") [] ∙ ap (λ (x : List ℕ). line (given_kind u given) (x, [])) (sym holds.2.0))
        (subst (λ (acts : List Act). Leads owner (session_after edition owner h)
        (line_of name.Aclchg (joined (name_of u) [] ∷ given_text given ∷ joined (codes "?") [] ∷ []) ++ 0x0A ∷ [])
        (session_after edition owner (followed_by h acts))) (sym (append-nil (given_acts u given ALL)))
        (change_leads edition owner h u (given_text given) (changes_of given) (codes "?") [] every_command holds.0
        (given_say given) mark_item tt refl)),
    (
      still_other h (given_acts u given ALL ++ []) u
          (ap (λ (l : List Act). users_of owner (followed_by h l)) (append-nil (given_acts u given ALL))
          ∙ sets_keep h (changes_of given) (map Command ALL)) holds.0,
      omega (arith, holds.1),
      holds.2.1,
    ),
  )
  each_mark h w (v ∷ xs) rest holds = absurd (omega (arith, holds.1))

  -- on some commands
  each_command : EachLeads edition owner (given_kind u given) name_text (λ c. sets_on u (changes_of given) (Command c))
      (λ h cs. IsNamedOther owner h u)
  each_command h c cs rest holds = (
    subst (λ (b : List ℕ). Leads owner (session_after edition owner h) b
        (session_after edition owner
        (followed_by h (flat_map (λ d. sets_on u (changes_of given) (Command d)) (c ∷ cs)))))
        (given_bytes u given (name_text c) (map name_text cs))
        (subst (λ (acts : List Act). Leads owner (session_after edition owner h)
        (line_of name.Aclchg (joined (name_of u) [] ∷ given_text given ∷ joined (name_text c) (map name_text cs) ∷ [])
        ++ 0x0A ∷ [])
        (session_after edition owner (followed_by h acts))) (sym (each_acts u given (c ∷ cs)))
        (change_leads edition owner h u (given_text given) (changes_of given) (name_text c) (map name_text cs)
        (map Command (c ∷ cs)) holds (given_say given) (name_item c) (items_named cs)
        (named_objects (here edition owner h) (c ∷ cs)))),
    still_other h (flat_map (λ d. sets_on u (changes_of given) (Command d)) (c ∷ cs)) u
        (ap (λ (l : List Act). users_of owner (followed_by h l)) (each_acts u given (c ∷ cs))
        ∙ sets_keep h (changes_of given) (map Command (c ∷ cs))) holds,
  )

  -- the lines of these bits
  module _ (from : History) where
    abbrev just : CommandName → Bool
    just = has_just owner from u given

    abbrev pub just_acts : List Act
    just_acts = given_acts u given (filter just ALL)

    pub given_part : (h : History) → IsNamedOther owner h u
        → PartsLead edition owner (given_line owner from u given ∷ []) h (followed_by h just_acts)
    given_part h o = lines_part edition owner (given_kind u given) (given_words owner from u given) h
        (followed_by h just_acts) (at (list_all just ALL) refl)
      where
        at : (b : Bool) → list_all just ALL ≡ b → (start out : List ℕ)
            → PutsLines (given_kind u given) start (if b then codes "?" ∷ [] else map name_text (filter just ALL)) out
            → Brings owner (session_after edition owner h) (session_after edition owner (followed_by h just_acts))
            start out
        at true all start out put =
            subst (λ (acts : List Act). Brings owner (session_after edition owner h)
            (session_after edition owner (followed_by h acts)) start out)
            (marked ∙ ap (given_acts u given) (sym (all_kept just ALL all)))
            (lines_lead edition owner (given_kind u given) (λ w. w) mark_acts OneMark each_mark (codes "?" ∷ []) h
            (o, omega arith, (refl, tt)) start out put)
          where
            marked : flat_map mark_acts (codes "?" ∷ []) ≡ given_acts u given ALL
            marked = append-nil (given_acts u given ALL)
        at false all start out put =
            subst (λ (acts : List Act). Brings owner (session_after edition owner h)
            (session_after edition owner (followed_by h acts)) start out) (each_acts u given (filter just ALL))
            (lines_lead edition owner (given_kind u given) name_text (λ c. sets_on u (changes_of given) (Command c))
            (λ g cs. IsNamedOther owner g u) each_command (filter just ALL) h o start out put)
        -- lines of several choices of bits

  pub just_keeps : (from h : History) → Follows h (just_acts from)
  just_keeps from h = sets_keep h (changes_of given) (map Command (filter (has_just owner from u given) ALL))

-- each choice of bits of a user
abbrev pub all_acts : UserId → History → UserId → List (List Bool) → List Act
all_acts owner from u givens = flat_map (λ given. given_acts u given (filter (has_just owner from u given) ALL)) givens

-- ---- leaders

leader_shape : (u l : List ℕ) → (u ++ (0x20 ∷ (l ++ []))) ++ 0x0A ∷ [] ≡ u ++ (0x20 ∷ (l ++ 0x0A ∷ []))
leader_shape u l = append_assoc u (0x20 ∷ (l ++ [])) (0x0A ∷ [])
    ∙ ap (λ (x : List ℕ). u ++ 0x20 ∷ x) (append_assoc l [] (0x0A ∷ []))

module _ (edition : Edition) (owner : UserId) where
  one_leader : (h : History) (u l : UserId) → IsNamedOther owner h u → IsNamedOther owner h l → same_user u l ≡ false
      → length (leaders_with edition (Some l) (leaders_of edition h u)) ≤ 8
      → Leads owner (session_after edition owner h) (leader_line u l)
      (session_after edition owner (act.Grouped u (Some l) ∷ h))
  one_leader h u l o p other few = subst (λ (b : List ℕ). Leads owner (session_after edition owner h) b
      (session_after edition owner (act.Grouped u (Some l) ∷ h)))
      (ap (λ (x : List ℕ). codes "aclgrp " ++ x) (leader_shape (name_of u) (name_of l)))
      (group_leads edition owner h u l o p other few)

  -- another user, whom this one can lead
  abbrev pub CanLead : History → UserId → UserId → Type 0
  CanLead h u l = IsNamedOther owner h l × (same_user u l ≡ false)

  as_known : (h : History) (u : UserId) (leader : Option UserId) (v : UserId) → IsNamedOther owner h v
      → IsNamedOther owner (act.Grouped u leader ∷ h) v
  as_known h u leader v o = record { named = o.named; apart = o.apart; known = o.known }

  all_as_known : (h : History) (u : UserId) (leader : Option UserId) (ls : List UserId)
      → AllByRecursion (CanLead h u) ls → AllByRecursion (CanLead (act.Grouped u leader ∷ h) u) ls
  all_as_known h u leader [] all = tt
  all_as_known h u leader (l ∷ ls) all =
      ((as_known h u leader l all.0.0, all.0.1), all_as_known h u leader ls all.1)

  led_so : (h : History) (u l : UserId)
      → leaders_of edition (act.Grouped u (Some l) ∷ h) u ≡ leaders_with edition (Some l) (leaders_of edition h u)
  led_so h u l = ap (λ b. if b then leaders_with edition (Some l) (leaders_of edition h u) else leaders_of edition h u)
      (same_user-refl u)

  pub leaders_lead : (u : UserId) (ls : List UserId) (h : History) → IsNamedOther owner h u
      → AllByRecursion (CanLead h u) ls → length (leaders_of edition h u) + length ls ≤ 8
      → Leads owner (session_after edition owner h) (flat_map (leader_line u) ls)
      (session_after edition owner (followed_by h (map (λ l. act.Grouped u (Some l)) ls)))
  leaders_lead u [] h o all room = leads_nothing owner (session_after edition owner h)
  leaders_lead u (l ∷ ls) h o all room =
      let next : History = act.Grouped u (Some l) ∷ h in
      let more = room_with edition l (leaders_of edition h u) in
      let same : length (leaders_of edition next u) ≡ length (leaders_with edition (Some l) (leaders_of edition h u)) =
      ap length (led_so h u l) in
      leads_then owner (session_after edition owner h) (session_after edition owner next)
      (session_after edition owner (followed_by next (map (λ m. act.Grouped u (Some m)) ls))) (leader_line u l)
      (flat_map (leader_line u) ls)
      (one_leader h u l o all.0.0 all.0.1 (omega (arith, room, more)))
      (leaders_lead u ls next (as_known h u (Some l) u o) (all_as_known h u (Some l) ls all.1)
      (omega (arith, room, more, same)))
