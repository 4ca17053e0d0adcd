-- A new session that takes the lines of a setup has what the setup says.
use Rattle.trail_again.proofs.Vocabulary.{◌≡◌, ◌∙◌, ℕ, true, false, List, [], ◌∷◌, ◌++◌, refl, sym, subst, map}
use Rattle.trail_again.proofs.Vocabulary.{if◌then◌else◌, AllByRecursion, flat_map, append-nil, Act, Bit, Edition}
use Rattle.trail_again.proofs.Vocabulary.{UserId, History, among, followed_by, mask, users_of, name_of, same_user}
use Rattle.trail_again.proofs.Vocabulary.{fresh, IsRestored, Restores, SetupRestores, Part, IsAfter, bit_in, Known}
use Rattle.trail_again.proofs.Vocabulary.{closed_bits, mask_parts, said_bits, later_parts, others_of, parts_for}
use Rattle.trail_again.proofs.Vocabulary.{state_parts, SetupState, AreTaken, session_after, CanFollow, entries_in}
use Rattle.trail_setup.specs.Giving.{PutsAll, first_text, leader_lines, lines_of, users_kind}
use Rattle.trail_again.proofs.Blocks.{OpenMasks, is_masking, open_after}
use Rattle.trail_again.proofs.Lawful.{IsLawful, not_owner}
use Rattle.trail_again.proofs.Leading.{Brings, IsRead, events}
use Rattle.trail_again.proofs.Leaving.{closed_left, openers_left}
use Rattle.trail_again.proofs.Named.{IfOther, IsNaming, all_named, known_named, others_named}
use Rattle.trail_again.proofs.Trails.{acts_of, good_follow, marked_acts}
use Rattle.trail_again.proofs.Legal.{lawful, lawful_first}
use Rattle.trail_again.proofs.Masking.{bit_said}
use Rattle.trail_again.proofs.Putting.{brings_text, brings_then, first_leads, names_part, parts_then}
use Rattle.trail_again.proofs.SetupLines.{NewNames}
use Rattle.trail_again.proofs.Wording.{HasName}
use Rattle.trail_again.proofs.Ending.{rest_parts, restored}
use Rattle.trail_again.proofs.Staging as staging
use Rattle.trail_again.proofs.Staging.{Stage, all_open, first_stage, from_members, masked_stage, named_stage, names_off}
use Rattle.trail_again.proofs.Staging.{openers_lead, or_true}

module _ (edition : Edition) (owner : UserId) (acts from : History) (s : SetupState) (others : List UserId)
    (l : IsLawful edition owner acts others) (named : AllByRecursion HasName others) where
  abbrev m : Known
  m = staging.m edition owner acts from s others l named

  abbrev named_acts : List Act
  named_acts = staging.named_acts edition owner acts from s others l named

  abbrev mask_acts : List Act
  mask_acts = staging.mask_acts edition owner acts from s others l named

  abbrev rest_acts : List Act
  rest_acts = staging.rest_acts edition owner acts from s others l named

  abbrev h1 : History
  h1 = staging.h1 edition owner acts from s others l named

  -- ---- all lines

  abbrev h2 : History
  h2 = followed_by h1 named_acts

  abbrev h3 : History
  h3 = followed_by h2 mask_acts

  second : Stage edition owner acts from s others l named h2
  second =
      let first = first_stage edition owner acts from s others l named in
      named_stage edition owner acts from s others l named h1 first.0 first.1 first.2 first.4 refl

  second_open : OpenMasks h2
  second_open =
      let first = first_stage edition owner acts from s others l named in
      open_after named_acts h1 (names_off is_masking (λ u. refl) (λ u bit o v. refl) others) first.3

  third_masks : (by u : UserId) (bit : Bit) → among (owner ∷ others) by ≡ true → among others u ≡ true
      → same_user u by ≡ false → mask h3 by u bit ≡ bit_in bit (closed_bits owner from m by u)
  third_masks by u bit opens is apart =
      openers_left owner from m by u bit h2 l.apart
      ∙ (λ j. if opens j then (if or_true (same_user u owner) (among others u) is j
      then bit_said bit (said_bits false owner from m by u) (second_open by u bit j) else second_open by u bit j)
      else second_open by u bit j)
      ∙ closed_left owner from m by u bit apart (not_owner owner others u l.apart is)

  all_apart : (us : List UserId) → ((u : UserId) → among us u ≡ true → among others u ≡ true)
      → AllByRecursion (λ u. same_user owner u ≡ false) us
  all_apart us within = from_members (λ u. same_user owner u ≡ false) us
      (λ u is. not_owner owner others u l.apart (within u is))

  new_names : NewNames owner (users_of owner h1) others
  new_names = record
      { named = named; apart = all_apart others (λ u is. is); each = l.apart; few = l.few }

  abbrev last : History
  last = followed_by h3 rest_acts

  pub all_parts : (file : List ℕ) → PutsAll (parts_for edition owner acts from m others) [] file
      → Brings owner (fresh edition owner) (session_after edition owner last) [] file
  all_parts file all =
      brings_then owner (fresh edition owner) (session_after edition owner h1) (session_after edition owner last) []
      all.0 file
      (brings_text owner (fresh edition owner) (session_after edition owner h1) first_text [] all.0 all.1
      (first_leads edition owner))
      (parts_then edition owner (Part.lines users_kind (map name_of others) ∷ [])
      (mask_parts false owner from m []
      ++ (Part.text (flat_map (leader_lines edition acts) others)
      ∷ (flat_map (lines_of owner from) others ++ (state_parts s ++ later_parts owner from m)))) h1 h2 last
      (names_part edition owner h1 others new_names)
      (parts_then edition owner (mask_parts false owner from m [])
      (Part.text (flat_map (leader_lines edition acts) others)
      ∷ (flat_map (lines_of owner from) others ++ (state_parts s ++ later_parts owner from m))) h2 h3 last
      (openers_lead edition owner acts from s others l named (owner ∷ others) h2 second.users second.lists
      (all_open edition owner acts from s others l named))
      (rest_parts edition owner acts from s others l named h3
      (masked_stage edition owner acts from s others l named h2 second) third_masks)) all.0 file all.2)

  pub all_restored : IsAfter s from → IsRestored edition owner acts from s last
  all_restored = restored edition owner acts from s others l named h3
      (masked_stage edition owner acts from s others l named h2 second) third_masks

restores : (edition : Edition) (owner : UserId) (trail : List Act) (from : History) (s : SetupState) (file : List ℕ)
    → CanFollow edition owner [] trail → AllByRecursion IsNaming trail
    → Restores edition owner (followed_by [] trail) from s file
restores edition owner trail from s file can naming after put read =
    let acts : History = followed_by [] trail in
    let good = lawful edition owner trail [] (lawful_first edition owner) can in
    let others : List UserId = good.0 in
    let l = good.1 in
    let named : AllByRecursion (IfOther owner) (owner ∷ others) =
    subst (AllByRecursion (IfOther owner)) l.users (known_named owner trail naming) in
    let has : AllByRecursion HasName others = others_named owner others named.1
    (from_members (λ u. same_user owner u ≡ false) others (λ u is. not_owner owner others u l.apart is)) in
    let parts : PutsAll (parts_for edition owner acts from (record { state = s; users = owner ∷ others }) others)
    [] file =
    subst (λ (us : List UserId). PutsAll
    (parts_for edition owner acts from (record { state = s; users = us }) (others_of us)) [] file) l.users put in
    let brings = all_parts edition owner acts from s others l has file parts in
    let now : History = last edition owner acts from s others l has in
    let same : file ≡ brings.0 ++ [] = brings.1 ∙ sym (append-nil brings.0) in (
      now,
      subst (λ (b : List ℕ). AreTaken (fresh edition owner) (events owner 1 b) (session_after edition owner now))
          (sym same)
          (brings.2 1 [] (session_after edition owner now) (subst (λ (b : List ℕ). IsRead 1 b) same read)
          (λ n r. refl)),
      all_restored edition owner acts from s others l has after,
    )

pub setup_restores : SetupRestores
setup_restores w edition owner said bytes rest from s file watched read =
    subst (λ (h : History). Restores edition owner h from s file) (sym (marked_acts said []))
    (restores edition owner (acts_of (entries_in said)) from s file
    (good_follow edition owner (entries_in said) [] watched.read.judged.good) (all_named said bytes rest read))
