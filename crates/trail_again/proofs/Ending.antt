-- What a session has after all lines of a setup.
use Rattle.trail_again.proofs.Vocabulary.{◌≡◌, ◌∙◌, Bool, true, false, List, [], ◌∷◌, ◌++◌, refl, ap, sym, subst}
use Rattle.trail_again.proofs.Vocabulary.{if◌then◌else◌, ◌||◌, slice_index_or, AllByRecursion, flat_map, list_any, Act}
use Rattle.trail_again.proofs.Vocabulary.{LockMode, Object, Command, PresetKind, Bit, CommandName, Edition, UserId}
use Rattle.trail_again.proofs.Vocabulary.{History, among, followed_by, has, leaders_of, mask, preset_of, users_of, may}
use Rattle.trail_again.proofs.Vocabulary.{same_user, followed_by-append, same_user-refl, IsRestored, Part, bit_in}
use Rattle.trail_again.proofs.Vocabulary.{IsAfter, default_of, Known, closed_bits, is_first, preset_in, has_on_all}
use Rattle.trail_again.proofs.Vocabulary.{mask_in, later_parts, state_parts, SetupState, Execute, Read, Write, ◌&&◌}
use Rattle.acl.specs.declared.act.Act.TheVariants as act
use Rattle.acl.specs.declared.act.LockMode.TheVariants as lock_mode
use Rattle.acl.specs.declared.act.PresetKind.TheVariants as preset
use Rattle.trail_setup.specs.Giving.{default_line, leader_lines, lines_of, preset_line}
use Rattle.trail_again.proofs.Blocks.{HasNothing, groups_value, presets_without}
use Rattle.trail_again.proofs.Giving.{Waits, all_groups_off, given_off, given_value, groups_lead, users_given}
use Rattle.trail_again.proofs.Lawful.{IsLawful, not_owner, rebuilt, Leads as CanLeadOf, given_leaders}
use Rattle.trail_again.proofs.Later.{later_leads}
use Rattle.trail_again.proofs.Masking.{pick_is}
use Rattle.trail_again.proofs.Putting.{PartsLead, default_acts, default_part, parts_then, preset_part, text_part}
use Rattle.trail_again.proofs.SetupLines.{IsNamedOther, changes_of}
use Rattle.trail_again.proofs.Setting.{preset_value}
use Rattle.trail_again.proofs.Touching.{Without, commands_stay, leaders_stay, masks_stay, none_append, on_commands}
use Rattle.trail_again.proofs.Touching.{on_leaders, on_masks, on_presets, on_users, presets_stay, stays, users_stay}
use Rattle.trail_again.proofs.Wording.{HasName}
use Rattle.trail_setup.specs.Keeping as keeping
use Rattle.trail_again.proofs.Staging as staging
use Rattle.trail_again.proofs.Staging.{Stage, default_off, default_stays, from_members, of_member, on_default, other_of}
use Rattle.trail_again.proofs.Staging.{rest_off, waits}
use Rattle.trail_again.proofs.Legal.{among_others}

-- the mode of new locks is the one that a setup keeps
same_default : (h : History) → keeping.default_of h ≡ default_of h
same_default [] = refl
same_default (act.Default mode ∷ h) = refl
same_default (a ∷ h) = same_default h

module _ (edition : Edition) (owner : UserId) (acts from : History) (s : SetupState) (others : List UserId)
    (l : IsLawful edition owner acts others) (named : AllByRecursion HasName others) where
  abbrev m : Known
  m = staging.m edition owner acts from s others l named

  abbrev leaders : UserId → List UserId
  leaders u = leaders_of edition acts u

  abbrev leader_acts : List Act
  leader_acts = staging.leader_acts edition owner acts from s others l named

  abbrev right_acts : List Act
  right_acts = staging.right_acts edition owner acts from s others l named

  abbrev window_acts : List Act
  window_acts = staging.window_acts edition owner acts from s others l named

  abbrev command_acts : List Act
  command_acts = staging.command_acts edition owner acts from s others l named

  abbrev rest_acts : List Act
  rest_acts = staging.rest_acts edition owner acts from s others l named

  module _ (h : History) (g : Stage edition owner acts from s others l named h) (masks : (by u : UserId) (bit : Bit)
      → among (owner ∷ others) by ≡ true
      → among others u ≡ true → same_user u by ≡ false → mask h by u bit
      ≡ bit_in bit (closed_bits owner from m by u)) where
    abbrev now : History
    now = followed_by h rest_acts

    -- the acts of leaders, and those after them
    abbrev led : History
    led = followed_by h leader_acts

    abbrev after_led : List Act
    after_led = right_acts ++ (window_acts ++ (command_acts ++ default_acts s.default))

    split_led : now ≡ followed_by led after_led
    split_led = followed_by-append h leader_acts after_led

    abbrev given : History
    given = followed_by led right_acts

    abbrev after_given : List Act
    after_given = window_acts ++ (command_acts ++ default_acts s.default)

    split_given : now ≡ followed_by given after_given
    split_given = split_led ∙ followed_by-append led right_acts after_given

    abbrev windowed : History
    windowed = followed_by given window_acts

    split_windowed : now ≡ followed_by (followed_by windowed command_acts) (default_acts s.default)
    split_windowed = split_given ∙ followed_by-append given window_acts (command_acts ++ default_acts s.default)
        ∙ followed_by-append windowed command_acts (default_acts s.default)

    has_users : users_of owner now ≡ owner ∷ others
    has_users = stays (users_of owner) on_users (users_stay owner) rest_acts h
        (rest_off edition owner acts from s others l named on_users (λ u x. refl) (λ u bit o v. refl)
        (λ kind bit v. refl) (λ mode. refl)) ∙ g.users

    after_led_off : (on : Act → Bool) → ((u : UserId) (bit : Bit) (o : Object) (v : Bool) → on (act.Set u bit o v)
        ≡ false)
        → ((kind : PresetKind) (bit : Bit) (v : Bool) → on (act.Preset kind bit v) ≡ false)
        → ((mode : LockMode) → on (act.Default mode) ≡ false) → Without on after_led
    after_led_off on set presets default =
        none_append on right_acts after_given (given_off edition owner from on set others)
        (none_append on window_acts (command_acts ++ default_acts s.default)
        (presets_without on presets preset.Windows (changes_of s.on_windows))
        (none_append on command_acts (default_acts s.default)
        (presets_without on presets preset.Commands (changes_of s.on_commands))
        (default_off edition owner acts from s others l named on default)))

    has_leaders : (u : UserId) → leaders_of edition now u ≡ leaders_of edition acts u
    has_leaders u =
        ap (λ k. leaders_of edition k u) split_led
        ∙ stays (λ k. leaders_of edition k u) on_leaders (leaders_stay edition u) after_led led
        (after_led_off on_leaders (λ v bit o x. refl) (λ kind bit v. refl) (λ mode. refl))
        ∙ groups_value edition leaders others u h l.apart.1
        ∙ at (among others u) refl
      where
        at : (b : Bool) → among others u ≡ b
            → (if b then given_leaders edition (leaders_of edition h u) (leaders u)
            else leaders_of edition h u) ≡ leaders_of edition acts u
        at true e = ap (λ ls. given_leaders edition ls (leaders u)) (g.led u)
            ∙ rebuilt edition (leaders u) (l.led u).fit
        at false e = g.led u ∙ sym ((l.led u).none e)

    led_nothing : HasNothing owner led
    led_nothing u bit c = stays (λ k. has owner k u bit (Command c)) on_commands
        (commands_stay owner u bit c) leader_acts h
        (all_groups_off on_commands (λ v x. refl) leaders others) ∙ g.nothing u bit c

    has_commands : (u : UserId) (bit : Bit) (c : CommandName) → among others u ≡ true
        → has owner now u bit (Command c) ≡ has owner from u bit (Command c)
    has_commands u bit c is =
        ap (λ k. has owner k u bit (Command c)) split_given
        ∙ stays (λ k. has owner k u bit (Command c)) on_commands (commands_stay owner u bit c) after_given given
        (none_append on_commands window_acts (command_acts ++ default_acts s.default)
        (presets_without on_commands (λ kind b v. refl) preset.Windows (changes_of s.on_windows))
        (none_append on_commands command_acts (default_acts s.default)
        (presets_without on_commands (λ kind b v. refl) preset.Commands (changes_of s.on_commands))
        (default_off edition owner acts from s others l named on_commands (λ mode. refl))))
        ∙ given_value owner from u bit c others led l.apart.1 (led_nothing u bit c) is
        ∙ ap (λ b. b || has owner from u bit (Command c)) (not_owner owner others u l.apart is)

    has_masks : (by u : UserId) (bit : Bit) → among (owner ∷ others) by ≡ true → among others u ≡ true
        → same_user u by ≡ false → mask now by u bit ≡ bit_in bit (closed_bits owner from m by u)
    has_masks by u bit opens is apart =
        stays (λ k. mask k by u bit) on_masks (masks_stay by u bit) rest_acts h
        (rest_off edition owner acts from s others l named on_masks (λ v x. refl) (λ v b o x. refl)
        (λ kind b v. refl) (λ mode. refl))
        ∙ masks by u bit opens is apart

    default_keeps : (kind : PresetKind) (bit : Bit) (k : History)
        → preset_of (followed_by k (default_acts s.default)) kind bit ≡ preset_of k kind bit
    default_keeps kind bit k = stays (λ x. preset_of x kind bit) on_presets (presets_stay kind bit)
        (default_acts s.default) k (default_off edition owner acts from s others l named on_presets (λ mode. refl))

    has_presets : (kind : PresetKind) (bit : Bit) → preset_of now kind bit ≡ bit_in bit (preset_in s kind)
    has_presets preset.Windows bit =
        ap (λ k. preset_of k preset.Windows bit) split_windowed
        ∙ default_keeps preset.Windows bit (followed_by windowed command_acts)
        ∙ preset_value preset.Commands preset.Windows bit (slice_index_or s.on_commands 0 false)
        (slice_index_or s.on_commands 1 false) (slice_index_or s.on_commands 2 false) windowed
        ∙ preset_value preset.Windows preset.Windows bit (slice_index_or s.on_windows 0 false)
        (slice_index_or s.on_windows 1 false) (slice_index_or s.on_windows 2 false) given
        ∙ pick_is s.on_windows bit
    has_presets preset.Commands bit =
        ap (λ k. preset_of k preset.Commands bit) split_windowed
        ∙ default_keeps preset.Commands bit (followed_by windowed command_acts)
        ∙ preset_value preset.Commands preset.Commands bit (slice_index_or s.on_commands 0 false)
        (slice_index_or s.on_commands 1 false) (slice_index_or s.on_commands 2 false) windowed
        ∙ pick_is s.on_commands bit

    lock_before : default_of (followed_by windowed command_acts) ≡ lock_mode.Off
    lock_before =
        stays default_of on_default default_stays command_acts windowed
        (presets_without on_default (λ kind b v. refl) preset.Commands (changes_of s.on_commands))
        ∙ stays default_of on_default default_stays window_acts given
        (presets_without on_default (λ kind b v. refl) preset.Windows (changes_of s.on_windows))
        ∙ stays default_of on_default default_stays right_acts led
        (given_off edition owner from on_default (λ v b o x. refl) others)
        ∙ stays default_of on_default default_stays leader_acts h
        (all_groups_off on_default (λ v x. refl) leaders others) ∙ g.lock

    has_default : default_of now ≡ s.default
    has_default = ap default_of split_windowed ∙ at s.default (followed_by windowed command_acts) lock_before
      where
        at : (mode : LockMode) (k : History) → default_of k ≡ lock_mode.Off
            → default_of (followed_by k (default_acts mode)) ≡ mode
        at lock_mode.Off k e = e
        at lock_mode.Auto k e = refl
        at lock_mode.On k e = refl

    -- a user among those of the trail's acts
    known_other : (u : UserId) → among (users_of owner acts) u ≡ true → same_user owner u ≡ false → among others u
        ≡ true
    known_other u is apart = among_others owner others (users_of owner acts) u l.users
        apart is

    -- what leaders have
    by_leaders : (bit : Bit) (c : CommandName) (u : UserId) (ls : List UserId) → AllByRecursion (CanLeadOf others u) ls
        → list_any (λ leader. has owner now leader bit (Command c)) ls
        ≡ list_any (λ leader. has owner from leader bit (Command c)) ls
    by_leaders bit c u [] all = refl
    by_leaders bit c u (v ∷ ls) all = (λ j. has_commands v bit c all.0.0 j || by_leaders bit c u ls all.1 j)

    has_rights : (u : UserId) (bit : Bit) (c : CommandName) → among others u ≡ true
        → leaders_of edition from u ≡ leaders_of edition acts u
        → may edition owner now u bit (Command c) ≡ may edition owner from u bit (Command c)
    has_rights u bit c is same =
        (λ j. same_user owner u || has_commands u bit c is j
        || list_any (λ leader. has owner now leader bit (Command c)) (has_leaders u j))
        ∙ ap (λ b. same_user owner u || has owner from u bit (Command c) || b)
        (by_leaders bit c u (leaders u) (l.led u).lead)
        ∙ ap (λ ls. same_user owner u || has owner from u bit (Command c)
        || list_any (λ leader. has owner from leader bit (Command c)) ls) (sym same)

    pub restored : IsAfter s from → IsRestored edition owner acts from s now
    restored after = record {
      users = has_users ∙ sym l.users;
      leaders = has_leaders;
      commands = λ u bit c is. has_commands u bit c (known_other u is.0 is.1);
      rights = λ u bit c is same. has_rights u bit c (known_other u is.0 is.1) same;
      masks = λ by u bit opens is apart.
          has_masks by u bit (ap (λ (us : List UserId). among us by) (sym l.users) ∙ opens)
          (known_other u is.0 is.1) apart
          ∙ ap (λ (us : List UserId). bit_in bit (closed_bits owner from (record { state = s; users = us }) by u))
          (sym l.users)
          ∙ closed_is by u bit ∙ ap (λ b. b && has_on_all owner from
          (record { state = s; users = users_of owner acts }) by u bit) (after.masks by u bit);
      presets = λ kind bit. has_presets kind bit ∙ after.presets kind bit;
      default = has_default ∙ after.default ∙ same_default from;
    }
      where
        closed_is : (by u : UserId) (bit : Bit)
            → bit_in bit (closed_bits owner from (record { state = s; users = users_of owner acts }) by u)
            ≡ (bit_in bit (mask_in s.masks.items by u)
            && has_on_all owner from (record { state = s; users = users_of owner acts }) by u bit)
        closed_is by u Read = refl
        closed_is by u Write = refl
        closed_is by u Execute = refl

    -- ---- the lines from the leaders on

    leaders_part : PartsLead edition owner (Part.text (flat_map (leader_lines edition acts) others) ∷ []) h led
    leaders_part = text_part edition owner (flat_map (leader_lines edition acts) others) h led
        (groups_lead edition owner leaders others h l.apart.1
        (from_members (Waits edition owner leaders h) others
        (λ u is. waits edition owner acts from s others l named h g.users g.led u is)))

    led_users : users_of owner led ≡ owner ∷ others
    led_users = stays (users_of owner) on_users (users_stay owner) leader_acts h
        (all_groups_off on_users (λ u x. refl) leaders others) ∙ g.users

    rights_part : PartsLead edition owner (flat_map (lines_of owner from) others) led given
    rights_part = users_given edition owner from others led
        (from_members (IsNamedOther owner led) others (λ u is. other_of edition owner acts from s others l named led
        led_users u is))

    pub rest_parts : PartsLead edition owner
        (Part.text (flat_map (leader_lines edition acts) others)
        ∷ (flat_map (lines_of owner from) others ++ (state_parts s ++ later_parts owner from m))) h now
    rest_parts =
        parts_then edition owner (Part.text (flat_map (leader_lines edition acts) others) ∷ [])
        (flat_map (lines_of owner from) others ++ (state_parts s ++ later_parts owner from m)) h led now leaders_part
        (parts_then edition owner (flat_map (lines_of owner from) others) (state_parts s ++ later_parts owner from m)
        led given now rights_part
        (parts_then edition owner (Part.text (preset_line preset.Windows s.on_windows) ∷ [])
        (Part.text (preset_line preset.Commands s.on_commands)
        ∷ Part.text (default_line s.default) ∷ later_parts owner from m) given windowed now
        (preset_part edition owner given preset.Windows s.on_windows)
        (parts_then edition owner (Part.text (preset_line preset.Commands s.on_commands) ∷ [])
        (Part.text (default_line s.default) ∷ later_parts owner from m) windowed (followed_by windowed command_acts) now
        (preset_part edition owner windowed preset.Commands s.on_commands)
        (parts_then edition owner (Part.text (default_line s.default) ∷ []) (later_parts owner from m)
        (followed_by windowed command_acts) now now
        (subst (λ (k : History). PartsLead edition owner (Part.text (default_line s.default) ∷ [])
        (followed_by windowed command_acts) k) (sym split_windowed)
        (default_part edition owner (followed_by windowed command_acts) s.default))
        (later_leads edition owner from m now (
          (λ e. absurd (let wrong : true ≡ false = sym (same_user-refl owner) ∙ e in cc)),
          from_members (λ u. is_first (owner ∷ others) u ≡ false → HasName u) others
              (λ u is e. of_member HasName others u named is),
        ))))))
