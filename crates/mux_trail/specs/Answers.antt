-- What is answered about rights after the entries that were read.
use Rattle.std.specs.Prelude.{ℕ, ◌≡◌, ◌<◌, true, false, if◌then◌else◌, List, [], ◌++◌, codes, decimal, map}
use Rattle.std.specs.Prelude.{Option, Some, None, IfSome, Result, IfOk}
use Rattle.std.specs.declared.io.Error.{Error}
use Rattle.std.specs.Io.KnownBytes.{Appends}
use Rattle.std.specs.List.{AllByRecursion, flat_map}
use Rattle.acl.specs.declared.act.Object.{Object}
use Rattle.acl.specs.declared.act.Object.TheVariants as object
use Rattle.acl.specs.declared.bits.Bit.{Bit}
use Rattle.acl.specs.declared.leaders.Edition.{Edition}
use Rattle.acl.specs.declared.user_id.UserId.{UserId}
use Rattle.acl.specs.History.{History, users_of}
use Rattle.acl.specs.Same.{same_user}
use Rattle.client_words.specs.Visible.{visible}
use Rattle.trail_confined.specs.Confining.{circle, failing_of, users_with}
use Rattle.trail_confined.specs.Reasons.{reasons_text}
use Rattle.trail_confined.specs.Standing.{rights_text}
use Rattle.trail_confined.specs.Telling.{confinement_text, deciders_of_one}
use Rattle.trail_confined.specs.declared.premises.Premise.{Premise}
use Rattle.trail_confined.specs.declared.why.Question.{Question}
use Rattle.trail_files.specs.Finishing.{is_bad, status_of}
use Rattle.trail_files.specs.declared.check.Finish.{Finish}
use Rattle.trail_lines.specs.Entries.{Said}
use Rattle.trail_log.specs.declared.titles.Titled.{Titled}
use Rattle.trail_rights.specs.Deciding.{HasDecided, first_decider, sought_by}
use Rattle.trail_rights.specs.Marks.{acts_in, marked_after}
use Rattle.trail_rights.specs.Masking.{settings_of}
use Rattle.trail_rights.specs.Seeing.{HasSeen, sought}
use Rattle.trail_rights.specs.Watching.{HasWatched}
use Rattle.trail_rights.specs.declared.decider.Decider.{Decider}
use Rattle.trail_rights.specs.declared.settler.RightsSetting.{RightsSetting}
use Rattle.trail_rights.specs.declared.sight.Sight.{Sight}
use Rattle.trail_setup.specs.Giving.{PutsAll}
use Rattle.trail_setup.specs.Masks.{Stands}
use Rattle.trail_setup.specs.Setup.{setup_parts}
use Rattle.trail_setup.specs.declared.state.SetupState.{SetupState}
use Rattle.mux_trail.specs.Asking.{users_named}
use Rattle.mux_trail.specs.History.{change_text, question_in}
use Rattle.mux_trail.specs.Reading.{HasRead, IsFileRead}
use Rattle.mux_trail.specs.declared.history.History.{History as Changes}
use Rattle.mux_trail.specs.declared.reading.TrailReading.{TrailReading}
use Rattle.mux_trail.specs.declared.words.Limits.{Limits}
use Rattle.mux_trail.specs.declared.words.RightsAsked.{RightsAsked}
use Rattle.mux_trail.specs.declared.words.RightsAsked.TheVariants as asked

-- the acts of entries, the newest first
abbrev pub acts_of : List Said → History
acts_of said = acts_in (marked_after [] said)

-- After the entries that were read, this is so of an answer, if it was looked for.
abbrev pub Tells : TrailReading → Result (Option ℕ) Error → (Edition → List Said → ℕ → Type 0) → Type 0
Tells r told P = (edition : Edition) (said : List Said) → HasWatched r.watch edition r.owner said
    → IfOk told (λ answer. IfSome answer (P edition said))

-- ---- `why`

abbrev pub deciders_for : UserId → Question → List UserId → List Decider
deciders_for owner q users = map (λ u. first_decider owner u q.bit q.object) users

-- the owner has every bit
abbrev pub history_text : UserId → UserId → Changes → List ℕ
history_text owner user h = if same_user user owner then [] else flat_map change_text h.changes.items

-- for the user and each leader, in this order, the latest act that decides the bit; and then its changes
pub record IsWhy (edition : Edition) (owner : UserId) (said : List Said) (q : Question) (h : Changes)
    (old new : List ℕ) : Type 0 where
  pub deciders : List Decider
  pub sought : map sought_by deciders ≡ map sought_by (deciders_for owner q (circle edition (acts_of said) q.user))
  pub decided : AllByRecursion (HasDecided owner (marked_after [] said)) deciders
  pub text : new ≡ (old ++ reasons_text edition owner (acts_of said) q deciders) ++ history_text owner q.user h

abbrev pub window_line : Object → List ℕ
window_line (object.Window w) = codes "window " ++ (decimal w ++ codes "\n")
window_line (object.Command c) = []

-- which window has the title, and why; or that no window has it
abbrev pub IsWhyTitled : Edition → UserId → List Said → Option Question → Changes → List ℕ → List ℕ → Type 0
IsWhyTitled edition owner said None h old new =
    new ≡ (old ++ codes "no: no open window has this title\n") ++ flat_map change_text h.changes.items
IsWhyTitled edition owner said (Some q) h old new = IsWhy edition owner said q h (old ++ window_line q.object) new

-- ---- `who`

-- `title 3 TITLE`
abbrev pub title_text : Titled → List ℕ
title_text t = codes "title " ++ (decimal t.window ++ (codes " " ++ (visible t.title ++ codes "\n")))

-- the windows' titles, and then who may do what: of the known users' masks and the presets, as they are set by then
pub record IsWho (edition : Edition) (r : TrailReading) (said : List Said) (old new : List ℕ) : Type 0 where
  pub sight : Sight
  pub seen : HasSeen sight r.owner (marked_after [] said)
  pub looked : sought sight ≡ ([], settings_of (users_of r.owner (acts_of said)))
  pub text : new ≡ (old ++ flat_map title_text r.names.1)
      ++ rights_text edition r.owner (acts_of said) r.watch.audit.next sight.settlers.items

-- which of these users may open windows or change rights, and what is set of them
abbrev pub looked_for : UserId → List UserId → List (UserId × Bit × Object) × List RightsSetting
looked_for owner users = (map sought_by (flat_map (deciders_of_one owner) users), settings_of users)

abbrev pub confined_status : List Premise → ℕ
confined_status [] = 0
confined_status failing = 4

-- whether the users of these names are confined: 0 if no premise fails, else 4; and the acts that decide what it tells
pub record Confines (edition : Edition) (owner : UserId) (said : List Said) (names : List ℕ) (status : ℕ)
    (old new : List ℕ) : Type 0 where
  pub sight : Sight
  pub seen : HasSeen sight owner (marked_after [] said)
  pub looked : sought sight ≡ looked_for owner (users_with owner (acts_of said) (users_named names))
  pub text : new ≡ old ++ confinement_text edition owner (acts_of said) sight
      (failing_of edition owner (acts_of said) (users_named names))
  pub status_is : status ≡ confined_status (failing_of edition owner (acts_of said) (users_named names))

-- ---- `setup`

-- the lines of the setup, for each history for which the state stands
abbrev pub IsSetup : Edition → UserId → List Said → Option SetupState → List ℕ → List ℕ → Type 0
IsSetup edition owner said None old new = ⊥
IsSetup edition owner said (Some s) old new = (h : History) → Stands s edition owner h
    → PutsAll (setup_parts edition owner (acts_of said) h s) old new

-- ---- the answer

abbrev pub IsText : RightsAsked → Edition → TrailReading → List Said → ℕ → List ℕ → List ℕ → Type 0
IsText asked.Who edition r said status old new = (status ≡ 0) × IsWho edition r said old new
IsText (asked.Confined names) edition r said status old new = Confines edition r.owner said names.now status old new
IsText (asked.Why q) edition r said status old new =
    (status ≡ 0) × IsWhy edition r.owner said q r.history old new
IsText (asked.WhyTitled user bit title) edition r said status old new = (status ≡ 0)
    × IsWhyTitled edition r.owner said (question_in (asked.WhyTitled user bit title) r.names.1) r.history old new
IsText asked.Setup edition r said status old new = (status ≡ 0) × IsSetup edition r.owner said r.state old new

module _ {W : Type 0} (contents : W → Option (List ℕ)) where
  abbrev pub Answers : RightsAsked → Edition → TrailReading → List Said → ℕ → W → W → Type 0
  Answers asked edition r said status old new =
      (text : List ℕ) × IsText asked edition r said status [] text × Appends (contents old) (contents new) text

  -- The file was read up to the entry of this place. If something is wrong in it, that is told, and else the answer.
  pub record IsAsked (asked : RightsAsked) (limits : Limits) (status : ℕ) (old new : W) (edition : Edition)
      (owner : UserId) (bytes : Option (List ℕ)) : Type 0 where
    pub reading : TrailReading
    pub finish : Finish
    pub read : IsFileRead (HasRead reading asked edition owner) finish limits edition owner bytes
    pub bad : is_bad finish ≡ true → status_of finish ≡ Some status
    pub good : is_bad finish ≡ false → IfSome limits.last (λ place. place < reading.watch.audit.next)
        × Answers asked edition reading read.taken.said status old new
