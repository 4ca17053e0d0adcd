-- What a spectator's step does: its acts say where the user is, and its effects are for the user.
use Rattle.session_laws.proofs.Vocabulary.{◌≡◌, ℕ, Bool, true, false, not, List, [], ◌∷◌, ◌++◌, Option, Some, None, Ok}
use Rattle.session_laws.proofs.Vocabulary.{Err, Result, refl, ap, sym, ◌∙◌, subst, take, if◌then◌else◌, ◌==◌, ◌&&◌, ◌^◌}
use Rattle.session_laws.proofs.Vocabulary.{nat_lt, MatchOption, AllByRecursion, option_map, option_map_or, UserId, Act}
use Rattle.session_laws.proofs.Vocabulary.{Execute, followed_by, same_user, same_user-refl, Order, ParseFault, Check}
use Rattle.session_laws.proofs.Vocabulary.{must, is_title, Full, BadTitle, Effect, Deliver, Say, Gone, Refusal, Line}
use Rattle.session_laws.proofs.Vocabulary.{BadSize, NoWindow, UnknownUser, NotMultiuser, Windows, Verdict, EventValue}
use Rattle.session_laws.proofs.Vocabulary.{Attach, Detach, Keys, Command, Open, Output, Closed, Draw, Reply, Tables}
use Rattle.session_laws.proofs.Vocabulary.{Client, client_at, with_client, focused, is_known, may_in, Caller}
use Rattle.session_laws.proofs.Vocabulary.{line_caller, read_line, first_fault, verdicts, entry_denial, Deed, Answer}
use Rattle.session_laws.proofs.Vocabulary.{changing, parts, entering, ruling, taken, Outcome, left_acts, finished}
use Rattle.session_laws.proofs.Vocabulary.{refused, done, reply_of, where_passed, outcome, attach_checks, attaches}
use Rattle.session_laws.proofs.Vocabulary.{new_client, open_checks, opens, new_window, is_window_size, is_let_in}
use Rattle.session_laws.proofs.Vocabulary.{has_place, line_ruling, answered, commanded, keys_outcome, granted_view}
use Rattle.session_laws.proofs.Vocabulary.{AreFit, HasEffects, IsDraw, DrawsWhereNeeded, drawn, drawn_on, with_drawn}
use Rattle.session_laws.proofs.Vocabulary.{row_serial, equal, itself, user_of, is_client_of, others_clients}
use Rattle.session_laws.proofs.Vocabulary.{is_for_theirs, IsSpectator}
use Rattle.acl.specs.declared.act.Object.TheVariants as object
use Rattle.acl.specs.declared.command_name.CommandName.TheVariants as name
use Rattle.session_model.specs.declared.event.Peer.TheVariants as peer
use Rattle.session_model.specs.declared.event.Reason.TheVariants as reason
use Rattle.session_laws.proofs.Leaving.{none_left}
use Rattle.session_laws.proofs.Outcomes.{Change, change_of, Changes, changes}
use Rattle.session_laws.proofs.Drawing.{draw_after}
use Rattle.session_laws.proofs.Events.{changed_by}
use Rattle.session_laws.proofs.Watching.{Presence, is_it, is_to, AllTo, IfDone, AllHis, Still, as_before}
use Rattle.session_laws.proofs.Watching.{put, parted_by, Leaves}
use Rattle.session_laws.proofs.Spectating.{all_theirs, Stepped, stays, did, answer_of, keys_leave}

pub record Left (t : Tables) (user : UserId) (acts : List Act) (fs : List Effect) (v : Tables) : Type 0 where
  pub stepped : Stepped user t acts v
  pub effects : AllByRecursion (λ f. is_for_theirs t user f ≡ true) fs

none_theirs : (user : UserId) (cs : List Client) → AllHis user None cs
none_theirs user [] = tt
none_theirs user (c ∷ cs) = ((λ is. absurd (cc (is))), none_theirs user cs)

for_theirs : (t : Tables) (user : UserId) (own : Option ℕ) (f : Effect)
    → ((n : ℕ) → is_it own n ≡ true → is_client_of t user n ≡ true) → is_to own f ≡ true → is_for_theirs t user f ≡ true
for_theirs t user own (Say n bytes) mine is = mine n is
for_theirs t user own (Deliver n bytes) mine is = mine n is
for_theirs t user own (Gone (peer.Client n) why) mine is = mine n is
for_theirs t user own f mine is = is

all_for_theirs : (t : Tables) (user : UserId) (own : Option ℕ) (fs : List Effect)
    → ((n : ℕ) → is_it own n ≡ true → is_client_of t user n ≡ true) → AllTo own fs
    → AllByRecursion (λ f. is_for_theirs t user f ≡ true) fs
all_for_theirs t user own [] mine all = tt
all_for_theirs t user own (f ∷ fs) mine all =
    (for_theirs t user own f mine all.0, all_for_theirs t user own fs mine all.1)

nobody_is : (t : Tables) (user : UserId) (n : ℕ) → is_it None n ≡ true → is_client_of t user n ≡ true
nobody_is t user n is = absurd (cc (is))

own_is : (t : Tables) (user : UserId) (client : ℕ) (c : Client) → client_at t client ≡ Some c
    → same_user c.user user ≡ true → (n : ℕ) → is_it (Some client) n ≡ true → is_client_of t user n ≡ true
own_is t user client c at mine n is =
    ap (λ m. option_map_or (λ (x : Client). same_user x.user user) (client_at t m) false) (equal n client is)
    ∙ ap (λ o. option_map_or (λ (x : Client). same_user x.user user) o false) at ∙ mine

module _ (t : Tables) (user : UserId) (fit : AreFit t) (watches : IsSpectator t user) where
  abbrev By : Outcome → Type 0
  By o = Left t user o.acts o.effects o.tables

  nothing : (vs : List Verdict) (r : Refusal) → By (refused t vs r)
  nothing vs r = record { stepped = stays user t; effects = tt }

  made : (own : Option ℕ) (d : Deed) → ((n : ℕ) → is_it own n ≡ true → is_client_of t user n ≡ true)
      → Leaves user own t d
      → let acts : List Act = d.acts ++ left_acts t.clients d.tables.clients in Left t user acts d.effects
      (record d.tables { acts = followed_by t.acts acts })
  made own d mine leaves = record
      { stepped = did user own t watches d leaves; effects = all_for_theirs t user own d.effects mine leaves.effects }

  checked : (vs : List Verdict) (o : Option Refusal) (reply : Reply) (d : Deed) → By (finished t vs reply d)
      → By (elim o as (λ _. Outcome) [ Some r ↦ refused t vs r | None ↦ finished t vs reply d ])
  checked vs (Some r) reply d by = nothing vs r
  checked vs None reply d by = by

  -- ---- attaching

  attached : (rows columns : ℕ) → Leaves user None t (attaches t (new_client t user rows columns))
  attached rows columns =
      let c : Client = new_client t user rows columns in record {
        tables = record {
          owner = refl;
          edition = refl;
          acts = refl;
          mode = refl;
          windows = refl;
          next_window = refl;
          clients = come t.clients c (same_user-refl user);
          all = none_theirs user (t.clients ++ c ∷ []);
        };
        acts = (refl, entered c.user (focused c));
        effects = tt;
      } where
        come : (cs : List Client) (c : Client) → same_user c.user user ≡ true
            → others_clients user (cs ++ c ∷ []) ≡ others_clients user cs
        come [] c mine = ap (λ b. if not b then c ∷ [] else []) mine
        come (x ∷ cs) c mine = ap (λ ds. if not (same_user x.user user) then x ∷ ds else ds) (come cs c mine)

        entered : (v : UserId) (o : Option ℕ) → Presence (entering v o)
        entered v None = tt
        entered v (Some w) = (refl, tt)

  -- ---- a Command

  commanded_by : (number : Option ℕ) (r : Result Order ParseFault)
      → By (commanded t (line_ruling t (line_caller t user number) r))
  commanded_by number (Err f) = nothing [] (Line f)
  commanded_by number (Ok c) =
      let k : Caller = line_caller t user number in
      on (ruling t k c).verdicts (ruling t k c).answer
      (answer_of user None t watches t k c refl (as_before user None t (none_theirs user t.clients))
      (λ d at. absurd (cc (at)))) where
        on : (vs : List Verdict) (a : Answer) → IfDone (Leaves user None t) a → By (answered t vs a)
        on vs (Err r) done = nothing vs r
        on vs (Ok d) done = made None d (nobody_is t user) done

  -- ---- opening

  not_opened : (vs : List Verdict) (rows columns keep : ℕ) (title : List ℕ) (reply : Reply) (d : Deed)
      → By (elim (first_fault t (open_checks t user rows columns keep title)) as (λ _. Outcome)
      [ Some r ↦ refused t vs r | None ↦ finished t vs reply d ])
  not_opened vs rows columns keep title reply d =
      let rest : List Check =
      must (is_let_in t user) NotMultiuser ∷ must (is_window_size rows columns keep) BadSize ∷ must
      (has_place t.windows && nat_lt t.next_window (2 ^ 32)) (Windows Full) ∷ must (is_title title)
      (Windows BadTitle) ∷ [] in
      on (is_known t user) (may_in t user Execute (object.Command name.Screen)) (first_fault t rest)
      (entry_denial t user Execute (object.Command name.Screen)) (watches.commands name.Screen refl) where
        on : (a b : Bool) (more : Option Refusal) (denied : Refusal) → b ≡ false
            → By
            (elim (if a then (if b then more else Some denied) else Some UnknownUser) as (λ _. Outcome)
            [ Some r ↦ refused t vs r | None ↦ finished t vs reply d ])
        on false b more denied is = nothing vs UnknownUser
        on true false more denied is = nothing vs denied
        on true true more denied is = absurd (cc (is))

  -- ---- steps of a client

  module _ (client : ℕ) (c : Client) (at : client_at t client ≡ Some c) (mine : c.user ≡ user) where
    theirs : same_user c.user user ≡ true
    theirs = ap (same_user c.user) (sym mine) ∙ same_user-refl c.user

    all : AllHis user (Some client) t.clients
    all = all_theirs user t.next_client client t.clients c fit.sound.clients_rise at theirs

    before : Still user (Some client) t t
    before = as_before user (Some client) t all

    is_own : is_it (Some client) c.serial ≡ true
    is_own = ap (λ n. n == client) (row_serial (λ (x : Client). x.serial) t.clients client c at) ∙ itself client

    pub detached : By (finished t [] done (parts (λ (d : Client). d.serial == client) reason.Detached t))
    detached = made (Some client) _ (own_is t user client c at theirs)
        (parted_by user (Some client) t t client before (itself client))

    pub keyed : (bytes : List ℕ) → By (keys_outcome t c bytes)
    keyed bytes = made (Some client) _ (own_is t user client c at theirs)
        (keys_leave user (Some client) t watches c bytes is_own mine theirs all)

    pub changed : (checks : List Check) (d : Client) → d.serial ≡ c.serial → d.user ≡ c.user
        → By (where_passed t checks done (changing (with_client t d)))
    changed checks d same of =
        checked _ (first_fault t checks) done (changing (with_client t d))
        (made (Some client) (changing (with_client t d)) (own_is t user client c at theirs)
        (record {
          tables = put user (Some client) t t d before (ap (is_it (Some client)) same ∙ is_own)
              (ap (λ v. same_user v user) of ∙ theirs);
          acts = tt;
          effects = tt;
        }))

    drew : (effects : List Effect) → DrawsWhereNeeded t c effects → AllTo (Some client) effects
    drew [] draws = tt
    drew (Deliver to bytes ∷ []) draws = (ap (λ n. n == client) draws.0 ∙ is_own, tt)
    drew effects draws = absurd draws

    with_own : (effects : List Effect) (v : Tables) → Still user (Some client) t v
        → Still user (Some client) t (with_client v (with_drawn effects (granted_view v c) c))
    with_own [] v s = put user (Some client) t v c s is_own theirs
    with_own (f ∷ fs) v s = put user (Some client) t v (with_drawn (f ∷ fs) (granted_view v c) c) s is_own theirs

    drawn_left : (effects : List Effect) → IsDraw t effects c → (acts : List Act) → acts ≡ [] → (v : Tables)
        → v ≡ drawn_on (Some c) effects t → Left t user acts effects v
    drawn_left effects draws acts none v is =
        let s : Still user (Some client) t (drawn_on (Some c) effects t) = with_own effects t before in
        subst (λ u. Left t user acts effects u) (sym is)
        (subst (λ as_made. Left t user as_made effects (drawn_on (Some c) effects t)) (sym none) (record {
          stepped = record {
            presence = tt;
            acts_are = s.acts;
            owner = s.owner;
            edition = s.edition;
            mode = s.mode;
            windows =
                s.windows;
            next_window = s.next_window;
            clients = s.clients;
          };
          effects = all_for_theirs t user (Some client) effects (own_is t user client c at theirs)
              (drew effects draws.drawn);
        }))

  draw_acts : (client : ℕ) → (outcome t (Draw client)).acts ≡ []
  draw_acts client = on (client_at t client) where
    on : (o : Option Client)
        → (elim o as (λ _. Outcome) [ None ↦ refused t [] NoWindow | Some c ↦ finished t [] done (changing t) ]).acts ≡
        []
    on None = refl
    on (Some c) = none_left t.clients

  -- ---- the events

  same_effects : (o : Outcome) (effects : List Effect) → effects ≡ o.effects → By o
      → Left t user o.acts effects o.tables
  same_effects o effects is by = subst (λ fs. Left t user o.acts fs o.tables) (sym is) by

  user_is : (c : Client) (o : Option Client) → option_map (λ (x : Client). x.user) o ≡ Some user → o ≡ Some c
      → c.user ≡ user
  user_is c None is at = absurd (cc (at))
  user_is c (Some x) is at = ap (λ (y : Client). y.user) (sym (let e : x ≡ c = cc (at) in e))
      ∙ (let e : x.user ≡ user = cc (is) in e)

  with_client_by : (client : ℕ) (f : Client → Outcome) → user_of t (Detach client) ≡ Some user
      → ((c : Client) → client_at t client ≡ Some c → c.user ≡ user → By (f c))
      → By (elim (client_at t client) as (λ _. Outcome) [ None ↦ refused t [] NoWindow | Some c ↦ f c ])
  with_client_by client f is by = on (client_at t client) refl where
    on : (o : Option Client) → client_at t client ≡ o
        → By (elim o as (λ _. Outcome) [ None ↦ refused t [] NoWindow | Some c ↦ f c ])
    on None at = nothing [] NoWindow
    on (Some c) at = by c at (user_is c (client_at t client) is at)

  come : (v : UserId) (rows columns : ℕ) → v ≡ user → By (outcome t (Attach v rows columns))
  come v rows columns is =
      subst (λ w. By (outcome t (Attach w rows columns))) (sym is)
      (checked _ (first_fault t (attach_checks t user rows columns)) (reply_of 0 t.next_client 0 None)
      (attaches t (new_client t user rows columns))
      (made None (attaches t (new_client t user rows columns)) (nobody_is t user) (attached rows columns)))

  commands : (v : UserId) (number : Option ℕ) (bytes : List ℕ) → v ≡ user → By (outcome t (Command v number bytes))
  commands v number bytes is = subst (λ w. By (outcome t (Command w number bytes))) (sym is) (on (is_known t user))
    where
      on : (b : Bool)
          → By
          (if b then commanded t (line_ruling t (line_caller t user number) (read_line bytes)) else refused t []
          UnknownUser)
      on true = commanded_by number (read_line bytes)
      on false = nothing [] UnknownUser

  opening : (v : UserId) (rows columns keep : ℕ) (title : List ℕ) → v ≡ user
      → By (outcome t (Open v rows columns keep title))
  opening v rows columns keep title is = subst (λ w. By (outcome t (Open w rows columns keep title))) (sym is)
      (not_opened (verdicts t (open_checks t user rows columns keep title)) rows columns keep title _
      (opens t user (new_window t rows columns keep title)))

  change_by : (event : EventValue) (x : Change) → change_of event ≡ Some x → Changes event x
      → user_of t event ≡ Some user → By (outcome t event)
  change_by event x changes_it f is =
      subst By (sym (f.happens t))
      (with_client_by x.client _ (sym (changed_by t event x changes_it) ∙ is)
      (λ c at mine. changed x.client c at mine x.checks (x.row c) (f.serial c) (f.user c)))

  pub left_acts_of : (event : EventValue) (effects : List Effect) → HasEffects t event effects
      → user_of t event ≡ Some user
      → Left t user (outcome t event).acts effects (drawn event effects (outcome t event).tables)
  left_acts_of (Attach v rows columns) effects has is = same_effects (outcome t (Attach v rows columns)) effects has
      (come v rows columns (let e : v ≡ user = cc (is) in e))
  left_acts_of (Detach client) effects has is = same_effects (outcome t (Detach client)) effects has
      (with_client_by client _ is (λ c at mine. detached client c at mine))
  left_acts_of (Keys client bytes) effects has is = same_effects (outcome t (Keys client bytes)) effects has
      (with_client_by client _ is (λ c at mine. keyed client c at mine (take (taken c.keys bytes) bytes)))
  left_acts_of (Command v number bytes) effects has is = same_effects (outcome t (Command v number bytes)) effects has
      (commands v number bytes (let e : v ≡ user = cc (is) in e))
  left_acts_of (Open v rows columns keep title) effects has is = same_effects
      (outcome t (Open v rows columns keep title)) effects has
      (opening v rows columns keep title (let e : v ≡ user = cc (is) in e))
  left_acts_of (Output window bytes) effects has is = absurd (cc (is))
  left_acts_of (Closed window) effects has is = absurd (cc (is))
  left_acts_of (Draw client) effects has is = on (client_at t client) refl has where
    on : (o : Option Client) → client_at t client ≡ o → MatchOption o (effects ≡ []) (IsDraw t effects)
        → Left t user (outcome t (Draw client)).acts effects
        (drawn (Draw client) effects (outcome t (Draw client)).tables)
    on None at none = absurd
        (let e : None ≡ Some user = sym (ap (option_map (λ (x : Client). x.user)) at) ∙ is in cc (e))
    on (Some c) at draws =
        drawn_left client c at (user_is c (client_at t client) is at) effects draws (outcome t (Draw client)).acts
        (draw_acts client) (drawn (Draw client) effects (outcome t (Draw client)).tables)
        (draw_after t client effects ∙ ap (λ o. drawn_on o effects t) at)
  left_acts_of event effects has is = same_effects (outcome t event) effects has
      (change_by event _ refl (changes event _ refl) is)
