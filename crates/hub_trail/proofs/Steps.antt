-- Tables of rights and locks can judge what a step files, and so the trail of a run.
use Rattle.hub_trail.proofs.Vocabulary.{◌≡◌, ◌∙◌, ℕ, ◌<◌, Bool, true, false, not, ◌&&◌, List, [], ◌∷◌, ◌++◌, Option}
use Rattle.hub_trail.proofs.Vocabulary.{Some, None, Result, Ok, Err, map, reverse, refl, ap, sym, subst, take, ◌==◌}
use Rattle.hub_trail.proofs.Vocabulary.{◌||◌, if◌then◌else◌, MatchOption, is_some, nat_lt, length, AllByRecursion}
use Rattle.hub_trail.proofs.Vocabulary.{list_any, option_map, and_from, reverse-append, Act, Edition, UserId, History}
use Rattle.hub_trail.proofs.Vocabulary.{followed_by, is_open, ParseFault, read_line, Item, typed, bound, line, Check}
use Rattle.hub_trail.proofs.Vocabulary.{StatusMessage, Refusal, Verdict, EventValue, Reply, Rises, AreFit, Tables}
use Rattle.hub_trail.proofs.Vocabulary.{Window, Client, fresh, client_at, with_client, focused, is_in_focus, lowest}
use Rattle.hub_trail.proofs.Vocabulary.{caller_of, line_caller, passes, checks, first_fault, verdicts, Deed, Answer}
use Rattle.hub_trail.proofs.Vocabulary.{changing, parts, closes, does, items_behind, typed_bytes, command_item, taken}
use Rattle.hub_trail.proofs.Vocabulary.{Outcome, finished, refused, done, reply_of, left_acts_of, left_acts, outcome}
use Rattle.hub_trail.proofs.Vocabulary.{attaches, new_client, open_checks, opens, new_window, typing_verdicts, keyed}
use Rattle.hub_trail.proofs.Vocabulary.{with_listed, message_of, by_line, ordered, Ordered, reading, types}
use Rattle.hub_trail.proofs.Vocabulary.{keys_outcome, IsStep, IsRun, IsRunFrom, tables_from, has, has_row, Either}
use Rattle.hub_trail.proofs.Vocabulary.{at_there, number_there, lowest_there, Holds, all_append, serials, run_fit}
use Rattle.hub_trail.proofs.Vocabulary.{fresh_fit, typing_clients, Kept, Entry, acts_after, kept_of, entry_of, filed}
use Rattle.hub_trail.proofs.Vocabulary.{entries_of, is_on_there, follow_append}
use Rattle.std.proofs.Common.{arith}
use Rattle.std.specs.Prelude.{◌^◌}
use Rattle.std.proofs.lemmas.Bool.Decides.{nat_tests}
use Rattle.std.proofs.lemmas.List.Folds.{list_any-append}
use Rattle.acl.specs.declared.act.Act.TheVariants as act
use Rattle.acl.specs.History.{open_count}
use Rattle.command_lang.specs.declared.command.Command.{Command as Order}
use Rattle.session.specs.event.Reason.TheVariants as reason
use Rattle.session.specs.Trace as trace
use Rattle.session.specs.Sound.{client_serials}
use Rattle.session.specs.Naming.{free_number}
use Rattle.session.specs.Comings.{has_place, outputs}
use Rattle.session.specs.Answering.{unsaid}
use Rattle.session.proofs.Lists.{and_first}
use Rattle.session.proofs.Outcomes as outcomes
use Rattle.rights.specs.Acts.{is_client}
use Rattle.hub_trail.specs.Judging.{AreJudgeable}
use Rattle.hub_trail.proofs.Runs.{Named, IsJudged, judged}
use Rattle.hub_trail.proofs.Following.{is_free, AllFree, free_follow}
use Rattle.hub_trail.proofs.Naming.{OpenIs, there_open, fit_holds, same_holds}
use Rattle.hub_trail.proofs.Seeing.{SeeThere, verdicts_see, checks_see, typed_see}
use Rattle.hub_trail.proofs.Rows.{Follows, each_passes, follows, entering_follows, parted_follow, closed_follow}

-- ---- outcomes

-- the verdicts of an outcome are on objects that are there, and its acts can follow those of the
-- tables
pub record CanJudge (t : Tables) (o : Outcome) : Type 0 where
  pub see : SeeThere t o.verdicts
  pub follow : Follows t o.acts

left_free : (before after : List Client) → AllFree (left_acts before after)
left_free [] after = tt
left_free (c ∷ before) after = all_append (λ a. is_free a ≡ true) (left_acts_of c (focused c) before after)
    (left_acts before after) (one (focused c)) (left_free before after) where
      one : (o : Option ℕ) → AllFree (left_acts_of c o before after)
      one None = tt
      one (Some w) = on (is_in_focus before c.user w || is_in_focus after c.user w) where
        on : (b : Bool) → AllFree (if b then [] else act.Left c.user w ∷ [])
        on true = tt
        on false = (refl, tt)

refused_judged : (t : Tables) (vs : List Verdict) (r : Refusal) → SeeThere t vs → CanJudge t (refused t vs r)
refused_judged t vs r see = record { see = see; follow = tt }

finished_judged : (t : Tables) (vs : List Verdict) (reply : Reply) (d : Deed) → SeeThere t vs → Follows t d.acts
    → CanJudge t (finished t vs reply d)
finished_judged t vs reply d see follow =
    let left : List Act = left_acts t.clients d.tables.clients in
    record {
      see = see;
      follow = follow_append t.edition t.owner t.acts d.acts left follow
          (free_follow t.edition t.owner (followed_by t.acts d.acts) left (left_free t.clients d.tables.clients));
    }

-- ---- commands

-- a command line
module _ (t : Tables) (agree : OpenIs t) (user : UserId) (number : Option ℕ) (c : Order) where
  asked_see : SeeThere t (verdicts t (checks t (line_caller t user number) c))
  asked_see = verdicts_see t (checks t (line_caller t user number) c)
      (checks_see t agree (line_caller t user number) c (number_there t.windows number))

  deed_follows : (d : Deed) → Holds t → first_fault t (checks t (line_caller t user number) c) ≡ None
      → does t (line_caller t user number) c ≡ Ok d → Follows t d.acts
  deed_follows d h passes is = subst (Either (λ e. Follows t e.acts)) is
      (follows t agree (line_caller t user number) h (number_there t.windows number) c passes)

-- ---- keys

-- what comes of a command among keys; the tables have the same acts and windows as those before the
-- keys
pub record IsOrdered (t : Tables) (o : Ordered) : Type 0 where
  pub see : SeeThere t o.verdicts
  pub follow : Follows t o.deed.acts

listed_follows : (t : Tables) (client : ℕ) (m : List ℕ → StatusMessage) (o : Option (List ℕ)) (d : Deed)
    → Follows t d.acts
    → Follows t (with_listed client m o d).acts
listed_follows t client m None d follow = follow
listed_follows t client m (Some bytes) d follow = follow

module _ (t : Tables) (agree : OpenIs t) (h : Holds t) (d : Client) where
  module _ (c : Order) where
    abbrev keyed_asks : List Check
    keyed_asks = checks t (caller_of t d) c

    keyed_see : SeeThere t (verdicts t keyed_asks)
    keyed_see = verdicts_see t keyed_asks (checks_see t agree (caller_of t d) c (at_there t (focused d)))

    keyed_answer : (a : Answer) → Either (λ e. Follows t e.acts) a
        → IsOrdered t (record { verdicts = verdicts t keyed_asks; deed = keyed t d.serial (message_of c) a })
    keyed_answer (Ok e) follow = record
        { see = keyed_see; follow = listed_follows t d.serial (message_of c) e.lists e follow }
    keyed_answer (Err r) plain = record { see = keyed_see; follow = tt }

    keyed_order : (f : Option Refusal) → first_fault t keyed_asks ≡ f
        → IsOrdered t
        (record {
          verdicts = verdicts t keyed_asks;
          deed = keyed t d.serial (message_of c)
              (elim f as (λ _. Answer) [ Some r ↦ Err r | None ↦ does t (caller_of t d) c ]);
        })
    keyed_order (Some r) is = record { see = keyed_see; follow = tt }
    keyed_order None is = keyed_answer (does t (caller_of t d) c)
        (follows t agree (caller_of t d) h (at_there t (focused d)) c is)

  keyed_line : (r : Result Order ParseFault) → IsOrdered t (by_line t d r)
  keyed_line (Ok c) = keyed_order c (first_fault t (checks t (caller_of t d) c)) refl
  keyed_line (Err f) = record { see = tt; follow = tt }

  is_ordered : (item : Option Item) → IsOrdered t (ordered t d item)
  is_ordered (Some (bound c)) = keyed_line (Ok c)
  is_ordered (Some (line (b ∷ bytes))) = keyed_line (read_line (b ∷ bytes))
  is_ordered (Some (line [])) = record { see = tt; follow = tt }
  is_ordered (Some (typed b)) = record { see = tt; follow = tt }
  is_ordered None = record { see = tt; follow = tt }

keys_judged : (t : Tables) (s : ℕ) (c : Client) (bytes : List ℕ) → OpenIs t → Holds t → client_at t s ≡ Some c
    → CanJudge t (keys_outcome t c bytes)
keys_judged t s c bytes agree h found =
    let given : List Item = items_behind c.keys bytes in
    let d : Client = reading bytes c in
    let typing : Deed = types (with_client t d) d (typed_bytes given) in
    let order : Ordered = ordered typing.tables d (command_item given) in
    let is : IsOrdered t order =
    typing_clients (λ v. IsOrdered t (ordered v d (command_item given))) t s c d (typed_bytes given) found refl refl
    (λ cs same.
    let all : IsOrdered (record t { clients = cs }) (ordered (record t { clients = cs }) d (command_item given)) =
    is_ordered (record t { clients = cs }) agree (same_holds t cs same h) d (command_item given) in
    record { see = all.see; follow = all.follow }) in
    finished_judged t (typing_verdicts t c (typed_bytes given) ++ order.verdicts) (reply_of (length bytes) 0 0 None)
    (record order.deed { effects = typing.effects ++ unsaid typing.effects order.deed.effects })
    (all_append (λ v. is_on_there t.acts v ≡ true) (typing_verdicts t c (typed_bytes given)) order.verdicts
    (typed_see t agree c (typed_bytes given)) is.see) is.follow

-- ---- what comes

-- the next serial isn't given yet
next_apart : (n next : ℕ) → n < next → (n == next) ≡ false
next_apart n next below = grind (arith, nat_tests, below)

new_serial : (ns : List ℕ) (next : ℕ) → Rises ns next → has ns next ≡ false
new_serial [] next rises = refl
new_serial (n ∷ ns) next rises = ap (λ b. b || has ns next) (next_apart n next rises.0) ∙ new_serial ns next rises.2

no_client : (cs : List Client) (next : ℕ) → Rises (client_serials cs) next
    → list_any (λ (p : ℕ × UserId). p.0 == next) (reverse (map (λ (c : Client). (c.serial, c.user)) cs)) ≡ false
no_client [] next rises = refl
no_client (c ∷ cs) next rises =
    let ps : List (ℕ × UserId) = map (λ (c : Client). (c.serial, c.user)) cs in
    let is : ℕ × UserId → Bool = λ p. p.0 == next in
    ap (list_any is) (reverse-append ((c.serial, c.user) ∷ []) ps)
    ∙ list_any-append is (reverse ps) ((c.serial, c.user) ∷ [])
    ∙ ap (λ b. b || (c.serial == next || false)) (no_client cs next rises.2)
    ∙ ap (λ b. b || false) (next_apart c.serial next rises.0)

attach_follows : (t : Tables) (user : UserId) (rows columns : ℕ) → AreFit t
    → Follows t (attaches t (new_client t user rows columns)).acts
attach_follows t user rows columns f = (
  ap not new,
  entering_follows t.edition t.owner (act.Attached t.next_client user ∷ t.acts) user
      (option_map (λ (w : Window). w.serial) (lowest t.windows)) (shown (lowest t.windows) refl),
) where
  new : is_client t.acts t.next_client ≡ false
  new = ap (list_any (λ (p : ℕ × UserId). p.0 == t.next_client)) f.agree.clients_are
      ∙ no_client t.clients t.next_client f.sound.clients_rise

  shown : (o : Option Window) → lowest t.windows ≡ o
      → MatchOption (option_map (λ (w : Window). w.serial) o) (Unit {0}) (λ n. is_open t.acts n ≡ true)
  shown None is = tt
  shown (Some w) is = there_open t f.agree.open_is w (lowest_there t.windows w is)

open_follows : (t : Tables) (user : UserId) (rows columns keep : ℕ) (title : List ℕ) → AreFit t
    → first_fault t (open_checks t user rows columns keep title) ≡ None
    → Follows t (opens t user (new_window t rows columns keep title)).acts
open_follows t user rows columns keep title f none =
    let cs : List Check = open_checks t user rows columns keep title in
    let each : AllByRecursion (λ c. passes t c ≡ true) cs = each_passes t cs none in
    (and_from _ _ each.0 (and_from _ _ shut (room each.1.1.1.1.0)), tt) where
      shut : not (is_open t.acts t.next_window) ≡ true
      shut = ap not
          (f.agree.open_is t.next_window ∙ has_row t.windows t.next_window
          ∙ new_serial (serials t) t.next_window f.sound.windows_rise)

      room : (has_place t.windows && nat_lt t.next_window (2 ^ 32)) ≡ true → nat_lt (open_count t.acts) 40 ≡ true
      room place = ap (λ n. nat_lt n 40) f.agree.count_is
          ∙ and_first (nat_lt (length t.windows) 40) (is_some (free_number t.windows))
          (and_first (has_place t.windows) (nat_lt t.next_window (2 ^ 32)) place)

open_see : (t : Tables) (user : UserId) (rows columns keep : ℕ) (title : List ℕ)
    → SeeThere t (verdicts t (open_checks t user rows columns keep title))
open_see t user rows columns keep title = verdicts_see t (open_checks t user rows columns keep title)
    (tt, ((refl, tt), (tt, (tt, (tt, (tt, tt))))))

-- ---- steps

refused_see : (t : Tables) (event : EventValue) (vs : List Verdict) (r : Refusal) → outcomes.Refuses t event vs r
    → OpenIs t → SeeThere t vs
refused_see t _ _ _ (outcomes.plainly event r plain) agree = tt
refused_see t _ _ _ (outcomes.unopened user rows columns keep title r is) agree = open_see t user rows columns keep
    title
refused_see t _ _ _ (outcomes.unchecked user number bytes c r known read is) agree = asked_see t agree user number c
refused_see t _ _ _ (outcomes.undone user number bytes c r read plain) agree = asked_see t agree user number c

happened : (t : Tables) (event : EventValue) (o : Outcome) → outcomes.Happens t event o → AreFit t → CanJudge t o
happened t _ _ (outcomes.failed event vs r why) f = refused_judged t vs r (refused_see t event vs r why f.agree.open_is)
happened t _ _ (outcomes.changed event x c is facts at) f = finished_judged t [] done
    (changing (with_client t (x.row c))) tt tt
happened t _ _ (outcomes.attached user rows columns passes) f = finished_judged t [] (reply_of 0 t.next_client 0 None)
    (attaches t (new_client t user rows columns)) tt (attach_follows t user rows columns f)
happened t _ _ (outcomes.detached client c at) f = finished_judged t [] done
    (parts (λ d. d.serial == client) reason.Detached t) tt (parted_follow t _)
happened t _ _ (outcomes.keyed client bytes c at) f = keys_judged t client c (take (taken c.keys bytes) bytes)
    f.agree.open_is (fit_holds t f) at
happened t _ _ (outcomes.obeyed user number bytes c d known read passes is) f =
    finished_judged t (verdicts t (checks t (line_caller t user number) c)) (reply_of 0 0 0 d.lists) d
    (asked_see t f.agree.open_is user number c)
    (deed_follows t f.agree.open_is user number c d (fit_holds t f) passes is)
happened t _ _ (outcomes.opened user rows columns keep title passes) f =
    let w : Window = new_window t rows columns keep title in
    finished_judged t (verdicts t (open_checks t user rows columns keep title)) (outcomes.made_by w) (opens t user w)
    (open_see t user rows columns keep title) (open_follows t user rows columns keep title f passes)
happened t _ _ (outcomes.wrote window bytes w at) f = finished_judged t [] done (outputs t w bytes) tt tt
happened t _ _ (outcomes.closed window w at) f = finished_judged t [] done
    (closes (λ v. v.serial == window) reason.Detached t) tt (closed_follow t _)
happened t _ _ (outcomes.drew client c at) f = finished_judged t [] done (changing t) tt tt

pub judged_step : (t : Tables) (event : EventValue) → AreFit t → CanJudge t (outcome t event)
judged_step t event f = happened t event (outcome t event) (outcomes.happens t event) f

-- ---- entries

pub judged_filed : (t : Tables) (e : trace.Entry) → AreFit t → IsStep t e
    → AreJudgeable t.edition t.owner t.acts (filed e)
judged_filed t e f s = on (kept_of e.event) where
  on : (o : Option Kept) → AreJudgeable t.edition t.owner t.acts (entry_of o e)
  on None = tt
  on (Some k) =
      let can : CanJudge t (outcome t e.event) = judged_step t e.event f in (
        record {
          there = subst (λ vs. SeeThere t vs) (sym s.verdicts) can.see;
          follow = subst (λ acts. Follows t acts)
              (sym s.acts) can.follow;
        },
        tt,
      )

-- ---- runs

judged_append : (edition : Edition) (owner : UserId) (h : History) (es fs : List Entry)
    → AreJudgeable edition owner h es → AreJudgeable edition owner (acts_after h es) fs
    → AreJudgeable edition owner h (es ++ fs)
judged_append edition owner h [] fs these those = those
judged_append edition owner h (e ∷ es) fs these those =
    (these.0, judged_append edition owner (followed_by h e.acts) es fs these.1 those)

judged_steps : (edition : Edition) (owner : UserId) (steps : List trace.Entry) → IsRunFrom (fresh edition owner) steps
    → AreJudgeable edition owner [] (entries_of steps)
judged_steps edition owner [] run = tt
judged_steps edition owner (e ∷ past) run =
    let t : Tables = tables_from (fresh edition owner) past in
    let j : IsJudged edition owner t (entries_of past) = judged edition owner past run.0 in
    judged_append edition owner [] (entries_of past) (filed e) (judged_steps edition owner past run.0)
    (subst (λ (h : History). AreJudgeable edition owner h (filed e)) (sym j.acts)
    (subst (λ (x : Named). AreJudgeable x.1 x.0 t.acts (filed e)) j.named
    (judged_filed t e (run_fit (fresh edition owner) past (fresh_fit edition owner)) run.1)))

pub judged_run : (h : trace.Trace) → IsRun h → AreJudgeable h.edition h.owner [] (entries_of h.entries)
judged_run h run = judged_steps h.edition h.owner h.entries run
