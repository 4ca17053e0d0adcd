-- Lines of a setup, done one after another.
use Rattle.std.proofs.Common.{◌≡◌, ℕ, ◌+◌, ◌<◌, List, [], ◌∷◌, ◌++◌, length, map, get_or, Ok, Some, true, sym, ap, ◌∙◌}
use Rattle.std.proofs.Common.{subst, arith, refl, add-one}
use Rattle.std.specs.Prelude.{slice_get, slice_set, option_map}
use Rattle.std.proofs.lemmas.Option.{slice_get-map, slice_get-get_or}
use Rattle.acl.specs.declared.user_id.UserId.{UserId}
use Rattle.program_words.specs.declared.setup.SetupLine.{SetupLine}
use Rattle.program_words.specs.SetupLines.{line_of}
use Rattle.session.specs.event.Done.{Done}
use Rattle.hub.specs.Seats.{Sitting}
use Rattle.hub.specs.Closing.{receipts_of}
use Rattle.server_session.specs.declared.loop_body.LoopsFault.{LoopsFault}
use Rattle.server_session.specs.declared.loop_body.LoopsFault.TheVariants as fault
use Rattle.server_session.specs.SettingUp.{AreDone, HasBegun, IfRefused, IsGiven, IsSetUp, IsStopped, Stops}

line_at : (lines : List SetupLine) (i : ℕ) (d : SetupLine) → i < length lines
    → slice_get (map line_of lines) i ≡ Some (line_of (get_or lines i d))
line_at lines i d lt = slice_get-map line_of lines i ∙ ap (option_map line_of) (slice_get-get_or lines i d lt)

module _ (owner : UserId) (lines : List SetupLine) (i : ℕ) (d : SetupLine) (old mid new : Sitting)
    (lt : i < length lines) (before : AreDone owner (map line_of lines) i old mid) where
  pub done_next : (done : Done) × IsGiven owner (line_of (get_or lines i d)) (Ok done) mid new
      → AreDone owner (map line_of lines) (i + 1) old new
  done_next next = subst (λ n. AreDone owner (map line_of lines) n old new) (sym (add-one i))
      (mid, before, line_of (get_or lines i d), line_at lines i d lt, next.0, next.1)

  pub stops_here : (why : LoopsFault)
      → IfRefused why (λ named said. IsStopped owner (line_of (get_or lines i d)) named said mid new)
      → IfRefused why (λ named said. Stops owner (map line_of lines) named said old new)
  stops_here fault.NoMemory stopped = tt
  stops_here (fault.Setup why) stopped = stopped
  stops_here (fault.Refused number line said) stopped = record {
    before = i;
    mid = mid;
    done = before;
    line = line_of (get_or lines i d);
    is_next = line_at lines i d lt;
    stopped = stopped;
  }

none_before : {X : Type 0} → (xs ys : List X) → xs ++ ys ≡ [] → xs ≡ []
none_before [] ys none = refl
none_before (x ∷ xs) ys none = absurd (cc (none))

-- the first of new seats did the setup
pub begun_by : (owner : UserId) (file : List ℕ) (seats : List Sitting) (seat first new : Sitting) → 0 < length seats
    → receipts_of seats ≡ [] → seat ≡ get_or seats 0 seat → first ≡ record seat { asks = true }
    → IsSetUp owner file first new → HasBegun owner file (slice_set seats 0 new)
begun_by owner file [] seat first new lt none at is done = absurd (omega arith)
begun_by owner file (s ∷ seats) seat first new lt none at is done = record {
  first = first;
  fresh = ap (λ (x : Sitting). x.receipts) is ∙ (ap (λ (x : Sitting). x.receipts) at
      ∙ none_before s.receipts (receipts_of seats) none);
  asks = ap (λ (x : Sitting). x.asks) is;
  seat = new;
  is_first = refl;
  done = done;
}
