-- The effects of a step are for clients and windows that came before.
use Rattle.hub_trail.proofs.Vocabulary.{◌≡◌, ◌∙◌, ℕ, ◌<◌, Bool, true, false, List, [], ◌∷◌, Option, Some, None, map}
use Rattle.hub_trail.proofs.Vocabulary.{refl, ap, subst, sym, ⊎_elim, take, ◌==◌, if◌then◌else◌, MatchOption}
use Rattle.hub_trail.proofs.Vocabulary.{AllByRecursion, option_and_then, UserId, read_line, Effect, NoWindow}
use Rattle.hub_trail.proofs.Vocabulary.{EventValue, Detach, Keys, Command, Output, Closed, Draw, Rises, Tables, Window}
use Rattle.hub_trail.proofs.Vocabulary.{Client, row_of, client_at, window_at, focused, is_known, Caller, caller_of}
use Rattle.hub_trail.proofs.Vocabulary.{line_caller, command_item, step_items, taken, Given, commands_of, with_order}
use Rattle.hub_trail.proofs.Vocabulary.{order_in, ok_of, SomeOf, IsStep, all_weaken, row_serial}
use Rattle.command_lang.specs.declared.command.Command.{Command as Order}
use Rattle.command_lang.specs.declared.command.Command.TheVariants as command
use Rattle.session.specs.event.Effect.TheVariants.{Input, Deliver, Say, Size, Gone}
use Rattle.session.specs.event.Peer.TheVariants as peer
use Rattle.session.specs.event.Reason.{Reason}
use Rattle.session.specs.event.Reason.TheVariants as reason
use Rattle.session.specs.Trace.{Entry}
use Rattle.session.specs.Sound.{AreSound}
use Rattle.session.specs.Answering as answering
use Rattle.session.specs.Outcomes as outcomes
use Rattle.session.specs.Comings as comings
use Rattle.session.specs.Deeds as deeds
use Rattle.session.specs.Promises.{IsOn, IsOpen, IsClient, IsDoneBy, IsDoneByRight, IsByKeys, IsEffectOf}
use Rattle.session.specs.Run.{IsDraw, HasEffects}
use Rattle.session.proofs.Asking.{keys_given, line_listed, focus_listed}
use Rattle.session.proofs.Denying.{IsListed}
use Rattle.session.proofs.Lists.{some_weaken, some_row}
use Rattle.session.proofs.EffectsCaused.{never_delivers, no_other}
use Rattle.hub_trail.specs.Peers.{HasCome}

-- ---- rows

-- a serial in the table is below the next serial
some_below : {A : Type 0} (f : A → ℕ) (rows : List A) (next n : ℕ) → Rises (map f rows) next
    → SomeOf (λ x. f x ≡ n) rows → n < next
some_below f [] next n rises some = absurd some
some_below f (x ∷ rows) next n rises some =
    ⊎_elim (λ (here : f x ≡ n). subst (λ m. m < next) here rises.0) (λ later. some_below f rows next n rises.2 later)
    some

row_below : {A : Type 0} (f : A → ℕ) (rows : List A) (next n : ℕ) (x : A) → Rises (map f rows) next
    → row_of f rows n ≡ Some x → n < next
row_below f rows next n x rises is =
    some_below f rows next n rises
    (some_weaken (λ y. y ≡ x) (λ y. f y ≡ n) rows (λ y same. ap f same ∙ row_serial f rows n x is)
    (some_row f rows n x is))

module _ (t : Tables) (s : AreSound t) where
  client_below : (n : ℕ) (c : Client) → client_at t n ≡ Some c → n < t.next_client
  client_below n c is = row_below (λ (x : Client). x.serial) t.clients t.next_client n c s.clients_rise is

  window_below : (n : ℕ) (w : Window) → window_at t n ≡ Some w → n < t.next_window
  window_below n w is = row_below (λ (x : Window). x.serial) t.windows t.next_window n w s.windows_rise is

  open_below : (n : ℕ) → IsOpen t n → n < t.next_window
  open_below n some = some_below (λ (x : Window). x.serial) t.windows t.next_window n s.windows_rise some

  passing_below : (p : Client → Bool) (n : ℕ) → IsClient t p n → n < t.next_client
  passing_below p n some =
      some_below (λ (x : Client). x.serial) t.clients t.next_client n s.clients_rise
      (some_weaken (λ (x : Client). (x.serial ≡ n) × (p x ≡ true)) (λ (x : Client). x.serial ≡ n) t.clients
      (λ x here. here.0) some)

  listed_below : (n : ℕ) → IsListed t n → n < t.next_window
  listed_below n listed = window_below n listed.0 listed.1

  -- ---- commands

  -- the client that gives a command is attached, and its window is open
  record IsThere (k : Caller) : Type 0 where
    client : (n : ℕ) → k.client ≡ Some n → n < t.next_client
    window : (w : Window) → k.window ≡ Some w → w.serial < t.next_window

  on_below : (o : Option Window) (n : ℕ) → ((w : Window) → o ≡ Some w → w.serial < t.next_window) → IsOn o n
      → n < t.next_window
  on_below None n there is = absurd is
  on_below (Some w) n there is = subst (λ m. m < t.next_window) is (there w refl)

  module _ (g : Given) (there : IsThere g.caller) where
    own : (n : ℕ) → IsOn g.caller.window n → n < t.next_window
    own n is = on_below g.caller.window n there.window is

    inputs : (c : Order) (n : ℕ) (bytes : List ℕ) → IsDoneBy t g c (Input n bytes) → n < t.next_window
    inputs (command.Stuff text) n bytes is = own n is.0
    inputs (command.Multiuser true) n bytes is = absurd is
    inputs (command.Multiuser false) n bytes is = absurd is
    inputs c n bytes is = absurd is

    says : (c : Order) (n : ℕ) (bytes : List ℕ) → IsDoneBy t g c (Say n bytes) → n < t.next_client
    says (command.Wall text) n bytes is = passing_below (λ x. true) n is.0
    says (command.Multiuser true) n bytes is = absurd is
    says (command.Multiuser false) n bytes is = absurd is
    says c n bytes is = absurd is

    sizes : (c : Order) (n rows columns : ℕ) → IsDoneBy t g c (Size n rows columns) → n < t.next_window
    sizes command.Fit n rows columns is = own n is
    sizes (command.Multiuser true) n rows columns is = absurd is
    sizes (command.Multiuser false) n rows columns is = absurd is
    sizes c n rows columns is = absurd is

    closes : (c : Order) (n : ℕ) (why : Reason) → IsDoneBy t g c (Gone (peer.Window n) why) → n < t.next_window
    closes command.Kill n why is = own n is.0
    closes command.Quit n why is = open_below n is.0
    closes (command.Multiuser true) n why is = absurd is
    closes (command.Multiuser false) n why is = absurd is
    closes c n why is = absurd is

    parts : (c : Order) (n : ℕ) (why : Reason) → IsDoneBy t g c (Gone (peer.Client n) why) → n < t.next_client
    parts command.Quit n why is = passing_below _ n is.0
    parts command.Detach n why is = there.client n is.0
    parts (command.Acldel word) n why is = passing_below _ n is.0
    parts (command.Multiuser false) n why is = passing_below _ n is.0
    parts (command.Multiuser true) n why is = absurd is
    parts c n why is = absurd is

    command_comes : (f : Effect) → IsDoneBy t g g.order f → HasCome t f
    command_comes (Input n bytes) is = inputs g.order n bytes is
    command_comes (Deliver n bytes) is = absurd (never_delivers t g g.order n bytes is)
    command_comes (Say n bytes) is = says g.order n bytes is
    command_comes (Size n rows columns) is = sizes g.order n rows columns is
    command_comes (Gone (peer.Window n) why) is = closes g.order n why is
    command_comes (Gone (peer.Client n) why) is = parts g.order n why is

  some_comes : (f : Effect) (gs : List Given) → AllByRecursion (λ g. IsThere g.caller) gs
      → SomeOf (IsDoneByRight t f) gs → HasCome t f
  some_comes f [] there some = absurd some
  some_comes f (g ∷ gs) there some =
      ⊎_elim (λ (here : IsDoneByRight t f g). command_comes g there.0 f here.1) (λ later. some_comes f gs there.1 later)
      some

  with_there : (k : Caller) (o : Option Order) → IsThere k → AllByRecursion (λ g. IsThere g.caller) (with_order k o)
  with_there k None there = tt
  with_there k (Some c) there = (there, tt)

  keys_there : (n : ℕ) (c : Client) → client_at t n ≡ Some c → IsThere (caller_of t c)
  keys_there n c is = record {
    client = λ m same. let e : c.serial ≡ m = cc (same) in
        subst (λ x. x < t.next_client) (sym (row_serial (λ (x : Client). x.serial) t.clients n c is) ∙ e)
        (client_below n c is);
    window = λ w at. listed_below w.serial (focus_listed t (focused c) w at);
  }

  line_there : (user : UserId) (number : Option ℕ) → IsThere (line_caller t user number)
  line_there user number = record
      { client = λ m same. absurd (cc (same)); window = λ w at. listed_below w.serial (line_listed t number w at) }

  if_there : (b : Bool) (gs : List Given) → AllByRecursion (λ g. IsThere g.caller) gs
      → AllByRecursion (λ g. IsThere g.caller) (if b then gs else [])
  if_there true gs all = all
  if_there false gs all = tt

  -- ---- events

  typed_comes : (n : ℕ) (c : Client) → client_at t n ≡ Some c → (f : Effect) → IsByKeys t n f → HasCome t f
  typed_comes n c is (Input w bytes) by =
      on_below (option_and_then (window_at t) (focused c)) w
      (λ v at. listed_below v.serial (focus_listed t (focused c) v at))
      (subst (λ o. MatchOption o ⊥ (λ d. IsOn (option_and_then (window_at t) (focused d)) w)) is by)
  typed_comes n c is (Say to bytes) by = subst (λ m. m < t.next_client) (sym by) (client_below n c is)
  typed_comes n c is (Deliver to bytes) by = absurd by
  typed_comes n c is (Size w rows columns) by = absurd by
  typed_comes n c is (Gone (peer.Window w) why) by = absurd by
  typed_comes n c is (Gone (peer.Client to) why) by = absurd by

  keys_come : (n : ℕ) (bytes : List ℕ) (c : Client) → client_at t n ≡ Some c → (f : Effect)
      → IsEffectOf t (Keys n bytes) f → HasCome t f
  keys_come n bytes c is f of =
      ⊎_elim (λ (by : IsByKeys t n f). typed_comes n c is f by)
      (λ (some : SomeOf (IsDoneByRight t f) (commands_of t (Keys n bytes))). some_comes f
      (with_order (caller_of t c) (order_in (command_item (step_items c bytes))))
      (with_there (caller_of t c) (order_in (command_item (step_items c bytes))) (keys_there n c is))
      (subst (λ gs. SomeOf (IsDoneByRight t f) gs) (keys_given t n bytes c is) some)) of

  line_comes : (user : UserId) (number : Option ℕ) (bytes : List ℕ) (f : Effect)
      → IsEffectOf t (Command user number bytes) f → HasCome t f
  line_comes user number bytes f of =
      some_comes f (commands_of t (Command user number bytes))
      (if_there (is_known t user) (with_order (line_caller t user number) (ok_of (read_line bytes)))
      (with_there (line_caller t user number) (ok_of (read_line bytes)) (line_there user number))) of

  -- an effect of an event whose peer is there
  parted_comes : (n : ℕ) (c : Client) → client_at t n ≡ Some c → (f : Effect) → IsEffectOf t (Detach n) f → HasCome t f
  parted_comes n c is f of = subst (HasCome t) (sym of) (client_below n c is)

  closed_comes : (n : ℕ) (w : Window) → window_at t n ≡ Some w → (f : Effect) → IsEffectOf t (Closed n) f → HasCome t f
  closed_comes n w is f of = subst (HasCome t) (sym of) (window_below n w is)

  output_comes : (n : ℕ) (bytes : List ℕ) (w : Window) → window_at t n ≡ Some w → (f : Effect)
      → IsEffectOf t (Output n bytes) f → HasCome t f
  output_comes n bytes w is (Input to reports) of = subst (λ m. m < t.next_window) (sym of) (window_below n w is)
  output_comes n bytes w is (Deliver to reports) of = absurd of
  output_comes n bytes w is (Say to said) of = absurd of
  output_comes n bytes w is (Size at rows columns) of = absurd of
  output_comes n bytes w is (Gone (peer.Window at) why) of = absurd of
  output_comes n bytes w is (Gone (peer.Client to) why) of = absurd of

  draw_comes : (n : ℕ) (c : Client) → client_at t n ≡ Some c → (f : Effect) → IsEffectOf t (Draw n) f → HasCome t f
  draw_comes n c is (Deliver to bytes) of = subst (λ m. m < t.next_client) (sym of) (client_below n c is)
  draw_comes n c is (Input at bytes) of = absurd of
  draw_comes n c is (Say to said) of = absurd of
  draw_comes n c is (Size at rows columns) of = absurd of
  draw_comes n c is (Gone (peer.Window at) why) of = absurd of
  draw_comes n c is (Gone (peer.Client to) why) of = absurd of

  -- if the peer isn't there, there is no effect
  come : (event : EventValue) (effects : List Effect) → HasEffects t event effects
      → AllByRecursion (IsEffectOf t event) effects → AllByRecursion (HasCome t) effects
  come (Command user number bytes) effects has all = all_weaken (IsEffectOf t (Command user number bytes)) (HasCome t)
      effects (line_comes user number bytes) all
  come (Detach client) effects has all = on (client_at t client) refl has where
    on : (o : Option Client) → client_at t client ≡ o
        → effects ≡
        (elim o as (λ _. outcomes.Outcome) [
          | None ↦ outcomes.refused t [] NoWindow
          | Some c ↦ outcomes.finished t [] outcomes.done
              (deeds.parts (λ d. d.serial == client) reason.Detached t)
        ]).effects
        → AllByRecursion (HasCome t) effects
    on None is none = subst (AllByRecursion (HasCome t)) (sym none) tt
    on (Some c) is some = all_weaken (IsEffectOf t (Detach client)) (HasCome t) effects (parted_comes client c is) all
  come (Closed window) effects has all = on (window_at t window) refl has where
    on : (o : Option Window) → window_at t window ≡ o
        → effects ≡
        (elim o as (λ _. outcomes.Outcome) [
          | None ↦ outcomes.refused t [] NoWindow
          | Some w ↦ outcomes.finished t [] outcomes.done
              (deeds.closes (λ v. v.serial == window) reason.Detached t)
        ]).effects
        → AllByRecursion (HasCome t) effects
    on None is none = subst (AllByRecursion (HasCome t)) (sym none) tt
    on (Some w) is some = all_weaken (IsEffectOf t (Closed window)) (HasCome t) effects (closed_comes window w is) all
  come (Output window bytes) effects has all = on (window_at t window) refl has where
    on : (o : Option Window) → window_at t window ≡ o
        → effects ≡
        (elim o as (λ _. outcomes.Outcome) [
          | None ↦ outcomes.refused t [] NoWindow
          | Some w ↦ outcomes.finished t [] outcomes.done
              (comings.outputs t w bytes)
        ]).effects
        → AllByRecursion (HasCome t) effects
    on None is none = subst (AllByRecursion (HasCome t)) (sym none) tt
    on (Some w) is some = all_weaken (IsEffectOf t (Output window bytes)) (HasCome t) effects
        (output_comes window bytes w is) all
  come (Keys client bytes) effects has all = on (client_at t client) refl has where
    on : (o : Option Client) → client_at t client ≡ o
        → effects ≡
        (elim o as (λ _. outcomes.Outcome) [
          | None ↦ outcomes.refused t [] NoWindow
          | Some c ↦ answering.keys_outcome t c (take (taken c.keys bytes) bytes)
        ]).effects
        → AllByRecursion (HasCome t) effects
    on None is none = subst (AllByRecursion (HasCome t)) (sym none) tt
    on (Some c) is some = all_weaken (IsEffectOf t (Keys client bytes)) (HasCome t) effects
        (keys_come client bytes c is) all
  come (Draw client) effects has all = on (client_at t client) refl has where
    on : (o : Option Client) → client_at t client ≡ o → MatchOption o (effects ≡ []) (IsDraw t effects)
        → AllByRecursion (HasCome t) effects
    on None is none = subst (AllByRecursion (HasCome t)) (sym none) tt
    on (Some c) is some = all_weaken (IsEffectOf t (Draw client)) (HasCome t) effects (draw_comes client c is) all
  come event effects has all = all_weaken (IsEffectOf t event) (HasCome t) effects (λ f of. absurd of) all

pub peers_came : (t : Tables) (e : Entry) → AreSound t → IsStep t e → AllByRecursion (HasCome t) e.effects
peers_came t e s step = come t s e.event e.effects step.effects (no_other t e step)
