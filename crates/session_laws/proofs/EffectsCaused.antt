-- Each effect has a cause in the event, and each text that is said is true.
use Rattle.session_laws.proofs.Vocabulary.{Outcome, all_made, ◌≡◌, ℕ, Bool, true, false, List, [], ◌∷◌, Option, Some}
use Rattle.session_laws.proofs.Vocabulary.{None, Ok, Err, Result, refl, ap, sym, ◌∙◌, subst, length, inl, inr}
use Rattle.session_laws.proofs.Vocabulary.{if◌then◌else◌, ◌==◌, take, MatchOption, AllByRecursion, UserId, Order}
use Rattle.session_laws.proofs.Vocabulary.{ParseFault, Item, bound, line, reads, Effect, Input, Deliver, Say, Gone}
use Rattle.session_laws.proofs.Vocabulary.{StatusMessage, Refusal, Line, EventValue, Detach, Keys, Command, Output}
use Rattle.session_laws.proofs.Vocabulary.{Closed, Draw, Reply, Entry, Tables, Window, Client, client_at, with_client}
use Rattle.session_laws.proofs.Vocabulary.{focused_window, terminal_of, text_of, Caller, caller_of, line_caller}
use Rattle.session_laws.proofs.Vocabulary.{read_line, checks, first_fault, typing_checks, Answer, Deed, changing, does}
use Rattle.session_laws.proofs.Vocabulary.{typed_bytes, command_item, taken, step_items, types, says_why, input_in}
use Rattle.session_laws.proofs.Vocabulary.{ordered, message_of, keyed, with_listed, reading, keys_outcome, outcome}
use Rattle.session_laws.proofs.Vocabulary.{done, unsaid, granted_view, IsFrame, IsStep, HasEffects, IsDraw}
use Rattle.session_laws.proofs.Vocabulary.{DrawsWhereNeeded, Given, has_x, with_order, order_in, ok_of, commands_of}
use Rattle.session_laws.proofs.Vocabulary.{SomeOf, IsOn, IsDoneBy, IsDoneByRight, IsEffectOf, IsFrameTo, NamesTruly}
use Rattle.session_laws.proofs.Vocabulary.{ReplyNamesTruly, IsTrueSay, TellsByRight, told_by, DenialsName, Asks}
use Rattle.session_laws.proofs.Vocabulary.{all_append, all_filter, all_weaken, equal, row_serial}
use Rattle.command_lang.specs.declared.command.Command.TheVariants as command
use Rattle.session_model.specs.declared.event.Peer.TheVariants as peer
use Rattle.session_model.specs.declared.event.Reason.TheVariants as reason
use Rattle.session_model.specs.Answering as answering
use Rattle.session_laws.proofs.Doing.{giving, Either}
use Rattle.session_laws.proofs.CommandEffects.{HasDone, done_by}
use Rattle.session_laws.proofs.Denying.{OnFault, plain_names}
use Rattle.session_laws.proofs.Passing.{passed_has_x}
use Rattle.session_laws.proofs.Unread.{SameClients, typing_clients, told_in, done_in}
use Rattle.session_laws.proofs.Asking.{line_given, keys_given, typing_names, order_names, ReplyIs, replies}
use Rattle.session_laws.proofs.Outcomes as outcomes

-- the event may have the effect; if it says something, that is true; if it delivers something, that
-- is a frame
abbrev pub Fits : Tables → EventValue → Effect → Type 0
Fits t event f = IsEffectOf t event f × IsTrueSay t event f × IsFrameTo t f

-- ---- what commands do

say_done : (t : Tables) (g : Given) (c : Order) (to : ℕ) (said : List ℕ) → IsDoneBy t g c (Say to said)
    → told_by t g c ≡ Some said
say_done t g (command.Wall text) to said is = ap Some (sym is.1)
say_done t g (command.Multiuser true) to said is = absurd is
say_done t g (command.Multiuser false) to said is = absurd is
say_done t g c to said is = absurd is

pub never_delivers : (t : Tables) (g : Given) (c : Order) (to : ℕ) (bytes : List ℕ) → IsDoneBy t g c (Deliver to bytes)
    → ⊥
never_delivers t g (command.Multiuser true) to bytes is = is
never_delivers t g (command.Multiuser false) to bytes is = is
never_delivers t g c to bytes is = is

module _ (t : Tables) (event : EventValue) (g : Given) (given : commands_of t event ≡ g ∷ []) (has : has_x t g ≡ true)
  where
    pub some_given : (P : Given → Type 0) → P g → SomeOf P (commands_of t event)
    some_given P p = subst (λ gs. SomeOf P gs) (sym given) (inl p)

    true_done : (f : Effect) → IsDoneBy t g g.order f → IsTrueSay t event f
    true_done (Say to said) is = inr (some_given (TellsByRight t said) (has, say_done t g g.order to said is))
    true_done f is = tt

    frame_done : (f : Effect) → IsDoneBy t g g.order f → IsFrameTo t f
    frame_done (Deliver to bytes) is = absurd (never_delivers t g g.order to bytes is)
    frame_done f is = tt

line_fits : (t : Tables) (user : UserId) (number : Option ℕ) (bytes : List ℕ) (g : Given)
    → commands_of t (Command user number bytes) ≡ g ∷ [] → has_x t g ≡ true
    → (f : Effect) → IsDoneBy t g g.order f → Fits t (Command user number bytes) f
line_fits t user number bytes g given has f is =
    let event : EventValue = Command user number bytes in (
      some_given t event g given has (IsDoneByRight t f) (has, is),
      true_done t event g given has f is,
      frame_done t
          event g given has f is,
    )

-- ---- the keys of a client

module _ (t : Tables) (client : ℕ) (bytes : List ℕ) (c : Client) (is : client_at t client ≡ Some c) where
  same_serial : c.serial ≡ client
  same_serial = row_serial (λ (d : Client). d.serial) t.clients client c is

  refuses : (r : Refusal) → NamesTruly t (Asks t (Keys client bytes)) r
      → Fits t (Keys client bytes) (Say c.serial (text_of r))
  refuses r names = (inl same_serial, inl (same_serial, (r, (refl, names))), tt)

  listed_fits : (order : Order) → commands_of t (Keys client bytes) ≡ giving (caller_of t c) order ∷ []
      → has_x t (giving (caller_of t c) order) ≡ true
      → (said : List ℕ) → told_by t (giving (caller_of t c) order) order ≡ Some said
      → Fits t (Keys client bytes) (Say c.serial said)
  listed_fits order given has said told = (
    inl same_serial,
    inr
        (some_given t (Keys client bytes) (giving (caller_of t c) order) given has (TellsByRight t said) (has, told)),
    tt,
  )

  order_fits_all : (order : Order) → commands_of t (Keys client bytes) ≡ giving (caller_of t c) order ∷ []
      → has_x t (giving (caller_of t c) order) ≡ true
      → (f : Effect) → IsDoneBy t (giving (caller_of t c) order) order f → Fits t (Keys client bytes) f
  order_fits_all order given has f done =
      let event : EventValue = Keys client bytes in
      let g : Given = giving (caller_of t c) order in (
        inr (some_given t event g given has (IsDoneByRight t f) (has, done)),
        true_done t event g given has f done,
        frame_done t event g given has f done,
      )

  typed_fits : (w : Window) → focused_window t c ≡ Some w → (bs : List ℕ)
      → Fits t (Keys client bytes) (Input w.serial bs)
  typed_fits w at bs = (
    inl (subst (λ o. MatchOption o ⊥ (λ d. IsOn (focused_window t d) w.serial)) (sym is)
        (subst (λ x. IsOn x w.serial) (sym at) refl)),
    tt,
    tt,
  )

  -- what the client is told of its command, after it read keys
  module _ (cs : List Client) (same : SameClients t cs) (order : Order)
      (given : commands_of t (Keys client bytes) ≡ giving (caller_of t c) order ∷ []) where
    keyed_fits : (m : List ℕ → StatusMessage) → has_x t (giving (caller_of t c) order) ≡ true → (a : Answer)
        → Either (HasDone (record t { clients = cs }) (caller_of t c) order) a
        → AllByRecursion (Fits t (Keys client bytes)) (keyed (record t { clients = cs }) c.serial m a).effects
    keyed_fits m has (Err r) plain = (refuses r (plain_names t (Asks t (Keys client bytes)) r plain), tt)
    keyed_fits m has (Ok d) done = on d.lists refl where
      all : AllByRecursion (Fits t (Keys client bytes)) d.effects
      all = all_weaken (IsDoneBy (record t { clients = cs }) (giving (caller_of t c) order) order)
          (Fits t (Keys client bytes)) d.effects
          (λ f here. order_fits_all order given has f (done_in t cs same (giving (caller_of t c) order) order f here))
          done.effects

      on : (o : Option (List ℕ)) → d.lists ≡ o
          → AllByRecursion (Fits t (Keys client bytes)) (with_listed c.serial m o d).effects
      on None lists = all
      on (Some said) lists = all_append (Fits t (Keys client bytes)) d.effects (Say c.serial said ∷ []) all (
        listed_fits order given has said
            (sym (told_in t cs same (giving (caller_of t c) order) order) ∙ done.lists said lists),
        tt,
      )

    order_fits : (read : List ℕ)
        → AllByRecursion (Fits t (Keys client bytes))
        (answering.by_line (record t { clients = cs }) (reading read c) (Ok order)).deed.effects
    order_fits read = on (first_fault t (checks t (caller_of t c) order)) refl
        (order_names t client bytes c order given) where
          on : (o : Option Refusal) → first_fault t (checks t (caller_of t c) order) ≡ o
              → OnFault (NamesTruly t (Asks t (Keys client bytes))) o
              → AllByRecursion (Fits t (Keys client bytes))
              (keyed (record t { clients = cs }) c.serial (message_of order)
              (elim o as (λ _. Answer)
              [ Some r ↦ Err r | None ↦ does (record t { clients = cs }) (caller_of t c) order ])).effects
          on (Some r) at names = (refuses r names, tt)
          on None at names = keyed_fits (message_of order) (passed_has_x t (caller_of t c) order at)
              (does (record t { clients = cs }) (caller_of t c) order)
              (done_by (record t { clients = cs }) (caller_of t c) order)

  line_read_fits : (cs : List Client) → SameClients t cs → (read : List ℕ) (r : Result Order ParseFault)
      → commands_of t (Keys client bytes) ≡ with_order (caller_of t c) (ok_of r)
      → AllByRecursion (Fits t (Keys client bytes))
      (answering.by_line (record t { clients = cs }) (reading read c) r).deed.effects
  line_read_fits cs same read (Err f) given = (refuses (Line f) tt, tt)
  line_read_fits cs same read (Ok order) given = order_fits cs same order given read

  item_fits : (cs : List Client) → SameClients t cs → (read : List ℕ) (item : Option Item)
      → commands_of t (Keys client bytes) ≡ with_order (caller_of t c) (order_in item)
      → AllByRecursion (Fits t (Keys client bytes))
      (ordered (record t { clients = cs }) (reading read c) item).deed.effects
  item_fits cs same read (Some (bound order)) given = order_fits cs same order given read
  item_fits cs same read (Some (line (b ∷ bs))) given = line_read_fits cs same read (read_line (b ∷ bs)) given
  item_fits cs same read item given = tt

  typing_fits : (u : Tables) (read bs : List ℕ)
      → first_fault u (typing_checks c.user (focused_window u (reading read c))) ≡ first_fault t
      (typing_checks c.user (focused_window t c))
      → focused_window u (reading read c) ≡ focused_window t c
      → AllByRecursion (Fits t (Keys client bytes)) (types u (reading read c) bs).effects
  typing_fits u read [] fault focus = tt
  typing_fits u read (b ∷ bs) fault focus = on
      (first_fault u (typing_checks c.user (focused_window u (reading read c)))) (focused_window u (reading read c))
      fault focus where
        on : (o : Option Refusal) (f : Option Window) → o ≡ first_fault t (typing_checks c.user (focused_window t c))
            → f ≡ focused_window t c
            → AllByRecursion (Fits t (Keys client bytes)) (elim o as (λ _. Deed) [
              | Some r ↦ says_why u c.serial r
              | None ↦ record (changing u) { effects = input_in f (b ∷ bs) }
            ]).effects
        on (Some r) f at same = (
          refuses r
              (subst (OnFault (NamesTruly t (Asks t (Keys client bytes)))) (sym at) (typing_names t client bytes c is)),
          tt,
        )
        on None None at same = tt
        on None (Some w) at same = (typed_fits w (sym same) (b ∷ bs), tt)

  keys_fits : AllByRecursion (Fits t (Keys client bytes)) (keys_outcome t c (take (taken c.keys bytes) bytes)).effects
  keys_fits =
      let Said : Effect → Type 0 = Fits t (Keys client bytes) in
      let read : List ℕ = take (taken c.keys bytes) bytes in
      let given : List Item = step_items c bytes in
      let d : Client = reading read c in
      let u : Tables = with_client t d in
      let before : Deed = types u d (typed_bytes given) in
      let order : Tables → List Effect = λ v. (ordered v d (command_item given)).deed.effects in
      all_append Said before.effects (unsaid before.effects (order before.tables))
      (typing_fits u read (typed_bytes given) refl refl)
      (all_filter Said _ (order before.tables)
      (typing_clients (λ v. AllByRecursion Said (order v)) t client c d (typed_bytes given) is refl refl
      (λ cs same. item_fits cs same read (command_item given) (keys_given t client bytes c is))))

-- ---- the events

input_fits : (t : Tables) (at : ℕ) (bytes rs : List ℕ) (w : ℕ) (b : Bool) → w ≡ at
    → AllByRecursion (Fits t (Output at bytes)) (if b then [] else Input w rs ∷ [])
input_fits t at bytes rs w true same = tt
input_fits t at bytes rs w false same = ((same, tt, tt), tt)

happened : (t : Tables) (event : EventValue) (o : Outcome) → outcomes.Happens t event o
    → AllByRecursion (Fits t event) o.effects
happened t _ _ (outcomes.detached client c at) =
    all_made (Fits t (Detach client)) (λ (d : Client). Gone (peer.Client d.serial) reason.Detached)
    (λ (d : Client). d.serial == client) t.clients
    (λ d same. (ap (λ n. Gone (peer.Client n) reason.Detached) (equal d.serial client same), tt, tt))
happened t _ _ (outcomes.keyed client bytes c at) = keys_fits t client bytes c at
happened t _ _ (outcomes.obeyed user number bytes c d known read passes is) =
    let k : Caller = line_caller t user number in
    all_weaken (IsDoneBy t (giving k c) c) (Fits t (Command user number bytes)) d.effects
    (line_fits t user number bytes (giving k c) (line_given t user number bytes true (Ok c) known read)
    (passed_has_x t k c passes)) (subst (Either (HasDone t k c)) is (done_by t k c)).effects
happened t _ _ (outcomes.wrote window bytes v at) =
    input_fits t window bytes (reads (terminal_of v) bytes).reports v.serial
    (length (reads (terminal_of v) bytes).reports == 0) (row_serial (λ (x : Window). x.serial) t.windows window v at)
happened t _ _ (outcomes.closed window v at) =
    all_made (Fits t (Closed window)) (λ (x : Window). Gone (peer.Window x.serial) reason.Detached)
    (λ (x : Window). x.serial == window) t.windows
    (λ x same. (ap (λ n. Gone (peer.Window n) reason.Detached) (equal x.serial window same), tt, tt))
happened t _ _ h = tt

pub fits : (t : Tables) (event : EventValue) → AllByRecursion (Fits t event) (outcome t event).effects
fits t event = happened t event (outcome t event) (outcomes.happens t event)

drawn_fits : (t : Tables) (client : ℕ) (effects : List Effect) (o : Option Client) → client_at t client ≡ o
    → MatchOption o (effects ≡ []) (IsDraw t effects) → AllByRecursion (Fits t (Draw client)) effects
drawn_fits t client effects None at is = subst (λ es. AllByRecursion (Fits t (Draw client)) es) (sym is) tt
drawn_fits t client effects (Some c) at is = on effects is.drawn where
  same : c.serial ≡ client
  same = row_serial (λ (x : Client). x.serial) t.clients client c at

  on : (es : List Effect) → DrawsWhereNeeded t c es → AllByRecursion (Fits t (Draw client)) es
  on [] none = tt
  on (Deliver to bytes ∷ []) one =
      let to_is : to ≡ client = one.0 ∙ same in (
        (
          to_is,
          tt,
          subst (λ o. MatchOption o ⊥ (λ d. IsFrame d.rows d.columns d.delivered (granted_view t d) bytes))
              (sym (ap (client_at t) to_is ∙ at)) one.2,
        ),
        tt,
      )
  on (f ∷ es) other = absurd other

pub step_fits : (t : Tables) (event : EventValue) (effects : List Effect) → HasEffects t event effects
    → AllByRecursion (Fits t event) effects
step_fits t (Draw client) effects is = drawn_fits t client effects (client_at t client) refl is
step_fits t event effects is = subst (λ es. AllByRecursion (Fits t event) es) (sym is) (fits t event)

reply_truly : (t : Tables) (event : EventValue) (reply : Reply) → ReplyIs (NamesTruly t (Asks t event)) reply
    → ReplyNamesTruly t event reply
reply_truly t event (Ok d) is = tt
reply_truly t event (Err r) is = is

pub denials : (t : Tables) (e : Entry) → IsStep t e → DenialsName t e
denials t e step = record {
  reply = subst (λ r. ReplyNamesTruly t e.event r) (sym step.reply)
      (reply_truly t e.event (outcome t e.event).reply (replies t e.event));
  says = all_weaken (Fits t e.event) (IsTrueSay t e.event) e.effects (λ f all. all.1)
      (step_fits t e.event e.effects step.effects);
}

pub no_other : (t : Tables) (e : Entry) → IsStep t e → AllByRecursion (IsEffectOf t e.event) e.effects
no_other t e step = all_weaken (Fits t e.event) (IsEffectOf t e.event) e.effects (λ f all. all.0)
    (step_fits t e.event e.effects step.effects)

pub frames : (t : Tables) (e : Entry) → IsStep t e → AllByRecursion (IsFrameTo t) e.effects
frames t e step = all_weaken (Fits t e.event) (IsFrameTo t) e.effects (λ f all. all.2)
    (step_fits t e.event e.effects step.effects)
