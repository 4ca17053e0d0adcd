-- A step of keys does what they type, and then what their command does, as the definitions' step.
use Rattle.session_input.proofs.Vocabulary.{◌≡◌, ℕ, suc, ◌+◌, ◌<◌, ◌≤◌, Bool, true, false, List, [], ◌∷◌, ◌++◌, Option}
use Rattle.session_input.proofs.Vocabulary.{Some, None, Result, Ok, Err, refl, ap, sym, subst, ◌∙◌, arith, length}
use Rattle.session_input.proofs.Vocabulary.{append-nil, append_assoc, if◌then◌else◌, option_and_then, Shown}
use Rattle.session_input.proofs.Vocabulary.{Arrangement, Command, ParseFault, Keeping, UserId, Act, followed_by, Effect}
use Rattle.session_input.proofs.Vocabulary.{StatusMessage, Silence, Text, Refusal, Verdict, Tables, Client, Window}
use Rattle.session_input.proofs.Vocabulary.{client_at, with_client, focused_window, row_of, first_fault, typing_checks}
use Rattle.session_input.proofs.Vocabulary.{Deed, changing, hearing, reading, input_in, says_why, left_acts, text_of}
use Rattle.session_input.proofs.Vocabulary.{HasLeft, serial_is, with_same, ClientStands, Caller, Step, StepOutput}
use Rattle.session_input.proofs.Vocabulary.{State, Stands, did, Obeyed, read_of, ReadFor, read_by, Typed, caller_by}
use Rattle.std.proofs.Common.{zero}
use Rattle.std.proofs.lemmas.List.{length-take-le}
use Rattle.std.specs.Prelude.{find, unwrap_or, OnErr, slice_get}
use Rattle.std.specs.List.{range_with_len}
use Rattle.keys.specs.Grammar.{Item, typed as typed_item, bound as bound_item, line as line_item}
use Rattle.session_model.specs.Keying.{items_behind, taken, typed_bytes, command_item, completes}
use Rattle.session_model.specs.Answering.{Ordered, ordered, types, typing_verdicts, unsaid}
use Rattle.session_laws.proofs.Unread.{client_read, nobody_left}
use Rattle.windows_model.proofs.Serials.{with_twice}
use Rattle.session_state.specs.declared.client.Client.{Client as Row}
use Rattle.session_events.specs.Dropping.{DropsSaid}
use Rattle.session_input.specs.Given.{given, ordered_by}
use Rattle.session_input.specs.Reads.{typing, order, keys_deed, HasEnded}
use Rattle.session_input.specs.KeyStepping.{caller_now, AreRead, AreGiven, HaveEnded}
use Rattle.session_input.specs.Typing.{message_after}
use Rattle.session_input.proofs.Putting.{serial}
use Rattle.session_input.proofs.Telling.{told_there}

-- ---- how many keys are read

module _ (p : ℕ → Bool) where
  found_below : (a n k : ℕ) → find p (range_with_len a n) ≡ Some k → k < a + n
  found_below a zero k at = absurd (cc (at))
  found_below a (suc n) k at = on (p a) at (λ here. found_below (a + 1) n k here) where
    on : (b : Bool) → (if b then Some a else find p (range_with_len (a + 1) n)) ≡ Some k
        → (find p (range_with_len (a + 1) n) ≡ Some k → k < (a + 1) + n) → k < a + suc n
    on true here further = let e : a ≡ k = cc (here) in omega (arith, e)
    on false here further = let below : k < (a + 1) + n = further here in omega (arith, below)

  found_or : (n : ℕ) (o : Option ℕ) → find p (range_with_len 0 (n + 1)) ≡ o → unwrap_or o n ≤ n
  found_or n None at = omega arith
  found_or n (Some k) at =
      let below : k < 0 + (n + 1) = found_below 0 (n + 1) k at in omega (arith, below)

pub taken_few : (past keys : List ℕ) → taken past keys ≤ length keys
taken_few past keys = found_or (completes past keys) (length keys) _ refl

pub taken_counts : (c : Client) (bytes : List ℕ) (count : ℕ) → count ≡ taken c.keys bytes
    → count ≡ length (read_of c bytes)
taken_counts c bytes count is =
    is ∙ sym (length-take-le (taken c.keys bytes) bytes (taken_few c.keys bytes))

pub were_read : (t : Tables) (c : Client) (found : Option Client) (bytes : List ℕ) (count : ℕ)
    (new : State) (before after : Step) → found ≡ Some c
    → count ≡ taken c.keys bytes → HaveEnded t c (read_of c bytes) new before after
    → ReadFor t found bytes (Ok count) new before after
were_read t c found bytes count new before after is count_is given =
    subst (λ (o : Option Client). ReadFor t o bytes (Ok count) new before after) (sym is)
    (record {
      count_is = taken_counts c bytes count count_is;
      ended = given.ended;
      verdicts = given.verdicts;
    })

-- ---- what they type

-- the checks are the same for each row that the client may have
same_fault : (t : Tables) (d : Client) (user : UserId) (o : Option Window)
    → first_fault (with_client t d) (typing_checks user o) ≡ first_fault t (typing_checks user o)
same_fault t d user None = refl
same_fault t d user (Some w) = refl

abbrev typed_deed : Tables → Client → List ℕ → Option Window → Option Refusal → Deed
typed_deed t c bytes focus o = elim o as (λ _. Deed) [
  | Some r ↦ says_why t c.serial r
  | None ↦ record (changing t) { effects = input_in focus bytes }
]

abbrev message_by : Option Refusal → StatusMessage
message_by o = elim o as (λ _. StatusMessage) [ None ↦ Silence | Some r ↦ Text (text_of r) ]

module _ (t : Tables) (n : ℕ) (c : Client) (keys : List ℕ) (at : client_at t n ≡ Some c) where
  abbrev d : Client
  d = reading keys c

  abbrev u : Tables
  u = with_client t d

  there : client_at u c.serial ≡ Some d
  there =
      let same : c.serial ≡ n = serial_is serial t.clients n c at in
      with_same serial t.clients c.serial c d (ap (row_of serial t.clients) same ∙ at) refl

  -- the row is put twice
  once : (m : StatusMessage) → with_client u (hearing m d) ≡ with_client t (hearing m d)
  once m =
      ap (λ (cs : List Client). record t { clients = cs })
      (with_twice serial t.clients c.serial d (hearing m d) refl)

  tables_by : (bytes : List ℕ) (focus : Option Window) (o : Option Refusal)
      → (typed_deed u d bytes focus o).tables ≡ with_client t (hearing (message_by o) d)
  tables_by bytes focus None = refl
  tables_by bytes focus (Some r) =
      told_there u c.serial (Text (text_of r)) d there ∙ once (Text (text_of r))

  effects_by : (bytes : List ℕ) (focus : Option Window) (o : Option Refusal)
      → (typed_deed u d bytes focus o).effects ≡ (typed_deed t c bytes focus o).effects
  effects_by bytes focus None = refl
  effects_by bytes focus (Some r) = refl

  fault_is : first_fault u (typing_checks c.user (focused_window t c))
      ≡ first_fault t (typing_checks c.user (focused_window t c))
  fault_is = same_fault t d c.user (focused_window t c)

  pub tables_typed : (bytes : List ℕ)
      → (types u d bytes).tables ≡ with_client t (hearing (message_after t c bytes) d)
  tables_typed [] = refl
  tables_typed (b ∷ bytes) =
      tables_by (b ∷ bytes) (focused_window t c)
      (first_fault u (typing_checks c.user (focused_window t c)))
      ∙ ap (λ (o : Option Refusal). with_client t (hearing (message_by o) d)) fault_is

  pub effects_typed : (bytes : List ℕ) → (types u d bytes).effects ≡ (types t c bytes).effects
  effects_typed [] = refl
  effects_typed (b ∷ bytes) =
      effects_by (b ∷ bytes) (focused_window t c)
      (first_fault u (typing_checks c.user (focused_window t c)))
      ∙ ap (λ (o : Option Refusal). (typed_deed t c (b ∷ bytes) (focused_window t c) o).effects)
      fault_is

-- ---- the client that gives them

pub called_by : (c : Client) (row : Row) (n : ℕ) → c.serial ≡ n → ClientStands c row
    → caller_now row ≡ caller_by n c
called_by c row n same st =
    ap (λ (u : UserId). caller u row.serial row.layout) st.user_is
    ∙ (ap (λ (k : ℕ). caller c.user k row.layout) (st.serial_is ∙ same)
    ∙ ap (λ (l : Arrangement). caller c.user n l) st.layout_is) where
      caller : UserId → ℕ → Arrangement → Caller
      caller u k l = record {
        user = u;
        client = Some k;
        window = option_and_then (λ (s : Shown). s.window) (slice_get l.shown l.focus);
      }

-- ---- the command that they complete

ordered_as : (t : Tables) (c : Client) (i : Option Item) → ordered_by t c (given i) ≡ ordered t c i
ordered_as t c None = refl
ordered_as t c (Some (typed_item b)) = refl
ordered_as t c (Some (bound_item k)) = refl
ordered_as t c (Some (line_item [])) = refl
ordered_as t c (Some (line_item (b ∷ bytes))) = refl

-- ---- both

-- what its status line says is that of the tables once it has typed
tables_are : (t : Tables) (n : ℕ) (c : Client) (keys typed : List ℕ) (message : StatusMessage)
    → client_at t n ≡ Some c → typed ≡ typed_bytes (items_behind c.keys keys)
    → message ≡ message_after t c typed
    → with_client t (read_by message keys c) ≡ (typing t c keys).tables
tables_are t n c keys typed message at typed_is message_is =
    ap (λ (m : StatusMessage). with_client t (hearing m (reading keys c)))
    (message_is ∙ ap (message_after t c) typed_is)
    ∙ sym (tables_typed t n c keys at (typed_bytes (items_behind c.keys keys)))

typed_now : (t : Tables) (n : ℕ) (c : Client) (keys typed : List ℕ) (before middle : List Effect)
    → client_at t n ≡ Some c → typed ≡ typed_bytes (items_behind c.keys keys)
    → middle ≡ before ++ (types t c typed).effects
    → middle ≡ before ++ (typing t c keys).effects
typed_now t n c keys typed before middle at typed_is put =
    put ∙ ap (λ (fs : List Effect). before ++ fs)
    (ap (λ (bs : List ℕ). (types t c bs).effects) typed_is
    ∙ sym (effects_typed t n c keys at (typed_bytes (items_behind c.keys keys))))

-- what was typed and what was obeyed are the keys' deed
pub keys_given : (t : Tables) (n : ℕ) (c : Client) (keys typed : List ℕ) (message : StatusMessage)
    (start end : ℕ) (orders : Option (Result Command ParseFault)) (new : State) (before middle later : Step)
    (made : StepOutput) → client_at t n ≡ Some c
    → typed ≡ typed_bytes (items_behind c.keys keys)
    → orders ≡ given (command_item (items_behind c.keys keys))
    → Typed t c typed message before middle
    → middle.made.acts.items ≡ before.made.acts.items
    → Obeyed (with_client t (read_by message keys c)) (reading keys c) orders new middle later
    → made.acts.items ≡ later.made.acts.items
    → start ≡ length before.made.effects.items → end ≡ length middle.made.effects.items
    → DropsSaid start end later.made.effects.items made.effects.items
    → AreGiven t c keys new before (record later { made = made })
keys_given t n c keys typed message start end orders new before middle later made at typed_is orders_are put quiet
    obeyed still begin close drops = record {
      done = record {
        stands = subst (λ (v : Tables). Stands v new) tables obeyed.done.stands;
        acts = still ∙ (obeyed.done.acts
            ∙ (ap (λ (xs : List _). xs ++ (ordered_by u d orders).deed.acts) quiet
            ∙ ap (λ (o : Ordered). before.made.acts.items ++ o.deed.acts) same));
        effects = drops before.made.effects.items mine.effects (order t c keys).deed.effects all
            (sym begin) (sym (close ∙ ap length now));
      };
      verdicts = obeyed.verdicts
          ∙ (ap (λ (vs : List Verdict). vs ++ (ordered_by u d orders).verdicts) put.verdicts
          ∙ (append_assoc before.verdicts.items (typing_verdicts t c typed) _
          ∙ (ap (λ (bs : List ℕ). before.verdicts.items
          ++ (typing_verdicts t c bs ++ (ordered_by u d orders).verdicts))
          typed_is
          ∙ ap (λ (o : Ordered). before.verdicts.items
          ++ (typing_verdicts t c (typed_bytes (items_behind c.keys keys)) ++ o.verdicts)) same)));
    } where
      d : Client
      d = reading keys c

      u : Tables
      u = with_client t (read_by message keys c)

      mine : Deed
      mine = typing t c keys

      same : ordered_by u d orders ≡ order t c keys
      same =
          ap (ordered_by u d) orders_are
          ∙ (ordered_as u d (command_item (items_behind c.keys keys))
          ∙ ap (λ (v : Tables). ordered v d (command_item (items_behind c.keys keys)))
          (tables_are t n c keys typed message at typed_is put.message_is))

      tables : did u (ordered_by u d orders).deed ≡ did t (keys_deed t c keys)
      tables = ap (λ (o : Ordered). record o.deed.tables { acts = followed_by t.acts o.deed.acts }) same

      now : middle.made.effects.items ≡ before.made.effects.items ++ mine.effects
      now =
          typed_now t n c keys typed before.made.effects.items middle.made.effects.items at typed_is put.effects

      all : later.made.effects.items
          ≡ before.made.effects.items ++ (mine.effects ++ (order t c keys).deed.effects)
      all =
          obeyed.done.effects
          ∙ (ap (λ (o : Ordered). middle.made.effects.items ++ o.deed.effects) same
          ∙ (ap (λ (fs : List Effect). fs ++ (order t c keys).deed.effects) now
          ∙ append_assoc before.made.effects.items mine.effects (order t c keys).deed.effects))

-- ---- the step's end

-- users left windows
pub keys_ended : (t : Tables) (c : Client) (keys : List ℕ) (middle new : State)
    (before second : Step) (made : StepOutput) → AreGiven t c keys middle before second
    → HasLeft t (keys_deed t c keys) new second.made made
    → HaveEnded t c keys new before (record second { made = made })
keys_ended t c keys middle new before second made given left =
    let d : Deed = keys_deed t c keys in
    let acts : List Act = left_acts t.clients d.tables.clients in
    record {
      ended = record {
        stands = left.stands;
        acts = left.acts ∙ ap (λ (xs : List Act). xs ++ acts) given.done.acts
            ∙ append_assoc before.made.acts.items d.acts acts;
        effects = left.effects ∙ given.done.effects;
      };
      verdicts = given.verdicts;
    }

-- the keys give no command: they are typed, and nobody leaves a window
pub keys_typed : (t : Tables) (n : ℕ) (c : Client) (keys typed : List ℕ) (reader : Keeping)
    (message : StatusMessage) (new : State) (before after : Step)
    → client_at t n ≡ Some c → AreRead c keys reader typed None
    → Typed t c typed message before after
    → after.made.acts.items ≡ before.made.acts.items
    → Stands (with_client t (read_by message keys c)) new
    → HaveEnded t c keys new before after
keys_typed t n c keys typed reader message new before after at read put quiet st = record {
  ended = subst (λ (o : Ordered). HasEnded t (deed_by o) new before.made after.made) none (record {
    stands = subst (λ (acts : List Act). Stands (record mine.tables { acts = followed_by t.acts acts }) new)
        (sym left) (subst (λ (v : Tables). Stands (record v { acts = t.acts }) new) are st);
    acts = quiet ∙ (sym (append-nil before.made.acts.items)
        ∙ ap (λ (acts : List Act). before.made.acts.items ++ acts) (sym left));
    effects =
        typed_now t n c keys typed before.made.effects.items after.made.effects.items at read.typed_is put.effects
        ∙ ap (λ (fs : List Effect). before.made.effects.items ++ fs) (sym (append-nil mine.effects));
  });
  verdicts = put.verdicts
      ∙ (ap (λ (bs : List ℕ). before.verdicts.items ++ typing_verdicts t c bs) read.typed_is
      ∙ (ap (λ (vs : List Verdict). before.verdicts.items ++ vs) (sym (append-nil checked))
      ∙ ap (λ (o : Ordered). before.verdicts.items ++ (checked ++ o.verdicts)) none));
} where
  d : Client
  d = reading keys c

  mine : Deed
  mine = typing t c keys

  checked : List Verdict
  checked = typing_verdicts t c (typed_bytes (items_behind c.keys keys))

  deed_by : Ordered → Deed
  deed_by o = record o.deed { effects = mine.effects ++ unsaid mine.effects o.deed.effects }

  none : ordered_by mine.tables d None ≡ order t c keys
  none =
      ap (ordered_by mine.tables d) read.order_is
      ∙ ordered_as mine.tables d (command_item (items_behind c.keys keys))

  are : with_client t (read_by message keys c) ≡ mine.tables
  are = tables_are t n c keys typed message at read.typed_is put.message_is

  left : left_acts t.clients mine.tables.clients ≡ []
  left =
      ap (λ (v : Tables). left_acts t.clients v.clients) (sym are)
      ∙ nobody_left t.clients (with_client t (read_by message keys c)).clients
      (client_read t n c (read_by message keys c) at refl)

pub err_always : {A E P : Type 0} (r : Result A E) → P → OnErr r P
err_always (Ok a) p = tt
err_always (Err e) p = p
