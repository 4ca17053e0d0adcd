-- After a step each client is new, or one of those before with the keys and deliveries of the step.
use Rattle.session_laws.proofs.Vocabulary.{◌≡◌, ℕ, Bool, true, false, not, List, [], ◌∷◌, ◌++◌, Option, Some, None, Err}
use Rattle.session_laws.proofs.Vocabulary.{refl, ap, sym, ◌∙◌, subst, filter, take, length, inl, inr, arith, suc, zero}
use Rattle.session_laws.proofs.Vocabulary.{◌⊎◌, if◌then◌else◌, ◌==◌, MatchOption, AllByRecursion, nat_tests, Item}
use Rattle.session_laws.proofs.Vocabulary.{Effect, Deliver, Refusal, EventValue, Attach, Detach, Keys, Command, Open}
use Rattle.session_laws.proofs.Vocabulary.{Output, Closed, Draw, Reply, Tables, Window, Client, row_of, with_row}
use Rattle.session_laws.proofs.Vocabulary.{client_at, with_client, line_caller, Deed, changing, taken, step_items}
use Rattle.session_laws.proofs.Vocabulary.{typed_bytes, command_item, outcome, Outcome, finished, done, reply_of}
use Rattle.session_laws.proofs.Vocabulary.{keys_outcome, reading, new_client, new_window, granted_view, HasEffects}
use Rattle.session_laws.proofs.Vocabulary.{IsDraw, DrawsWhereNeeded, deliveries, drawn, drawn_on, with_drawn, SomeOf}
use Rattle.session_laws.proofs.Vocabulary.{IsEffectOf, AreSound, keys_read, is_resize, all_weaken, all_append, itself}
use Rattle.session_laws.proofs.Vocabulary.{row_serial}
use Rattle.session_laws.proofs.Inputs.{append_nil}
use Rattle.session_laws.proofs.Doing.{Either}
use Rattle.session_laws.proofs.EffectsCaused.{Fits, step_fits}
use Rattle.session_laws.proofs.Unread.{row_at}
use Rattle.session_laws.proofs.Keeping.{core, Keeps, keeps_same, keeps, keeps_filter, without_keeps}
use Rattle.session_laws.proofs.Past.{GoesOn, AllGoOn, goes_on, all_go_on, changed_row, is_draw, undelivered, keys_keep}
use Rattle.session_laws.proofs.Outcomes as outcomes

-- a new client, or one that was there before, with the step's keys and deliveries
abbrev pub IsNew : Tables → Client → Type 0
IsNew t d = (d.serial ≡ t.next_client) × (d.keys ≡ []) × (d.delivered ≡ [])

abbrev pub Row : Tables → EventValue → Reply → List Effect → Client → Type 0
Row t event reply effects d = SomeOf (λ c. GoesOn event reply effects c d) t.clients ⊎ IsNew t d

abbrev pub Rows : Tables → EventValue → Reply → List Effect → List Client → Type 0
Rows t event reply effects ds = AllByRecursion (Row t event reply effects) ds

old_rows : (t : Tables) (event : EventValue) (reply : Reply) (effects : List Effect) (ds : List Client)
    → AllGoOn event reply effects t.clients ds → Rows t event reply effects ds
old_rows t event reply effects ds all = all_weaken (λ d. SomeOf (λ c. GoesOn event reply effects c d) t.clients)
    (Row t event reply effects) ds (λ d some. inl some) all

-- if no keys are read and nothing is delivered
kept_rows : (t : Tables) (event : EventValue) (reply : Reply) (effects : List Effect) (ds : List Client)
    → ((n : ℕ) → keys_read event reply n ≡ []) → ((n : ℕ) → is_resize event reply n ≡ false)
    → ((n : ℕ) → deliveries effects n ≡ [])
    → Keeps t.clients ds → Rows t event reply effects ds
kept_rows t event reply effects ds unread same_size none kept = old_rows t event reply effects ds
    (all_go_on event reply effects t.clients ds unread same_size none kept)

take_taken : (k : ℕ) (xs : List ℕ) → take (length (take k xs)) xs ≡ take k xs
take_taken zero xs = refl
take_taken (suc k) [] = refl
take_taken (suc k) (x ∷ xs) = ap (λ ys. x ∷ ys) (take_taken k xs)

other_serial : (client n r : ℕ) → n ≡ client → (r == n) ≡ false → (client == r) ≡ false
other_serial client n r same off = grind (arith, nat_tests, same, off)

-- ---- keys

keys_rows : (t : Tables) (client : ℕ) (bytes : List ℕ) (c : Client) (effects : List Effect)
    → client_at t client ≡ Some c → AreSound t → ((n : ℕ) → deliveries effects n ≡ [])
    → let o : Outcome = keys_outcome t c (take (taken c.keys bytes) bytes) in Rows t (Keys client bytes) o.reply effects
    o.tables.clients
keys_rows t client bytes c effects is s none =
    let read : List ℕ = take (taken c.keys bytes) bytes in
    let given : List Item = step_items c bytes in
    let x : Client = reading read c in
    let u : Tables = with_client t x in
    let o : Outcome = keys_outcome t c read in
    let serial : c.serial ≡ client = row_serial (λ (r : Client). r.serial) t.clients client c is in
    let F : Client → Client → Type 0 = λ q d. GoesOn (Keys client bytes) o.reply effects q d in
    let here : (client == c.serial) ≡ true = ap (λ n. n == c.serial) (sym serial) ∙ itself c.serial in
    old_rows t (Keys client bytes) o.reply effects o.tables.clients
    (all_weaken (λ d. SomeOf (λ q. core q ≡ core d) u.clients) (λ d. SomeOf (λ q. F q d) t.clients) o.tables.clients
    (λ d some. changed_row F c x
    (λ d same. (
      sym (ap (λ (q : Client). q.serial) same),
      sym (ap (λ (q : Client). q.keys) same)
          ∙ ap (λ ks. c.keys ++ ks)
          (sym
          (ap (λ (b : Bool). if b then take (length read) bytes else []) here ∙ take_taken (taken c.keys bytes) bytes)),
      sym (ap (λ (q : Client). q.delivered) same) ∙ sym (append_nil c.delivered)
          ∙ ap (λ bs. c.delivered ++ bs) (sym (none c.serial)),
    ))
    (λ r off d same. goes_on (Keys client bytes) o.reply effects r d
    (ap (λ (b : Bool). if b then take (length read) bytes else [])
    (other_serial client c.serial r.serial serial off)) refl (none r.serial) same)
    t.clients t.next_client s.clients_rise (row_at t client c is) d some)
    (keys_keep u x (typed_bytes given) (command_item given)))

-- ---- a change of one row

unread : (event : EventValue) (x : outcomes.Change) → outcomes.change_of event ≡ Some x → (n : ℕ)
    → keys_read event done n ≡ []
unread (Keys client bytes) x is n = absurd (cc (is))
unread event x is n = refl

change_rows : (t : Tables) (event : EventValue) (x : outcomes.Change) (c : Client) (effects : List Effect)
    → outcomes.change_of event ≡ Some x → outcomes.Changes event x → client_at t x.client ≡ Some c → AreSound t
    → ((n : ℕ) → deliveries effects n ≡ []) → Rows t event done effects (with_client t (x.row c)).clients
change_rows t event x c effects one f is s none =
    let d : Client = x.row c in
    let serial : c.serial ≡ x.client = row_serial (λ (r : Client). r.serial) t.clients x.client c is in
    let F : Client → Client → Type 0 = λ q d. GoesOn event done effects q d in
    let kept : List ℕ = if is_resize event done c.serial then [] else c.delivered in
    subst (λ n. Rows t event done effects (with_row (λ (r : Client). r.serial) t.clients n d)) (sym (f.serial c))
    (old_rows t event done effects (with_row (λ (r : Client). r.serial) t.clients c.serial d)
    (all_weaken (λ e. SomeOf (λ q. core q ≡ core e) (with_row (λ (r : Client). r.serial) t.clients c.serial d))
    (λ e. SomeOf (λ q. F q e) t.clients) (with_row (λ (r : Client). r.serial) t.clients c.serial d)
    (λ e some. changed_row F c d
    (λ e same. (
      sym (ap (λ (q : Client). q.serial) same) ∙ f.serial c,
      sym (ap (λ (q : Client). q.keys) same) ∙ f.keys c ∙ sym (append_nil c.keys)
          ∙ ap (λ ks. c.keys ++ ks) (sym (unread event x one c.serial)),
      sym (ap (λ (q : Client). q.delivered) same) ∙ f.delivered c serial ∙ sym (append_nil kept)
          ∙ ap (λ bs. kept ++ bs) (sym (none c.serial)),
    ))
    (λ r off e same. goes_on event done effects r e (unread event x one r.serial)
    (f.others r.serial (other_serial x.client c.serial r.serial serial off)) (none r.serial) same)
    t.clients t.next_client s.clients_rise (row_at t x.client c is) e some)
    (keeps_same (with_row (λ (r : Client). r.serial) t.clients c.serial d))))

-- ---- a draw

drawn_rows : (t w : Tables) (client : ℕ) (effects : List Effect) (reply : Reply) (o : Option Client)
    → w.clients ≡ t.clients → client_at t client ≡ o → AreSound t → MatchOption o (effects ≡ []) (IsDraw t effects)
    → Rows t (Draw client) reply effects (drawn_on o effects w).clients
drawn_rows t w client effects reply None same at s is =
    kept_rows t (Draw client) reply effects w.clients (λ n. refl) (λ n. refl) (λ n. ap (λ es. deliveries es n) is)
    (subst (Keeps t.clients) (sym same) (keeps_same t.clients))
drawn_rows t w client effects reply (Some c) same at s is =
    let x : Client = with_drawn effects (granted_view w c) c in
    let F : Client → Client → Type 0 = λ q d. GoesOn (Draw client) reply effects q d in
    subst (λ cs. Rows t (Draw client) reply effects (with_row (λ (r : Client). r.serial) cs x.serial x)) (sym same)
    (subst (λ n. Rows t (Draw client) reply effects (with_row (λ (r : Client). r.serial) t.clients n x))
    (sym (drawn_serial effects))
    (old_rows t (Draw client) reply effects (with_row (λ (r : Client). r.serial) t.clients c.serial x)
    (all_weaken (λ d. SomeOf (λ q. core q ≡ core d) (with_row (λ (r : Client). r.serial) t.clients c.serial x))
    (λ d. SomeOf (λ q. F q d) t.clients) (with_row (λ (r : Client). r.serial) t.clients c.serial x)
    (λ d some. changed_row F c x (own effects)
    (λ r off d same. goes_on (Draw client) reply effects r d refl refl (others effects is.drawn r.serial off) same)
    t.clients t.next_client s.clients_rise (row_at t client c at) d some)
    (keeps_same (with_row (λ (r : Client). r.serial) t.clients c.serial x))))) where
      drawn_serial : (es : List Effect) → (with_drawn es (granted_view w c) c).serial ≡ c.serial
      drawn_serial [] = refl
      drawn_serial (f ∷ es) = refl

      own : (es : List Effect) (d : Client) → core (with_drawn es (granted_view w c) c) ≡ core d
          → GoesOn (Draw client) reply es c d
      own [] d same = (
        sym (ap (λ (q : Client). q.serial) same),
        sym (ap (λ (q : Client). q.keys) same)
            ∙ sym (append_nil c.keys),
        sym (ap (λ (q : Client). q.delivered) same) ∙ sym (append_nil c.delivered),
      )
      own (f ∷ es) d same = (
        sym (ap (λ (q : Client). q.serial) same),
        sym (ap (λ (q : Client). q.keys) same)
            ∙ sym (append_nil c.keys),
        sym (ap (λ (q : Client). q.delivered) same),
      )

      off_by : (to n : ℕ) (bytes : List ℕ) → to ≡ c.serial → (n == c.serial) ≡ false
          → (if to == n then bytes else []) ++ [] ≡ []
      off_by to n bytes is off = ap (λ (b : Bool). (if b then bytes else []) ++ [])
          (other_serial to c.serial n (sym is) off)

      others : (es : List Effect) → DrawsWhereNeeded t c es → (n : ℕ) → (n == c.serial) ≡ false → deliveries es n ≡ []
      others [] none n off = refl
      others (Deliver to bytes ∷ []) one n off = off_by to n bytes one.0 off
      others (f ∷ es) other n off = absurd other

pub none_of : (t : Tables) (event : EventValue) (effects : List Effect) → is_draw event ≡ false
    → HasEffects t event effects → (n : ℕ) → deliveries effects n ≡ []
none_of t event effects other is = undelivered t event effects other
    (all_weaken (Fits t event) (IsEffectOf t event) effects (λ f all. all.0) (step_fits t event effects is))

-- ---- the events

-- a refused event reads no keys
none_read : (event : EventValue) (r : Refusal) (n : ℕ) → (keys_read event (Err r) n ≡ [])
    × (is_resize event (Err r) n ≡ false)
none_read (Keys client bytes) r n = (refl, refl)
none_read event r n = (refl, refl)

module _ (t : Tables) (effects : List Effect) (s : AreSound t) (none : (n : ℕ) → deliveries effects n ≡ []) where
  abbrev RowsOf : EventValue → Outcome → Type 0
  RowsOf event o = Rows t event o.reply effects o.tables.clients

  happened : (event : EventValue) (o : Outcome) → outcomes.Happens t event o → RowsOf event o
  happened _ _ (outcomes.failed event vs r why) = kept_rows t event (Err r) effects t.clients
      (λ n. (none_read event r n).0) (λ n. (none_read event r n).1) none (keeps_same t.clients)
  happened _ _ (outcomes.changed event x c is f at) = change_rows t event x c effects is f at s none
  happened _ _ (outcomes.attached user rows columns passes) =
      let c : Client = new_client t user rows columns in
      all_append (Row t (Attach user rows columns) (reply_of 0 t.next_client 0 None) effects) t.clients (c ∷ [])
      (kept_rows t (Attach user rows columns) (reply_of 0 t.next_client 0 None) effects t.clients (λ n. refl)
      (λ n. refl) none (keeps_same t.clients)) (inr (refl, refl, refl), tt)
  happened _ _ (outcomes.detached client c at) = kept_rows t (Detach client) done effects _ (λ n. refl) (λ n. refl) none
      (keeps_filter (λ (d : Client). not (d.serial == client)) t.clients t.clients (keeps_same t.clients))
  happened _ _ (outcomes.keyed client bytes c at) = keys_rows t client bytes c effects at s none
  happened _ _ (outcomes.obeyed user number bytes c d known read passes is) =
      kept_rows t (Command user number bytes) (reply_of 0 0 0 d.lists) effects d.tables.clients (λ n. refl) (λ n. refl)
      none (subst (Either (λ (e : Deed). Keeps t.clients e.tables.clients)) is (keeps t (line_caller t user number) c))
  happened _ _ (outcomes.opened user rows columns keep title passes) =
      kept_rows t (Open user rows columns keep title) (outcomes.made_by (new_window t rows columns keep title)) effects
      t.clients (λ n. refl) (λ n. refl) none (keeps_same t.clients)
  happened _ _ (outcomes.wrote window bytes w at) = kept_rows t (Output window bytes) done effects t.clients (λ n. refl)
      (λ n. refl) none (keeps_same t.clients)
  happened _ _ (outcomes.closed window w at) =
      kept_rows t (Closed window) done effects _ (λ n. refl) (λ n. refl) none
      (without_keeps t.clients (filter (λ (v : Window). v.serial == window) t.windows) t.clients
      (keeps_same t.clients))
  happened _ _ (outcomes.drew client c at) = kept_rows t (Draw client) done effects t.clients (λ n. refl) (λ n. refl)
      none (keeps_same t.clients)

  rows_of : (event : EventValue) → RowsOf event (outcome t event)
  rows_of event = happened event (outcome t event) (outcomes.happens t event)

-- ---- steps

quiet_draw : (t : Tables) (client : ℕ) → (outcome t (Draw client)).tables.clients ≡ t.clients
quiet_draw t client = outcomes.found (λ o. o.tables.clients ≡ t.clients) t (λ c. finished t [] done (changing t))
    (client_at t client) refl (λ c is. refl)

pub step_rows : (t : Tables) (event : EventValue) (effects : List Effect) → AreSound t → HasEffects t event effects
    → Rows t event (outcome t event).reply effects (drawn event effects (outcome t event).tables).clients
step_rows t (Draw client) effects s is =
    let w : Tables = (outcome t (Draw client)).tables in
    subst
    (λ (o : Option Client). Rows t (Draw client) (outcome t (Draw client)).reply effects
    (drawn_on o effects w).clients)
    (sym (ap (λ cs. row_of (λ (c : Client). c.serial) cs client) (quiet_draw t client)))
    (drawn_rows t w client effects (outcome t (Draw client)).reply (client_at t client) (quiet_draw t client) refl s is)
step_rows t event effects s is = rows_of t effects s (none_of t event effects refl is) event
