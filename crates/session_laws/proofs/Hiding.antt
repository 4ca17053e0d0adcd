-- Hidden output leaves cut tables as they were; and what is cut of fewer windows is cut of more.
use Rattle.session_laws.proofs.Vocabulary.{◌≡◌, ℕ, Bool, true, false, not, List, [], ◌∷◌, ◌++◌, Option, Some, None}
use Rattle.session_laws.proofs.Vocabulary.{refl, ap, ◌∙◌, map, filter, if◌then◌else◌, UserId, followed_by, Writing}
use Rattle.session_laws.proofs.Vocabulary.{NoWindow, EventValue, Output, Entry, Tables, Window, window_at, with_window}
use Rattle.session_laws.proofs.Vocabulary.{Outcome, refused, finished, done, outcome, outputs, after, row_serial}
use Rattle.session_laws.proofs.Vocabulary.{is_hidden}
use Rattle.terminal_model.specs.Writing as written
use Rattle.session_laws.proofs.Leaving.{none_left}
use Rattle.session_laws.proofs.Cutting.{put_same, cut_window, cut_client, cut, cut_writing, is_no_output}

-- ---- hidden output

module _ (shown : ℕ → Bool) (seeing : UserId → Bool) where
  unwritten : (ws : List Writing) (bytes : List ℕ)
      → filter is_no_output (ws ++ written.Output bytes ∷ []) ≡ filter is_no_output ws
  unwritten [] bytes = refl
  unwritten (x ∷ ws) bytes = ap (λ ys. if is_no_output x then x ∷ ys else ys) (unwritten ws bytes)

  same_writing : (b : Bool) (ws : List Writing) (bytes : List ℕ) → b ≡ false
      → cut_writing shown seeing b (ws ++ written.Output bytes ∷ []) ≡ cut_writing shown seeing b ws
  same_writing true ws bytes is = absurd (cc (is))
  same_writing false ws bytes is = unwritten ws bytes

  is_false : (b : Bool) → not b ≡ true → b ≡ false
  is_false true is = absurd (cc (is))
  is_false false is = refl

  written_out : (t : Tables) (window : ℕ) (w : Window) (bytes : List ℕ) → window_at t window ≡ Some w
      → shown window ≡ false → cut shown seeing (finished t [] done (outputs t w bytes)).tables ≡ cut shown seeing t
  written_out t window w bytes at unshown =
      let v : Window = record w { writing = w.writing ++ written.Output bytes ∷ [] } in
      let is : w.serial ≡ window = row_serial (λ (x : Window). x.serial) t.windows window w at in
      ap (λ acts. record (cut shown seeing (with_window t v)) { acts = followed_by t.acts acts }) (none_left t.clients)
      ∙ ap (λ ws. record (cut shown seeing t) { windows = ws })
      (put_same (cut_window shown seeing) (λ (x : Window). x.serial) t.windows w.serial w v
      (ap (λ n. Rattle.session_model.specs.Tables.row_of (λ (x : Window). x.serial) t.windows n) is ∙ at)
      (ap (λ ws. record w { writing = ws }) (same_writing (shown w.serial) w.writing bytes (ap shown is ∙ unshown))))

  pub hidden_cut : (t : Tables) (e : Entry) → is_hidden shown e.event ≡ true
      → cut shown seeing (after t e) ≡ cut shown seeing t
  hidden_cut t e hidden = by e.event hidden where
    by : (event : EventValue) → is_hidden shown event ≡ true
        → cut shown seeing (Rattle.session_model.specs.Run.drawn event e.effects (outcome t event).tables) ≡ cut shown
        seeing t
    by (Output window bytes) is = on (window_at t window) refl where
      on : (o : Option Window) → window_at t window ≡ o
          → cut shown seeing
          (elim o as (λ _. Outcome)
          [ None ↦ refused t [] NoWindow | Some w ↦ finished t [] done (outputs t w bytes) ]).tables ≡ cut shown seeing
          t
      on None at = refl
      on (Some w) at = written_out t window w bytes at (is_false (shown window) is)
    by event is = absurd (cc (is))

-- ---- more that is cut

module _ (shown less : ℕ → Bool) (seeing : UserId → Bool)
    (within : (window : ℕ) → less window ≡ true → shown window ≡ true) where
  twice : (ws : List Writing) → filter is_no_output (filter is_no_output ws) ≡ filter is_no_output ws
  twice [] = refl
  twice (x ∷ ws) = on (is_no_output x) refl (twice ws) where
    on : (b : Bool) → is_no_output x ≡ b → filter is_no_output (filter is_no_output ws) ≡ filter is_no_output ws
        → filter is_no_output (if b then x ∷ filter is_no_output ws else filter is_no_output ws) ≡
        (if b then x ∷ filter is_no_output ws else filter is_no_output ws)
    on true is same = ap
        (λ b. if b then x ∷ filter is_no_output (filter is_no_output ws) else filter is_no_output
        (filter is_no_output ws)) is ∙ ap (λ ys. x ∷ ys) same
    on false is same = same

  writing_cut : (a b : Bool) (ws : List Writing) → (a ≡ true → b ≡ true)
      → cut_writing less seeing a (cut_writing shown seeing b ws) ≡ cut_writing less seeing a ws
  writing_cut true true ws in_it = refl
  writing_cut true false ws in_it = let e : false ≡ true = in_it refl in absurd (cc (e))
  writing_cut false true ws in_it = refl
  writing_cut false false ws in_it = twice ws

  both_drawn : {X : Type 0} (b : Bool) (o : Option X)
      → (if b then (if b then o else None) else None) ≡ (if b then o else None)
  both_drawn true o = refl
  both_drawn false o = refl

  both_maps : {A : Type 0} (h k : A → A) (xs : List A) → ((x : A) → h (k x) ≡ h x) → map h (map k xs) ≡ map h xs
  both_maps h k [] same = refl
  both_maps h k (x ∷ xs) same = ap (λ y. y ∷ map h (map k xs)) (same x) ∙ ap (λ ys. h x ∷ ys) (both_maps h k xs same)

  pub cut_more : (t : Tables) → cut less seeing (cut shown seeing t) ≡ cut less seeing t
  cut_more t =
      ap (λ ws. record (cut less seeing (cut shown seeing t)) { windows = ws })
      (both_maps (cut_window less seeing) (cut_window shown seeing) t.windows
      (λ w. ap (λ ws. record w { writing = ws })
      (writing_cut (less w.serial) (shown w.serial) w.writing (within w.serial))))
      ∙ ap (λ cs. record (cut less seeing t) { clients = cs })
      (both_maps (cut_client less seeing) (cut_client shown seeing) t.clients
      (λ c. ap (λ v. record c { delivered = []; drawn = v }) (both_drawn (seeing c.user) c.drawn)))
