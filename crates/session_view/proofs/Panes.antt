-- What the code's regions show a user is what the definitions' regions show.
use Rattle.session_view.proofs.Vocabulary.{◌≡◌, ℕ, ◌+◌, List, [], ◌∷◌, Some, None, refl, ap, sym, ◌∙◌, subst, map, take}
use Rattle.session_view.proofs.Vocabulary.{length, take_more, take_all, map-append, UserId, Read, Shown, Tables}
use Rattle.session_view.proofs.Vocabulary.{window_at, may_in, window_read, part_of_window, part_shown, Matched}
use Rattle.session_view.proofs.Vocabulary.{row_there, serial_is, if_true, WindowStands, AreFit, Part, ShowsPart}
use Rattle.std.proofs.Common.{zero, suc, ◌<◌, ◌≤◌, true, false, ◌++◌, Option, get_or, arith, add-one, is_some}
use Rattle.acl.specs.declared.act.Object.TheVariants as object
use Rattle.acl.specs.History.{there}
use Rattle.cells.specs.Line.{IsPaired}
use Rattle.terminal_model.specs.Drawable.{IsDrawableLine}
use Rattle.view.specs.declared.view.Pane.{Pane}
use Rattle.view.specs.Granted as view
use Rattle.session_model.specs.Tables as model
use Rattle.session_model.specs.Terminals.{terminal_of}
use Rattle.windows_model.proofs.Matching.{push_match, length_match}
use Rattle.windows_model.proofs.Serials.{by_if, if_false}
use Rattle.windows.specs.declared.window.Window.{Window}
use Rattle.windows.specs.Standing.{StandFor}
use Rattle.session_view.proofs.Lines.{lines_moved, at_each}

-- what a region shows of this window
abbrev part_in_focus : Tables → UserId → ℕ → Option ℕ → view.Part
part_in_focus t user back None = view.vacant
part_in_focus t user back (Some serial) = part_of_window t user back (window_at t serial)

-- ---- one region

module _ (t : Tables) (user : UserId) (shown : Shown) (serial : ℕ) (m : model.Window)
    (at : shown.window ≡ Some serial) (here : window_at t serial ≡ Some m) where
  own : m.serial ≡ serial
  own = serial_is (λ (w : model.Window). w.serial) t.windows serial m here

  window_part : part_shown t user shown ≡ part_of_window t user shown.back (Some m)
  window_part = ap (part_in_focus t user shown.back) at ∙ ap (part_of_window t user shown.back) here

  -- a window that the user may not read, and one that the user may read
  pub hidden : may_in t user Read (object.Window serial) ≡ false → part_shown t user shown ≡ view.unread m.number
  hidden denied =
      window_part
      ∙ if_false (may_in t user Read (object.Window m.serial)) _ _
      (ap (λ n. may_in t user Read (object.Window n)) own ∙ denied)

  pub readable : may_in t user Read (object.Window serial) ≡ true
      → part_shown t user shown ≡ view.read (window_read m shown.back (terminal_of m).screen)
  readable granted =
      window_part
      ∙ if_true (may_in t user Read (object.Window m.serial)) _ _
      (ap (λ n. may_in t user Read (object.Window n)) own ∙ granted)

  -- it is there by the acts
  pub there_by_acts : AreFit t → there t.acts (object.Window serial) ≡ true
  there_by_acts fit = fit.agree.open_is serial ∙ ap is_some here

-- ---- all of them

-- one more region
pub part_more : (R : Shown → Part → Type 0) (shown : List Shown) (i : ℕ) (s d : Shown) (parts new : List Part)
    (part : Part) → i < length shown → s ≡ get_or shown i d → Matched R (take i shown) parts
    → R s part → new ≡ parts ++ part ∷ [] → Matched R (take (i + 1) shown) new
part_more R shown i s d parts new part inside is before here now =
    subst (λ (ps : List Part). Matched R (take (i + 1) shown) ps) (sym now)
    (subst (λ (ss : List Shown). Matched R ss (parts ++ part ∷ []))
    (ap (λ (x : Shown). take i shown ++ x ∷ []) is ∙ sym (take_more shown i d inside))
    (push_match R (take i shown) s parts part before here))

-- the region of a part
region_at : (R : Shown → Part → Type 0) (shown : List Shown) (parts : List Part) (i : ℕ) (p : Part)
    → Matched R shown parts → i < length parts → p ≡ get_or parts i p
    → (s : Shown) × (take (suc i) shown ≡ take i shown ++ s ∷ []) × R s p
region_at R [] [] i p m inside is = absurd (omega (arith, inside))
region_at R (s ∷ shown) [] i p m inside is = absurd m
region_at R [] (q ∷ parts) i p m inside is = absurd m
region_at R (s ∷ shown) (q ∷ parts) zero p m inside is = (s, refl, subst (λ (x : Part). R s x) (sym is) m.0)
region_at R (s ∷ shown) (q ∷ parts) (suc i) p m inside is =
    let rest = region_at R shown parts i p m.1 (omega (arith, inside)) is in
    (rest.0, ap (λ (ss : List Shown). s ∷ ss) rest.1, rest.2)

-- one more pane
pub pane_more : (t : Tables) (user : UserId) (shown : List Shown) (parts : List Part) (i : ℕ) (p : Part)
    (panes new : List Pane) (pane : Pane) → Matched (ShowsPart t user) shown parts → i < length parts
    → p ≡ get_or parts i p
    → map view.part_of panes ≡ map (part_shown t user) (take i shown)
    → ((s : Shown) → ShowsPart t user s p → view.part_of pane ≡ part_shown t user s)
    → new ≡ panes ++ pane ∷ []
    → map view.part_of new ≡ map (part_shown t user) (take (i + 1) shown)
pane_more t user shown parts i p panes new pane m inside is before here now =
    let region = region_at (ShowsPart t user) shown parts i p m inside is in
    ap (map view.part_of) now
    ∙ (map-append view.part_of panes (pane ∷ [])
    ∙ (ap (λ (ps : List view.Part). ps ++ view.part_of pane ∷ []) before
    ∙ (ap (λ (q : view.Part). map (part_shown t user) (take i shown) ++ q ∷ []) (here region.0 region.2)
    ∙ (sym (map-append (part_shown t user) (take i shown) (region.0 ∷ []))
    ∙ (ap (map (part_shown t user)) (sym region.1)
    ∙ rw add-one refl)))))

pub panes_all : (t : Tables) (user : UserId) (shown : List Shown) (parts : List Part) (i : ℕ)
    (panes : List Pane) → Matched (ShowsPart t user) shown parts → length parts ≤ i
    → map view.part_of panes ≡ map (part_shown t user) (take i shown)
    → map view.part_of panes ≡ map (part_shown t user) shown
panes_all t user shown parts i panes m past is =
    let all : length shown ≤ i = omega (arith, past, length_match (ShowsPart t user) shown parts m) in
    is ∙ ap (map (part_shown t user)) (take_all i shown all)

-- ---- lines that can be shown

abbrev pub IsWell : view.Part → Type 0
IsWell p = view.HasPairedLines p × view.HasDrawableLines p

window_well : (m : model.Window) (w : Window) (back : ℕ) → WindowStands m w
    → IsWell (view.read (window_read m back (terminal_of m).screen))
window_well m w back st = (
  lines_moved IsPaired back (terminal_of m).screen st.stands.terminal.sound.sized.paired
      st.stands.terminal.sound.kept.paired,
  lines_moved IsDrawableLine back (terminal_of m).screen st.drawable.page st.drawable.kept,
)

-- what a region shows of windows that stand for screens
pub part_well : (t : Tables) (ws : List Window) → StandFor t.windows ws → (user : UserId) (s : Shown)
    → IsWell (part_shown t user s)
part_well t ws are user s = by_window s.window where
  by_row : (serial : ℕ) (o : Option model.Window) → window_at t serial ≡ o
      → IsWell (part_of_window t user s.back o)
  by_row serial None at = (tt, tt)
  by_row serial (Some m) at =
      let row = row_there WindowStands (λ (v : model.Window). v.serial) (λ (v : Window). v.serial)
      (λ v w st. st.serial_is) t.windows ws serial m are at in
      by_if IsWell (may_in t user Read (object.Window m.serial)) _ _ (window_well m row.0 s.back row.2) (tt, tt)

  by_window : (o : Option ℕ) → IsWell (part_in_focus t user s.back o)
  by_window None = (tt, tt)
  by_window (Some serial) = by_row serial (window_at t serial) refl

pub parts_well : (t : Tables) (ws : List Window) → StandFor t.windows ws → (user : UserId)
    (shown : List Shown) (n : ℕ) → IsWell (view.part_at (map (part_shown t user) shown) n)
parts_well t ws are user shown n =
    at_each IsWell (part_shown t user) view.vacant (part_well t ws are user) (tt, tt) shown n
