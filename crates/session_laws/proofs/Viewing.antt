-- A client is granted the same view of cut tables if each window that it shows readable is left whole.
use Rattle.session_laws.proofs.Vocabulary.{◌≡◌, ℕ, Bool, true, false, List, [], ◌∷◌, Option, Some, None, refl, ap, sym}
use Rattle.session_laws.proofs.Vocabulary.{◌∙◌, map, if◌then◌else◌, ◌&&◌, ◌||◌, list_any, option_map, UserId, Read}
use Rattle.session_laws.proofs.Vocabulary.{items, Shown, Writing, StatusMessage, Window, Client, Tables, window_at}
use Rattle.session_laws.proofs.Vocabulary.{focused, is_window, may_in, open_line, granted_view, part_shown}
use Rattle.session_laws.proofs.Vocabulary.{part_of_window, window_read, message_text, status_text, layout_of}
use Rattle.session_laws.proofs.Vocabulary.{terminal_of, row_serial, itself, is_shown}
use Rattle.acl.specs.declared.act.Object.TheVariants as object
use Rattle.view.specs.Granted as view
use Rattle.session_model.specs.declared.event.StatusMessage.TheVariants as message
use Rattle.session_laws.proofs.Cutting.{cut_window, cut_client, cut, cut_writing, window_cut}
use Rattle.session_laws.proofs.Finding.{windows_text_cut, clients_text_cut}

module _ (shown : ℕ → Bool) (seeing : UserId → Bool) (t : Tables) (c : Client) where
  abbrev f : Window → Window
  f = cut_window shown seeing

  abbrev g : Client → Client
  g = cut_client shown seeing

  abbrev less : Tables → Tables
  less = cut shown seeing

  whole : (b : Bool) (ws : List Writing) → b ≡ true → cut_writing shown seeing b ws ≡ ws
  whole true ws is = refl
  whole false ws is = absurd (cc (is))

  -- ---- parts

  window_same : (back : ℕ) (o : Option Window)
      → ((w : Window) → o ≡ Some w → may_in t c.user Read (object.Window w.serial) ≡ true → shown w.serial ≡ true)
      → part_of_window (less t) c.user back (option_map f o) ≡ part_of_window t c.user back o
  window_same back None whole_where = refl
  window_same back (Some w) whole_where = on (may_in t c.user Read (object.Window w.serial)) (whole_where w refl) where
    on : (b : Bool) → (b ≡ true → shown w.serial ≡ true)
        → (if b then view.read (window_read (f w) back (terminal_of (f w)).screen) else view.unread w.number) ≡
        (if b then view.read (window_read w back (terminal_of w).screen) else view.unread w.number)
    on true stands = ap
        (λ ws. let v : Window = record w { writing = ws } in view.read (window_read v back (terminal_of v).screen))
        (whole (shown w.serial) w.writing (stands refl))
    on false stands = refl

  region_same : (s : Shown)
      →
      ((window : ℕ) → s.window ≡ Some window → may_in t c.user Read (object.Window window) ≡ true → shown window ≡ true)
      → part_shown (less t) c.user s ≡ part_shown t c.user s
  region_same s stands = on s.window stands where
    on : (o : Option ℕ)
        → ((window : ℕ) → o ≡ Some window → may_in t c.user Read (object.Window window) ≡ true → shown window ≡ true)
        → elim o as (λ _. view.Part)
        [ None ↦ view.vacant | Some serial ↦ part_of_window (less t) c.user s.back (window_at (less t) serial) ] ≡
        elim o as (λ _. view.Part)
        [ None ↦ view.vacant | Some serial ↦ part_of_window t c.user s.back (window_at t serial) ]
    on None stands = refl
    on (Some window) stands =
        ap (part_of_window (less t) c.user s.back) (window_cut shown seeing t window)
        ∙ window_same s.back (window_at t window) (λ w at may.
        let is : w.serial ≡ window = row_serial (λ (v : Window). v.serial) t.windows window w at in
        ap shown is ∙ stands window refl (ap (λ n. may_in t c.user Read (object.Window n)) (sym is) ∙ may))

  regions_same : (ss : List Shown)
      → ((window : ℕ)
      → (list_any (λ (s : Shown). is_window window s.window) ss && may_in t c.user Read (object.Window window)) ≡
      true → shown window ≡ true)
      → map (part_shown (less t) c.user) ss ≡ map (part_shown t c.user) ss
  regions_same [] stands = refl
  regions_same (s ∷ ss) stands =
      ap (λ p. p ∷ map (part_shown (less t) c.user) ss) (region_same s (λ window is may.
      stands window
      (ap
      (λ o. (is_window window o || list_any (λ (x : Shown). is_window window x.window) ss) && may_in t c.user Read
      (object.Window window)) is
      ∙ ap (λ b. (b || list_any (λ (x : Shown). is_window window x.window) ss) && may_in t c.user Read
      (object.Window window)) (itself window) ∙ may)))
      ∙ ap (λ ps. part_shown t c.user s ∷ ps)
      (regions_same ss (λ window is. stands window (later (is_window window s.window) _ _ is))) where
        later : (a b d : Bool) → (b && d) ≡ true → ((a || b) && d) ≡ true
        later true b d is = last b d is where
          last : (b d : Bool) → (b && d) ≡ true → d ≡ true
          last true d is = is
          last false d is = absurd (cc (is))
        later false b d is = is

  -- ---- the status line

  message_same : (m : StatusMessage) → message_text (less t) (g c) m ≡ message_text t c m
  message_same message.AllWindows = windows_text_cut shown seeing t c.user (focused c)
  message_same message.AllClients = clients_text_cut shown seeing t
  message_same m = refl

  status_same : status_text (less t) (g c) ≡ status_text t c
  status_same = on (open_line (items c.keys).1) where
    on : (o : Option (List ℕ))
        → elim o as (λ _. List ℕ) [ Some line ↦ 0x3A ∷ line | None ↦ message_text (less t) (g c) c.message ] ≡ elim o as
        (λ _. List ℕ) [ Some line ↦ 0x3A ∷ line | None ↦ message_text t c c.message ]
    on (Some line) = refl
    on None = message_same c.message

  pub view_cut : ((window : ℕ) → is_shown t c window ≡ true → shown window ≡ true)
      → granted_view (less t) (g c) ≡ granted_view t c
  view_cut stands =
      ap (λ parts. view.view_in (layout_of c) parts (status_text (less t) (g c))) (regions_same c.layout.shown stands)
      ∙ ap (λ text. view.view_in (layout_of c) (map (part_shown t c.user) c.layout.shown) text) status_same
