-- What sessions that are alike answer of rights, windows and clients.
use Rattle.session_alike.proofs.Vocabulary.{◌≡◌, ℕ, not, List, Option, Some, None, refl, ap, sym, ◌∙◌, subst, filter}
use Rattle.session_alike.proofs.Vocabulary.{◌==◌, slice_get, option_and_then, option_map, Object, Bit, UserId}
use Rattle.session_alike.proofs.Vocabulary.{same_user, Shown, Arrangement, BothOrNone, Matched, number_of, holder_in}
use Rattle.session_alike.proofs.Vocabulary.{leaders_in, may_in, Client, Tables, Window, client_at, focused}
use Rattle.session_alike.proofs.Vocabulary.{focused_window, is_in_focus, is_known, is_window, known_users, others}
use Rattle.session_alike.proofs.Vocabulary.{shows, window_at, Renaming, layout_as, object_as, shown_as, ClientsAlike}
use Rattle.session_alike.proofs.Vocabulary.{TablesAlike, WindowsAlike, any_both, read_or, row_both, then_both}
use Rattle.session_alike.proofs.Vocabulary.{slice_get-map}
use Rattle.session_alike.proofs.Histories.{client_test, may_as, window_test}

module _ (n : Renaming) where
  pub is_window_as : (w : ℕ) (o : Option ℕ) → is_window (n.window w) (option_map n.window o) ≡ is_window w o
  is_window_as w None = refl
  is_window_as w (Some v) = window_test n v w

  pub window_serials : (w v : Window) → WindowsAlike n w v → (s : ℕ) → (v.serial == n.window s) ≡ (w.serial == s)
  window_serials w v r s = ap (λ x. x == n.window s) r.serial ∙ window_test n w.serial s

  pub client_serials : (c d : Client) → ClientsAlike n c d → (s : ℕ) → (d.serial == n.client s) ≡ (c.serial == s)
  client_serials c d r s = ap (λ x. x == n.client s) r.serial ∙ client_test n c.serial s

  -- ---- the window in focus

  window_shown : (o : Option Shown)
      → option_and_then (λ (s : Shown). s.window) (option_map (shown_as n) o) ≡ option_map n.window
      (option_and_then (λ (s : Shown). s.window) o)
  window_shown None = refl
  window_shown (Some s) = refl

  pub focused_as : (c d : Client) → d.layout ≡ layout_as n c.layout → focused d ≡ option_map n.window (focused c)
  focused_as c d is =
      ap (λ (l : Arrangement). option_and_then (λ (s : Shown). s.window) (slice_get l.shown l.focus)) is
      ∙ ap (option_and_then (λ (s : Shown). s.window)) (slice_get-map (shown_as n) c.layout.shown c.layout.focus)
      ∙ window_shown (slice_get c.layout.shown c.layout.focus)

  shows_as : (user : UserId) (w : ℕ) (c d : Client) → ClientsAlike n c d → shows user (n.window w) d ≡ shows user w c
  shows_as user w c d r = cc (r.user, focused_as c d r.layout, is_window_as w (focused c))

  pub in_focus_as : (cs ds : List Client) → Matched (ClientsAlike n) cs ds → (user : UserId) (w : ℕ)
      → is_in_focus ds user (n.window w) ≡ is_in_focus cs user w
  in_focus_as cs ds m user w =
      any_both (ClientsAlike n) (shows user w) (shows user (n.window w)) (shows_as user w) cs ds m

  -- ---- tables
  module _ (t u : Tables) (a : TablesAlike n t u) where
    pub may_alike : (v : UserId) (bit : Bit) (o : Object) → may_in u v bit (object_as n o) ≡ may_in t v bit o
    may_alike v bit o = cc (a.edition, a.owner, may_as n t.edition t.owner t.acts u.acts a.acts v bit o)

    pub holder_alike : (w : ℕ) → holder_in u (n.window w) ≡ holder_in t w
    holder_alike w = cc (a.edition, a.owner, a.acts.holders w)

    pub leaders_alike : (v : UserId) → leaders_in u v ≡ leaders_in t v
    leaders_alike v = cc (a.edition, a.acts.leaders v)

    pub users_alike : known_users u ≡ known_users t
    users_alike = cc (a.owner, a.acts.users)

    pub known_alike : (v : UserId) → is_known u v ≡ is_known t v
    known_alike v = cc (a.owner, a.acts.known v)

    pub others_alike : others u ≡ others t
    others_alike =
        ap (λ (x : UserId). filter (λ v. not (same_user x v)) (known_users u)) a.owner
        ∙ ap (filter (λ v. not (same_user t.owner v))) users_alike

    pub window_alike : (s : ℕ) → BothOrNone (WindowsAlike n) (window_at t s) (window_at u (n.window s))
    window_alike s =
        row_both (WindowsAlike n) (λ (w : Window). w.serial) (λ (w : Window). w.serial) s (n.window s)
        (λ w v r. window_serials w v r s) t.windows u.windows a.windows

    pub client_alike : (s : ℕ) → BothOrNone (ClientsAlike n) (client_at t s) (client_at u (n.client s))
    client_alike s =
        row_both (ClientsAlike n) (λ (c : Client). c.serial) (λ (c : Client). c.serial) s (n.client s)
        (λ c d r. client_serials c d r s) t.clients u.clients a.clients

    pub window_in : (o : Option ℕ)
        → BothOrNone (WindowsAlike n) (option_and_then (window_at t) o)
        (option_and_then (window_at u) (option_map n.window o))
    window_in o = then_both (WindowsAlike n) (window_at t) (window_at u) n.window o window_alike

    pub focus_alike : (c d : Client) → ClientsAlike n c d
        → BothOrNone (WindowsAlike n) (focused_window t c) (focused_window u d)
    focus_alike c d r =
        subst (λ o. BothOrNone (WindowsAlike n) (focused_window t c) (option_and_then (window_at u) o))
        (sym (focused_as c d r.layout)) (window_in (focused c))

    pub number_alike : (s : ℕ) → number_of u (n.window s) ≡ number_of t s
    number_alike s = read_or (WindowsAlike n) (λ (w : Window). w.number) (λ (w : Window). w.number) 0 (window_at t s)
        (window_at u (n.window s)) (window_alike s) (λ w v r. r.number)
