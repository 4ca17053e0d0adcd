-- A client is granted the same view in sessions that are alike, unless its status line lists the clients.
use Rattle.session_alike.proofs.Vocabulary.{◌≡◌, ℕ, List, [], ◌∷◌, Option, Some, None, inl, inr, refl, ap, ◌∙◌, map}
use Rattle.session_alike.proofs.Vocabulary.{◌⊎◌, Read, UserId, Shown, writes_all, BothOrNone, StatusMessage}
use Rattle.session_alike.proofs.Vocabulary.{granted_view, layout_of, message_text, part_of_window, part_shown}
use Rattle.session_alike.proofs.Vocabulary.{status_text, Client, Tables, Window, focused, window_at, terminal_of}
use Rattle.session_alike.proofs.Vocabulary.{Renaming, shown_as, ClientsAlike, TablesAlike, WindowsAlike}
use Rattle.acl.specs.declared.act.Object.TheVariants as object
use Rattle.session_model.specs.declared.event.StatusMessage.TheVariants as message
use Rattle.session_alike.proofs.Finding.{focused_as, may_alike, window_alike}
use Rattle.session_alike.proofs.Listing.{windows_text_alike}

module _ (n : Renaming) (t u : Tables) (a : TablesAlike n t u) where
  screen_alike : (w v : Window) → WindowsAlike n w v → (terminal_of v).screen ≡ (terminal_of w).screen
  unfolding writes_all
  screen_alike w v r = r.terminal.screens []

  window_part : (user : UserId) (back : ℕ) (o p : Option Window) → BothOrNone (WindowsAlike n) o p
      → part_of_window u user back p ≡ part_of_window t user back o
  window_part user back None None m = refl
  window_part user back (Some w) (Some v) r =
      cc (r.serial, may_alike n t u a user Read (object.Window w.serial), r.number, r.title, screen_alike w v r)
  window_part user back o p m = absurd m

  part_alike : (user : UserId) (s : Shown) → part_shown u user (shown_as n s) ≡ part_shown t user s
  part_alike user s = on s.window where
    on : (o : Option ℕ)
        → part_shown u user (shown_as n (record s { window = o })) ≡ part_shown t user (record s { window = o })
    on None = refl
    on (Some w) = window_part user s.back (window_at t w) (window_at u (n.window w)) (window_alike n t u a w)

  parts_alike : (user : UserId) (ss : List Shown)
      → map (part_shown u user) (map (shown_as n) ss) ≡ map (part_shown t user) ss
  parts_alike user [] = refl
  parts_alike user (s ∷ ss) = ap (λ x. x ∷ map (part_shown u user) (map (shown_as n) ss)) (part_alike user s)
      ∙ ap (λ xs. part_shown t user s ∷ xs) (parts_alike user ss)

  module _ (c d : Client) (r : ClientsAlike n c d) where
    page_alike : layout_of d ≡ layout_of c
    page_alike = cc (r.layout, r.rows, r.columns)

    shown_alike : map (part_shown u d.user) d.layout.shown ≡ map (part_shown t c.user) c.layout.shown
    shown_alike = cc (r.layout, r.user, parts_alike c.user c.layout.shown)

    message_alike : (m : StatusMessage) → (m ≡ message.AllClients) ⊎ (message_text u d m ≡ message_text t c m)
    message_alike message.Silence = inr refl
    message_alike (message.Text bytes) = inr refl
    message_alike message.AllClients = inl refl
    message_alike message.AllWindows =
        inr (cc (r.user, focused_as n c d r.layout, windows_text_alike n t u a c.user (focused c)))

    status_alike : message_text u d d.message ≡ message_text t c c.message → status_text u d ≡ status_text t c
    status_alike same = cc (r.keys, same)

    pub view_alike : (c.message ≡ message.AllClients) ⊎ (granted_view u d ≡ granted_view t c)
    view_alike = on (message_alike c.message) where
      on : (c.message ≡ message.AllClients) ⊎ (message_text u d c.message ≡ message_text t c c.message)
          → (c.message ≡ message.AllClients) ⊎ (granted_view u d ≡ granted_view t c)
      on (inl all) = inl all
      on (inr same) = inr (cc (page_alike, shown_alike, status_alike (ap (message_text u d) r.message ∙ same)))
