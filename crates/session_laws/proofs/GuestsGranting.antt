-- Tables of the same windows and rights grant the same views, but for the list of clients.
use Rattle.session_laws.proofs.Vocabulary.{◌≡◌, ℕ, false, List, [], ◌∷◌, ◌++◌, Option, Some, None, refl, ap, ◌∙◌, map}
use Rattle.session_laws.proofs.Vocabulary.{if◌then◌else◌, codes, decimal, UserId, Bit, Read, Object, items, Shown}
use Rattle.session_laws.proofs.Vocabulary.{StatusMessage, Window, Client, Tables, row_of, focused, is_window, may_in}
use Rattle.session_laws.proofs.Vocabulary.{open_line, terminal_of, window_item, in_order, separated, granted_view}
use Rattle.session_laws.proofs.Vocabulary.{part_shown, part_of_window, window_read, message_text, status_text}
use Rattle.session_laws.proofs.Vocabulary.{layout_of, lists_clients}
use Rattle.acl.specs.declared.act.Object.TheVariants as object
use Rattle.view.specs.Granted as view
use Rattle.session_model.specs.declared.event.StatusMessage.TheVariants as message

module _ (t u : Tables) (windows : u.windows ≡ t.windows)
    (rights : (v : UserId) (bit : Bit) (o : Object) → may_in u v bit o ≡ may_in t v bit o) where
  all_same : {A B : Type 0} (p q : A → B) (xs : List A) → ((x : A) → p x ≡ q x) → map p xs ≡ map q xs
  all_same p q [] same = refl
  all_same p q (x ∷ xs) same = ap (λ y. y ∷ map p xs) (same x) ∙ ap (λ ys. q x ∷ ys) (all_same p q xs same)

  window_same : (v : UserId) (back : ℕ) (o : Option Window) → part_of_window u v back o ≡ part_of_window t v back o
  window_same v back None = refl
  window_same v back (Some w) = ap
      (λ b. if b then view.read (window_read w back (terminal_of w).screen) else view.unread w.number)
      (rights v Read (object.Window w.serial))

  region_same : (v : UserId) (s : Shown) → part_shown u v s ≡ part_shown t v s
  region_same v s = on s.window where
    on : (o : Option ℕ)
        → elim o as (λ _. view.Part)
        [ None ↦ view.vacant | Some n ↦ part_of_window u v s.back (row_of (λ (w : Window). w.serial) u.windows n) ]
        ≡ elim o as (λ _. view.Part)
        [ None ↦ view.vacant | Some n ↦ part_of_window t v s.back (row_of (λ (w : Window). w.serial) t.windows n) ]
    on None = refl
    on (Some n) = window_same v s.back _
        ∙ ap (λ ws. part_of_window t v s.back (row_of (λ (w : Window). w.serial) ws n)) windows

  item_same : (v : UserId) (focus : Option ℕ) (w : Window) → window_item u v focus w ≡ window_item t v focus w
  item_same v focus w = ap
      (λ b. decimal w.number ++
      ((if is_window w.serial focus then codes "* " else codes " ") ++ (if b then w.title else codes "?")))
      (rights v Read (object.Window w.serial))

  message_same : (c : Client) (m : StatusMessage) → lists_clients m ≡ false → message_text u c m ≡ message_text t c m
  message_same c message.AllWindows plain =
      ap (separated (codes "  "))
      (all_same (window_item u c.user (focused c)) (window_item t c.user (focused c)) (in_order u.windows)
      (item_same c.user (focused c))
      ∙ ap (λ ws. map (window_item t c.user (focused c)) (in_order ws)) windows)
  message_same c message.AllClients plain = absurd (cc (plain))
  message_same c m plain = refl

  status_same : (c : Client) → lists_clients c.message ≡ false → status_text u c ≡ status_text t c
  status_same c plain = on (open_line (items c.keys).1) where
    on : (o : Option (List ℕ))
        → elim o as (λ _. List ℕ) [ Some line ↦ 0x3A ∷ line | None ↦ message_text u c c.message ] ≡ elim o as
        (λ _. List ℕ) [ Some line ↦ 0x3A ∷ line | None ↦ message_text t c c.message ]
    on (Some line) = refl
    on None = message_same c c.message plain

  pub same_granted : (c : Client) → lists_clients c.message ≡ false → granted_view u c ≡ granted_view t c
  same_granted c plain =
      ap (λ parts. view.view_in (layout_of c) parts (status_text u c))
      (all_same (part_shown u c.user) (part_shown t c.user) c.layout.shown (region_same c.user))
      ∙ ap (λ text. view.view_in (layout_of c) (map (part_shown t c.user) c.layout.shown) text) (status_same c plain)
