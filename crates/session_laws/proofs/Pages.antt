-- A page depends on nothing of a window that may not be read, except the window's number.
use Rattle.session_laws.proofs.Vocabulary.{◌≡◌, ℕ, Bool, true, false, List, [], ◌∷◌, ◌++◌, Option, Some, None, refl, ap}
use Rattle.session_laws.proofs.Vocabulary.{sym, ◌∙◌, map, if◌then◌else◌, ◌==◌, nat_lt, option_map, UserId, Read, items}
use Rattle.session_laws.proofs.Vocabulary.{Shown, StatusMessage, Window, Client, Tables, row_of, focused, is_window}
use Rattle.session_laws.proofs.Vocabulary.{may_in, open_line, granted_view, part_shown, part_of_window, window_read}
use Rattle.session_laws.proofs.Vocabulary.{message_text, status_text, layout_of, terminal_of, window_item, in_order}
use Rattle.session_laws.proofs.Vocabulary.{by_number, separated, client_item, focus_text, number_text, codes, decimal}
use Rattle.session_laws.proofs.Vocabulary.{seen_if, seen_by}
use Rattle.acl.specs.declared.act.Object.TheVariants as object
use Rattle.view.specs.Granted as view
use Rattle.session_model.specs.declared.event.StatusMessage.TheVariants as message
use Rattle.acl.specs.Names.{name_of}

serial_seen : (b : Bool) (w : Window) → (seen_if b w).serial ≡ w.serial
serial_seen true w = refl
serial_seen false w = refl

number_seen : (b : Bool) (w : Window) → (seen_if b w).number ≡ w.number
number_seen true w = refl
number_seen false w = refl

map_all : {A B : Type 0} (f g : A → B) (xs : List A) → ((x : A) → f x ≡ g x) → map f xs ≡ map g xs
map_all f g [] same = refl
map_all f g (x ∷ xs) same = ap (λ y. y ∷ map f xs) (same x) ∙ ap (λ ys. g x ∷ ys) (map_all f g xs same)

map_twice : {A B C : Type 0} (f : B → C) (g : A → B) (xs : List A) → map f (map g xs) ≡ map (λ x. f (g x)) xs
map_twice f g [] = refl
map_twice f g (x ∷ xs) = ap (λ ys. f (g x) ∷ ys) (map_twice f g xs)

module _ (t : Tables) (user : UserId) where
  abbrev seen : Window → Window
  seen = seen_by t user

  abbrev reads : Window → Bool
  reads w = may_in t user Read (object.Window w.serial)

  -- ---- rows

  row_seen : (ws : List Window) (s : ℕ)
      → row_of (λ (w : Window). w.serial) (map seen ws) s ≡ option_map seen (row_of (λ (w : Window). w.serial) ws s)
  row_seen [] s = refl
  row_seen (w ∷ ws) s =
      ap (λ n. if n == s then Some (seen w) else row_of (λ (v : Window). v.serial) (map seen ws) s)
      (serial_seen (reads w) w) ∙ on (w.serial == s) (row_seen ws s) where
        on : (b : Bool)
            → row_of (λ (v : Window). v.serial) (map seen ws) s ≡ option_map seen
            (row_of (λ (v : Window). v.serial) ws s)
            → (if b then Some (seen w) else row_of (λ (v : Window). v.serial) (map seen ws) s) ≡ option_map seen
            (if b then Some w else row_of (λ (v : Window). v.serial) ws s)
        on true same = refl
        on false same = same

  -- ---- parts

  part_seen : (back : ℕ) (o : Option Window)
      → part_of_window t user back (option_map seen o) ≡ part_of_window t user back o
  part_seen back None = refl
  part_seen back (Some w) = on (reads w) refl where
    on : (b : Bool) → reads w ≡ b
        → part_of_window t user back (Some (seen_if b w)) ≡
        (if reads w then view.read (window_read w back (terminal_of w).screen) else view.unread w.number)
    on true is = refl
    on false is =
        ap (λ b. if b then view.read (window_read (seen_if false w) back (terminal_of (seen_if false w)).screen) else
        view.unread w.number) is
        ∙ sym (ap (λ b. if b then view.read (window_read w back (terminal_of w).screen) else view.unread w.number) is)

  -- ---- lists

  item_seen : (focus : Option ℕ) (w : Window) → window_item t user focus (seen w) ≡ window_item t user focus w
  item_seen focus w = on (reads w) refl where
    on : (b : Bool) → reads w ≡ b → window_item t user focus (seen_if b w) ≡ window_item t user focus w
    on true is = refl
    on false is =
        ap (λ b. decimal w.number ++
        ((if is_window w.serial focus then codes "* " else codes " ") ++ (if b then [] else codes "?"))) is
        ∙ sym
        (ap
        (λ b. decimal w.number ++
        ((if is_window w.serial focus then codes "* " else codes " ") ++ (if b then w.title else codes "?"))) is)

  placed_seen : (w : Window) (ws : List Window) → map seen (by_number w ws) ≡ by_number (seen w) (map seen ws)
  placed_seen w [] = refl
  placed_seen w (v ∷ ws) =
      on (nat_lt w.number v.number) (placed_seen w ws)
      ∙ sym
      (ap
      (λ n. if nat_lt n (seen v).number then seen w ∷ seen v ∷ map seen ws else seen v ∷ by_number (seen w)
      (map seen ws)) (number_seen (reads w) w)
      ∙ ap (λ n. if nat_lt w.number n then seen w ∷ seen v ∷ map seen ws else seen v ∷ by_number (seen w) (map seen ws))
      (number_seen (reads v) v)) where
        on : (b : Bool) → map seen (by_number w ws) ≡ by_number (seen w) (map seen ws)
            → map seen (if b then w ∷ v ∷ ws else v ∷ by_number w ws) ≡
            (if b then seen w ∷ seen v ∷ map seen ws else seen v ∷ by_number (seen w) (map seen ws))
        on true same = refl
        on false same = ap (λ xs. seen v ∷ xs) same

  order_seen : (ws : List Window) → map seen (in_order ws) ≡ in_order (map seen ws)
  order_seen [] = refl
  order_seen (w ∷ ws) = placed_seen w (in_order ws) ∙ ap (by_number (seen w)) (order_seen ws)

  number_text_seen : (o : Option Window) → number_text (option_map seen o) ≡ number_text o
  number_text_seen None = refl
  number_text_seen (Some w) = ap decimal (number_seen (reads w) w)

  items_seen : (focus : Option ℕ) (ws : List Window)
      → map (window_item t user focus) (in_order (map seen ws)) ≡ map (window_item t user focus) (in_order ws)
  items_seen focus ws =
      ap (map (window_item t user focus)) (sym (order_seen ws))
      ∙ map_twice (window_item t user focus) seen (in_order ws)
      ∙ map_all (λ w. window_item t user focus (seen w)) (window_item t user focus) (in_order ws) (item_seen focus)

  -- ---- two lists of windows

  module _ (us ws : List Window) (same : map seen us ≡ map seen ws) where
    rows_same : (s : ℕ)
        → option_map seen (row_of (λ (w : Window). w.serial) us s) ≡ option_map seen
        (row_of (λ (w : Window). w.serial) ws s)
    rows_same s = sym (row_seen us s) ∙ ap (λ vs. row_of (λ (w : Window). w.serial) vs s) same ∙ row_seen ws s

    pub part_same : (back s : ℕ)
        → part_of_window t user back (row_of (λ (w : Window). w.serial) us s) ≡ part_of_window t user back
        (row_of (λ (w : Window). w.serial) ws s)
    part_same back s = sym (part_seen back (row_of (λ (w : Window). w.serial) us s))
        ∙ ap (part_of_window t user back) (rows_same s) ∙ part_seen back (row_of (λ (w : Window). w.serial) ws s)

    pub number_same : (s : ℕ)
        → number_text (row_of (λ (w : Window). w.serial) us s) ≡ number_text (row_of (λ (w : Window). w.serial) ws s)
    number_same s = sym (number_text_seen (row_of (λ (w : Window). w.serial) us s)) ∙ ap number_text (rows_same s)
        ∙ number_text_seen (row_of (λ (w : Window). w.serial) ws s)

    pub items_same : (focus : Option ℕ)
        → map (window_item t user focus) (in_order us) ≡ map (window_item t user focus) (in_order ws)
    items_same focus = sym (items_seen focus us) ∙ ap (λ vs. map (window_item t user focus) (in_order vs)) same
        ∙ items_seen focus ws

-- ---- pages

module _ (t : Tables) (c : Client) (windows : List Window)
    (same : map (seen_by t c.user) windows ≡ map (seen_by t c.user) t.windows) where
  abbrev u : Tables
  u = record t { windows = windows }

  shown_same : (s : Shown) → part_shown u c.user s ≡ part_shown t c.user s
  shown_same s = on s.window where
    on : (o : Option ℕ)
        → elim o as (λ _. view.Part) [
          | None ↦ view.vacant
          | Some serial ↦ part_of_window t c.user s.back
              (row_of (λ (w : Window). w.serial) windows serial)
        ]
        ≡ elim o as (λ _. view.Part) [
          | None ↦ view.vacant
          | Some serial ↦ part_of_window t c.user s.back
              (row_of (λ (w : Window). w.serial) t.windows serial)
        ]
    on None = refl
    on (Some serial) = part_same t c.user windows t.windows same s.back serial

  focus_same : (o : Option ℕ) → focus_text u o ≡ focus_text t o
  focus_same None = refl
  focus_same (Some s) = number_same t c.user windows t.windows same s

  client_same : (d : Client) → client_item u d ≡ client_item t d
  client_same d = ap (λ text. decimal d.serial ++ (codes " " ++ (name_of d.user ++ (codes " " ++ text))))
      (focus_same (focused d))

  message_same : (m : StatusMessage) → message_text u c m ≡ message_text t c m
  message_same message.AllWindows = ap (separated (codes "  ")) (items_same t c.user windows t.windows same (focused c))
  message_same message.AllClients = ap (separated (codes "  "))
      (map_all (client_item u) (client_item t) t.clients client_same)
  message_same m = refl

  status_same : status_text u c ≡ status_text t c
  status_same = on (open_line (items c.keys).1) where
    on : (o : Option (List ℕ))
        → elim o as (λ _. List ℕ) [ Some line ↦ 0x3A ∷ line | None ↦ message_text u c c.message ] ≡ elim o as
        (λ _. List ℕ) [ Some line ↦ 0x3A ∷ line | None ↦ message_text t c c.message ]
    on (Some line) = refl
    on None = message_same c.message

  pub page_same : granted_view u c ≡ granted_view t c
  page_same =
      ap (λ parts. view.view_in (layout_of c) parts (status_text u c))
      (map_all (part_shown u c.user) (part_shown t c.user) c.layout.shown shown_same)
      ∙ ap (λ text. view.view_in (layout_of c) (map (part_shown t c.user) c.layout.shown) text) status_same
