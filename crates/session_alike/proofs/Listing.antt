-- Texts of sessions that are alike say the same, but for the serials of clients.
use Rattle.session_alike.proofs.Vocabulary.{◌≡◌, ℕ, Bool, List, [], ◌∷◌, ◌++◌, Option, Some, None, refl, ap, ◌∙◌, map}
use Rattle.session_alike.proofs.Vocabulary.{if◌then◌else◌, codes, decimal, option_map, name_of, Read, UserId, Refusal}
use Rattle.session_alike.proofs.Vocabulary.{Client, Tables, Window, focused, window_at, client_item, clients_text}
use Rattle.session_alike.proofs.Vocabulary.{denied_text, focus_text, in_order, letter, missing_text, separated, text_of}
use Rattle.session_alike.proofs.Vocabulary.{window_item, windows_text, Renaming, denied_as, refusal_as, ClientsAlike}
use Rattle.session_alike.proofs.Vocabulary.{ListsAlike, TablesAlike, WindowsAlike, item_as, line_of, cases_both}
use Rattle.session_alike.proofs.Vocabulary.{made_both, mapped_match}
use Rattle.acl.specs.declared.act.Object.TheVariants as object
use Rattle.session_model.specs.declared.refusal.Denied.TheVariants as denied
use Rattle.session_model.specs.declared.refusal.Refusal.TheVariants as refusal
use Rattle.session_alike.proofs.Finding.{focused_as, is_window_as, may_alike, window_alike}
use Rattle.session_alike.proofs.Naming.{order_both}
use Rattle.session_model.specs.declared.refusal.Denied.{Denied}

abbrev window_line : ℕ → Bool → Bool → List ℕ → List ℕ
window_line number is_focus is_read title =
    decimal number ++ ((if is_focus then codes "* " else codes " ") ++ (if is_read then title else codes "?"))

abbrev rest_of : Tables → Client → List ℕ
rest_of t c = name_of c.user ++ (codes " " ++ focus_text t (focused c))

abbrev item_of : Tables → Client → ℕ × List ℕ
item_of t c = (c.serial, rest_of t c)

map_twice : {A B C : Type 0} (f : A → B) (g : B → C) (xs : List A) → map (λ x. g (f x)) xs ≡ map g (map f xs)
map_twice f g [] = refl
map_twice f g (x ∷ xs) = ap (λ ys. g (f x) ∷ ys) (map_twice f g xs)

module _ (n : Renaming) where
  -- ---- refusals

  denied_same : (d : Denied) → denied_text (denied_as n d) ≡ denied_text d
  denied_same (denied.Window w number) = refl
  denied_same (denied.Command c) = refl

  pub text_same : (r : Refusal) → text_of (refusal_as n r) ≡ text_of r
  text_same (refusal.EntryDenied d) =
      ap (λ x. codes "denied: " ++ (letter d.bit ++ (codes " on " ++ (x
      ++ (codes ": entry " ++ (missing_text d.user d.bit ++ Rattle.std.specs.List.flat_map
      (Rattle.session_model.specs.Texts.leader_text d.bit) d.leaders)))))) (denied_same d.on)
  text_same (refusal.LockDenied d) = refl
  text_same _ = refl

  module _ (t u : Tables) (a : TablesAlike n t u) where
    -- ---- windows

    line_alike : (user : UserId) (focus : Option ℕ) (w v : Window) → WindowsAlike n w v
        → window_item u user (option_map n.window focus) v ≡ window_item t user focus w
    line_alike user focus w v r =
        let read = may_alike n t u a user Read (object.Window w.serial) in
        cc (r.number, r.serial, is_window_as n w.serial focus, read, r.title)

    pub windows_text_alike : (user : UserId) (focus : Option ℕ)
        → windows_text u user (option_map n.window focus) ≡ windows_text t user focus
    windows_text_alike user focus =
        ap (separated (codes "  "))
        (mapped_match (WindowsAlike n) (window_item t user focus) (window_item u user (option_map n.window focus))
        (line_alike user focus) (in_order t.windows) (in_order u.windows)
        (order_both n t.windows u.windows a.windows))

    -- ---- clients

    focus_text_alike : (o : Option ℕ) → focus_text u (option_map n.window o) ≡ focus_text t o
    focus_text_alike None = refl
    focus_text_alike (Some s) = cases_both (λ x y. y ≡ x) (window_at t s) (window_at u (n.window s))
        (window_alike n t u a s) refl (λ w v r. ap decimal r.number)

    client_line : (c d : Client) → ClientsAlike n c d → client_item u d ≡ line_of (item_as n (item_of t c))
    client_line c d r = cc (r.serial, r.user, focused_as n c d r.layout, focus_text_alike (focused c))

    pub clients_text_alike : ListsAlike n (clients_text t) (clients_text u)
    clients_text_alike = record {
      items = map (item_of t) t.clients;
      this = ap (separated (codes "  ")) (map_twice (item_of t) line_of t.clients);
      other = ap (separated (codes "  "))
          (made_both (ClientsAlike n) (λ item. line_of (item_as n item)) (item_of t) (client_item u) t.clients
          u.clients client_line a.clients
          ∙ map_twice (item_as n) line_of (map (item_of t) t.clients));
    }
