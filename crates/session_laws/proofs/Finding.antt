-- Windows, users and objects are found in cut tables as in these, and lists read the same.
use Rattle.session_laws.proofs.Vocabulary.{◌≡◌, ℕ, Bool, true, false, not, List, [], ◌∷◌, ◌++◌, Option, Some, None}
use Rattle.session_laws.proofs.Vocabulary.{refl, ap, ◌∙◌, map, filter, if◌then◌else◌, nat_lt, find, codes, decimal}
use Rattle.session_laws.proofs.Vocabulary.{list_any, range_with_len, option_map, option_or, option_and_then, bytes_eq}
use Rattle.session_laws.proofs.Vocabulary.{UserId, command_named, spelled, Tables, Window, Client, window_at, focused}
use Rattle.session_laws.proofs.Vocabulary.{focused_window, shows, is_in_focus, lower, lowest, higher, highest}
use Rattle.session_laws.proofs.Vocabulary.{with_number, has_number, window_named, window_after, window_before}
use Rattle.session_laws.proofs.Vocabulary.{free_number, every_window, every_command, is_wide, wide_objects}
use Rattle.session_laws.proofs.Vocabulary.{item_objects, objects_of, by_number, in_order, window_item, windows_text}
use Rattle.session_laws.proofs.Vocabulary.{separated, number_text, focus_text, client_item, clients_text, number_of}
use Rattle.acl.specs.declared.act.Object.TheVariants as object
use Rattle.acl.specs.Names.{name_of}
use Rattle.session_laws.proofs.Cutting.{map_all, read_all, filter_cut, any_cut, find_cut, cut_window, cut_client, cut}
use Rattle.session_laws.proofs.Cutting.{window_cut}

pub or_cut : {A B : Type 0} (f : A → B) (o p : Option A)
    → option_or (option_map f o) (option_map f p) ≡ option_map f (option_or o p)
or_cut f None p = refl
or_cut f (Some x) p = refl

pub find_all : (p q : ℕ → Bool) (xs : List ℕ) → ((x : ℕ) → p x ≡ q x) → find p xs ≡ find q xs
find_all p q [] same = refl
find_all p q (x ∷ xs) same =
    ap (λ b. if b then Some x else find p xs) (same x) ∙ ap (λ o. if q x then Some x else o) (find_all p q xs same)

module _ (shown : ℕ → Bool) (seeing : UserId → Bool) where
  abbrev f : Window → Window
  f = cut_window shown seeing

  abbrev g : Client → Client
  g = cut_client shown seeing

  -- ---- windows

  lower_cut : (w : Window) (o : Option Window) → lower (f w) (option_map f o) ≡ option_map f (lower w o)
  lower_cut w None = refl
  lower_cut w (Some v) = on (nat_lt v.number w.number) where
    on : (b : Bool) → (if b then Some (f v) else Some (f w)) ≡ option_map f (if b then Some v else Some w)
    on true = refl
    on false = refl

  pub lowest_cut : (ws : List Window) → lowest (map f ws) ≡ option_map f (lowest ws)
  lowest_cut [] = refl
  lowest_cut (w ∷ ws) = ap (lower (f w)) (lowest_cut ws) ∙ lower_cut w (lowest ws)

  higher_cut : (w : Window) (o : Option Window) → higher (f w) (option_map f o) ≡ option_map f (higher w o)
  higher_cut w None = refl
  higher_cut w (Some v) = on (nat_lt w.number v.number) where
    on : (b : Bool) → (if b then Some (f v) else Some (f w)) ≡ option_map f (if b then Some v else Some w)
    on true = refl
    on false = refl

  pub highest_cut : (ws : List Window) → highest (map f ws) ≡ option_map f (highest ws)
  highest_cut [] = refl
  highest_cut (w ∷ ws) = ap (higher (f w)) (highest_cut ws) ∙ higher_cut w (highest ws)

  pub numbered_cut : (ws : List Window) (n : ℕ) → with_number (map f ws) n ≡ option_map f (with_number ws n)
  numbered_cut ws n = find_cut f (has_number n) (has_number n) ws (λ w. refl)

  numbered_in : (ws : List Window) (o : Option ℕ)
      → option_and_then (with_number (map f ws)) o ≡ option_map f (option_and_then (with_number ws) o)
  numbered_in ws None = refl
  numbered_in ws (Some n) = numbered_cut ws n

  pub given_number_cut : (ws : List Window) (o : Option ℕ)
      → option_and_then (with_number (map f ws)) o ≡ option_map f (option_and_then (with_number ws) o)
  given_number_cut ws o = numbered_in ws o

  lowest_of : (p : Window → Bool) (ws : List Window) → ((w : Window) → p (f w) ≡ p w)
      → lowest (filter p (map f ws)) ≡ option_map f (lowest (filter p ws))
  lowest_of p ws same = ap lowest (filter_cut f p p ws same) ∙ lowest_cut (filter p ws)

  highest_of : (p : Window → Bool) (ws : List Window) → ((w : Window) → p (f w) ≡ p w)
      → highest (filter p (map f ws)) ≡ option_map f (highest (filter p ws))
  highest_of p ws same = ap highest (filter_cut f p p ws same) ∙ highest_cut (filter p ws)

  pub named_cut : (ws : List Window) (word : List ℕ)
      → window_named (map f ws) word ≡ option_map f (window_named ws word)
  named_cut ws word =
      ap (λ o. option_or o (lowest (filter (λ (w : Window). bytes_eq w.title word) (map f ws))))
      (numbered_in ws (spelled word))
      ∙ ap (λ o. option_or (option_map f (option_and_then (with_number ws) (spelled word))) o)
      (lowest_of (λ (w : Window). bytes_eq w.title word) ws (λ w. refl))
      ∙ or_cut f (option_and_then (with_number ws) (spelled word))
      (lowest (filter (λ (w : Window). bytes_eq w.title word) ws))

  pub after_cut : (ws : List Window) (o : Option Window)
      → window_after (map f ws) (option_map f o) ≡ option_map f (window_after ws o)
  after_cut ws None = lowest_cut ws
  after_cut ws (Some w) =
      ap (λ o. option_or o (lowest (map f ws))) (lowest_of (λ (v : Window). nat_lt w.number v.number) ws (λ v. refl))
      ∙ ap (λ o. option_or (option_map f (lowest (filter (λ (v : Window). nat_lt w.number v.number) ws))) o)
      (lowest_cut ws)
      ∙ or_cut f (lowest (filter (λ (v : Window). nat_lt w.number v.number) ws)) (lowest ws)

  pub before_cut : (ws : List Window) (o : Option Window)
      → window_before (map f ws) (option_map f o) ≡ option_map f (window_before ws o)
  before_cut ws None = highest_cut ws
  before_cut ws (Some w) =
      ap (λ o. option_or o (highest (map f ws))) (highest_of (λ (v : Window). nat_lt v.number w.number) ws (λ v. refl))
      ∙ ap (λ o. option_or (option_map f (highest (filter (λ (v : Window). nat_lt v.number w.number) ws))) o)
      (highest_cut ws)
      ∙ or_cut f (highest (filter (λ (v : Window). nat_lt v.number w.number) ws)) (highest ws)

  pub free_cut : (ws : List Window) → free_number (map f ws) ≡ free_number ws
  free_cut ws =
      find_all (λ n. not (list_any (has_number n) (map f ws))) (λ n. not (list_any (has_number n) ws))
      (range_with_len 0 40)
      (λ n. ap not (any_cut f (has_number n) (has_number n) ws (λ w. refl)))

  -- ---- objects

  windows_cut : (t : Tables) → every_window (cut shown seeing t) ≡ every_window t
  windows_cut t = read_all f (λ (w : Window). object.Window w.serial) t.windows (λ w. refl)

  pub every_cut : (t : Tables) → every_window (cut shown seeing t) ++ every_command ≡ every_window t ++ every_command
  every_cut t = ap (λ os. os ++ every_command) (windows_cut t)

  object_cut : (o : Option Window)
      → option_map (λ (w : Window). object.Window w.serial ∷ []) (option_map f o) ≡ option_map
      (λ (w : Window). object.Window w.serial ∷ []) o
  object_cut None = refl
  object_cut (Some w) = refl

  item_cut : (t : Tables) (item : List ℕ) → item_objects (cut shown seeing t) item ≡ item_objects t item
  item_cut t item =
      ap (λ os. if is_wide item then Some
      ((if list_any (Rattle.std.specs.Prelude.nat_eq 0x23) item then os else []) ++
      (if list_any (Rattle.std.specs.Prelude.nat_eq 0x3F) item then every_command else []))
      else option_or (option_map (λ c. object.Command c ∷ []) (command_named item))
      (option_map (λ (w : Window). object.Window w.serial ∷ []) (window_named (map f t.windows) item)))
      (windows_cut t)
      ∙ ap (λ o. if is_wide item then Some (wide_objects t item) else option_or
      (option_map (λ c. object.Command c ∷ []) (command_named item)) o)
      (ap (option_map (λ (w : Window). object.Window w.serial ∷ [])) (named_cut t.windows item)
      ∙ object_cut (window_named t.windows item))

  pub objects_cut : (t : Tables) (items : List (List ℕ)) → objects_of (cut shown seeing t) items ≡ objects_of t items
  objects_cut t [] = refl
  objects_cut t (item ∷ items) =
      ap (λ o. option_and_then (λ objects. option_map (λ more. objects ++ more) (objects_of (cut shown seeing t) items))
      o) (item_cut t item)
      ∙ ap (λ o. option_and_then (λ objects. option_map (λ more. objects ++ more) o) (item_objects t item))
      (objects_cut t items)

  -- ---- lists

  placed_cut : (w : Window) (ws : List Window) → by_number (f w) (map f ws) ≡ map f (by_number w ws)
  placed_cut w [] = refl
  placed_cut w (v ∷ ws) = on (nat_lt w.number v.number) (placed_cut w ws) where
    on : (b : Bool) → by_number (f w) (map f ws) ≡ map f (by_number w ws)
        → (if b then f w ∷ f v ∷ map f ws else f v ∷ by_number (f w) (map f ws)) ≡ map f
        (if b then w ∷ v ∷ ws else v ∷ by_number w ws)
    on true same = refl
    on false same = ap (λ xs. f v ∷ xs) same

  order_cut : (ws : List Window) → in_order (map f ws) ≡ map f (in_order ws)
  order_cut [] = refl
  order_cut (w ∷ ws) = ap (by_number (f w)) (order_cut ws) ∙ placed_cut w (in_order ws)

  pub windows_text_cut : (t : Tables) (user : UserId) (focus : Option ℕ)
      → windows_text (cut shown seeing t) user focus ≡ windows_text t user focus
  windows_text_cut t user focus =
      ap (λ ws. separated (codes "  ") (map (window_item t user focus) ws)) (order_cut t.windows)
      ∙ ap (separated (codes "  ")) (read_all f (window_item t user focus) (in_order t.windows) (λ w. refl))

  number_text_cut : (o : Option Window) → number_text (option_map f o) ≡ number_text o
  number_text_cut None = refl
  number_text_cut (Some w) = refl

  focus_text_cut : (t : Tables) (o : Option ℕ) → focus_text (cut shown seeing t) o ≡ focus_text t o
  focus_text_cut t None = refl
  focus_text_cut t (Some s) = ap number_text (window_cut shown seeing t s) ∙ number_text_cut (window_at t s)

  pub clients_text_cut : (t : Tables) → clients_text (cut shown seeing t) ≡ clients_text t
  clients_text_cut t =
      ap (separated (codes "  "))
      (read_all g (client_item (cut shown seeing t)) t.clients (λ c. refl)
      ∙ map_all g (client_item (cut shown seeing t)) (client_item t) t.clients
      (λ c. ap (λ text. decimal c.serial ++ (codes " " ++ (name_of c.user ++ (codes " " ++ text))))
      (focus_text_cut t (focused c))))

  -- ---- numbers, and windows in focus

  number_in_cut : (o : Option Window)
      → Rattle.std.specs.Option.option_map_or (λ (w : Window). w.number) (option_map f o) 0 ≡
      Rattle.std.specs.Option.option_map_or (λ (w : Window). w.number) o 0
  number_in_cut None = refl
  number_in_cut (Some w) = refl

  pub number_cut : (t : Tables) (s : ℕ) → number_of (cut shown seeing t) s ≡ number_of t s
  number_cut t s = ap (λ o. Rattle.std.specs.Option.option_map_or (λ (w : Window). w.number) o 0)
      (window_cut shown seeing t s) ∙ number_in_cut (window_at t s)

  pub in_focus_cut : (cs : List Client) (user : UserId) (w : ℕ) → is_in_focus (map g cs) user w ≡ is_in_focus cs user w
  in_focus_cut cs user w = any_cut g (shows user w) (shows user w) cs (λ c. refl)

  window_in_cut : (t : Tables) (o : Option ℕ)
      → option_and_then (window_at (cut shown seeing t)) o ≡ option_map f (option_and_then (window_at t) o)
  window_in_cut t None = refl
  window_in_cut t (Some s) = window_cut shown seeing t s

  pub given_window_cut : (t : Tables) (o : Option ℕ)
      → option_and_then (window_at (cut shown seeing t)) o ≡ option_map f (option_and_then (window_at t) o)
  given_window_cut t o = window_in_cut t o

  pub focus_cut : (t : Tables) (c : Client)
      → focused_window (cut shown seeing t) (g c) ≡ option_map f (focused_window t c)
  focus_cut t c = window_in_cut t (focused c)
