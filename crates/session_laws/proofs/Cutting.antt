-- Tables without the output of hidden windows and without what was drawn to others: what is looked up in them.
use Rattle.session_laws.proofs.Vocabulary.{◌≡◌, ℕ, Bool, true, false, List, [], ◌∷◌, ◌++◌, Some, None, suc, refl, ap}
use Rattle.session_laws.proofs.Vocabulary.{sym, ◌∙◌, map, filter, length, if◌then◌else◌, ◌==◌, ◌||◌, find, list_any}
use Rattle.session_laws.proofs.Vocabulary.{option_map, UserId, Writing, Tables, Window, Client, row_of, with_row}
use Rattle.session_laws.proofs.Vocabulary.{window_at, client_at, with_window, with_client, Caller, Deed}
use Rattle.terminal_model.specs.Writing as written

-- ---- lists of rows that are cut one by one

module _ {A : Type 0} (f : A → A) where
  pub map_all : {B : Type 0} (g h : A → B) (xs : List A) → ((x : A) → g x ≡ h x) → map g xs ≡ map h xs
  map_all g h [] same = refl
  map_all g h (x ∷ xs) same = ap (λ y. y ∷ map g xs) (same x) ∙ ap (λ ys. h x ∷ ys) (map_all g h xs same)

  -- what is read of a row stays
  pub read_all : {B : Type 0} (g : A → B) (xs : List A) → ((x : A) → g (f x) ≡ g x) → map g (map f xs) ≡ map g xs
  read_all g [] same = refl
  read_all g (x ∷ xs) same = ap (λ y. y ∷ map g (map f xs)) (same x) ∙ ap (λ ys. g x ∷ ys) (read_all g xs same)

  -- a change of each row may come before the cut or after it
  pub change_all : (g h : A → A) (xs : List A) → ((x : A) → g (f x) ≡ f (h x)) → map g (map f xs) ≡ map f (map h xs)
  change_all g h [] same = refl
  change_all g h (x ∷ xs) same = ap (λ y. y ∷ map g (map f xs)) (same x)
      ∙ ap (λ ys. f (h x) ∷ ys) (change_all g h xs same)

  pub row_cut : (n : A → ℕ) (xs : List A) (s : ℕ) → ((x : A) → n (f x) ≡ n x)
      → row_of n (map f xs) s ≡ option_map f (row_of n xs s)
  row_cut n [] s same = refl
  row_cut n (x ∷ xs) s same =
      ap (λ m. if m == s then Some (f x) else row_of n (map f xs) s) (same x)
      ∙ on (n x == s) (row_cut n xs s same) where
        on : (b : Bool) → row_of n (map f xs) s ≡ option_map f (row_of n xs s)
            → (if b then Some (f x) else row_of n (map f xs) s) ≡ option_map f (if b then Some x else row_of n xs s)
        on true more = refl
        on false more = more

  pub put_cut : (n : A → ℕ) (xs : List A) (s : ℕ) (y : A) → ((x : A) → n (f x) ≡ n x)
      → with_row n (map f xs) s (f y) ≡ map f (with_row n xs s y)
  put_cut n [] s y same = refl
  put_cut n (x ∷ xs) s y same =
      ap (λ m. if m == s then f y ∷ map f xs else f x ∷ with_row n (map f xs) s (f y)) (same x)
      ∙ on (n x == s) (put_cut n xs s y same) where
        on : (b : Bool) → with_row n (map f xs) s (f y) ≡ map f (with_row n xs s y)
            → (if b then f y ∷ map f xs else f x ∷ with_row n (map f xs) s (f y)) ≡ map f
            (if b then y ∷ xs else x ∷ with_row n xs s y)
        on true more = refl
        on false more = ap (λ ys. f x ∷ ys) more

  -- a row that is cut to the same
  pub put_same : (n : A → ℕ) (xs : List A) (s : ℕ) (x y : A) → row_of n xs s ≡ Some x → f y ≡ f x
      → map f (with_row n xs s y) ≡ map f xs
  put_same n [] s x y at same = refl
  put_same n (z ∷ xs) s x y at same = on (n z == s) at (put_same n xs s x y) where
    on : (b : Bool) → (if b then Some z else row_of n xs s) ≡ Some x
        → (row_of n xs s ≡ Some x → f y ≡ f x → map f (with_row n xs s y) ≡ map f xs)
        → map f (if b then y ∷ xs else z ∷ with_row n xs s y) ≡ f z ∷ map f xs
    on true at more = let e : z ≡ x = cc (at) in ap (λ r. r ∷ map f xs) (same ∙ ap f (sym e))
    on false at more = ap (λ rs. f z ∷ rs) (more at same)

  pub filter_cut : (p q : A → Bool) (xs : List A) → ((x : A) → p (f x) ≡ q x)
      → filter p (map f xs) ≡ map f (filter q xs)
  filter_cut p q [] same = refl
  filter_cut p q (x ∷ xs) same =
      ap (λ b. if b then f x ∷ filter p (map f xs) else filter p (map f xs)) (same x)
      ∙ on (q x) (filter_cut p q xs same) where
        on : (b : Bool) → filter p (map f xs) ≡ map f (filter q xs)
            → (if b then f x ∷ filter p (map f xs) else filter p (map f xs)) ≡ map f
            (if b then x ∷ filter q xs else filter q xs)
        on true more = ap (λ ys. f x ∷ ys) more
        on false more = more

  pub any_cut : (p q : A → Bool) (xs : List A) → ((x : A) → p (f x) ≡ q x) → list_any p (map f xs) ≡ list_any q xs
  any_cut p q [] same = refl
  any_cut p q (x ∷ xs) same = ap (λ b. b || list_any p (map f xs)) (same x) ∙ ap (λ b. q x || b) (any_cut p q xs same)

  pub find_cut : (p q : A → Bool) (xs : List A) → ((x : A) → p (f x) ≡ q x)
      → find p (map f xs) ≡ option_map f (find q xs)
  find_cut p q [] same = refl
  find_cut p q (x ∷ xs) same =
      ap (λ b. if b then Some (f x) else find p (map f xs)) (same x) ∙ on (q x) (find_cut p q xs same) where
        on : (b : Bool) → find p (map f xs) ≡ option_map f (find q xs)
            → (if b then Some (f x) else find p (map f xs)) ≡ option_map f (if b then Some x else find q xs)
        on true more = refl
        on false more = more

  pub length_cut : (xs : List A) → length (map f xs) ≡ length xs
  length_cut [] = refl
  length_cut (x ∷ xs) = ap (λ n. suc n) (length_cut xs)

  pub append_cut : (xs ys : List A) → map f xs ++ map f ys ≡ map f (xs ++ ys)
  append_cut [] ys = refl
  append_cut (x ∷ xs) ys = ap (λ zs. f x ∷ zs) (append_cut xs ys)

-- ---- tables

abbrev pub is_no_output : Writing → Bool
is_no_output (written.Output bytes) = false
is_no_output _ = true

-- the windows whose output stands, and the users whose clients' last views do
module _ (shown : ℕ → Bool) (seeing : UserId → Bool) where
  abbrev pub cut_writing : Bool → List Writing → List Writing
  cut_writing true written = written
  cut_writing false written = filter is_no_output written

  abbrev pub cut_window : Window → Window
  cut_window w = record w { writing = cut_writing (shown w.serial) w.writing }

  abbrev pub cut_client : Client → Client
  cut_client c = record c { delivered = []; drawn = if seeing c.user then c.drawn else None }

  abbrev pub cut : Tables → Tables
  cut t = record t { windows = map cut_window t.windows; clients = map cut_client t.clients }

  abbrev pub cut_deed : Deed → Deed
  cut_deed d = record d { tables = cut d.tables }

  abbrev pub cut_caller : Caller → Caller
  cut_caller k = record k { window = option_map cut_window k.window }

  pub window_cut : (t : Tables) (s : ℕ) → window_at (cut t) s ≡ option_map cut_window (window_at t s)
  window_cut t s = row_cut cut_window (λ (w : Window). w.serial) t.windows s (λ w. refl)

  pub client_cut : (t : Tables) (s : ℕ) → client_at (cut t) s ≡ option_map cut_client (client_at t s)
  client_cut t s = row_cut cut_client (λ (c : Client). c.serial) t.clients s (λ c. refl)

  pub with_window_cut : (t : Tables) (w : Window) → with_window (cut t) (cut_window w) ≡ cut (with_window t w)
  with_window_cut t w = ap (λ ws. record (cut t) { windows = ws })
      (put_cut cut_window (λ (w : Window). w.serial) t.windows w.serial w (λ w. refl))

  pub with_client_cut : (t : Tables) (c : Client) → with_client (cut t) (cut_client c) ≡ cut (with_client t c)
  with_client_cut t c = ap (λ cs. record (cut t) { clients = cs })
      (put_cut cut_client (λ (c : Client). c.serial) t.clients c.serial c (λ c. refl))
