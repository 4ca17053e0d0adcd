-- Keys read one by one, up to the first that completes a command or a line, are the model's items.
use Rattle.std.proofs.Common.{◌≡◌, ℕ, zero, suc, ◌+◌, ◌<◌, ◌≤◌, Bool, true, false, List, [], ◌∷◌, ◌++◌, Option, Some}
use Rattle.std.proofs.Common.{None, length, take, drop, get_or, refl, ap, sym, subst, ◌∙◌, arith, append_assoc}
use Rattle.std.proofs.Common.{append-nil, length-append}
use Rattle.std.specs.Prelude.{◌||◌, find, unwrap_or, option_to_list, if◌then◌else◌}
use Rattle.std.specs.List.{list_any, range_with_len}
use Rattle.std.proofs.lemmas.List.{drop-append-le, drop_all, take_more}
use Rattle.std.proofs.lemmas.List.Folds.{list_any-append}
use Rattle.std.proofs.lemmas.Grind.{flat_map-append}
use borrow.Author.Count.{below_more}
use Rattle.keys.specs.declared.reader.KeyItem.{KeyItem}
use Rattle.keys.specs.declared.reader.KeyItem.TheVariants.{Typed, Command, Edit, Line}
use Rattle.command_lang.specs.declared.command.Command.{Command as Bound}
use Rattle.keys.specs.Grammar.{Item, items, binding, bound_items}
use Rattle.keys.specs.Kept.{Keeping, StandsFor, item_list}
use Rattle.session_model.specs.Keying.{items_behind, is_command, completes, typed_byte, typed_bytes, command_item}
use Rattle.session_state.specs.Reading.{HasRead}

-- the first `i` of these keys were read, and none of them completed a command or a line
pub record ReadsOn (past keys : List ℕ) (i : ℕ) (typed : List ℕ) (reader : Keeping) : Type 0 where
  pub stands : StandsFor reader (past ++ take i keys)
  pub longer : length (items past).0 ≤ length (items (past ++ take i keys)).0
  pub typed_is : typed ≡ typed_bytes (items_behind past (take i keys))
  pub incomplete : (k : ℕ) → k ≤ i → completes past keys k ≡ false

-- ---- the first number that passes a test

module _ (p : ℕ → Bool) where
  pick : (b : Bool) (a : ℕ) (o : Option ℕ) → b ≡ true → (if b then Some a else o) ≡ Some a
  pick true a o is = refl
  pick false a o is = absurd (cc (is))

  pass : (b : Bool) (a : ℕ) (o : Option ℕ) → b ≡ false → (if b then Some a else o) ≡ o
  pass true a o is = absurd (cc (is))
  pass false a o is = refl

  pub first_number : (a n j : ℕ) → j < n → p (a + j) ≡ true
      → ((k : ℕ) → k < j → p (a + k) ≡ false) → find p (range_with_len a n) ≡ Some (a + j)
  first_number a zero j lt here before = absurd (omega arith)
  first_number a (suc n) zero lt here before =
      let same : a + 0 ≡ a = omega arith in
      pick (p a) a _ (ap p (sym same) ∙ here) ∙ ap Some (sym same)
  first_number a (suc n) (suc j) lt here before =
      let same : a + 0 ≡ a = omega arith in
      let on : (k : ℕ) → (a + 1) + k ≡ a + suc k = λ k. omega arith in
      pass (p a) a _ (ap p (sym same) ∙ before 0 (omega arith))
      ∙ (first_number (a + 1) n j (omega arith) (ap p (on j) ∙ here)
      (λ k below. ap p (on k) ∙ before (suc k) (omega arith)) ∙ ap Some (on j))

  pub no_number : (a n : ℕ) → ((k : ℕ) → k < n → p (a + k) ≡ false)
      → find p (range_with_len a n) ≡ None
  no_number a zero none = refl
  no_number a (suc n) none =
      let same : a + 0 ≡ a = omega arith in
      let on : (k : ℕ) → (a + 1) + k ≡ a + suc k = λ k. omega arith in
      pass (p a) a _ (ap p (sym same) ∙ none 0 (omega arith))
      ∙ no_number (a + 1) n (λ k below. ap p (on k) ∙ none (suc k) (omega arith))

-- ---- items

or_left : (a b : Bool) → (a || b) ≡ false → a ≡ false
or_left true b is = absurd (cc (is))
or_left false b is = refl

or_right : (a b : Bool) → (a || b) ≡ false → b ≡ false
or_right true b is = absurd (cc (is))
or_right false b is = is

skip : (b : Bool) (x : Item) (o : Option Item) → b ≡ false → (if b then Some x else o) ≡ o
skip true x o is = absurd (cc (is))
skip false x o is = refl

pub find_behind : (given more : List Item) → list_any is_command given ≡ false
    → command_item (given ++ more) ≡ command_item more
find_behind [] more none = refl
find_behind (x ∷ given) more none =
    skip (is_command x) x _ (or_left (is_command x) (list_any is_command given) none)
    ∙ find_behind given more (or_right (is_command x) (list_any is_command given) none)

pub find_nothing : (given : List Item) → list_any is_command given ≡ false
    → command_item given ≡ None
find_nothing [] none = refl
find_nothing (x ∷ given) none =
    skip (is_command x) x _ (or_left (is_command x) (list_any is_command given) none)
    ∙ find_nothing given (or_right (is_command x) (list_any is_command given) none)

bound_given : (o : Option Bound) → bound_items o ≡ option_to_list (command_item (bound_items o))
bound_given None = refl
bound_given (Some c) = refl

-- the command or the line that a key gives
pub order_given : (item : Option KeyItem) (bytes : List ℕ)
    → list_any is_command (item_list item bytes) ≡ true
    → item_list item bytes ≡ option_to_list (command_item (item_list item bytes))
order_given None bytes is = refl
order_given (Some (Typed b)) bytes is = absurd (cc (is))
order_given (Some (Command k)) bytes is = bound_given (binding k)
order_given (Some Edit) bytes is = refl
order_given (Some Line) bytes is = refl

-- ---- no key yet

module _ (past keys : List ℕ) where
  none_behind : items_behind past [] ≡ []
  none_behind =
      ap (λ (ks : List ℕ). drop (length (items past).0) (items ks).0) (append-nil past)
      ∙ drop_all (length (items past).0) (items past).0 (omega arith)

  pub begins : (reader : Keeping) (typed : List ℕ) → typed ≡ [] → StandsFor reader past
      → ReadsOn past keys 0 typed reader
  begins reader typed none read =
      let same : length (items (past ++ [])).0 ≡ length (items past).0 =
      ap (λ (ks : List ℕ). length (items ks).0) (append-nil past) in record {
        stands = subst (λ ks. StandsFor reader ks) (sym (append-nil past)) read;
        longer = omega (arith, same);
        typed_is = none ∙ sym (ap typed_bytes none_behind);
        incomplete = λ k le.
            let zero_is : k ≡ 0 = omega arith in
            ap (completes past keys) zero_is ∙ ap (list_any is_command) none_behind;
      }

-- ---- one more key

module _ (past keys : List ℕ) (i key : ℕ) (reader next : Keeping) (typed made : List ℕ)
    (item : Option KeyItem) (byte : Option ℕ) (inside : i < length keys)
    (here : key ≡ get_or keys i 0) (on : ReadsOn past keys i typed reader)
    (stands : (ks : List ℕ) → StandsFor reader ks → StandsFor next (ks ++ key ∷ []))
    (gives : (ks : List ℕ) → StandsFor reader ks
    → (items (ks ++ key ∷ [])).0 ≡ (items ks).0 ++ item_list item next.line)
    (types : (line : List ℕ) → option_to_list byte ≡ typed_bytes (item_list item line))
    (now : made ≡ typed ++ option_to_list byte) where
  abbrev before : List Item
  before = items_behind past (take i keys)

  abbrev more : List Item
  more = item_list item next.line

  one_more : past ++ take (i + 1) keys ≡ (past ++ take i keys) ++ key ∷ []
  one_more =
      ap (λ (ks : List ℕ). past ++ ks)
      (take_more keys i 0 inside ∙ ap (λ k. take i keys ++ k ∷ []) (sym here))
      ∙ sym (append_assoc past (take i keys) (key ∷ []))

  items_then : (items (past ++ take (i + 1) keys)).0 ≡ (items (past ++ take i keys)).0 ++ more
  items_then = ap (λ ks. (items ks).0) one_more ∙ gives (past ++ take i keys) on.stands

  given_then : items_behind past (take (i + 1) keys) ≡ before ++ more
  given_then =
      ap (λ xs. drop (length (items past).0) xs) items_then
      ∙ drop-append-le (length (items past).0) (items (past ++ take i keys)).0 more on.longer

  typed_then : made ≡ typed_bytes (items_behind past (take (i + 1) keys))
  typed_then =
      now
      ∙ (ap (λ ts. ts ++ option_to_list byte) on.typed_is
      ∙ (ap (λ bs. typed_bytes before ++ bs) (types next.line)
      ∙ (sym (flat_map-append typed_byte before more) ∙ ap typed_bytes (sym given_then))))

  stands_then : StandsFor next (past ++ take (i + 1) keys)
  stands_then =
      subst (λ ks. StandsFor next ks) (sym one_more) (stands (past ++ take i keys) on.stands)

  longer_then : length (items past).0 ≤ length (items (past ++ take (i + 1) keys)).0
  longer_then =
      omega
      (arith, on.longer, ap length items_then, length-append (items (past ++ take i keys)).0 more)

  completes_then : completes past keys (i + 1) ≡ list_any is_command more
  completes_then =
      ap (list_any is_command) given_then
      ∙ (list_any-append is_command before more
      ∙ ap (λ b. b || list_any is_command more) (on.incomplete i (omega arith)))

  -- it completes nothing
  pub goes_on : list_any is_command more ≡ false → ReadsOn past keys (i + 1) made next
  goes_on none = record {
    stands = stands_then;
    longer = longer_then;
    typed_is = typed_then;
    incomplete = λ k le.
        below_more (λ n. completes past keys n ≡ false) (i + 1)
        (λ n lt. on.incomplete n (omega arith)) (completes_then ∙ none) k (omega arith);
  }

  -- it completes a command or a line
  pub stops : list_any is_command more ≡ true
      → HasRead past keys (record { taken = i + 1; typed = made; order = item }) next
  stops some = record {
    taken_is =
        let zero_before : (n : ℕ) → 0 + n ≡ n = λ n. omega arith in
        sym
        (ap (λ o. unwrap_or o (length keys))
        (first_number (completes past keys) 0 (length keys + 1) (i + 1) (omega arith)
        (ap (completes past keys) (zero_before (i + 1)) ∙ (completes_then ∙ some))
        (λ k below.
        ap (completes past keys) (zero_before k) ∙ on.incomplete k (omega arith)))
        ∙ zero_before (i + 1));
    typed_is = typed_then;
    order_is =
        order_given item next.line some
        ∙ ap (λ o. option_to_list o)
        (sym
        (ap command_item given_then ∙ find_behind before more (on.incomplete i (omega arith))));
    stands = stands_then;
  }

-- all keys were read, and none completes a command or a line
pub ends : (past keys : List ℕ) (i : ℕ) (typed : List ℕ) (reader : Keeping) → i ≡ length keys
    → ReadsOn past keys i typed reader
    → HasRead past keys (record { taken = length keys; typed = typed; order = None }) reader
ends past keys i typed reader all on =
    let none : (k : ℕ) → k ≤ length keys → completes past keys k ≡ false =
    λ k le. on.incomplete k (omega arith) in
    let zero_before : (n : ℕ) → 0 + n ≡ n = λ n. omega arith in record {
      taken_is =
          sym
          (ap (λ o. unwrap_or o (length keys))
          (no_number (completes past keys) 0 (length keys + 1)
          (λ k below. ap (completes past keys) (zero_before k) ∙ none k (omega arith))));
      typed_is = on.typed_is ∙ ap (λ n. typed_bytes (items_behind past (take n keys))) all;
      order_is =
          ap (λ o. option_to_list o)
          (sym (find_nothing (items_behind past (take (length keys) keys))
          (none (length keys) (omega arith))));
      stands = subst (λ n. StandsFor reader (past ++ take n keys)) all on.stands;
    }
