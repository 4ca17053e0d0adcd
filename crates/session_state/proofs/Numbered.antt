-- The items of windows that are found number by number make the definitions' list; Numbers proves their order.
use Rattle.session_state.proofs.Vocabulary.{◌≡◌, ℕ, zero, suc, ◌+◌, Bool, true, false, List, [], ◌∷◌, ◌++◌, Option}
use Rattle.session_state.proofs.Vocabulary.{Some, None, option_to_list, refl, ap, sym, ◌∙◌, subst, map, append_assoc}
use Rattle.session_state.proofs.Vocabulary.{append-nil, arith, codes, if◌then◌else◌, ◌==◌, nat_tests, UserId, Tables}
use Rattle.session_state.proofs.Vocabulary.{row_of, with_number, window_item, separated, separator, numbered}
use Rattle.session_state.proofs.Vocabulary.{AreFit, IsList}
use Rattle.std.proofs.Common.{add-zero, add-one, is_some}
use Rattle.std.proofs.lemmas.List.{map-append}
use Rattle.session_model.specs.Tables as model
use Rattle.session_model.specs.Texts.{windows_text}
use Rattle.session_state.proofs.Numbers.{order_by_numbers}
use Rattle.session_state.proofs.Growing.{list_more}

-- the windows of one number more
numbered_more : (ws : List model.Window) (from count : ℕ)
    → numbered ws from (suc count)
    ≡ numbered ws from count ++ option_to_list (with_number ws (from + count))
numbered_more ws from zero =
    append-nil (option_to_list (with_number ws from))
    ∙ ap (λ (n : ℕ). option_to_list (with_number ws n)) (sym (add-zero from))
numbered_more ws from (suc count) =
    let n : from + 1 + count ≡ from + suc count = omega arith in
    ap (λ (rest : List model.Window). option_to_list (with_number ws from) ++ rest)
    (numbered_more ws (from + 1) count
    ∙ ap (λ (k : ℕ). numbered ws (from + 1) count ++ option_to_list (with_number ws k)) n)
    ∙ sym (append_assoc (option_to_list (with_number ws from)) (numbered ws (from + 1) count)
    (option_to_list (with_number ws (from + suc count))))

numbered_next : (ws : List model.Window) (count : ℕ) (o : Option model.Window)
    → with_number ws count ≡ o
    → numbered ws 0 (count + 1) ≡ numbered ws 0 count ++ option_to_list o
numbered_next ws count o at =
    let n : 0 + count ≡ count = omega arith in
    rw add-one
    (numbered_more ws 0 count
    ∙ ap (λ (k : ℕ). numbered ws 0 count ++ option_to_list (with_number ws k)) n
    ∙ ap (λ (p : Option model.Window). numbered ws 0 count ++ option_to_list p) at)

-- no window has the number
pub none_numbered : (t : Tables) (user : UserId) (focus : Option ℕ) (count : ℕ) (is_first : Bool)
    (text : List ℕ) → with_number t.windows count ≡ None
    → IsList (map (window_item t user focus) (numbered t.windows 0 count)) is_first text
    → IsList (map (window_item t user focus) (numbered t.windows 0 (count + 1))) is_first text
none_numbered t user focus count is_first text at is =
    subst
    (λ (ws : List model.Window). IsList (map (window_item t user focus) ws) is_first text)
    (sym (numbered_next t.windows count None at ∙ append-nil (numbered t.windows 0 count))) is

-- a window has it
pub one_numbered : (t : Tables) (user : UserId) (focus : Option ℕ) (count : ℕ) (is_first : Bool)
    (m : model.Window) (text between new : List ℕ) → with_number t.windows count ≡ Some m
    → IsList (map (window_item t user focus) (numbered t.windows 0 count)) is_first text
    → between ≡ text ++ separator is_first → new ≡ between ++ window_item t user focus m
    → IsList (map (window_item t user focus) (numbered t.windows 0 (count + 1))) false new
one_numbered t user focus count is_first m text between new at is apart now =
    subst (λ (items : List (List ℕ)). IsList items false new)
    (sym (ap (map (window_item t user focus)) (numbered_next t.windows count (Some m) at)
    ∙ map-append (window_item t user focus) (numbered t.windows 0 count) (m ∷ [])))
    (list_more (map (window_item t user focus) (numbered t.windows 0 count)) is_first
    (window_item t user focus m) text between new is apart now)

-- all of them are the windows in their order
pub all_numbered : (t : Tables) (user : UserId) (focus : Option ℕ) (is_first : Bool)
    (text : List ℕ) → AreFit t
    → IsList (map (window_item t user focus) (numbered t.windows 0 40)) is_first text
    → text ≡ windows_text t user focus
all_numbered t user focus is_first text fit is =
    is.text_is
    ∙ ap (λ (ws : List model.Window). separated (codes "  ") (map (window_item t user focus) ws))
    (sym (order_by_numbers t.windows 40 fit.sound.numbers fit.numbered))

-- a window of the table is there by its serial
pub there_by_number : (ws : List model.Window) (n : ℕ) (m : model.Window)
    → with_number ws n ≡ Some m
    → is_some (row_of (λ (w : model.Window). w.serial) ws m.serial) ≡ true
there_by_number [] n m at = absurd (cc (at))
there_by_number (w ∷ ws) n m at = by_number (w.number == n) at (there_by_number ws n m) where
  by_serial : (b : Bool) (rest : Option model.Window) → is_some rest ≡ true
      → is_some (if b then Some w else rest) ≡ true
  by_serial true rest is = refl
  by_serial false rest is = is

  here : (v : model.Window) → w ≡ v
      → is_some (row_of (λ (x : model.Window). x.serial) (w ∷ ws) v.serial) ≡ true
  here v same =
      let own : (w.serial == w.serial) ≡ true = grind (arith, nat_tests) in
      subst
      (λ (x : model.Window). is_some (row_of (λ (y : model.Window). y.serial) (w ∷ ws) x.serial) ≡ true)
      same
      (ap
      (λ (b : Bool). is_some (if b then Some w else row_of (λ (y : model.Window). y.serial) ws w.serial))
      own)

  by_number : (b : Bool) → (if b then Some w else with_number ws n) ≡ Some m
      → (with_number ws n ≡ Some m
      → is_some (row_of (λ (x : model.Window). x.serial) ws m.serial) ≡ true)
      → is_some (row_of (λ (x : model.Window). x.serial) (w ∷ ws) m.serial) ≡ true
  by_number true is rest = here m (let e : w ≡ m = cc (is) in e)
  by_number false is rest = by_serial (w.serial == m.serial) _ (rest is)
