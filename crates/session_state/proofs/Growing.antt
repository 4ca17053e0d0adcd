-- A list that grew by an item has the text of one more item.
use Rattle.session_state.proofs.Vocabulary.{◌≡◌, ℕ, Bool, false, List, [], ◌∷◌, ◌++◌, refl, ap, sym, ◌∙◌}
use Rattle.session_state.proofs.Vocabulary.{append_assoc, subst, length, ◌<◌, ◌+◌, ◌≤◌, get_or, map, take, codes}
use Rattle.session_state.proofs.Vocabulary.{map_more, take_all, separated, separator, IsList}
use Rattle.session_state.specs.Items.{has_none, separated_more}

has_more : (items : List (List ℕ)) (item : List ℕ) → has_none (items ++ item ∷ []) ≡ false
has_more [] item = refl
has_more (i ∷ items) item = refl

-- one more item, after the separator
pub list_more : (items : List (List ℕ)) (is_first : Bool) (item text between new : List ℕ)
    → IsList items is_first text → between ≡ text ++ separator is_first → new ≡ between ++ item
    → IsList (items ++ item ∷ []) false new
list_more items is_first item text between new is apart now = record {
  text_is = now
      ∙ (ap (λ (xs : List ℕ). xs ++ item) apart
      ∙ (append_assoc text (separator is_first) item
      ∙ (ap (λ (xs : List ℕ). xs ++ (separator is_first ++ item)) is.text_is
      ∙ (ap (λ (b : Bool). separated (codes "  ") items ++ (separator b ++ item)) is.first_is
      ∙ sym (separated_more items item)))));
  first_is = sym (has_more items item);
}

-- the items of a list of rows, one after another
pub items_more : {A : Type 0} (f : A → List ℕ) (rows : List A) (i : ℕ) (row : A) (is_first : Bool)
    (item text between new : List ℕ) → i < length rows → row ≡ get_or rows i row
    → item ≡ f row → IsList (map f (take i rows)) is_first text
    → between ≡ text ++ separator is_first → new ≡ between ++ item
    → IsList (map f (take (i + 1) rows)) false new
items_more f rows i row is_first item text between new inside here same is apart now =
    subst (λ (items : List (List ℕ)). IsList items false new)
    (ap (λ (x : List ℕ). map f (take i rows) ++ x ∷ []) (same ∙ ap f here)
    ∙ sym (map_more f rows i row inside))
    (list_more (map f (take i rows)) is_first item text between new is apart now)

pub items_all : {A : Type 0} (f : A → List ℕ) (rows : List A) (i : ℕ) (is_first : Bool)
    (text : List ℕ) → length rows ≤ i → IsList (map f (take i rows)) is_first text
    → text ≡ separated (codes "  ") (map f rows)
items_all {A} f rows i is_first text past is =
    is.text_is ∙ ap (λ (xs : List A). separated (codes "  ") (map f xs)) (take_all i rows past)
