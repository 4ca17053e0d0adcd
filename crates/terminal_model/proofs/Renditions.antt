-- SGR sets a rendition from any other one, and answers nothing.
use Rattle.terminal_model.proofs.Vocabulary.{common_steps, nat_tests, ◌≡◌, ℕ, Bool, true, List, [], ◌∷◌, ◌++◌, Option}
use Rattle.terminal_model.proofs.Vocabulary.{Some, None, refl, ap, ◌∙◌, arith, if◌then◌else◌, option_to_list, is_some}
use Rattle.terminal_model.proofs.Vocabulary.{list_all, Rendition, Csi, Action, Render, Attribute, Screen, with_state}
use Rattle.terminal_model.proofs.Vocabulary.{plain_sequence, each, rendered, unjoined, acted_from, acted, all_acted}
use Rattle.terminal_model.proofs.Vocabulary.{effect, all_answered, report, IsListed}
use Rattle.cells.specs.declared.rendition.Colour.{Colour}
use Rattle.cells.specs.declared.rendition.Colour.TheVariants.{Default}
use Rattle.terminal_model.specs.Places.{value_if, value_of_colour, colour_values, rendition_values}
use Rattle.terminal_model.proofs.Frames.{all_acted-append, each-append}

-- a screen with another rendition, which SGR leaves
abbrev with_rendition : Screen → Rendition → Screen
with_rendition x r = with_state x (unjoined (record x.state { rendition = r }))

-- first without colours, and then with them
begun : (x : Screen) (b u k v : Bool) (later : List ℕ)
    → effect x (Csi None (0 ∷ (value_if b 1 ++ (value_if u 4 ++ (value_if k 5 ++ (value_if v 7 ++ later))))) [] 0x6D)
    ≡ all_acted
    (with_rendition x
    (record { is_bold = b; is_underlined = u; is_blinking = k; is_reversed = v; fore = Default; back = Default }))
    (each rendered later)
unfolding acted_from plain_sequence
begun x b u k v later = grind arith

fore-set : (x : Screen) (r : Rendition) (c : Colour)
    → all_acted (with_rendition x (record r { fore = Default })) (each rendered (value_of_colour 30 c)) ≡ with_rendition
    x (record r { fore = c })
unfolding acted_from
fore-set x r c = grind (arith, nat_tests)

back-set : (x : Screen) (r : Rendition) (c : Colour)
    → all_acted (with_rendition x (record r { back = Default })) (each rendered (value_of_colour 40 c)) ≡ with_rendition
    x (record r { back = c })
unfolding acted_from
back-set x r c = grind (arith, nat_tests)

colours-set : (x : Screen) (r : Rendition)
    → all_acted (with_rendition x (record r { fore = Default; back = Default })) (each rendered (colour_values r)) ≡
    with_rendition x r
colours-set x r =
    let start : Screen = with_rendition x (record r { fore = Default; back = Default }) in
    ap (all_acted start) (each-append rendered (value_of_colour 30 r.fore) (value_of_colour 40 r.back))
    ∙ all_acted-append start (each rendered (value_of_colour 30 r.fore)) (each rendered (value_of_colour 40 r.back))
    ∙ ap (λ y. all_acted y (each rendered (value_of_colour 40 r.back)))
    (fore-set x (record r { back = Default }) r.fore)
    ∙ back-set x r r.back

pub rendition-is : (x : Screen) (r : Rendition)
    → effect x (Csi None (rendition_values r) [] 0x6D) ≡ with_state x (unjoined (record x.state { rendition = r }))
rendition-is x r = begun x r.is_bold r.is_underlined r.is_blinking r.is_reversed (colour_values r) ∙ colours-set x r

-- VALUES THAT ARE KNOWN
abbrev pub is_named : ℕ → Bool
is_named n = is_some (rendered n)

all-append : (p : ℕ → Bool) (a b : List ℕ) → list_all p a ≡ true → list_all p b ≡ true → list_all p (a ++ b) ≡ true
all-append p a b h k = grind (arith, common_steps)

value-named : (b : Bool) (n : ℕ) → is_named n ≡ true → list_all is_named (value_if b n) ≡ true
value-named b n h = grind arith

fore-named : (c : Colour) → list_all is_named (value_of_colour 30 c) ≡ true
fore-named c = grind arith

back-named : (c : Colour) → list_all is_named (value_of_colour 40 c) ≡ true
back-named c = grind arith

values-named : (r : Rendition) → list_all is_named (rendition_values r) ≡ true
values-named r = grind (arith, all-append, value-named, fore-named, back-named)

-- a list of values that begins with a known one
pub named-listed : (rows n : ℕ) (values : List ℕ) → list_all is_named (n ∷ values) ≡ true
    → IsListed rows (Csi None (n ∷ values) [] 0x6D)
unfolding plain_sequence
named-listed rows n values h = grind arith

pub values-listed : (rows : ℕ) (r : Rendition) → IsListed rows (Csi None (rendition_values r) [] 0x6D)
values-listed rows r = named-listed rows 0 _ (values-named r)

-- a value of SGR is answered by nothing
record IsRendering (o : Option Action) : Type 0 where
  pub quiet : (x : Screen) (later : List Action)
      → all_answered x (option_to_list o ++ later) ≡ all_answered
      (elim o as (λ w. Screen) [ None ↦ x | Some a ↦ acted x a ]) later

if_rendering : (b : Bool) (o p : Option Action) → IsRendering o → IsRendering p → IsRendering (if b then o else p)
if_rendering b o p h k = grind arith

none_rendering : IsRendering None
none_rendering = record { quiet = λ x later. refl }

some_rendering : (a : Attribute) → IsRendering (Some (Render a))
some_rendering a = record { quiet = λ x later. refl }

rendered-rendering : (n : ℕ) → IsRendering (rendered n)
rendered-rendering n = search (if_rendering, none_rendering, some_rendering) depth 60 fits 4000

each-quiet : (x : Screen) (values : List ℕ) → all_answered x (each rendered values) ≡ []
each-quiet x [] = refl
each-quiet x (n ∷ values) = (rendered-rendering n).quiet x (each rendered values)
    ∙ each-quiet (elim (rendered n) as (λ w. Screen) [ None ↦ x | Some a ↦ acted x a ]) values

pub values-quiet : (x : Screen) (values : List ℕ) → report x (Csi None values [] 0x6D) ≡ []
unfolding plain_sequence
values-quiet x values = each-quiet x values
