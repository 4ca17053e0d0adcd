-- SGR leads to a rendition, from any rendition and from a known one.
use Rattle.redraw.proofs.Vocabulary.{◌≡◌, ℕ, ◌+◌, ◌<◌, ◌≤◌, ◌==◌, eqb, Bool, true, false, List, [], ◌∷◌, ◌++◌, length}
use Rattle.redraw.proofs.Vocabulary.{Option, Some, None, refl, sym, ap, ◌∙◌, arith, append_assoc, AllByRecursion}
use Rattle.redraw.proofs.Vocabulary.{length-append, eqb-true, Rendition, Csi, Screen, with_state, plain_sequence}
use Rattle.redraw.proofs.Vocabulary.{unjoined, acted_from, effect, IsListed, Knows, all_bytes, rendition_params}
use Rattle.std.specs.Prelude.{if◌then◌else◌, nat_lt, option_to_list}
use Rattle.std.specs.List.{list_all}
use Rattle.cells.specs.declared.rendition.Colour.{Colour}
use Rattle.cells.specs.declared.rendition.Colour.TheVariants.{Default, Black, Red, Green, Yellow, Blue, Magenta, Cyan}
use Rattle.cells.specs.declared.rendition.Colour.TheVariants.{White}
use Rattle.terminal_model.specs.declared.action.Action.TheVariants.{Render}
use Rattle.cells.specs.declared.rendition.Attribute.{Attribute}
use Rattle.cells.specs.declared.rendition.Attribute.TheVariants.{Plain, Bold, Underlined, Blinking, Reversed}
use Rattle.cells.specs.declared.rendition.Attribute.TheVariants.{Foreground, Background}
use Rattle.terminal_model.specs.Functions.{each, rendered, colour_digit}
use Rattle.terminal_model.specs.Table.{all_acted}
use Rattle.terminal_model.specs.Places.{value_if, value_of_colour, rendition_values}
use Rattle.terminal_model.proofs.Frames.{all_acted-append, each-append}
use Rattle.terminal_model.proofs.Renditions.{is_named, named-listed, rendition-is}
use Rattle.redraw.specs.Renditions.{whole_params, switched, recoloured, change_params, shorter}

-- THE VALUES

-- a value that changes a rendition and can be spelled
pub record IsValue (n : ℕ) : Type 0 where
  pub attribute : Attribute
  pub names : rendered n ≡ Some (Render attribute)
  pub small : nat_lt n 10000 ≡ true

abbrev pub AreValues : List ℕ → Type 0
AreValues values = AllByRecursion IsValue values

values-append : (a b : List ℕ) → AreValues a → AreValues b → AreValues (a ++ b)
values-append [] b h k = k
values-append (n ∷ a) b h k = (h.0, values-append a b h.1 k)

values-if : (b : Bool) (n : ℕ) → IsValue n → AreValues (value_if b n)
values-if true n h = (h, tt)
values-if false n h = tt

values-unless : (b : Bool) (n : ℕ) → IsValue n → AreValues (if b then [] else n ∷ [])
values-unless true n h = tt
values-unless false n h = (h, tt)

values-switched : (old new : Bool) (on off : ℕ) → IsValue on → IsValue off → AreValues (switched old new on off)
values-switched true true on off h k = tt
values-switched true false on off h k = (k, tt)
values-switched false true on off h k = (h, tt)
values-switched false false on off h k = tt

fore-value : (c : Colour) → IsValue (30 + colour_digit c)
fore-value Default = record { attribute = Foreground Default; names = refl; small = refl }
fore-value Black = record { attribute = Foreground Black; names = refl; small = refl }
fore-value Red = record { attribute = Foreground Red; names = refl; small = refl }
fore-value Green = record { attribute = Foreground Green; names = refl; small = refl }
fore-value Yellow = record { attribute = Foreground Yellow; names = refl; small = refl }
fore-value Blue = record { attribute = Foreground Blue; names = refl; small = refl }
fore-value Magenta = record { attribute = Foreground Magenta; names = refl; small = refl }
fore-value Cyan = record { attribute = Foreground Cyan; names = refl; small = refl }
fore-value White = record { attribute = Foreground White; names = refl; small = refl }

back-value : (c : Colour) → IsValue (40 + colour_digit c)
back-value Default = record { attribute = Background Default; names = refl; small = refl }
back-value Black = record { attribute = Background Black; names = refl; small = refl }
back-value Red = record { attribute = Background Red; names = refl; small = refl }
back-value Green = record { attribute = Background Green; names = refl; small = refl }
back-value Yellow = record { attribute = Background Yellow; names = refl; small = refl }
back-value Blue = record { attribute = Background Blue; names = refl; small = refl }
back-value Magenta = record { attribute = Background Magenta; names = refl; small = refl }
back-value Cyan = record { attribute = Background Cyan; names = refl; small = refl }
back-value White = record { attribute = Background White; names = refl; small = refl }

whole-values : (r : Rendition) → AreValues (whole_params r)
whole-values r =
    let b : List ℕ = value_if r.is_bold 1 in
    let u : List ℕ = value_if r.is_underlined 4 in
    let k : List ℕ = value_if r.is_blinking 5 in
    let v : List ℕ = value_if r.is_reversed 7 in
    let f : List ℕ = value_of_colour 30 r.fore in
    let g : List ℕ = value_of_colour 40 r.back in
    values-append (((((0 ∷ [] ++ b) ++ u) ++ k) ++ v) ++ f) g
    (values-append ((((0 ∷ [] ++ b) ++ u) ++ k) ++ v) f
    (values-append (((0 ∷ [] ++ b) ++ u) ++ k) v
    (values-append ((0 ∷ [] ++ b) ++ u) k (values-append (0 ∷ [] ++ b) u (values-append (0 ∷ []) b
    ((record { attribute = Plain; names = refl; small = refl }), tt)
    (values-if r.is_bold 1 (record { attribute = Bold true; names = refl; small = refl })))
    (values-if r.is_underlined 4 (record { attribute = Underlined true; names = refl; small = refl })))
    (values-if r.is_blinking 5 (record { attribute = Blinking true; names = refl; small = refl })))
    (values-if r.is_reversed 7 (record { attribute = Reversed true; names = refl; small = refl })))
    (values-unless (eqb (colour_digit r.fore) 9) (30 + colour_digit r.fore) (fore-value r.fore)))
    (values-unless (eqb (colour_digit r.back) 9) (40 + colour_digit r.back) (back-value r.back))

change-values : (o r : Rendition) → AreValues (change_params o r)
change-values o r =
    let b : List ℕ = switched o.is_bold r.is_bold 1 22 in
    let u : List ℕ = switched o.is_underlined r.is_underlined 4 24 in
    let k : List ℕ = switched o.is_blinking r.is_blinking 5 25 in
    let v : List ℕ = switched o.is_reversed r.is_reversed 7 27 in
    let f : List ℕ = recoloured o.fore r.fore 30 in
    let g : List ℕ = recoloured o.back r.back 40 in
    values-append ((((b ++ u) ++ k) ++ v) ++ f) g
    (values-append (((b ++ u) ++ k) ++ v) f
    (values-append ((b ++ u) ++ k) v (values-append (b ++ u) k (values-append b u
    (values-switched o.is_bold r.is_bold 1 22 (record { attribute = Bold true; names = refl; small = refl })
    (record { attribute = Bold false; names = refl; small = refl }))
    (values-switched o.is_underlined r.is_underlined 4 24
    (record { attribute = Underlined true; names = refl; small = refl })
    (record { attribute = Underlined false; names = refl; small = refl })))
    (values-switched o.is_blinking r.is_blinking 5 25 (record { attribute = Blinking true; names = refl; small = refl })
    (record { attribute = Blinking false; names = refl; small = refl })))
    (values-switched o.is_reversed r.is_reversed 7 27 (record { attribute = Reversed true; names = refl; small = refl })
    (record { attribute = Reversed false; names = refl; small = refl })))
    (values-unless (eqb (colour_digit o.fore) (colour_digit r.fore)) (30 + colour_digit r.fore) (fore-value r.fore)))
    (values-unless (eqb (colour_digit o.back) (colour_digit r.back)) (40 + colour_digit r.back) (back-value r.back))

-- HOW MANY
if-few : (b : Bool) (n : ℕ) → length (value_if b n) ≤ 1
if-few true n = omega arith
if-few false n = omega arith

unless-few : (b : Bool) (n : ℕ) → length (if b then [] else n ∷ []) ≤ 1
unless-few true n = omega arith
unless-few false n = omega arith

switched-few : (old new : Bool) (on off : ℕ) → length (switched old new on off) ≤ 1
switched-few true true on off = omega arith
switched-few true false on off = omega arith
switched-few false true on off = omega arith
switched-few false false on off = omega arith

one-more : (a b : List ℕ) (least most : ℕ) → (least ≤ length a) × (length a ≤ most) → length b ≤ 1
    → (least ≤ length (a ++ b)) × (length (a ++ b) ≤ most + 1)
one-more a b least most h k = (omega (arith, length-append a b, h.0), omega (arith, length-append a b, h.1))

whole-few : (r : Rendition) → (1 ≤ length (whole_params r)) × (length (whole_params r) ≤ 7)
whole-few r =
    let b : List ℕ = value_if r.is_bold 1 in
    let u : List ℕ = value_if r.is_underlined 4 in
    let k : List ℕ = value_if r.is_blinking 5 in
    let v : List ℕ = value_if r.is_reversed 7 in
    let f : List ℕ = value_of_colour 30 r.fore in
    let g : List ℕ = value_of_colour 40 r.back in
    one-more (((((0 ∷ [] ++ b) ++ u) ++ k) ++ v) ++ f) g 1 6
    (one-more ((((0 ∷ [] ++ b) ++ u) ++ k) ++ v) f 1 5
    (one-more (((0 ∷ [] ++ b) ++ u) ++ k) v 1 4
    (one-more ((0 ∷ [] ++ b) ++ u) k 1 3
    (one-more (0 ∷ [] ++ b) u 1 2 (one-more (0 ∷ []) b 1 1 (omega arith, omega arith)
    (if-few r.is_bold 1)) (if-few r.is_underlined 4)) (if-few r.is_blinking 5)) (if-few r.is_reversed 7))
    (unless-few (eqb (colour_digit r.fore) 9) (30 + colour_digit r.fore)))
    (unless-few (eqb (colour_digit r.back) 9) (40 + colour_digit r.back))

change-few : (o r : Rendition) → (0 ≤ length (change_params o r)) × (length (change_params o r) ≤ 6)
change-few o r =
    let b : List ℕ = switched o.is_bold r.is_bold 1 22 in
    let u : List ℕ = switched o.is_underlined r.is_underlined 4 24 in
    let k : List ℕ = switched o.is_blinking r.is_blinking 5 25 in
    let v : List ℕ = switched o.is_reversed r.is_reversed 7 27 in
    let f : List ℕ = recoloured o.fore r.fore 30 in
    let g : List ℕ = recoloured o.back r.back 40 in
    one-more ((((b ++ u) ++ k) ++ v) ++ f) g 0 5
    (one-more (((b ++ u) ++ k) ++ v) f 0 4
    (one-more ((b ++ u) ++ k) v 0 3
    (one-more (b ++ u) k 0 2 (one-more b u 0 1 (omega arith, switched-few o.is_bold r.is_bold 1 22)
    (switched-few o.is_underlined r.is_underlined 4 24)) (switched-few o.is_blinking r.is_blinking 5 25))
    (switched-few o.is_reversed r.is_reversed 7 27))
    (unless-few (eqb (colour_digit o.fore) (colour_digit r.fore)) (30 + colour_digit r.fore)))
    (unless-few (eqb (colour_digit o.back) (colour_digit r.back)) (40 + colour_digit r.back))

-- what holds of both lists holds of the shorter one
either : (P : List ℕ → Type 0) (a b : List ℕ) → (0 < length a → P a) → P b → P (shorter a b)
either P [] b h k = k
either P (n ∷ a) b h k = go (nat_lt (all_bytes b) (all_bytes (n ∷ a)))
  where
    go : (t : Bool) → P (if t then b else n ∷ a)
    go true = k
    go false = h (omega arith)

-- each value that a function is given can be spelled
pub record AreGiven (values : List ℕ) : Type 0 where
  pub named : AreValues values
  pub some : 0 < length values
  pub few : length values ≤ 16

whole-given : (r : Rendition) → AreGiven (whole_params r)
whole-given r = record
    { named = whole-values r; some = omega (arith, (whole-few r).0); few = omega (arith, (whole-few r).1) }

pub params-given : (known : Option Rendition) (r : Rendition) → AreGiven (rendition_params known r)
params-given None r = whole-given r
params-given (Some o) r = either AreGiven (change_params o r) (whole_params r)
    (λ some. record { named = change-values o r; some = some; few = omega (arith, (change-few o r).1) }) (whole-given r)

pub all-small : (values : List ℕ) → AreValues values → list_all (λ n. nat_lt n 10000) values ≡ true
all-small [] h = refl
all-small (n ∷ values) h = rw h.0.small (all-small values h.1)

all-named : (values : List ℕ) → AreValues values → list_all is_named values ≡ true
all-named [] h = refl
all-named (n ∷ values) h = rw h.0.names (all-named values h.1)

pub params-listed : (rows : ℕ) (values : List ℕ) → AreGiven values → IsListed rows (Csi None values [] 0x6D)
params-listed rows [] h = absurd (omega (arith, h.some))
params-listed rows (n ∷ values) h = named-listed rows n values (all-named (n ∷ values) h.named)

-- THE EFFECT

abbrev pub with_rendition : Screen → Rendition → Screen
with_rendition x r = with_state x (unjoined (record x.state { rendition = r }))

switch-bold : (x : Screen) (r : Rendition) (o n : Bool) → r.is_bold ≡ o
    → all_acted (with_rendition x r) (each rendered (switched o n 1 22)) ≡ with_rendition x (record r { is_bold = n })
unfolding acted_from
switch-bold x r true true h = ap (λ b. with_rendition x (record r { is_bold = b })) h
switch-bold x r true false h = refl
switch-bold x r false true h = refl
switch-bold x r false false h = ap (λ b. with_rendition x (record r { is_bold = b })) h

switch-underlined : (x : Screen) (r : Rendition) (o n : Bool) → r.is_underlined ≡ o
    → all_acted (with_rendition x r) (each rendered (switched o n 4 24)) ≡ with_rendition x
    (record r { is_underlined = n })
unfolding acted_from
switch-underlined x r true true h = ap (λ b. with_rendition x (record r { is_underlined = b })) h
switch-underlined x r true false h = refl
switch-underlined x r false true h = refl
switch-underlined x r false false h = ap (λ b. with_rendition x (record r { is_underlined = b })) h

switch-blinking : (x : Screen) (r : Rendition) (o n : Bool) → r.is_blinking ≡ o
    → all_acted (with_rendition x r) (each rendered (switched o n 5 25)) ≡ with_rendition x
    (record r { is_blinking = n })
unfolding acted_from
switch-blinking x r true true h = ap (λ b. with_rendition x (record r { is_blinking = b })) h
switch-blinking x r true false h = refl
switch-blinking x r false true h = refl
switch-blinking x r false false h = ap (λ b. with_rendition x (record r { is_blinking = b })) h

switch-reversed : (x : Screen) (r : Rendition) (o n : Bool) → r.is_reversed ≡ o
    → all_acted (with_rendition x r) (each rendered (switched o n 7 27)) ≡ with_rendition x
    (record r { is_reversed = n })
unfolding acted_from
switch-reversed x r true true h = ap (λ b. with_rendition x (record r { is_reversed = b })) h
switch-reversed x r true false h = refl
switch-reversed x r false true h = refl
switch-reversed x r false false h = ap (λ b. with_rendition x (record r { is_reversed = b })) h

-- a colour, by its digit
abbrev colour_of : ℕ → Colour
colour_of n =
    if n == 0 then Black
    else (if n == 1 then Red
    else (if n == 2 then Green
    else (if n == 3 then Yellow
    else (if n == 4 then Blue
    else (if n == 5 then Magenta
    else (if n == 6 then Cyan
    else (if n == 7 then White
    else Default)))))))

digit-back : (c : Colour) → colour_of (colour_digit c) ≡ c
digit-back Default = refl
digit-back Black = refl
digit-back Red = refl
digit-back Green = refl
digit-back Yellow = refl
digit-back Blue = refl
digit-back Magenta = refl
digit-back Cyan = refl
digit-back White = refl

digit-tells : (a b : Colour) → colour_digit a ≡ colour_digit b → a ≡ b
digit-tells a b h = sym (digit-back a) ∙ ap colour_of h ∙ digit-back b

fore-set : (x : Screen) (r : Rendition) (c : Colour)
    → all_acted (with_rendition x r) (each rendered ((30 + colour_digit c) ∷ [])) ≡ with_rendition x
    (record r { fore = c })
unfolding acted_from
fore-set x r Default = refl
fore-set x r Black = refl
fore-set x r Red = refl
fore-set x r Green = refl
fore-set x r Yellow = refl
fore-set x r Blue = refl
fore-set x r Magenta = refl
fore-set x r Cyan = refl
fore-set x r White = refl

back-set : (x : Screen) (r : Rendition) (c : Colour)
    → all_acted (with_rendition x r) (each rendered ((40 + colour_digit c) ∷ [])) ≡ with_rendition x
    (record r { back = c })
unfolding acted_from
back-set x r Default = refl
back-set x r Black = refl
back-set x r Red = refl
back-set x r Green = refl
back-set x r Yellow = refl
back-set x r Blue = refl
back-set x r Magenta = refl
back-set x r Cyan = refl
back-set x r White = refl

unless-set : (y z : Screen) (t : Bool) (n : ℕ) → (t ≡ true → y ≡ z) → all_acted y (each rendered (n ∷ [])) ≡ z
    → all_acted y (each rendered (if t then [] else n ∷ [])) ≡ z
unless-set y z true n h k = h refl
unless-set y z false n h k = k

recolour-fore : (x : Screen) (r : Rendition) (c : Colour)
    → all_acted (with_rendition x r) (each rendered (recoloured r.fore c 30)) ≡ with_rendition x (record r { fore = c })
recolour-fore x r c = unless-set (with_rendition x r) (with_rendition x (record r { fore = c }))
    (eqb (colour_digit r.fore) (colour_digit c)) (30 + colour_digit c)
    (λ same. ap (λ k. with_rendition x (record r { fore = k }))
    (digit-tells r.fore c (eqb-true (colour_digit r.fore) (colour_digit c) same))) (fore-set x r c)

recolour-back : (x : Screen) (r : Rendition) (c : Colour)
    → all_acted (with_rendition x r) (each rendered (recoloured r.back c 40)) ≡ with_rendition x (record r { back = c })
recolour-back x r c = unless-set (with_rendition x r) (with_rendition x (record r { back = c }))
    (eqb (colour_digit r.back) (colour_digit c)) (40 + colour_digit c)
    (λ same. ap (λ k. with_rendition x (record r { back = k }))
    (digit-tells r.back c (eqb-true (colour_digit r.back) (colour_digit c) same))) (back-set x r c)

then-set : (x y z : Screen) (a b : List ℕ) → all_acted x (each rendered a) ≡ y → all_acted y (each rendered b) ≡ z
    → all_acted x (each rendered (a ++ b)) ≡ z
then-set x y z a b h k =
    ap (all_acted x) (each-append rendered a b) ∙ all_acted-append x (each rendered a) (each rendered b)
    ∙ ap (λ w. all_acted w (each rendered b)) h ∙ k

changes-made : (x : Screen) (o r : Rendition)
    → all_acted (with_rendition x o) (each rendered (change_params o r)) ≡ with_rendition x r
changes-made x o r =
    let a : Rendition = record o { is_bold = r.is_bold } in
    let b : Rendition = record a { is_underlined = r.is_underlined } in
    let c : Rendition = record b { is_blinking = r.is_blinking } in
    let d : Rendition = record c { is_reversed = r.is_reversed } in
    let e : Rendition = record d { fore = r.fore } in
    let lb : List ℕ = switched o.is_bold r.is_bold 1 22 in
    let lu : List ℕ = switched o.is_underlined r.is_underlined 4 24 in
    let lk : List ℕ = switched o.is_blinking r.is_blinking 5 25 in
    let lv : List ℕ = switched o.is_reversed r.is_reversed 7 27 in
    let lf : List ℕ = recoloured o.fore r.fore 30 in
    let lg : List ℕ = recoloured o.back r.back 40 in
    then-set (with_rendition x o) (with_rendition x e) (with_rendition x r) ((((lb ++ lu) ++ lk) ++ lv) ++ lf) lg (
    then-set (with_rendition x o) (with_rendition x d) (with_rendition x e) (((lb ++ lu) ++ lk) ++ lv) lf (
    then-set (with_rendition x o) (with_rendition x c) (with_rendition x d) ((lb ++ lu) ++ lk) lv (
    then-set (with_rendition x o) (with_rendition x b) (with_rendition x c) (lb ++ lu) lk (
    then-set (with_rendition x o) (with_rendition x a) (with_rendition x b) lb lu
    (switch-bold x o o.is_bold r.is_bold refl)
    (switch-underlined x a o.is_underlined r.is_underlined refl))
    (switch-blinking x b o.is_blinking r.is_blinking refl))
    (switch-reversed x c o.is_reversed r.is_reversed refl))
    (recolour-fore x d r.fore))
    (recolour-back x e r.back)

-- a first value ends the joining of marks; the rendition before it is the present one
from-present : (x : Screen) (values : List ℕ) → AreValues values → 0 < length values
    → effect x (Csi None values [] 0x6D) ≡ all_acted (with_rendition x x.state.rendition) (each rendered values)
unfolding acted_from plain_sequence
from-present x [] h some = absurd (omega (arith, some))
from-present x (n ∷ values) h some =
    ap (λ o. all_acted x (option_to_list o ++ each rendered values)) h.0.names
    ∙ sym
    (ap (λ o. all_acted (with_rendition x x.state.rendition) (option_to_list o ++ each rendered values)) h.0.names)

-- the parameters are the same if they are put together from the left and from the right
whole-is : (r : Rendition) → whole_params r ≡ rendition_values r
whole-is r =
    let b : List ℕ = value_if r.is_bold 1 in
    let u : List ℕ = value_if r.is_underlined 4 in
    let k : List ℕ = value_if r.is_blinking 5 in
    let v : List ℕ = value_if r.is_reversed 7 in
    let f : List ℕ = value_of_colour 30 r.fore in
    let g : List ℕ = value_of_colour 40 r.back in
    append_assoc ((((0 ∷ [] ++ b) ++ u) ++ k) ++ v) f g
    ∙ append_assoc (((0 ∷ [] ++ b) ++ u) ++ k) v (f ++ g)
    ∙ append_assoc ((0 ∷ [] ++ b) ++ u) k (v ++ (f ++ g))
    ∙ append_assoc (0 ∷ [] ++ b) u (k ++ (v ++ (f ++ g)))

whole-made : (x : Screen) (r : Rendition) → effect x (Csi None (whole_params r) [] 0x6D) ≡ with_rendition x r
whole-made x r = ap (λ values. effect x (Csi None values [] 0x6D)) (whole-is r) ∙ rendition-is x r

pub params-made : (x : Screen) (known : Option Rendition) (r : Rendition) → Knows known x.state.rendition
    → effect x (Csi None (rendition_params known r) [] 0x6D) ≡ with_rendition x r
params-made x None r h = whole-made x r
params-made x (Some o) r h = either (λ values. effect x (Csi None values [] 0x6D) ≡ with_rendition x r)
    (change_params o r) (whole_params r)
    (λ some. from-present x (change_params o r) (change-values o r) some
    ∙ ap (λ (p : Rendition). all_acted (with_rendition x p) (each rendered (change_params o r))) h
    ∙ changes-made x o r)
    (whole-made x r)
