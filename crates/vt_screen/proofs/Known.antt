-- Letters, marks and known wide characters stand for themselves, and their widths are read off the width table.
use Rattle.vt_screen.proofs.Vocabulary.{◌≡◌, ℕ, zero, suc, None, ◌<◌, ◌≤◌, Bool, true, false, ◌&&◌, ◌||◌, nat_le, ltb}
use Rattle.vt_screen.proofs.Vocabulary.{Option, Some, List, [], ◌∷◌, refl, sym, ap, ◌∙◌, arith, inl, inr, eqb, cond}
use Rattle.vt_screen.proofs.Vocabulary.{eqb-true, le-leb, leb-true, ltb-true, slice_index_or, and_parts, cases_Bool}
use Rattle.vt_screen.proofs.Vocabulary.{cases_eq, cases_lt, cond-true, cond-false, lt-leb, nat_tests, Shifts, Code}
use Rattle.vt_screen.proofs.Vocabulary.{is_plain, is_known_wide, is_letter, is_mark, Print, State, Screen, with_state}
use Rattle.vt_screen.proofs.Vocabulary.{is_wrapped, columns_of, drawn, printed, printed_as, acted, acted_from, Display}
use Rattle.vt_screen.proofs.Vocabulary.{MovesLines, acted_places, printed_places, wrapped_places}
use Rattle.charsets.specs.Shifts.{is_graphic, is_position, mapped, spent}
use Rattle.cells.specs.Glyph.{drawn_as, glyph_columns}
use Rattle.terminal_model.proofs.Plain.{columns-plain, drawn-plain}
use Rattle.ucd_table.specs.Steps.{Step, step_value}
use Rattle.ucd_table.proofs.Computing.{tables}
use Rattle.ucd_table.proofs.StepsLemmas.{step_value-here, step_value-later}
use Rattle.unicode_width.specs.declared.kind.Kind.{Kind}
use Rattle.unicode_width.specs.declared.kind.Kind.TheVariants as kinds
use Rattle.unicode_width.specs.Kind.{kind, kind_number, number_of_kind}
use Rattle.unicode_width.specs.Width.{alone, char_width, of_kind}
use Rattle.unicode_width.proofs.KindLemmas.{kind_number_stepped}

-- the width of each kind by its number, outside of East Asian contexts; characters of the last one differ
abbrev width_of : ℕ → ℕ → ℕ
width_of single n = slice_index_or (0 ∷ 1 ∷ 2 ∷ 1 ∷ 1 ∷ 1 ∷ 1 ∷ 1 ∷ 1 ∷ 2 ∷ 2 ∷ []) n single

of_kind-width : (c : ℕ) (k : Kind) (w single : ℕ) → eqb (width_of single (number_of_kind k)) w ≡ true
    → (single ≡ w → (of_kind false c kinds.Single).0 ≡ w) → (of_kind false c k).0 ≡ w
of_kind-width c kinds.Zero w single h last = eqb-true 0 w h
of_kind-width c kinds.Narrow w single h last = eqb-true 1 w h
of_kind-width c kinds.Wide w single h last = eqb-true 2 w h
of_kind-width c kinds.Ambiguous w single h last = eqb-true 1 w h
of_kind-width c kinds.Alef w single h last = eqb-true 1 w h
of_kind-width c kinds.KhmerLetter w single h last = eqb-true 1 w h
of_kind-width c kinds.TifinaghConsonant w single h last = eqb-true 1 w h
of_kind-width c kinds.LisuTone w single h last = eqb-true 1 w h
of_kind-width c kinds.RegionalIndicator w single h last = eqb-true 1 w h
of_kind-width c kinds.EmojiModifier w single h last = eqb-true 2 w h
of_kind-width c kinds.Emoji w single h last = eqb-true 2 w h
of_kind-width c kinds.Single w single h last = last (eqb-true single w h)

-- all characters between two bounds have this width
unfoldable all_are : ℕ → ℕ → ℕ → List (Step ℕ) → Bool
all_are w low high [] = false
all_are w low high (s ∷ ss) =
    cond (nat_le s.0 low) (all_are w low high ss)
    (eqb (width_of 9 s.1) w && cond (nat_le high s.0) true (all_are w s.0 high ss))

all_are-true : (d w low high : ℕ) (ss : List (Step ℕ)) (c : ℕ) → all_are w low high ss ≡ true → low ≤ c → c < high
    → eqb (width_of 9 (step_value d ss c)) w ≡ true
unfolding all_are
all_are-true d w low high [] c h above below = absurd (cc)
all_are-true d w low high (s ∷ ss) c h above below =
    elim (cases_lt low s.0) [
      | inl begun ↦
          let ends : nat_le s.0 low ≡ false = lt-leb s.0 low begun in
          let parts = and_parts (eqb (width_of 9 s.1) w) (cond (nat_le high s.0) true (all_are w s.0 high ss))
          (sym (cond-false _ _ _ ends) ∙ h) in
          elim (cases_lt c s.0) [
            | inl here ↦ ap (λ (n : ℕ). eqb (width_of 9 n) w) (step_value-here d s ss c here) ∙ parts.0
            | inr later ↦
                let goes : nat_le high s.0 ≡ false = lt-leb high s.0 (omega arith) in
                ap (λ (n : ℕ). eqb (width_of 9 n) w) (step_value-later d s ss c later)
                ∙ all_are-true d w s.0 high ss c (sym (cond-false _ _ _ goes) ∙ parts.1) later below
          ]
      | inr ended ↦
          ap (λ (n : ℕ). eqb (width_of 9 n) w) (step_value-later d s ss c (omega arith))
          ∙ all_are-true d w low high ss c (sym (cond-true _ _ _ (le-leb s.0 low ended)) ∙ h) above below
    ]

known : (w low high c : ℕ) → all_are w low high kind_number_stepped.steps ≡ true → w < 9 → 0xA0 ≤ low → low ≤ c
    → c < high → char_width false c ≡ Some w
unfolding char_width alone kind_number
known w low high c h small beyond above below =
    let is : eqb (width_of 9 (kind_number c)) w ≡ true =
    ap (λ (n : ℕ). eqb (width_of 9 n) w) (kind_number_stepped.gives c)
    ∙ all_are-true kind_number_stepped.default w low high kind_number_stepped.steps c h above below in
    let late : nat_le 0xA0 c ≡ true = le-leb 0xA0 c (omega arith) in
    let few : ltb c 0x7F ≡ false = grind (arith, nat_tests) in
    rw (few, late) (ap Some (of_kind-width c (kind c) w 9 is (λ e. absurd (omega arith))))

-- lamed is of the last kind, in which it takes one column
lamed_is : eqb (width_of 1 (step_value kind_number_stepped.default kind_number_stepped.steps 0x5DC)) 1 ≡ true
unfolding tables kind_number_stepped
lamed_is = refl

lamed_width : char_width false 0x5DC ≡ Some 1
unfolding char_width alone kind_number
lamed_width =
    let is : eqb (width_of 1 (kind_number 0x5DC)) 1 ≡ true =
    ap (λ (n : ℕ). eqb (width_of 1 n) 1) (kind_number_stepped.gives 0x5DC) ∙ lamed_is in
    ap Some (of_kind-width 0x5DC (kind 0x5DC) 1 1 is (λ e. refl))

-- ranges of characters: each from one bound to another, without these
abbrev in_ranges : List (ℕ × ℕ) → ℕ → Bool
in_ranges [] c = false
in_ranges (r ∷ rs) c = (ltb r.0 c && ltb c r.1) || in_ranges rs c

-- all of their characters have this width
abbrev ranges_are : ℕ → List (ℕ × ℕ) → List (Step ℕ) → Bool
ranges_are w [] steps = true
ranges_are w (r ∷ rs) steps = (nat_le 0x9F r.0 && all_are w (suc r.0) r.1 steps) && ranges_are w rs steps

in_known : (w c : ℕ) (rs : List (ℕ × ℕ)) → ranges_are w rs kind_number_stepped.steps ≡ true → w < 9
    → in_ranges rs c ≡ true → char_width false c ≡ Some w
in_known w c [] h small within = absurd (cc)
in_known w c (r ∷ rs) h small within =
    let parts = and_parts (nat_le 0x9F r.0 && all_are w (suc r.0) r.1 kind_number_stepped.steps)
    (ranges_are w rs kind_number_stepped.steps) h in
    let first = and_parts (nat_le 0x9F r.0) (all_are w (suc r.0) r.1 kind_number_stepped.steps) parts.0 in
    elim (cases_Bool (ltb r.0 c && ltb c r.1)) [
      | inl here ↦
          let bounds = and_parts (ltb r.0 c) (ltb c r.1) here in
          let low : r.0 < c = ltb-true r.0 c bounds.0 in
          let beyond : 0x9F ≤ r.0 = leb-true 0x9F r.0 first.0 in
          known w (suc r.0) r.1 c first.1 small (omega arith) (omega arith) (ltb-true c r.1 bounds.1)
      | inr later ↦ in_known w c rs parts.1 small (rw later at within)
    ]

-- letters from A0 on, except for lamed
abbrev letters : List (ℕ × ℕ)
letters = (0x9F, 0xAD) ∷ (0xAD, 0x300) ∷ (0x36F, 0x483) ∷ (0x489, 0x590) ∷ (0x5CF, 0x5DC) ∷ (0x5DC, 0x5EB) ∷ []

abbrev marks : List (ℕ × ℕ)
marks = (0x2FF, 0x338) ∷ (0x338, 0x370) ∷ (0x590, 0x5BE) ∷ []

abbrev wides : List (ℕ × ℕ)
wides = (0x3040, 0x3097) ∷ (0x309F, 0x3100) ∷ (0x33FF, 0xA000) ∷ (0xABFF, 0xD7A4) ∷ (0x1F5FF, 0x1F650) ∷ []

widths_are : (ranges_are 0 marks kind_number_stepped.steps ≡ true)
    × (ranges_are 1 letters kind_number_stepped.steps ≡ true) × (ranges_are 2 wides kind_number_stepped.steps ≡ true)
unfolding tables kind_number_stepped all_are
widths_are = (refl, refl, refl)

-- a character that stands for itself in this number of columns
pub record IsKnown (character width : ℕ) : Type 0 where
  pub graphic : is_graphic (Code character) ≡ true
  pub columns : columns_of character ≡ width
  pub drawn : drawn character ≡ character

known_by : (c w : ℕ) → 0xA0 ≤ c → char_width false c ≡ Some w → glyph_columns (Some w) ≡ w → drawn_as (Some w) c ≡ c
    → IsKnown c w
unfolding columns_of drawn
known_by c w beyond width columns drawn = record {
  graphic = grind (arith, nat_tests);
  columns = ap glyph_columns width ∙ columns;
  drawn = ap (λ (o : Option ℕ). drawn_as o c) width ∙ drawn;
}

pub known_mark : (c : ℕ) → is_mark c ≡ true → IsKnown c 0
known_mark c h =
    known_by c 0 (grind (arith, nat_tests))
    (in_known 0 c marks widths_are.0 (omega arith) (grind (arith, nat_tests))) refl refl

pub known_wide : (c : ℕ) → is_known_wide c ≡ true → IsKnown c 2
known_wide c h =
    known_by c 2 (grind (arith, nat_tests))
    (in_known 2 c wides widths_are.2 (omega arith) (grind (arith, nat_tests))) refl refl

pub known_letter : (c : ℕ) → is_letter c ≡ true → IsKnown c 1
known_letter c h =
    elim (cases_lt c 0xA0) [
      | inl low ↦
          let plain : is_plain c ≡ true = grind (arith, nat_tests) in
          record { graphic = grind (arith, nat_tests); columns = columns-plain c plain; drawn = drawn-plain c plain }
      | inr beyond ↦
          elim (cases_eq c 0x5DC) [
            | inl lamed ↦ known_by c 1 beyond (rw lamed lamed_width) refl refl
            | inr other ↦
                known_by c 1 beyond
                (in_known 1 c letters widths_are.1 (omega arith) (grind (arith, nat_tests))) refl refl
          ]
    ]

pub printed_known : (x : Screen) (c w : ℕ) → IsKnown c w → printed (Some c) x ≡ printed_as w c x
printed_known x c w k = ap (λ (n : ℕ). printed_as n (drawn c) x) k.columns ∙ ap (λ (d : ℕ). printed_as w d x) k.drawn

pub places_known : (s : State) (c w : ℕ) (places : List ℕ) → IsKnown c w
    → printed_places (Some c) s places ≡ wrapped_places (is_wrapped w s) s places
places_known s c w places k = ap (λ (n : ℕ). wrapped_places (is_wrapped n s) s places) k.columns

pub lines_known : (d later : Display) (c w : ℕ) → IsKnown c w
    → MovesLines d (wrapped_places (is_wrapped w d.state)) later → MovesLines d (printed_places (Some c)) later
lines_known d later c w k lines =
    record { width = lines.width; places = lines.places ∙ sym (places_known d.state c w d.page.places k) }

-- a character from U+00A0 on is in no set, and ends a single shift
beyond_graphic : (c : ℕ) → 0xA0 ≤ c → is_graphic (Code c) ≡ true
beyond_graphic c low = grind (arith, nat_tests)

beyond_mapped : (s : Shifts) (c : ℕ) → 0xA0 ≤ c → mapped s (Code c) ≡ Some c
unfolding mapped
beyond_mapped s c low =
    let set : is_position c ≡ false = grind (arith, nat_tests) in
    rw (set, beyond_graphic c low) refl

pub beyond_printed : (x : Screen) (c : ℕ) → 0xA0 ≤ c
    → acted x (Print (Code c)) ≡ printed (Some c)
    (with_state x (record x.state { shifts = record x.state.shifts { single = None } }))
unfolding acted_from
beyond_printed x c low =
    ap (λ (o : Option ℕ). printed o (with_state x (record x.state { shifts = spent x.state.shifts (Code c) })))
    (beyond_mapped x.state.shifts c low)
    ∙ ap (λ (b : Bool). printed (Some c)
    (with_state x (record x.state { shifts = cond b (record x.state.shifts { single = None }) x.state.shifts })))
    (beyond_graphic c low)

wrapped_still : (n : ℕ) (s : State) (shifts : Shifts) → is_wrapped n (record s { shifts = shifts }) ≡ is_wrapped n s
wrapped_still zero s shifts = refl
wrapped_still (suc zero) s shifts = refl
wrapped_still (suc (suc n)) s shifts = refl

pub beyond_places : (s : State) (c : ℕ) (places : List ℕ) → 0xA0 ≤ c
    → printed_places (Some c) (record s { shifts = record s.shifts { single = None } }) places ≡ acted_places s
    (Print (Code c)) places
beyond_places s c places low =
    ap (λ (b : Bool). wrapped_places b s places) (wrapped_still (columns_of c) s (record s.shifts { single = None }))
    ∙ ap (λ (o : Option ℕ). printed_places o s places) (sym (beyond_mapped s.shifts c low))
