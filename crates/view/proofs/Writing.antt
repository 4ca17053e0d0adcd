-- The cells that a text and a caption are written with.
use Rattle.view.proofs.Vocabulary.{◌≡◌, ℕ, zero, suc, ◌+◌, ◌<◌, ◌≤◌, false, cond, eqb, List, [], ◌∷◌, ◌++◌, length}
use Rattle.view.proofs.Vocabulary.{get_or, drop, append_assoc, refl, sym, ap, ◌∙◌, arith, Option, Some, None, IfSome}
use Rattle.view.proofs.Vocabulary.{chars, ne_eqb, Cell, Rendition, narrow_cell, left_cell, right_cell, drawn_as}
use Rattle.view.proofs.Vocabulary.{glyph_columns, columns_of, drawn, char_width, Pane, Empty, Hidden, Readable, part_of}
use Rattle.view.proofs.Vocabulary.{caption_text, visible, char_cells, text_cells}
use Rattle.std.specs.Prelude.{unwrap_or, decimal, IsAscii, ◌^◌}
use Rattle.std.proofs.lemmas.Str.{chars-IsAscii, chars-append, IsAscii-append, IsUtf8-from_ascii}
use Rattle.std.proofs.lemmas.Fmt.{IsAscii-decimal}
use Rattle.std.proofs.lemmas.List.{at_drop_more, at_drop_all, length_push, append-nil}
use Rattle.view.specs.declared.view.Contents.{Contents}

-- the character that is shown, by its width
abbrev shown_by : Option ℕ → ℕ → ℕ
shown_by w c = cond (eqb (glyph_columns w) 0) 0xFFFD (drawn_as w c)

visible-is : (c : ℕ) → visible c ≡ shown_by (char_width false c) c
unfolding columns_of drawn
visible-is c = refl

stays_by : (w : Option ℕ) (c : ℕ) → 0 < unwrap_or w 0 → unwrap_or w 0 ≤ 2 → c ≡ shown_by w c
stays_by None c some few = absurd (omega arith)
stays_by (Some zero) c some few = absurd (omega arith)
stays_by (Some (suc zero)) c some few = refl
stays_by (Some (suc (suc zero))) c some few = refl
stays_by (Some (suc (suc (suc more)))) c some few = absurd (omega arith)

none_by : (w : Option ℕ) (c : ℕ) → unwrap_or w 0 ≡ 0 → 0xFFFD ≡ shown_by w c
none_by None c h = refl
none_by (Some zero) c h = refl
none_by (Some (suc n)) c h = absurd (omega arith)

widest_by : (w : Option ℕ) (c : ℕ) → 2 < unwrap_or w 0 → IfSome w (λ n. n ≤ 3) → 0xFFFD ≡ shown_by w c
widest_by None c h m = absurd (omega arith)
widest_by (Some zero) c h m = absurd (omega arith)
widest_by (Some (suc zero)) c h m = absurd (omega arith)
widest_by (Some (suc (suc zero))) c h m = absurd (omega arith)
widest_by (Some (suc (suc (suc zero)))) c h m = refl
widest_by (Some (suc (suc (suc (suc more))))) c h m = absurd (omega arith)

pub stays : (w : Option ℕ) (c : ℕ) → w ≡ char_width false c → 0 < unwrap_or w 0 → unwrap_or w 0 ≤ 2 → c ≡ visible c
stays w c e some few = stays_by w c some few ∙ ap (λ (x : Option ℕ). shown_by x c) e ∙ sym (visible-is c)

pub shows_none : (w : Option ℕ) (c : ℕ) → w ≡ char_width false c → unwrap_or w 0 ≡ 0 → 0xFFFD ≡ visible c
shows_none w c e none = none_by w c none ∙ ap (λ (x : Option ℕ). shown_by x c) e ∙ sym (visible-is c)

pub shows_widest : (w : Option ℕ) (c : ℕ) → w ≡ char_width false c → 2 < unwrap_or w 0 → IfSome w (λ n. n ≤ 3)
    → 0xFFFD ≡ visible c
shows_widest w c e wide few = widest_by w c wide few ∙ ap (λ (x : Option ℕ). shown_by x c) e ∙ sym (visible-is c)

-- one character more
pub text_more : (r : Rendition) (cs ys : List ℕ) (c : ℕ) (all now new : List Cell) → (length ys < length cs)
    × (c ≡ get_or cs (length ys) c)
    → all ≡ now ++ text_cells r (drop (length ys) cs) → new ≡ now ++ char_cells r c
    → all ≡ new ++ text_cells r (drop (length (ys ++ c ∷ [])) cs)
text_more r cs ys c all now new t a b =
    let n : length ys + 1 ≡ length (ys ++ c ∷ []) = sym (length_push ys c) in
    a ∙ ap (λ (l : List Cell). now ++ l)
    (at_drop_more (text_cells r) cs (length ys) c t.0
    ∙ ap (λ (x : ℕ). char_cells r x ++ text_cells r (drop (length ys + 1) cs)) (sym t.1))
    ∙ sym (append_assoc now (char_cells r c) (text_cells r (drop (length ys + 1) cs)))
    ∙ ap (λ (l : List Cell). l ++ text_cells r (drop (length ys + 1) cs)) (sym b)
    ∙ ap (λ (i : ℕ). new ++ text_cells r (drop i cs)) n

pub text_end : (r : Rendition) (cs : List ℕ) (all now : List Cell) (n : ℕ) → n ≡ length cs
    → all ≡ now ++ text_cells r (drop n cs) → now ≡ all
text_end r cs all now n e a = sym
    (a ∙ ap (λ (l : List Cell). now ++ l) (at_drop_all (text_cells r) cs n (omega (arith, e))) ∙ append-nil now)

-- the cells of a character, by the number of its columns
pub wide_cells : (r : Rendition) (c w : ℕ) → w ≡ glyph_columns (char_width false c) → w ≡ 2
    → char_cells r c ≡ left_cell c r false ∷ right_cell c r false ∷ []
unfolding columns_of
wide_cells r c w e h = let two : glyph_columns (char_width false c) ≡ 2 = sym e ∙ h in rw two refl

pub narrow_cells : (r : Rendition) (c w : ℕ) → w ≡ glyph_columns (char_width false c) → (w ≡ 2 → ⊥)
    → char_cells r c ≡ narrow_cell (visible c) r false ∷ []
unfolding columns_of
narrow_cells r c w e h = let one : eqb (glyph_columns (char_width false c)) 2 ≡ false = ne_eqb _ 2 (λ x. h (e ∙ x)) in
    rw one refl

two_more : (old mid new : List Cell) (a b : Cell) → mid ≡ old ++ a ∷ [] → new ≡ mid ++ b ∷ []
    → new ≡ old ++ (a ∷ b ∷ [])
two_more old mid new a b m n = n ∙ ap (λ (l : List Cell). l ++ b ∷ []) m ∙ append_assoc old (a ∷ []) (b ∷ [])

pub wide_pushed : (r : Rendition) (c w : ℕ) (old mid new : List Cell) (a b : Cell)
    → w ≡ glyph_columns (char_width false c) → w ≡ 2 → a ≡ left_cell c r false → b ≡ right_cell c r false
    → mid ≡ old ++ a ∷ [] → new ≡ mid ++ b ∷ [] → new ≡ old ++ char_cells r c
wide_pushed r c w old mid new a b e h l k m n =
    two_more old mid new a b m n
    ∙ ap (λ (x : Cell). old ++ (x ∷ b ∷ [])) l
    ∙ ap (λ (y : Cell). old ++ (left_cell c r false ∷ y ∷ [])) k
    ∙ ap (λ (cells : List Cell). old ++ cells) (sym (wide_cells r c w e h))

pub narrow_pushed : (r : Rendition) (c w shown : ℕ) (old new : List Cell) (a : Cell)
    → w ≡ glyph_columns (char_width false c) → (w ≡ 2 → ⊥) → shown ≡ visible c → a ≡ narrow_cell shown r false
    → new ≡ old ++ a ∷ [] → new ≡ old ++ char_cells r c
narrow_pushed r c w shown old new a e h v l n =
    n ∙ ap (λ (x : Cell). old ++ x ∷ []) (l ∙ ap (λ (x : ℕ). narrow_cell x r false) v)
    ∙ ap (λ (cells : List Cell). old ++ cells) (sym (narrow_cells r c w e h))

-- ---- captions

ascii_two : (a b : ℕ) → a < 128 → b < 128 → IsAscii (a ∷ b ∷ [])
ascii_two a b h k zero = h
ascii_two a b h k (suc zero) = k
ascii_two a b h k (suc (suc i)) = omega arith

ascii_one : (a : ℕ) → a < 128 → IsAscii (a ∷ [])
ascii_one a h zero = h
ascii_one a h (suc i) = omega arith

pub vacant_text : (p : Pane) (bs : List ℕ) → p ≡ Empty → bs ≡ 45 ∷ 45 ∷ [] → chars bs ≡ caption_text (part_of p)
vacant_text p bs e h = rw (e, h) (chars-IsAscii (45 ∷ 45 ∷ []) (ascii_two 45 45 (omega arith) (omega arith)))

pub unread_text : (p : Pane) (n : ℕ) (bs : List ℕ) → p ≡ Hidden n → n < 2 ^ 64 → bs ≡ decimal n ++ (32 ∷ 63 ∷ [])
    → chars bs ≡ caption_text (part_of p)
unread_text p n bs e few h =
    rw (e, h)
    (chars-IsAscii (decimal n ++ (32 ∷ 63 ∷ []))
    (IsAscii-append (decimal n) (32 ∷ 63 ∷ []) (IsAscii-decimal n few)
    (ascii_two 32 63 (omega arith) (omega arith))))

pub read_text : (p : Pane) (k : Contents) (bs : List ℕ) → p ≡ Readable k → k.number < 2 ^ 64
    → bs ≡ decimal k.number ++ (32 ∷ k.title.now) → chars bs ≡ caption_text (part_of p)
read_text p k bs e few h =
    let front : List ℕ = decimal k.number ++ 32 ∷ [] in
    let ascii : IsAscii front = IsAscii-append (decimal k.number) (32 ∷ []) (IsAscii-decimal k.number few)
    (ascii_one 32 (omega arith)) in
    let joined : front ++ k.title.now ≡ decimal k.number ++ (32 ∷ k.title.now) = append_assoc (decimal k.number)
    (32 ∷ []) k.title.now in
    rw e (ap chars (h ∙ sym joined) ∙ chars-append front k.title.now (IsUtf8-from_ascii front ascii)
    ∙ ap (λ (l : List ℕ). l ++ chars k.title.now) (chars-IsAscii front ascii)
    ∙ append_assoc (decimal k.number) (32 ∷ []) (chars k.title.now))
