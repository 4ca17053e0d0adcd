-- The bits of a rendition give it back, and an attribute changes them as it changes the rendition.
use Rattle.std.proofs.Common.{◌≡◌, ℕ, zero, suc, ◌+◌, ◌-◌, ◌*◌, ◌/◌, ◌%◌, ◌<◌, ◌≤◌, Bool, true, false, ◌&&◌, ◌==◌}
use Rattle.std.proofs.Common.{refl, arith, bit_and, ⊎_elim}
use Rattle.std.proofs.lemmas.Bool.{and_parts, cases_lt, eqb-true}
use Rattle.cells.specs.declared.rendition.Colour.{Colour}
use Rattle.cells.specs.declared.rendition.Colour.TheVariants.{Default, Black, Red, Green, Yellow, Blue}
use Rattle.cells.specs.declared.rendition.Colour.TheVariants.{Magenta, Cyan, White}
use Rattle.cells.specs.Rendition.{Rendition, bit, bits_of, colour_at, colour_part, rendition_of}

bit_few : (b : Bool) → bit b ≤ 1
bit_few false = omega arith
bit_few true = omega arith

colour_few : (c : Colour) → colour_part c ≤ 8
colour_few Default = omega arith
colour_few Black = omega arith
colour_few Red = omega arith
colour_few Green = omega arith
colour_few Yellow = omega arith
colour_few Blue = omega arith
colour_few Magenta = omega arith
colour_few Cyan = omega arith
colour_few White = omega arith

bit_back : (b : Bool) → (bit b == 1) ≡ b
bit_back false = refl
bit_back true = refl

colour_back : (c : Colour) → colour_at (colour_part c) ≡ c
colour_back Default = refl
colour_back Black = refl
colour_back Red = refl
colour_back Green = refl
colour_back Yellow = refl
colour_back Blue = refl
colour_back Magenta = refl
colour_back Cyan = refl
colour_back White = refl

-- what holds of every number below 4096 is found by trying each
abbrev holds_below : (ℕ → Bool) → ℕ → Bool
holds_below f zero = true
holds_below f (suc n) = f n && holds_below f n

holds_at : (f : ℕ → Bool) (n k : ℕ) → holds_below f n ≡ true → k < n → f k ≡ true
holds_at f zero k all few = absurd (omega arith)
holds_at f (suc n) k all few =
    let parts = and_parts (f n) (holds_below f n) all in
    ⊎_elim (λ (less : k < n). holds_at f n k parts.1 less)
    (λ (most : n ≤ k). let same : k ≡ n = omega arith in rw same parts.0) (cases_lt k n)

-- what is left of a number below 4096 under each mask
masked : (mask : ℕ) (left : ℕ → ℕ) (n : ℕ) → holds_below (λ k. bit_and k mask == left k) 4096 ≡ true → n < 4096
    → bit_and n mask ≡ left n
masked mask left n all few =
    eqb-true (bit_and n mask) (left n) (holds_at (λ k. bit_and k mask == left k) 4096 n all few)

module _ (r : Rendition) where
  pub few : bits_of r < 4096
  few = omega (
    arith,
    bit_few r.is_bold,
    bit_few r.is_underlined,
    bit_few r.is_blinking,
    bit_few r.is_reversed,
    colour_few r.fore,
    colour_few r.back,
  )

  bold_bit : bits_of r % 2 ≡ bit r.is_bold
  bold_bit = omega (arith, bit_few r.is_bold)

  underlined_bit : bits_of r / 2 % 2 ≡ bit r.is_underlined
  underlined_bit = omega (arith, bit_few r.is_bold, bit_few r.is_underlined)

  blinking_bit : bits_of r / 4 % 2 ≡ bit r.is_blinking
  blinking_bit = omega (arith, bit_few r.is_bold, bit_few r.is_underlined, bit_few r.is_blinking)

  reversed_bit : bits_of r / 8 % 2 ≡ bit r.is_reversed
  reversed_bit = omega (arith, bit_few r.is_bold, bit_few r.is_underlined, bit_few r.is_blinking, bit_few r.is_reversed)

  fore_bits : bits_of r / 16 % 16 ≡ colour_part r.fore
  fore_bits = omega (
    arith,
    bit_few r.is_bold,
    bit_few r.is_underlined,
    bit_few r.is_blinking,
    bit_few r.is_reversed,
    colour_few r.fore,
  )

  back_bits : bits_of r / 256 ≡ colour_part r.back
  back_bits = omega (
    arith,
    bit_few r.is_bold,
    bit_few r.is_underlined,
    bit_few r.is_blinking,
    bit_few r.is_reversed,
    colour_few r.fore,
  )

  pub rendition_back : rendition_of (bits_of r) ≡ r
  rendition_back =
      rw (bold_bit, underlined_bit, blinking_bit, reversed_bit, fore_bits, back_bits)
      (rw (
        bit_back r.is_bold,
        bit_back r.is_underlined,
        bit_back r.is_blinking,
        bit_back r.is_reversed,
        colour_back r.fore,
        colour_back r.back,
      ) refl)

  pub with_bold : (on : Bool) (set : ℕ) → set ≡ bit on
      → bit_and (bits_of r) 0xFFE + set ≡ bits_of (record r { is_bold = on })
  with_bold on set is = rw (masked 0xFFE (λ k. k - k % 2) (bits_of r) refl few, bold_bit, is) (omega arith)

  pub with_underlined : (on : Bool) (set : ℕ) → set ≡ bit on
      → bit_and (bits_of r) 0xFFD + 2 * set ≡ bits_of (record r { is_underlined = on })
  with_underlined on set is =
      rw (masked 0xFFD (λ k. k - 2 * (k / 2 % 2)) (bits_of r) refl few, underlined_bit, is) (omega arith)

  pub with_blinking : (on : Bool) (set : ℕ) → set ≡ bit on
      → bit_and (bits_of r) 0xFFB + 4 * set ≡ bits_of (record r { is_blinking = on })
  with_blinking on set is =
      rw (masked 0xFFB (λ k. k - 4 * (k / 4 % 2)) (bits_of r) refl few, blinking_bit, is) (omega arith)

  pub with_reversed : (on : Bool) (set : ℕ) → set ≡ bit on
      → bit_and (bits_of r) 0xFF7 + 8 * set ≡ bits_of (record r { is_reversed = on })
  with_reversed on set is =
      rw (masked 0xFF7 (λ k. k - 8 * (k / 8 % 2)) (bits_of r) refl few, reversed_bit, is) (omega arith)

  pub with_fore : (c : Colour) (set : ℕ) → set ≡ colour_part c
      → bit_and (bits_of r) 0xF0F + 16 * set ≡ bits_of (record r { fore = c })
  with_fore c set is =
      rw (masked 0xF0F (λ k. k - 16 * (k / 16 % 16)) (bits_of r) refl few, fore_bits, is) (omega arith)

  pub with_back : (c : Colour) (set : ℕ) → set ≡ colour_part c
      → bit_and (bits_of r) 0xFF + 256 * set ≡ bits_of (record r { back = c })
  with_back c set is = rw (masked 0xFF (λ k. k - 256 * (k / 256)) (bits_of r) refl few, back_bits, is) (omega arith)
