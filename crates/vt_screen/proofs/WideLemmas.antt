-- Printing a wide character.
use Rattle.vt_screen.proofs.Vocabulary.{◌≡◌, ℕ, false, ◌&&◌, sym, ap, ◌∙◌, Screen, lacks_room, placed_wide}
use Rattle.vt_screen.proofs.Vocabulary.{wide_or_none, wide_printed, wrapped}

-- a wide character that has room in the line to which the wrap led
pub widely_is : (c : ℕ) (x w y : Screen) → w ≡ wrapped (lacks_room x.state && x.state.modes.wraps) x
    → lacks_room w.state ≡ false → y ≡ placed_wide c w → y ≡ wide_printed c x
widely_is c x w y e room p = p ∙ sym (ap (λ b. wide_or_none b c w) room)
    ∙ ap (λ (v : Screen). wide_or_none (lacks_room v.state) c v) e
