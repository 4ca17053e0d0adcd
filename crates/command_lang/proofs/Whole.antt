-- What holds of the words of a line holds of the line.
use Rattle.command_lang.proofs.Vocabulary.{◌≡◌, ℕ, ◌≤◌, Bool, true, false, List, [], length, refl, Some, inl, inr, ◌⊎◌}
use Rattle.command_lang.proofs.Vocabulary.{chars, is_utf8, IsUtf8, is_utf8-from_IsUtf8, IsUtf8-from_is_utf8, Word}
use Rattle.command_lang.proofs.Vocabulary.{IsCut, Command, ParseFault, first_of, line_command, line_faults, no_memory}
use Rattle.command_lang.proofs.Vocabulary.{Relates, Refuses}

pub no_text : (line : List ℕ) → (IsUtf8 line → ⊥) → is_utf8 line ≡ false
no_text line h = by (is_utf8 line) refl
  where
    by : (b : Bool) → is_utf8 line ≡ b → b ≡ false
    by true e = absurd (h (IsUtf8-from_is_utf8 line e))
    by false e = refl

pub relates : (line : List ℕ) (ws : List Word) (c : Command) → length line ≤ 1024 → IsUtf8 line → IsCut (chars line) ws
    → (line_faults (length line) ws ≡ []) × (line_command ws ≡ Some c) → Relates line c
relates line ws c h u e r = record
    { words = ws; has = record { short = h; text = is_utf8-from_IsUtf8 line u; cut = e }; fine = r.0; means = r.1 }

pub refuses : (line : List ℕ) (ws : List Word) (f : ParseFault) → length line ≤ 1024 → IsUtf8 line
    → IsCut (chars line) ws
    → (f ≡ no_memory) ⊎ (first_of (line_faults (length line) ws) ≡ Some f) → (f ≡ no_memory) ⊎ Refuses line f
refuses line ws f h u e r = elim r as (λ _. (f ≡ no_memory) ⊎ Refuses line f) [
  | inl m ↦ inl m
  | inr p ↦ inr (Refuses.fault (record { short = h; text = is_utf8-from_IsUtf8 line u; cut = e }) p)
]
