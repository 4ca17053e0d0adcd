-- The client that the code finds has the lowest serial that isn't below a number.
use Rattle.session_core.proofs.Vocabulary.{◌≡◌, ℕ, zero, suc, ◌<◌, ◌≤◌, true, false, List, [], ◌∷◌, length, Some, None}
use Rattle.session_core.proofs.Vocabulary.{map, get_or, refl, ap, ◌∙◌, arith, nat_tests, if_true, if_false}
use Rattle.session_core.proofs.Vocabulary.{ClientStands, Trace, tables_of, client_serials, least_from, Session}
use Rattle.session_core.proofs.Vocabulary.{StandsFor}
use Rattle.std.specs.Prelude.{nat_le}
use Rattle.std.specs.List.{position, position_or_len}
use Rattle.std.proofs.lemmas.List.Quantifiers.{position-Some}
use Rattle.std.proofs.lemmas.List.Sums.{fails_before_first}
use Rattle.std.proofs.lemmas.Grind.{common_steps}
use Rattle.windows_model.proofs.Matching.{mapped_match}
use Rattle.session_state.specs.declared.client.Client.{Client}
use Rattle.session_model.specs.Tables as model

module _ {A : Type 0} (f : A → ℕ) where
  least_at : (rows : List A) (s i : ℕ) (d : A) → i < length rows → nat_le s (f (get_or rows i d)) ≡ true
      → ((k : ℕ) → k < i → nat_le s (f (get_or rows k d)) ≡ false)
      → least_from s (map f rows) ≡ Some (f (get_or rows i d))
  least_at [] s i d lt here before = absurd (omega arith)
  least_at (row ∷ rows) s zero d lt here before = if_true (nat_le s (f row)) _ _ here
  least_at (row ∷ rows) s (suc i) d lt here before =
      if_false (nat_le s (f row)) _ _ (before 0 (omega arith))
      ∙ least_at rows s i d (omega arith) here (λ k below. before (suc k) (omega arith))

  none_from : (rows : List A) (s : ℕ) (d : A) → ((k : ℕ) → k < length rows → nat_le s (f (get_or rows k d)) ≡ false)
      → least_from s (map f rows) ≡ None
  none_from [] s d none = refl
  none_from (row ∷ rows) s d none = if_false (nat_le s (f row)) _ _ (none 0 (omega arith))
      ∙ none_from rows s d (λ k below. none (suc k) (omega arith))

  pub least_found : (rows : List A) (s i : ℕ) (d : A) → position (λ row. nat_le s (f row)) rows ≡ Some i
      → least_from s (map f rows) ≡ Some (f (get_or rows i d))
  least_found rows s i d at = let p = position-Some (λ row. nat_le s (f row)) rows i d at in least_at rows s i d p.0 p.1
      p.2

  pub at_least : (rows : List A) (s i : ℕ) (d : A) → position (λ r. nat_le s (f r)) rows ≡ Some i
      → s ≤ f (get_or rows i d)
  at_least rows s i d at =
      let here = (position-Some (λ r. nat_le s (f r)) rows i d at).1 in
      grind (arith, nat_tests, here)

  pub least_lost : (rows : List A) (s : ℕ) → position (λ row. nat_le s (f row)) rows ≡ None
      → least_from s (map f rows) ≡ None
  least_lost [] s none = refl
  least_lost (r ∷ rows) s none =
      let past : length (r ∷ rows) ≤ position_or_len (λ row. nat_le s (f row)) (r ∷ rows) = grind
      (arith, common_steps, none) in
      none_from (r ∷ rows) s r
      (λ k lt. fails_before_first (λ row. nat_le s (f row)) (r ∷ rows) k r (omega (arith, past, lt)))

-- the serials of a session's clients are those of its tables
pub serials_are : (h : Trace) (s : Session) (clients : List Client) → StandsFor h s → clients ≡ s.state.clients
    → map (λ (c : Client). c.serial) clients ≡ client_serials (tables_of h).clients
serials_are h s clients st are =
    ap (λ (cs : List Client). map (λ (c : Client). c.serial) cs) are
    ∙ mapped_match ClientStands (λ (m : model.Client). m.serial) (λ (c : Client). c.serial)
    (λ m c stands. stands.serial_is) (tables_of h).clients s.state.clients st.stands.clients
