-- Bytes that were appended in stretches, one after another.
use Rattle.redraw.proofs.Vocabulary.{◌≡◌, ℕ, List, [], ◌∷◌, ◌++◌, refl, sym, ap, ◌∙◌, append_assoc, append-nil}
use Rattle.redraw.proofs.Vocabulary.{AllByRecursion, Page, Screen, Act, ready, reads, joined, Draws, IsDiscreet}
use Rattle.redraw.proofs.Vocabulary.{IsSpare, reads-append, spelled-append, none_draw, joined_draws, Leads, Takes}

all_append : {A : Type 0} (P : A → Type 0) (xs ys : List A) → AllByRecursion P xs → AllByRecursion P ys
    → AllByRecursion P (xs ++ ys)
all_append P [] ys a b = b
all_append P (x ∷ xs) ys a b = (a.0, all_append P xs ys a.1 b)

module _ (old new : Page) where
  pub draws_append : (a b : List Act) → Draws old new a → Draws old new b → Draws old new (a ++ b)
  draws_append a b d e = record {
    discreet = all_append (IsDiscreet new) a b d.discreet e.discreet;
    spare = all_append (IsSpare old new) a b d.spare e.spare;
  }

  pub leads_nothing : (x : Screen) → Leads old new x [] x
  unfolding reads
  leads_nothing x = record
      { acts = []; reading = refl; draws = record { discreet = tt; spare = tt }; spelled = refl; used = none_draw }

  pub leads_then : (x y z : Screen) (a b : List ℕ) → Leads old new x a y → Leads old new y b z
      → Leads old new x (a ++ b) z
  leads_then x y z a b d e = record {
    acts = d.acts ++ e.acts;
    reading = reads-append (ready x) a b ∙ ap (λ r. joined r (reads r.terminal b)) d.reading
        ∙ ap (joined (record { terminal = ready y; reports = []; acts = d.acts })) e.reading;
    draws = draws_append d.acts e.acts d.draws e.draws;
    spelled = spelled-append a b d.acts e.acts d.spelled e.spelled;
    used = joined_draws a b d.used e.used;
  }

  module _ (P : Screen → Type 0) where
    pub takes_nothing : (R : Screen → Screen → Type 0) (a b : List ℕ) → b ≡ a → ((x : Screen) → P x → R x x)
        → Takes old new P R a b
    takes_nothing R a b e r = record
        { bytes = []; appended = e ∙ sym (append-nil a); leads = λ x p. (x, leads_nothing x, r x p) }

    pub takes_bytes : (R : Screen → Screen → Type 0) (a b bytes : List ℕ) → b ≡ a ++ bytes
        → ((x : Screen) → P x → (y : Screen) × Leads old new x bytes y × R x y) → Takes old new P R a b
    takes_bytes R a b bytes e l = record { bytes = bytes; appended = e; leads = l }

    -- one stretch after another
    pub takes_then : (Q : Screen → Type 0) (R S T : Screen → Screen → Type 0) (a b c : List ℕ) → Takes old new P R a b
        → Takes old new Q S b c
        → ((x y : Screen) → P x → R x y → Q y) → ((x y z : Screen) → P x → R x y → S y z → T x z)
        → Takes old new P T a c
    takes_then Q R S T a b c k l q r = record {
      bytes = k.bytes ++ l.bytes;
      appended = l.appended ∙ ap (λ xs. xs ++ l.bytes) k.appended ∙ append_assoc a k.bytes l.bytes;
      leads = λ x p.
          let m = k.leads x p in
          let n = l.leads m.0 (q x m.0 p m.2) in
          (n.0, leads_then x m.0 n.0 k.bytes l.bytes m.1 n.1, r x m.0 n.0 p m.2 n.2);
    }

    pub takes_weaker : (R S : Screen → Screen → Type 0) (a b : List ℕ) → Takes old new P R a b
        → ((x y : Screen) → P x → R x y → S x y) → Takes old new P S a b
    takes_weaker R S a b k w = record
        { bytes = k.bytes; appended = k.appended; leads = λ x p. let m = k.leads x p in (m.0, m.1, w x m.0 p m.2) }

    pub takes_given : (Q : Screen → Type 0) (R : Screen → Screen → Type 0) (a b : List ℕ) → ((x : Screen) → Q x → P x)
        → Takes old new P R a b → Takes old new Q R a b
    takes_given Q R a b w k = record { bytes = k.bytes; appended = k.appended; leads = λ x p. k.leads x (w x p) }
