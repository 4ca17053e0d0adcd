-- The view that a session gives of a client is its granted view, or no client has the serial.
use Rattle.session_core.proofs.Vocabulary.{◌≡◌, ℕ, Option, Some, None, Ok, Err, sym, subst, inl, inr, MatchOption, View}
use Rattle.session_core.proofs.Vocabulary.{Refusal, Trace, Client, client_at, granted_view, tables_of}
use Rattle.std.specs.Prelude.{Result}
use Rattle.session_view.specs.Viewed.{ViewOf}
use Rattle.session_core.specs.Headline.{IsViewOf}

pub sees : (h : Trace) (client : ℕ) (result : Result View Refusal) (o : Option Client)
    → client_at (tables_of h) client ≡ o → ViewOf (tables_of h) o result → IsViewOf h client result
sees h client (Ok v) (Some m) at is = subst (λ o. MatchOption o ⊥ (λ c. v ≡ granted_view (tables_of h) c)) (sym at)
    is.granted
sees h client (Ok v) None at is = absurd is
sees h client (Err r) (Some m) at is = inl is
sees h client (Err r) None at is = inr (is, at)
