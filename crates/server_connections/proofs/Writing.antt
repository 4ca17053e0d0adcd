-- A write that took no byte.
use Rattle.std.proofs.Common.{◌≡◌, ◌∙◌, ◌-◌, ◌≤◌, ℕ, true, List, [], ◌∷◌, refl, ap, arith}
use Rattle.std.proofs.lemmas.Bool.{le-leb}
use Rattle.std.specs.Prelude.{nat_le}
use Rattle.server_sending.specs.Written.{Waiting, unbegun}
use Rattle.server_sending.specs.declared.typists.TypedFrame.{TypedFrame}
use Rattle.server_connections.specs.Streaming.{sent}

unbegun_none : (fs : List TypedFrame) → unbegun 0 fs ≡ fs
unbegun_none [] = refl
unbegun_none (f ∷ fs) =
    let all : nat_le 0 f.from ≡ true = le-leb 0 f.from (omega arith) in
    let place : f.from - 0 ≡ f.from = omega arith in
    rw all (ap (λ (k : ℕ). record f { from = k } ∷ unbegun 0 fs) place
    ∙ ap (λ (rest : List TypedFrame). f ∷ rest) (unbegun_none fs))

pub sent_none : (t : Waiting) → sent 0 t ≡ t
sent_none t = ap (λ (fs : List TypedFrame). record t { typed = fs }) (unbegun_none t.typed)
