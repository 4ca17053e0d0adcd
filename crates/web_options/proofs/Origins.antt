-- Names of origins, one after another.
use Rattle.std.proofs.Common.{◌≡◌, ◌<◌, ◌+◌, ℕ, zero, suc, List, [], ◌∷◌, ◌++◌, length, take, drop, arith, ap, sym, ◌∙◌}
use Rattle.std.proofs.Common.{subst, refl, get_or}
use Rattle.std.specs.Borrow.{Bor}
use Rattle.std.specs.List.{AllByRecursion}
use Rattle.web_options.specs.declared.fault.WebFault.{WebFault}
use Rattle.web_options.specs.declared.listening.Listen.{Listen}
use Rattle.web_options.specs.Listening.{IsOrigin, IsNoOrigin, IsWrong, HasNoOrigins, Origins, texts}

-- some are named
pub wrong : (named : List (List ℕ)) (listen : Listen) (fault : WebFault) → 0 < length named → IsWrong named fault
    → HasNoOrigins named listen fault
wrong [] listen fault l h = absurd (omega (arith, l))
wrong (name ∷ more) listen fault l h = h

pub good : (named origins : List (List ℕ)) (listen : Listen) → 0 < length named → origins ≡ named
    → AllByRecursion IsOrigin named → Origins named listen origins
good [] origins listen l e h = absurd (omega (arith, l))
good (name ∷ more) origins listen l e h = (e, h)

more : (named : List (Bor (List ℕ))) (i : ℕ) (d : Bor (List ℕ)) → i < length named
    → take (suc i) (texts named) ≡ take i (texts named) ++ (get_or named i d).now ∷ []
more [] i d l = absurd (omega (arith, l))
more (x ∷ xs) zero d l = refl
more (x ∷ xs) (suc i) d l = ap (λ (t : List (List ℕ)). x.now ∷ t) (more xs i d (omega (arith, l)))

all_more : (names : List (List ℕ)) (name : List ℕ) → AllByRecursion IsOrigin names → IsOrigin name
    → AllByRecursion IsOrigin (names ++ name ∷ [])
all_more [] name h k = (k, tt)
all_more (n ∷ ns) name h k = (h.0, all_more ns name h.1 k)

-- the names up to a place, and one more
abbrev pub Taken : List (Bor (List ℕ)) → ℕ → List (List ℕ) → Type 0
Taken named i made = (made ≡ take i (texts named)) × AllByRecursion IsOrigin (take i (texts named))

pub then_more : (named : List (Bor (List ℕ))) (i : ℕ) (d : Bor (List ℕ)) (old new : List (List ℕ)) → i < length named
    → Taken named i old → IsOrigin (get_or named i d).now → new ≡ old ++ (get_or named i d).now ∷ []
    → Taken named (i + 1) new
then_more named i d old new l h k e =
    let name : List ℕ = (get_or named i d).now in
    let step : suc i ≡ i + 1 = omega arith in
    let last = more named i d l in
    subst (λ (m : ℕ). Taken named m new) step (
      e ∙ ap (λ (t : List (List ℕ)). t ++ name ∷ []) h.0 ∙ sym last,
      subst (AllByRecursion IsOrigin) (sym last) (all_more (take i (texts named)) name h.1 k),
    )

-- the name at a place, between the others
placed : (named : List (Bor (List ℕ))) (i : ℕ) (d : Bor (List ℕ)) → i < length named
    → texts named ≡ take i (texts named) ++ (get_or named i d).now ∷ drop (suc i) (texts named)
placed [] i d l = absurd (omega (arith, l))
placed (x ∷ xs) zero d l = refl
placed (x ∷ xs) (suc i) d l = ap (λ (t : List (List ℕ)). x.now ∷ t) (placed xs i d (omega (arith, l)))

pub wrong_at : (named : List (Bor (List ℕ))) (i : ℕ) (d : Bor (List ℕ)) (fault : WebFault) → i < length named
    → AllByRecursion IsOrigin (take i (texts named)) → IsNoOrigin (get_or named i d).now fault
    → IsWrong (texts named) fault
wrong_at named i d fault l h k = record {
  before = take i (texts named);
  name = (get_or named i d).now;
  after = drop (suc i) (texts named);
  place = placed named i d l;
  good = h;
  bad = k;
}
