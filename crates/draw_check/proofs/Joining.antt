-- Lists of functions, one after another.
use Rattle.std.proofs.Common.{◌≡◌, ℕ, List, [], ◌∷◌, ◌++◌, refl, sym, ap, ◌∙◌, append_assoc, append-nil}
use Rattle.std.specs.List.{AllByRecursion, concat}
use Rattle.draw_check.specs.Functions.{IsFunction, AreDraws}

all_append : (xs ys : List (List ℕ)) → AllByRecursion IsFunction xs → AllByRecursion IsFunction ys
    → AllByRecursion IsFunction (xs ++ ys)
all_append [] ys a b = b
all_append (x ∷ xs) ys a b = (a.0, all_append xs ys a.1 b)

concat_append : (xs ys : List (List ℕ)) → concat (xs ++ ys) ≡ concat xs ++ concat ys
concat_append [] ys = refl
concat_append (x ∷ xs) ys = ap (λ (l : List ℕ). x ++ l) (concat_append xs ys)
    ∙ sym (append_assoc x (concat xs) (concat ys))

pub none_draw : AreDraws []
none_draw = record { functions = []; used = tt; whole = refl }

pub one_draws : (bytes : List ℕ) → IsFunction bytes → AreDraws bytes
one_draws bytes is = record { functions = bytes ∷ []; used = (is, tt); whole = sym (append-nil bytes) }

pub draws_append : (front later : List ℕ) → AreDraws front → AreDraws later → AreDraws (front ++ later)
draws_append front later a b = record {
  functions = a.functions ++ b.functions;
  used = all_append a.functions b.functions a.used b.used;
  whole = ap (λ (l : List ℕ). l ++ later) a.whole ∙ ap (λ (l : List ℕ). concat a.functions ++ l) b.whole
      ∙ sym (concat_append a.functions b.functions);
}
