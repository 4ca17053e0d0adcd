-- Shapes coded as lists of numbers, by which a proof tells them apart: a region is 0, and a split
-- comes after its halves.
--
-- A value that contains a value of its own type has no code by itself, so shapes need these.
use Rattle.std.specs.Prelude.{◌≡◌, ℕ, zero, suc, List, [], ◌∷◌, ◌++◌, refl}
use Rattle.std.specs.Coded.{Coded, code_by, coded_list, coded_ℕ}
use Rattle.std.proofs.Common.{ap, ◌∙◌, append_assoc, sym}
use Rattle.std.proofs.lemmas.List.{append-nil}
use Rattle.regions.specs.declared.node.Way.{Way}
use Rattle.regions.specs.declared.node.Way.TheVariants.{Below, Right}
use Rattle.regions.specs.Shapes.{Shape, region, split}

abbrev pub encode : Shape → List ℕ
encode region = 0 ∷ []
encode (split Below a b) = encode a ++ (encode b ++ 1 ∷ [])
encode (split Right a b) = encode a ++ (encode b ++ 2 ∷ [])

abbrev pub joined : Way → List Shape → List Shape
joined way [] = []
joined way (b ∷ []) = []
joined way (b ∷ a ∷ stack) = split way a b ∷ stack

abbrev pub run : List ℕ → List Shape → List Shape
run [] stack = stack
run (zero ∷ more) stack = run more (region ∷ stack)
run (suc zero ∷ more) stack = run more (joined Below stack)
run (suc (suc n) ∷ more) stack = run more (joined Right stack)

abbrev pub first : List Shape → Shape
first [] = region
first (s ∷ stack) = s

regroup : (a b : List ℕ) (n : ℕ) (more : List ℕ)
    → (a ++ (b ++ n ∷ [])) ++ more ≡ a ++ (b ++ n ∷ more)
regroup a b n more =
    append_assoc a (b ++ n ∷ []) more
    ∙ ap (λ (x : List ℕ). a ++ x) (append_assoc b (n ∷ []) more)

pub run_encode : (s : Shape) (more : List ℕ) (stack : List Shape)
    → run (encode s ++ more) stack ≡ run more (s ∷ stack)
run_encode region more stack = refl
run_encode (split Below a b) more stack =
    ap (λ (x : List ℕ). run x stack) (regroup (encode a) (encode b) 1 more)
    ∙ run_encode a (encode b ++ 1 ∷ more) stack
    ∙ run_encode b (1 ∷ more) (a ∷ stack)
run_encode (split Right a b) more stack =
    ap (λ (x : List ℕ). run x stack) (regroup (encode a) (encode b) 2 more)
    ∙ run_encode a (encode b ++ 2 ∷ more) stack
    ∙ run_encode b (2 ∷ more) (a ∷ stack)

pub back : (s : Shape) → first (run (encode s) []) ≡ s
back s =
    ap (λ (x : List ℕ). first (run x [])) (sym (append-nil (encode s)))
    ∙ ap first (run_encode s [] [])

abbrev pub shape_code : Coded Shape
shape_code = code_by (List ℕ) (coded_list coded_ℕ) encode (λ l. first (run l [])) back
