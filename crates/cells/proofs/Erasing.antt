-- Erasures in place: two, one after the other, are one.
use Rattle.cells.proofs.Vocabulary.{◌≡◌, ℕ, zero, suc, ◌+◌, ◌-◌, ◌<◌, ◌≤◌, Bool, true, false, ◌&&◌, ◌||◌, cond, eqb}
use Rattle.cells.proofs.Vocabulary.{List, length, replicate, not, leb, ltb, refl, sym, ap, ◌∙◌, ◌⊎◌, inl, inr, arith}
use Rattle.cells.proofs.Vocabulary.{⊎_elim, eq-eqb, cases_lt, cases_eq, cases_Bool, ne_eqb, lt-ltb, le-ltb, Cell, Shape}
use Rattle.cells.proofs.Vocabulary.{Narrow, Left, Right, blank, cell_at, is_left, is_right, IsPaired, Source, Fresh}
use Rattle.cells.proofs.Vocabulary.{Old, are_halves, kept, settled, source_before, source_after, cells_from, spliced}
use Rattle.cells.proofs.Vocabulary.{unprotected_erased, nat_tests}
use Rattle.cells.proofs.Pages.{cells_from-old}
use Rattle.cells.proofs.UsedSplices.{same_cells}
use Rattle.cells.proofs.Splicing.{at_front, at_fresh, at_rest}
use Rattle.cells.proofs.Settling.{settled_at, cell_at-cells_from, cells_from-is, length-cells_from, cell_at_past}
use Rattle.cells.proofs.Settling.{true≢false, after_inside, after_last, IsPaired-cells_from, and_false}

-- the columns that pass the test are erased
abbrev pub inplace : (ℕ → Bool) → ℕ → Source
inplace p column = cond (p column) (Fresh blank) (Old column)

-- whether the column before is erased
abbrev pub before_of : (ℕ → Bool) → ℕ → Bool
before_of p zero = false
before_of p (suc column) = p column

-- the cell of a column that isn't erased
abbrev pub value_by : Shape → Bool → Bool → Cell → Cell
value_by Narrow before after cell = cell
value_by Left before after cell = cond after blank cell
value_by Right before after cell = cond before blank cell

abbrev pub value : (ℕ → Bool) → List Cell → ℕ → Cell
value p cells c = cond (p c) blank (value_by (cell_at cells c).shape (before_of p c) (p (suc c)) (cell_at cells c))

next_halves : (c : ℕ) (q : Bool) (x y : Cell)
    → cond (are_halves (Old c) (cond q (Fresh blank) (Old (suc c)))) x y ≡ cond q y x
next_halves c true x y = refl
next_halves c false x y = rw (eq-eqb (suc c) (suc c) refl) refl

halves_before : (c : ℕ) (q : Bool) (x y : Cell)
    → cond (are_halves (cond q (Fresh blank) (Old c)) (Old (suc c))) x y ≡ cond q y x
halves_before c true x y = refl
halves_before c false x y = rw (eq-eqb (suc c) (suc c) refl) refl

left_goes_on : (p : ℕ → Bool) (cells : List Cell) → IsPaired cells → (c : ℕ) → c < length cells
    → (cell_at cells c).shape ≡ Left → (x y : Cell)
    → cond (are_halves (Old c) (source_after (inplace p) (length cells) c)) x y ≡ cond (p (suc c)) y x
left_goes_on p cells paired c within left x y = ⊎_elim
    (λ (inside : suc c < length cells). rw (after_inside (inplace p) (length cells) c inside)
    (next_halves c (p (suc c)) x y))
    (λ last. absurd
    (true≢false _ (sym (paired.next c) ∙ ap is_left left)
    (ap (λ (x : Cell). is_right x.shape) (cell_at_past cells (suc c) last))))
    (cases_lt (suc c) (length cells))

right_comes_on : (p : ℕ → Bool) (cells : List Cell) → IsPaired cells → (c : ℕ) → (cell_at cells c).shape ≡ Right
    → (x y : Cell)
    → cond (are_halves (source_before (inplace p) c) (Old c)) x y ≡ cond (before_of p c) y x
right_comes_on p cells paired zero right x y = absurd (true≢false _ (ap is_right right) paired.first)
right_comes_on p cells paired (suc c) right x y = halves_before c (p c) x y

by_shape : (p : ℕ → Bool) (cells : List Cell) → IsPaired cells → (c : ℕ) → c < length cells → (s : Shape)
    → (cell_at cells c).shape ≡ s
    → kept s (cell_at cells c) (are_halves (Old c) (source_after (inplace p) (length cells) c))
    (are_halves (source_before (inplace p) c) (Old c)) ≡ value_by s (before_of p c) (p (suc c)) (cell_at cells c)
by_shape p cells paired c within Narrow e = refl
by_shape p cells paired c within Left e = left_goes_on p cells paired c within e (cell_at cells c) blank
by_shape p cells paired c within Right e = right_comes_on p cells paired c e (cell_at cells c) blank

pub value_at : (p : ℕ → Bool) (cells : List Cell) → IsPaired cells → (c : ℕ) → c < length cells
    → settled_at (inplace p) cells c ≡ value p cells c
unfolding settled_at
value_at p cells paired c within = ⊎_elim
    (λ (e : p c ≡ true). rw e refl)
    (λ (e : p c ≡ false). rw e (by_shape p cells paired c within (cell_at cells c).shape refl))
    (cases_Bool (p c))

pub cell_at-erased : (p : ℕ → Bool) (cells : List Cell) → IsPaired cells → (c : ℕ) → c < length cells
    → cell_at (cells_from (inplace p) cells) c ≡ value p cells c
cell_at-erased p cells paired c within = cell_at-cells_from (inplace p) cells c within
    ∙ value_at p cells paired c within

-- a line with these cells is the erased one
pub erased_is : (p : ℕ → Bool) (cells line : List Cell) → IsPaired cells → length line ≡ length cells
    → ((c : ℕ) → c < length cells → cell_at line c ≡ value p cells c) → line ≡ cells_from (inplace p) cells
erased_is p cells line paired n each = cells_from-is (inplace p) cells line n
    (λ c within. each c within ∙ sym (value_at p cells paired c within))

-- erasing a blank column changes nothing
pub erased_blank : (k : ℕ) (cells : List Cell) → IsPaired cells → cell_at cells k ≡ blank
    → cells ≡ cells_from (inplace (λ c. eqb c k)) cells
erased_blank k cells paired b = sym
    (same_cells cells (inplace (λ c. eqb c k)) Old paired (λ c within. ⊎_elim
    (λ (e : c ≡ k). rw (eq-eqb c k e) (inr (refl, ap (cell_at cells) e ∙ b)))
    (λ (ne : c ≡ k → ⊥). rw (ne_eqb c k ne) (inl refl))
    (cases_eq c k))
    ∙ cells_from-old cells paired)

joined : (s : Shape) (cell : Cell) → cell.shape ≡ s → (a b d a' b' d' : Bool)
    → cond a' blank (value_by (cond a blank (value_by s b d cell)).shape b' d' (cond a blank (value_by s b d cell))) ≡
    cond (a || a') blank (value_by s (b || b') (d || d') cell)
joined s cell e true b d true b' d' = refl
joined s cell e true b d false b' d' = refl
joined Narrow cell e false b d true b' d' = refl
joined Narrow cell e false b d false b' d' = rw e refl
joined Left cell e false b d true b' d' = refl
joined Left cell e false b true false b' d' = refl
joined Left cell e false b false false b' d' = rw e refl
joined Right cell e false b d true b' d' = refl
joined Right cell e false true d false b' d' = refl
joined Right cell e false false d false b' d' = rw e refl

before_join : (p q : ℕ → Bool) (c : ℕ) → (before_of p c || before_of q c) ≡ before_of (λ k. p k || q k) c
before_join p q zero = refl
before_join p q (suc c) = refl

-- two erasures in place are one
pub erased_twice : (p q : ℕ → Bool) (cells : List Cell) → IsPaired cells
    → cells_from (inplace q) (cells_from (inplace p) cells) ≡ cells_from (inplace (λ c. p c || q c)) cells
erased_twice p q cells paired =
    let once : List Cell = cells_from (inplace p) cells in
    let n : length once ≡ length cells = length-cells_from (inplace p) cells in
    erased_is (λ c. p c || q c) cells (cells_from (inplace q) once) paired (length-cells_from (inplace q) once ∙ n)
    (λ c within.
    cell_at-erased q once (IsPaired-cells_from (inplace p) cells paired) c (rw n within)
    ∙ ap (λ (x : Cell). cond (q c) blank (value_by x.shape (before_of q c) (q (suc c)) x))
    (cell_at-erased p cells paired c within)
    ∙ joined (cell_at cells c).shape (cell_at cells c) refl (p c) (before_of p c) (p (suc c)) (q c) (before_of q c)
    (q (suc c))
    ∙ ap (λ b. cond (p c || q c) blank (value_by (cell_at cells c).shape b (p (suc c) || q (suc c)) (cell_at cells c)))
    (before_join p q c))

-- sources that agree inside give one line
pub cells_from-same : (f g : ℕ → Source) (cells : List Cell) → ((c : ℕ) → c < length cells → f c ≡ g c)
    → cells_from f cells ≡ cells_from g cells
unfolding settled_at
cells_from-same f g cells same = cells_from-is g cells (cells_from f cells) (length-cells_from f cells) (λ c within.
    cell_at-cells_from f cells c within
    ∙ ap (λ x. settled cells x (f c) (source_after f (length cells) c)) (before c within)
    ∙ ap (λ x. settled cells (source_before g c) x (source_after f (length cells) c)) (same c within)
    ∙ ap (λ x. settled cells (source_before g c) (g c) x) (after c within))
  where
    before : (c : ℕ) → c < length cells → source_before f c ≡ source_before g c
    before zero h = refl
    before (suc d) h = same d (omega arith)

    after : (c : ℕ) → c < length cells → source_after f (length cells) c ≡ source_after g (length cells) c
    after c within = ⊎_elim
        (λ (h : suc c < length cells). after_inside f (length cells) c h ∙ same (suc c) h
        ∙ sym (after_inside g (length cells) c h))
        (λ h. let e : suc c ≡ length cells = omega arith in after_last f (length cells) c e
        ∙ sym (after_last g (length cells) c e))
        (cases_lt (suc c) (length cells))

-- a splice of one column is an erasure of it
pub spliced_one : (k : ℕ) (cells : List Cell) → k < length cells
    → cells_from (spliced k (replicate 1 blank) (k + 1) (length cells)) cells ≡ cells_from (inplace (λ c. eqb c k))
    cells
spliced_one k cells inside = cells_from-same (spliced k (replicate 1 blank) (k + 1) (length cells))
    (inplace (λ c. eqb c k)) cells (λ c within. ⊎_elim
    (λ (front : c < k). let ne : c ≡ k
    → ⊥ = omega arith in at_front k (replicate 1 blank) (k + 1) (length cells) c front
    ∙ sym (rw (ne_eqb c k ne) refl))
    (λ (past : k ≤ c). ⊎_elim
    (λ (e : c ≡ k). let z : c - k ≡ 0 = omega arith in at_fresh k (replicate 1 blank) (k + 1) (length cells) c past
    (omega arith)
    ∙ ap (λ x. Fresh (cell_at (replicate 1 blank) x)) z ∙ sym (rw (eq-eqb c k e) refl))
    (λ (ne : c ≡ k → ⊥). let z : c + (k + 1) - (k + 1) ≡ c = omega arith in at_rest k (replicate 1 blank) (k + 1)
    (length cells) c (omega arith) (omega arith)
    ∙ ap Old z ∙ sym (rw (ne_eqb c k ne) refl))
    (cases_eq c k))
    (cases_lt c k))

abbrev protected_at : List Cell → ℕ → Bool
protected_at cells k = (cell_at cells k).is_protected

or_false : (x : Bool) → x || false ≡ x
or_false true = refl
or_false false = refl

grown : (cells : List Cell) (from k c : ℕ) → from ≤ k → protected_at cells k ≡ false
    → (leb from c && ltb c k && not (protected_at cells c)) || eqb c k ≡ leb from c && ltb c (k + 1) && not
    (protected_at cells c)
grown cells from k c h free = ⊎_elim
    (λ (e : c ≡ k). let a : leb from c ≡ true = grind (arith, nat_tests) in let b : ltb c k ≡ false = le-ltb c k
    (omega arith) in let d : ltb c (k + 1) ≡ true = lt-ltb c (k + 1) (omega arith) in
    let f : protected_at cells c ≡ false = ap (protected_at cells) e ∙ free in
    rw (a, b, d, f, eq-eqb c k e) refl)
    (λ (ne : c ≡ k → ⊥). ⊎_elim
    (λ (front : c < k). let d : c < k + 1 = omega arith in rw (ne_eqb c k ne, lt-ltb c k front, lt-ltb c (k + 1) d)
    (or_false _))
    (λ (past : k ≤ c). let d : k + 1 ≤ c = omega arith in rw (ne_eqb c k ne, le-ltb c k past, le-ltb c (k + 1) d)
    (or_false _))
    (cases_lt c k))
    (cases_eq c k)

same_still : (cells : List Cell) (from k c : ℕ) → protected_at cells k ≡ true
    → leb from c && ltb c k && not (protected_at cells c) ≡ leb from c && ltb c (k + 1) && not (protected_at cells c)
same_still cells from k c held = ⊎_elim
    (λ (e : c ≡ k). let f : protected_at cells c ≡ true = ap (protected_at cells) e
    ∙ held in rw f (and_false _ ∙ sym (and_false _)))
    (λ (ne : c ≡ k → ⊥). ⊎_elim
    (λ (front : c < k). let d : c < k + 1 = omega arith in rw (lt-ltb c k front, lt-ltb c (k + 1) d) refl)
    (λ (past : k ≤ c). let d : k + 1 ≤ c = omega arith in rw (le-ltb c k past, le-ltb c (k + 1) d) refl)
    (cases_lt c k))
    (cases_eq c k)

abbrev so_far : List Cell → ℕ → ℕ → ℕ → Bool
so_far cells from k c = leb from c && ltb c k && not (protected_at cells c)

still : (cells : List Cell) (from k : ℕ) → protected_at cells k ≡ true
    → cells_from (unprotected_erased cells from k) cells ≡ cells_from (unprotected_erased cells from (k + 1)) cells
still cells from k held = cells_from-same (inplace (so_far cells from k)) (inplace (so_far cells from (k + 1))) cells
    (λ c within. ap (λ b. cond b (Fresh blank) (Old c)) (same_still cells from k c held))

blank_or_old : (s : Shape) (b d : Bool) (cell : Cell) → (value_by s b d cell ≡ blank) ⊎ (value_by s b d cell ≡ cell)
blank_or_old Narrow b d cell = inr refl
blank_or_old Left b true cell = inl refl
blank_or_old Left b false cell = inr refl
blank_or_old Right true d cell = inl refl
blank_or_old Right false d cell = inr refl

not_yet : (cells : List Cell) (from k : ℕ) → so_far cells from k k ≡ false
not_yet cells from k = let b : ltb k k ≡ false = le-ltb k k (omega arith) in rw b
    (ap (λ x. x && not (protected_at cells k)) (and_false _))

-- the loop has left a column as it was, or blanked it
here_is : (cells : List Cell) (from k : ℕ) → IsPaired cells → k < length cells
    → (cell_at (cells_from (unprotected_erased cells from k) cells) k ≡ blank) ⊎
    (cell_at (cells_from (unprotected_erased cells from k) cells) k ≡ cell_at cells k)
here_is cells from k paired within =
    let p : ℕ → Bool = so_far cells from k in
    let e : cell_at (cells_from (unprotected_erased cells from k) cells) k ≡ value_by (cell_at cells k).shape
    (before_of p k) (p (suc k)) (cell_at cells k) =
    cell_at-erased p cells paired k within
    ∙ ap (λ b. cond b blank (value_by (cell_at cells k).shape (before_of p k) (p (suc k)) (cell_at cells k)))
    (not_yet cells from k) in
    ⊎_elim (λ h. inl (e ∙ h)) (λ h. inr (e ∙ h))
    (blank_or_old (cell_at cells k).shape (before_of p k) (p (suc k)) (cell_at cells k))

-- a protected cell stays as it is
pub erase_kept : (cells : List Cell) (from k : ℕ) → IsPaired cells → k < length cells
    → (cell_at (cells_from (unprotected_erased cells from k) cells) k).is_protected ≡ true
    → cells_from (unprotected_erased cells from k) cells ≡ cells_from (unprotected_erased cells from (k + 1)) cells
erase_kept cells from k paired within held = ⊎_elim
    (λ h. absurd (true≢false _ held (ap (λ (x : Cell). x.is_protected) h)))
    (λ h. still cells from k (sym (ap (λ (x : Cell). x.is_protected) h) ∙ held))
    (here_is cells from k paired within)

-- an unprotected cell is erased
pub erase_one : (cells : List Cell) (from k : ℕ) → IsPaired cells → from ≤ k → k < length cells
    → (cell_at (cells_from (unprotected_erased cells from k) cells) k).is_protected ≡ false
    → cells_from (spliced k (replicate 1 blank) (k + 1) (length (cells_from (unprotected_erased cells from k) cells)))
    (cells_from (unprotected_erased cells from k) cells) ≡ cells_from (unprotected_erased cells from (k + 1)) cells
erase_one cells from k paired order within free =
    let now : List Cell = cells_from (unprotected_erased cells from k) cells in
    let n : length now ≡ length cells = length-cells_from (unprotected_erased cells from k) cells in
    let paired' : IsPaired now = IsPaired-cells_from (unprotected_erased cells from k) cells paired in
    spliced_one k now (rw n within) ∙ ⊎_elim
    (λ (held : protected_at cells k ≡ true).
    let b : cell_at now k ≡ blank = ⊎_elim (λ h. h)
    (λ h. absurd (true≢false _ held (sym (ap (λ (x : Cell). x.is_protected) h) ∙ free)))
    (here_is cells from k paired within) in
    sym (erased_blank k now paired' b) ∙ still cells from k held)
    (λ (open_here : protected_at cells k ≡ false).
    erased_twice (so_far cells from k) (λ c. eqb c k) cells paired
    ∙ cells_from-same (inplace (λ c. so_far cells from k c || eqb c k)) (inplace (so_far cells from (k + 1))) cells
    (λ c h. ap (λ b. cond b (Fresh blank) (Old c)) (grown cells from k c order open_here)))
    (cases_Bool (protected_at cells k))

-- no column erased
pub erase_none : (cells : List Cell) (from : ℕ) → IsPaired cells
    → cells ≡ cells_from (unprotected_erased cells from from) cells
erase_none cells from paired = sym (cells_from-old cells paired)
    ∙ sym
    (cells_from-same (unprotected_erased cells from from) Old cells
    (λ c within. ap (λ b. cond b (Fresh blank) (Old c)) (none c)))
  where
    none : (c : ℕ) → so_far cells from from c ≡ false
    none c = ⊎_elim
        (λ (front : c < from). let a : leb from c ≡ false = grind (arith, nat_tests) in rw a refl)
        (λ (past : from ≤ c). rw (le-ltb c from past) (ap (λ x. x && not (protected_at cells c)) (and_false _)))
        (cases_lt c from)
