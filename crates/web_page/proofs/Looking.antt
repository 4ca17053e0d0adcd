-- Looks at the rows of a page, one after another.
use Rattle.std.proofs.Common.{◌≡◌, ℕ, suc, ◌+◌, ◌<◌, ◌≤◌, Bool, true, false, ◌||◌, List, [], ◌∷◌, length, take}
use Rattle.std.proofs.Common.{map, refl, sym, ap, ◌∙◌, ◌++◌, set, arith, inl, inr, ⊎_elim, below_more, subst}
use Rattle.std.proofs.lemmas.List.{get_or-take, take_all, length-take, length_push, get_or_push, get_or_append_left}
use Rattle.std.proofs.lemmas.List.{length-set, get_or-set_same, get_or-set_other, length-map, get_or-map}
use Rattle.std.proofs.lemmas.Bool.{or_parts, true≢false}
use Rattle.cells.specs.declared.cell.Cell.{Cell}
use Rattle.cells.specs.Line.{unprotected}
use Rattle.cells.specs.Page.{line_at}
use Rattle.web_page.specs.Runs.{runs}
use Rattle.web_page.specs.Laying.{Shown}
use Rattle.web_page.specs.Showing.{Kept, Sheet, kept_at, IsShown, IsStamped, LooksAt, HasLooked}

pub cells_are : (rows : List Kept) (page : List (List Cell)) → length rows ≡ length page
    → ((n : ℕ) → n < length page → (kept_at rows n).cells ≡ line_at page n) → map (λ (r : Kept). r.cells) rows ≡ page
cells_are [] [] l h = refl
cells_are [] (p ∷ ps) l h = absurd (omega arith)
cells_are (r ∷ rs) [] l h = absurd (omega arith)
cells_are (r ∷ rs) (p ∷ ps) l h =
    ap (λ c. c ∷ map (λ (r : Kept). r.cells) rs) (h 0 (omega arith))
    ∙ ap (λ l. p ∷ l) (cells_are rs ps (omega arith) (λ n k. h (suc n) (omega arith)))

-- no row was looked at yet: rows past the page are gone
pub first : (page : List (List Cell)) (stamp : ℕ) (old : List Kept) (is_new : Bool)
    → (is_new ≡ false → length old ≤ length page) → (length old ≤ length page → is_new ≡ false)
    → HasLooked 0 page stamp old (take (length page) old) is_new
first page stamp old is_new h k =
    let len = length-take (length page) old in
    record {
      inside = omega arith;
      sized = omega arith;
      cells = λ n l. absurd (omega arith);
      stamps = λ n l. absurd (omega arith);
      rest = λ n k l. get_or-take (length page) old n (record { cells = []; stamp = 0 }) (omega arith);
      same = λ e. take_all (length page) old (h e);
      idle = λ e. k (omega (arith, ap length e, length-map old (λ (r : Kept). r.cells)));
    }

pub one_more : (i : ℕ) (page : List (List Cell)) (cells : List Cell) (stamp : ℕ) (old mid new : List Kept)
    (a b : Bool) → i < length page → cells ≡ line_at page i → HasLooked i page stamp old mid a
    → LooksAt i cells stamp mid new b → HasLooked (i + 1) page stamp old new (a || b)
one_more i page cells stamp old mid new a b inside line h k =
    let was = h.sized in
    let is = k.sized in
    record {
      inside = omega arith;
      sized = omega arith;
      cells = below_more _ _ (λ n l. ap (λ (r : Kept). r.cells) (k.others n (omega arith) (omega arith)) ∙ h.cells n l)
          (k.taken ∙ line);
      stamps = below_more _ _
          (λ n l. subst (λ (r : Kept). IsStamped stamp n old r) (sym (k.others n (omega arith) (omega arith)))
          (h.stamps n l))
          (⊎_elim
          (λ p. inl (omega (arith, p.0), p.1 ∙ h.rest i (omega arith) p.0))
          (λ s. inr (
            s.0,
            λ l e. let m : i < length mid = omega arith in
                s.1 m (ap (λ (r : Kept). r.cells) (h.rest i (omega arith) m) ∙ e),
          )) k.stamped);
      rest = λ n l m.
          let before : n < length mid = omega arith in
          k.others n before (omega arith) ∙ h.rest n (omega arith) before;
      same = λ e. let p = or_parts a b e in k.same p.1 ∙ h.same p.0;
      idle = λ e.
          let none : a ≡ false = h.idle e in
          let l : i < length mid = omega (arith, ap length e, length-map old (λ (r : Kept). r.cells)) in
          let alike : (kept_at mid i).cells ≡ cells = ap (λ (r : Kept). r.cells) (h.rest i (omega arith) l)
          ∙ (sym (get_or-map (λ (r : Kept). r.cells) old i (record { cells = []; stamp = 0 }) [] (omega arith))
          ∙ (ap (λ p. line_at p i) e ∙ sym line)) in
          let still : b ≡ false = k.idle l alike in
          rw (none, still) refl;
    }

-- browsers are as far as before a look that found changes
pub browsers : (old new : Sheet) (page : List (List Cell)) (is_new : Bool) (since : ℕ) (b : Shown)
    → new.moment ≡ old.moment + 1
    → HasLooked (length page) page old.moment old.rows new.rows is_new
    → IsShown since old b → IsShown since new b
browsers old new page is_new since b e h k =
    let past = k.past in
    let sized = h.sized in
    record {
      past = omega arith;
      whole = λ l. absurd (omega arith);
      rows = λ n l s. ⊎_elim
          (λ p. let t = rw p.1 at s in let w = k.rows n p.0 t in
          (w.0, w.1 ∙ ap (λ (r : Kept). runs r.cells) (sym p.1)))
          (λ m. absurd (omega (arith, m.0)))
          (h.stamps n (omega arith));
    }

-- ---- a look at one row

abbrev one_row : List Cell → ℕ → Kept
one_row cells stamp = record { cells = cells; stamp = stamp }

pub pushed : (rows new : List Kept) (cells copy : List Cell) (stamp number : ℕ) → number ≡ length rows
    → copy ≡ cells → new ≡ rows ++ one_row copy stamp ∷ [] → LooksAt number cells stamp rows new true
pushed rows new cells copy stamp number n e w =
    let len : length new ≡ length rows + 1 = ap length w ∙ length_push rows (one_row copy stamp) in
    let last : kept_at new number ≡ one_row copy stamp = ap (λ l. kept_at l number) w
    ∙ get_or_push rows (one_row copy stamp) (record { cells = []; stamp = 0 }) number (sym n) in
    record {
      others = λ m l k. ap (λ l. kept_at l m) w
          ∙ get_or_append_left rows (one_row copy stamp ∷ []) (record { cells = []; stamp = 0 }) m l;
      sized = omega arith;
      taken = ap (λ (r : Kept). r.cells) last ∙ e;
      stamped = inr (ap (λ (r : Kept). r.stamp) last, λ l. absurd (omega arith));
      same = λ f. absurd (true≢false f);
      idle = λ l. absurd (omega arith);
    }

pub stays : (rows : List Kept) (cells : List Cell) (stamp number : ℕ) → number < length rows
    → (kept_at rows number).cells ≡ cells → LooksAt number cells stamp rows rows false
stays rows cells stamp number l e = record {
  others = λ m k f. refl;
  sized = omega arith;
  taken = e;
  stamped = inl (l, refl);
  same = λ f. refl;
  idle = λ k f. refl;
}

pub replaced : (rows new : List Kept) (cells copy : List Cell) (stamp number : ℕ) → number < length rows
    → ((kept_at rows number).cells ≡ cells → ⊥) → copy ≡ cells → new ≡ set rows number (one_row copy stamp)
    → LooksAt number cells stamp rows new true
replaced rows new cells copy stamp number l f e w =
    let len : length new ≡ length rows = ap length w ∙ length-set rows number (one_row copy stamp) in
    let here : kept_at new number ≡ one_row copy stamp = ap (λ l. kept_at l number) w
    ∙ get_or-set_same rows number (one_row copy stamp) (record { cells = []; stamp = 0 }) l in
    record {
      others = λ m k g. ap (λ l. kept_at l m) w
          ∙ get_or-set_other rows number m (one_row copy stamp) (record { cells = []; stamp = 0 }) g;
      sized = omega arith;
      taken = ap (λ (r : Kept). r.cells) here ∙ e;
      stamped = inr (ap (λ (r : Kept). r.stamp) here, λ m k. f (k ∙ (ap (λ (r : Kept). r.cells) here ∙ e)));
      same = λ k. absurd (true≢false k);
      idle = λ m k. absurd (f k);
    }

-- cells that look alike, and are both protected or both not
pub same_from : (a b : Cell) → unprotected a ≡ unprotected b → a.is_protected ≡ b.is_protected → a ≡ b
same_from a b e p =
    ap (λ (c : Cell). record c { is_protected = a.is_protected }) e
    ∙ ap (λ (q : Bool). record b { is_protected = q }) p
