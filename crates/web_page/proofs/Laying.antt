-- Rows that changed, laid over what a browser shows, are the whole sheet.
use Rattle.std.proofs.Common.{◌≡◌, ℕ, suc, ◌<◌, true, false, cond, nat_lt, List, [], ◌∷◌, length}
use Rattle.std.proofs.Common.{take, map, get_or, refl, sym, ap, ◌∙◌, arith}
use Rattle.std.proofs.lemmas.Bool.{ltb-true}
use Rattle.std.proofs.lemmas.List.{length-map}
use Rattle.terminal_model.specs.Screen.{Screen}
use Rattle.terminal_model.specs.Reading.{Terminal}
use Rattle.emulator.specs.Standing.{StandsFor}
use Rattle.web_page.specs.declared.sheet.Head.{Head}
use Rattle.web_page.specs.Runs.{Run, runs}
use Rattle.web_page.specs.Updates.{head_of}
use Rattle.web_page.specs.Laying.{Shown, put_at, put_all, laid, page_of}
use Rattle.web_page.specs.Showing.{Kept, Sheet, kept_at, shown_of, newer, IsLooked}

-- rows that come later than the first one leave it
pub shift : (since n : ℕ) (rs : List Kept) (v : List Run) (vs : List (List Run))
    → put_all (newer since (suc n) rs) (v ∷ vs) ≡ v ∷ put_all (newer since n rs) vs
unfolding put_all put_at newer
shift since n [] v vs = refl
shift since n (r ∷ rs) v vs =
    elim (nat_lt r.stamp since) as (λ b.
    put_all (cond b (newer since (suc (suc n)) rs) ((suc n, runs r.cells) ∷ newer since (suc (suc n)) rs)) (v ∷ vs)
    ≡ v ∷ put_all (cond b (newer since (suc n) rs) ((n, runs r.cells) ∷ newer since (suc n) rs)) vs) [
      | true ↦ shift since (suc n) rs v vs
      | false ↦ shift since (suc n) rs v (put_at n (runs r.cells) vs)
    ]

abbrev pub AreShown : ℕ → List Kept → List (List Run) → Type 0
AreShown since rs vs = (n : ℕ) → n < length rs → (kept_at rs n).stamp < since
    → (n < length vs) × (get_or vs n [] ≡ runs (kept_at rs n).cells)

later : (since : ℕ) (r : Kept) (rs : List Kept) (v : List Run) (vs : List (List Run))
    → AreShown since (r ∷ rs) (v ∷ vs) → AreShown since rs vs
later since r rs v vs h = λ n l s. let w = h (suc n) (omega arith) s in (omega (arith, w.0), w.1)

later_none : (since : ℕ) (r : Kept) (rs : List Kept) → AreShown since (r ∷ rs) [] → AreShown since rs []
later_none since r rs h = λ n l s. let w = h (suc n) (omega arith) s in absurd (omega (arith, w.0))

pub covers : (since : ℕ) (rs : List Kept) (vs : List (List Run)) → AreShown since rs vs
    → take (length rs) (put_all (newer since 0 rs) vs) ≡ map (λ (r : Kept). runs r.cells) rs
unfolding put_all put_at newer
covers since [] vs h = refl
covers since (r ∷ rs) [] h =
    (elim (nat_lt r.stamp since) as (λ b. nat_lt r.stamp since ≡ b → take (suc (length rs))
    (put_all (cond b (newer since 1 rs) ((0, runs r.cells) ∷ newer since 1 rs)) [])
    ≡ runs r.cells ∷ map (λ (r : Kept). runs r.cells) rs) [
      | true ↦ λ e. let w = h 0 (omega arith) (ltb-true r.stamp since e) in absurd (omega (arith, w.0))
      | false ↦ λ e. ap (take (suc (length rs))) (shift since 0 rs (runs r.cells) [])
          ∙ ap (λ l. runs r.cells ∷ l) (covers since rs [] (later_none since r rs h))
    ]) refl
covers since (r ∷ rs) (v ∷ vs) h =
    (elim (nat_lt r.stamp since) as (λ b. nat_lt r.stamp since ≡ b → take (suc (length rs))
    (put_all (cond b (newer since 1 rs) ((0, runs r.cells) ∷ newer since 1 rs)) (v ∷ vs))
    ≡ runs r.cells ∷ map (λ (r : Kept). runs r.cells) rs) [
      | true ↦ λ e. let w = h 0 (omega arith) (ltb-true r.stamp since e) in
          ap (take (suc (length rs))) (shift since 0 rs v vs)
          ∙ (ap (λ l. v ∷ l) (covers since rs vs (later since r rs v vs h))
          ∙ ap (λ x. x ∷ map (λ (r : Kept). runs r.cells) rs) w.1)
      | false ↦ λ e. ap (take (suc (length rs))) (shift since 0 rs (runs r.cells) vs)
          ∙ ap (λ l. runs r.cells ∷ l) (covers since rs vs (later since r rs v vs h))
    ]) refl

map-map : (rs : List Kept) → map (λ (r : Kept). runs r.cells) rs ≡ map runs (map (λ (r : Kept). r.cells) rs)
map-map [] = refl
map-map (r ∷ rs) = ap (λ l. runs r.cells ∷ l) (map-map rs)

abbrev shown : Head → List (List Run) → Shown
shown head rows = record { head = head; rows = rows }

same_shown : (h g : Head) (k l : List (List Run)) → h ≡ g → k ≡ l → shown h k ≡ shown g l
same_shown h g k l a b = rw (a, b) refl

-- what a sheet shows after a look is the page of its terminal
pub whole : (s : Sheet) (t : Terminal) → StandsFor s.terminal t → IsLooked s.terminal s.head s.rows
    → shown_of s ≡ page_of t.screen
whole s t w k =
    let rows : map (λ (r : Kept). runs r.cells) s.rows ≡ map runs t.screen.page = map-map s.rows
    ∙ (ap (map runs) k.same_page ∙ ap (λ (x : Screen). map runs x.page) w.screen) in
    let head : s.head ≡ head_of t.screen = k.same_head ∙ ap head_of w.screen in
    same_shown s.head (head_of t.screen) (map (λ (r : Kept). runs r.cells) s.rows) (map runs t.screen.page) head rows

count : (s : Sheet) (t : Terminal) → StandsFor s.terminal t → IsLooked s.terminal s.head s.rows
    → s.head.rows ≡ length s.rows
count s t w k =
    let lines : length (map (λ (r : Kept). r.cells) s.rows) ≡ length t.screen.page = ap length k.same_page
    ∙ ap (λ (x : Screen). length x.page) w.screen in
    let head : s.head.rows ≡ t.screen.state.rows = ap (λ (h : Head). h.rows) k.same_head
    ∙ ap (λ (x : Screen). x.state.rows) w.screen in
    head ∙ (sym w.terminal.sound.sized.height ∙ (sym lines ∙ length-map s.rows (λ (r : Kept). r.cells)))

pub shows : (s : Sheet) (t : Terminal) (since : ℕ) (b : Shown) → StandsFor s.terminal t
    → IsLooked s.terminal s.head s.rows → AreShown since s.rows b.rows
    → laid (record { head = s.head; rows = newer since 0 s.rows }) b ≡ page_of t.screen
shows s t since b w k h =
    let rows : take s.head.rows (put_all (newer since 0 s.rows) b.rows) ≡ map (λ (r : Kept). runs r.cells) s.rows =
    rw (count s t w k) (covers since s.rows b.rows h) in
    same_shown s.head s.head (take s.head.rows (put_all (newer since 0 s.rows) b.rows))
    (map (λ (r : Kept). runs r.cells) s.rows) refl rows ∙ whole s t w k
