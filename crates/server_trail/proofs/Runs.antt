-- Lines of entries that are put down, taken and written.
use Rattle.std.proofs.Common.{◌≡◌, ℕ, zero, suc, ◌+◌, ◌-◌, ◌<◌, ◌≤◌, Bool, true, false, List, [], ◌∷◌, ◌++◌}
use Rattle.std.proofs.Common.{Option, Some, None, refl, sym, ◌∙◌, ap, subst, arith, append_assoc, append-nil, length}
use Rattle.std.proofs.Common.{take, add-zero, ⊎_elim}
use Rattle.std.specs.Prelude.{All, Err, IsSome, Ok, OnErr, OnOk, Result, is_some, unwrap_or}
use Rattle.std.specs.Io.KnownBytes.{Appends, Keeps}
use Rattle.std.proofs.KnownBytes.{Appends-kept, Appends-nil}
use Rattle.std.proofs.lemmas.Bool.{cases_eq}
use Rattle.std.proofs.lemmas.Grind.{common_steps}
use Rattle.std.proofs.Math.Seq.{take-append-add}
use Rattle.std.proofs.lemmas.List.{append_cancel_left}
use Rattle.std.proofs.lemmas.List.Elements.{All-nil, All-push}
use Rattle.hub.specs.Trails.{Entry}
use Rattle.trail_lines.specs.Entries.{line_of}
use Rattle.server_trail.specs.declared.merge.Merge.{Merge}
use Rattle.server_trail.specs.Files.{AreLines, HasWritten}
use Rattle.server_trail.specs.Merging.{HasMerged, Placed, bytes_of, line_for, text_below}
use Rattle.server_trail.specs.declared.waiting.Written.{Written}
use Rattle.server_trail.specs.Runs.{AreRun, HasPut, HasRun, HasSent, IsLine, IsWritten}
use Rattle.server_trail.proofs.Files.{both, one_more}
use Rattle.server_trail.proofs.Merging.{stays, text_more, text_stays}

-- ---- lines that were put down

at_first : (p : Placed) (put : List Placed) (q : ℕ) → p.0 ≡ q → line_for (p ∷ put) q ≡ Some p.1
at_first p put q e = grind (arith, common_steps)

at_rest : (p : Placed) (put : List Placed) (q : ℕ) → (p.0 ≡ q → ⊥) → line_for (p ∷ put) q ≡ line_for put q
at_rest p put q ne = grind (arith, common_steps)

the_line : {line other : List ℕ} → Some line ≡ Some other → line ≡ other
the_line e = ap (λ (o : Option (List ℕ)). unwrap_or o []) e

-- the line of a place is that of an entry
is_line : (put : List Placed) (q : ℕ) (line : List ℕ) → All IsLine put → line_for put q ≡ Some line → IsLine (q, line)
is_line [] q line all at = cc
is_line (p ∷ put) q line all at =
    let of_p : IsLine p = all 0 p (omega arith) in
    ⊎_elim
    (λ e. let same : p.1 ≡ line = the_line (sym (at_first p put q e) ∙ at) in
    (of_p.0, of_p.1, sym same ∙ (of_p.2 ∙ ap (λ n. line_of (n, of_p.0, of_p.1) ++ 0x0A ∷ []) e)))
    (λ ne. is_line put q line (λ k d lt. all (suc k) d (omega (arith, lt))) (sym (at_rest p put q ne) ∙ at))
    (cases_eq p.0 q)

the_some : (o : Option (List ℕ)) → IsSome o → (line : List ℕ) × (o ≡ Some line)
the_some None is = cc
the_some (Some line) is = (line, refl)

-- no place that had a line lacks one
grows : (put more : List Placed) (taken left : List ℕ) (m n : Merge) → HasMerged put taken m → HasMerged more left n
    → ((q : ℕ) → IsSome (line_for put q) → IsSome (line_for more q)) → m.next ≤ n.next
grows put more taken left m n h k still =
    let no : n.next < m.next → ⊥ = λ lt.
    let is : IsSome (line_for more n.next) = still n.next (h.in_order.whole n.next lt) in
    let none : is_some (line_for more n.next) ≡ false = ap is_some k.lacks in
    grind (arith, is, none) in
    omega (arith, no)

put_more : (first place : ℕ) (line : List ℕ) (m n : Merge) → IsLine (place, line) → HasPut first m
    → ((put : List Placed) (taken : List ℕ) → HasMerged put taken m
    → HasMerged (put ++ (place, line) ∷ []) taken n)
    → HasPut first n
put_more first place line m n is h goes =
    let put : List Placed = h.0 in
    let p : Placed = (place, line) in
    let was : HasMerged put (text_below put first) m = h.2 in
    let new : HasMerged (put ++ p ∷ []) (text_below put first) n = goes put (text_below put first) was in
    let some : (q : ℕ) → IsSome (line_for put q) → IsSome (line_for (put ++ p ∷ []) q) =
    λ q it. ap is_some (stays put p q it) ∙ it in
    let le : m.next ≤ n.next = grows put (put ++ p ∷ []) (text_below put first) (text_below put first) m n was new
    some in
    let low : first ≤ m.next = h.3 in
    let same : text_below (put ++ p ∷ []) first ≡ text_below put first =
    text_stays put p first (λ q lt. was.in_order.whole q (omega (arith, lt, low))) in (
      put ++ p ∷ [],
      All-push IsLine put p h.1 is,
      subst (λ t. HasMerged (put ++ p ∷ []) t n) (sym same) new,
      omega (arith, le, low),
    )

put_none : (first : ℕ) (m n : Merge) → HasPut first m
    → ((put : List Placed) (taken : List ℕ) → HasMerged put taken m → HasMerged put taken n) → HasPut first n
put_none first m n h goes =
    let put : List Placed = h.0 in
    let was : HasMerged put (text_below put first) m = h.2 in
    let new : HasMerged put (text_below put first) n = goes put (text_below put first) was in
    let le : m.next ≤ n.next = grows put put (text_below put first) (text_below put first) m n was new (λ q it. it) in
    let low : first ≤ m.next = h.3 in
    (put, h.1, new, omega (arith, le, low))

-- so it is whatever came of it
pub put_came : {A E : Type 0} (first place : ℕ) (line : List ℕ) (m n : Merge) (came : Result A E)
    → IsLine (place, line) → HasPut first m
    → ((put : List Placed) (taken : List ℕ) → HasMerged put taken m
    → OnOk came (HasMerged (put ++ (place, line) ∷ []) taken n))
    → ((put : List Placed) (taken : List ℕ) → HasMerged put taken m → OnErr came (HasMerged put taken n))
    → HasPut first n
put_came first place line m n (Ok it) is h ok err = put_more first place line m n is h ok
put_came first place line m n (Err why) is h ok err = put_none first m n h err

pub none_put : (m : Merge) → HasMerged [] [] m → HasPut 0 m
unfolding text_below
none_put m h = ([], All-nil IsLine, h, omega arith)

-- ---- lines that are taken

longer : (first : ℕ) (entries : List Entry) (bytes rest more : List ℕ) → AreLines first entries bytes rest
    → AreLines first entries (bytes ++ more) (rest ++ more)
longer first [] bytes rest more a = ap (λ l. l ++ more) a
longer first (e ∷ entries) bytes rest more a = (
  a.0,
  a.1 ++ more,
  ap (λ l. l ++ more) a.2 ∙ append_assoc (line_of (first, a.0, e)) (0x0A ∷ a.1) more,
  longer (first + 1) entries a.1 rest more a.3,
)

length_more : (entries : List Entry) (e : Entry) → length (entries ++ e ∷ []) ≡ length entries + 1
length_more entries e = grind (arith, common_steps)

-- the text of the places from the first one on
run_of : (put : List Placed) (first n : ℕ) → All IsLine put
    → ((q : ℕ) → q < first + n → IsSome (line_for put q))
    → (text : List ℕ) × (text_below put (first + n) ≡ text_below put first ++ text) × AreRun first (first + n) text
run_of put first zero all whole = (
  [],
  ap (text_below put) (add-zero first) ∙ sym (append-nil (text_below put first)),
  ([], refl, refl),
)
run_of put first (suc n) all whole =
    let before = run_of put first n all (λ q lt. whole q (omega (arith, lt))) in
    let it = the_some (line_for put (first + n)) (whole (first + n) (omega arith)) in
    let is : IsLine (first + n, it.0) = is_line put (first + n) it.0 all it.1 in
    let entries : List Entry = before.2.0 in
    let many : first + n ≡ first + length entries = before.2.1 in
    let up : first + suc n ≡ first + n + 1 = omega arith in
    let total : length (entries ++ is.1 ∷ []) ≡ length entries + 1 = length_more entries is.1 in (
      before.0 ++ it.0,
      ap (text_below put) up
          ∙ (text_more put (first + n)
          ∙ (ap (λ o. text_below put (first + n) ++ bytes_of o) it.1
          ∙ (ap (λ l. l ++ it.0) before.1 ∙ append_assoc (text_below put first) before.0 it.0))),
      (
        entries ++ is.1 ∷ [],
        omega (arith, many, total),
        one_more first (first + n) entries is.1 (before.0 ++ it.0) it.0 [] is.0 many
            (longer first entries before.0 [] it.0 before.2.2) is.2,
      ),
    )

pub ready_run : (first : ℕ) (m : Merge) → HasPut first m → AreRun first m.next m.ready.items
ready_run first m h =
    let put : List Placed = h.0 in
    let was : HasMerged put (text_below put first) m = h.2 in
    let low : first ≤ m.next = h.3 in
    let up : first + (m.next - first) ≡ m.next = omega (arith, low) in
    let run = run_of put first (m.next - first) h.1 (λ q lt. was.in_order.whole q (omega (arith, lt, low))) in
    let same : m.ready.items ≡ run.0 = append_cancel_left (text_below put first) m.ready.items run.0
    (was.in_order.text ∙ (ap (text_below put) (sym up) ∙ run.1)) in
    subst (λ n. AreRun first n m.ready.items) up
    (subst (λ t. AreRun first (first + (m.next - first)) t) (sym same) run.2)

pub took : (first : ℕ) (m n : Merge) (text : List ℕ) → HasPut first m → n.next ≡ m.next → text ≡ m.ready.items
    → ((put : List Placed) (taken : List ℕ) → HasMerged put taken m → HasMerged put (taken ++ text) n)
    → HasPut n.next n
took first m n text h same is goes =
    let put : List Placed = h.0 in
    let was : HasMerged put (text_below put first) m = h.2 in
    let all : text_below put first ++ text ≡ text_below put n.next =
    ap (λ l. text_below put first ++ l) is ∙ (was.in_order.text ∙ ap (text_below put) (sym same)) in (
      put,
      h.1,
      subst (λ t. HasMerged put t n) all (goes put (text_below put first) was),
      omega arith,
    )

-- ---- lines that are written

joined : (first : ℕ) (a b : List Entry) (s t : List ℕ) → AreLines first a s [] → AreLines (first + length a) b t []
    → AreLines first (a ++ b) (s ++ t) []
joined first [] b s t p q =
    subst (λ l. AreLines first b (l ++ t) []) (sym p) (subst (λ n. AreLines n b t []) (add-zero first) q)
joined first (e ∷ a) b s t p q =
    let up : first + length (e ∷ a) ≡ first + 1 + length a = omega arith in (
      p.0,
      p.1 ++ t,
      ap (λ l. l ++ t) p.2 ∙ append_assoc (line_of (first, p.0, e)) (0x0A ∷ p.1) t,
      joined (first + 1) a b p.1 t p.3 (subst (λ n. AreLines n b t []) up q),
    )

total : (a b : List Entry) → length (a ++ b) ≡ length a + length b
total a b = grind (arith, common_steps)

two_runs : (a b c : ℕ) (s t : List ℕ) → AreRun a b s → AreRun b c t → AreRun a c (s ++ t)
two_runs a b c s t p q =
    let both_are : length (p.0 ++ q.0) ≡ length p.0 + length q.0 = total p.0 q.0 in
    let one : b ≡ a + length p.0 = p.1 in
    let other : c ≡ b + length q.0 = q.1 in
    let rest : AreLines (a + length p.0) q.0 t [] = subst (λ n. AreLines n q.0 t []) one q.2 in
    (p.0 ++ q.0, omega (arith, both_are, one, other), joined a p.0 q.0 s t p.2 rest)

-- after lines that were all written
runs_on : (a b c : ℕ) (old mid new : Option (List ℕ)) (is_all : Bool) → HasRun a b old mid true
    → HasRun b c mid new is_all → HasRun a c old new is_all
runs_on a b c old mid new is_all p q =
    let s : List ℕ = p.0 in
    let t : List ℕ = q.0 in
    let first : Appends old mid s = p.2.all refl in
    let then : HasWritten mid new t is_all = q.2 in (
      s ++ t,
      two_runs a b c s t p.1 q.1,
      record {
        count = length s + then.count;
        front = both old mid new s (take then.count t) (take (length s + then.count) (s ++ t)) first then.front
            (sym (take-append-add s t then.count));
        all = λ is. both old mid new s t (s ++ t) first (then.all is) refl;
      },
    )

-- none was written yet
no_run : (first : ℕ) (at : Option (List ℕ)) → HasRun first first at at true
no_run first at = (
  [],
  ([], omega arith, refl),
  record { count = 0; front = Appends-nil at; all = λ is. Appends-nil at },
)

-- that are known to be fewer
pub weaker : (a b : ℕ) (old new : Option (List ℕ)) (is_all is : Bool) → HasRun a b old new is_all
    → (is ≡ true → is_all ≡ true) → HasRun a b old new is
weaker a b old new is_all is h so =
    let it : HasWritten old new h.0 is_all = h.2 in
    (h.0, h.1, record { count = it.count; front = it.front; all = λ told. it.all (so told) })

-- and that stay
kept : (a b : ℕ) (old mid new : Option (List ℕ)) (is_all : Bool) → HasRun a b old mid is_all → Keeps mid new
    → HasRun a b old new is_all
kept a b old mid new is_all h k =
    let it : HasWritten old mid h.0 is_all = h.2 in (
      h.0,
      h.1,
      record {
        count = it.count;
        front = Appends-kept old mid new (take it.count h.0) it.front k;
        all = λ told. Appends-kept old mid new h.0 (it.all told) k;
      },
    )

pub sent_on : (sent now : ℕ) (old mid new end : Option (List ℕ)) (is_all : Bool) → HasRun 0 sent old mid true
    → HasSent sent now mid new is_all → is_all ≡ true → Keeps new end → HasRun 0 now old end true
sent_on sent now old mid new end is_all h s told k =
    let all : HasRun 0 s.0 old new is_all = runs_on 0 sent s.0 old mid new is_all h s.1 in
    subst (λ n. HasRun 0 n old end true) (s.2 told)
    (kept 0 s.0 old new end true (weaker 0 s.0 old new is_all true all (λ auto. told)) k)

pub is_written : (sent now : ℕ) (old mid new : Option (List ℕ)) (is_all : Bool) (written : Written)
    → HasRun 0 sent old mid true → HasSent sent now mid new is_all
    → (written.is_whole ≡ true → (is_all ≡ true) × (now ≡ written.entries)) → IsWritten written old new
is_written sent now old mid new is_all written h s whole = (
  s.0,
  weaker 0 s.0 old new is_all written.is_whole (runs_on 0 sent s.0 old mid new is_all h s.1)
      (λ told. (whole told).0),
  (λ told. s.2 (whole told).0 ∙ (whole told).1),
)

-- nothing more was written
pub none_sent : (sent : ℕ) (at : Option (List ℕ)) → HasSent sent sent at at true
none_sent sent at = (sent, no_run sent at, (λ auto. refl))

pub text_sent : (sent next now : ℕ) (text : List ℕ) (old new : Option (List ℕ)) (is_all : Bool) → AreRun sent next text
    → HasWritten old new text is_all → (is_all ≡ true → next ≡ now) → HasSent sent now old new is_all
text_sent sent next now text old new is_all run is so = (next, (text, run, is), so)
