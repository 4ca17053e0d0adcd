-- Lines are put down, and made ready.
use Rattle.std.proofs.Common.{◌≡◌, ℕ, zero, suc, ◌+◌, ◌-◌, ◌^◌, ◌<◌, ◌≤◌, ◌==◌, if◌then◌else◌, true, false, List, []}
use Rattle.std.proofs.Common.{◌∷◌, ◌++◌, Option, Some, None, refl, sym, ◌∙◌, ap, subst, arith, append_assoc, add-one}
use Rattle.std.proofs.Common.{add-zero, ⊎_elim}
use Rattle.std.specs.Prelude.{IsSome, is_some, option_map, vec_len, vec_capacity, sum_by, unwrap_or}
use Rattle.std.specs.Ordering.{nat_cmp}
use Rattle.std.specs.BTreeMap as tree
use Rattle.std.specs.BTreeMap.{is_at, insert_entry}
use Rattle.std.specs.declared.alloc.Global.{Global}
use Rattle.std.specs.declared.vec.Vec.{Vec}
use Rattle.std.specs.Map.{lookup, values_of, remove_entry}
use Rattle.std.specs.Cmp.{nat_cmp_total}
use Rattle.std.proofs.lemmas.Map.Entries.{sum_by-remove_entry, sum_by-insert_entry}
use Rattle.std.proofs.lemmas.Bool.{cases_eq}
use Rattle.std.proofs.lemmas.Grind.{common_steps}
use Rattle.server_trail.specs.declared.merge.Merge.{Merge}
use Rattle.server_trail.specs.Merging.{Placed, line_for, bytes_of, text_below, early_line, early_bytes, IsMerging}
use Rattle.server_trail.specs.Merging.{HasMerged}

-- ---- one line more

abbrev or_else : Option (List ℕ) → Option (List ℕ) → Option (List ℕ)
or_else None b = b
or_else (Some x) b = Some x

after : (put : List Placed) (p : Placed) (q : ℕ)
    → line_for (put ++ p ∷ []) q ≡ or_else (line_for put q) (line_for (p ∷ []) q)
after [] p q = refl
after (x ∷ put) p q =
    elim (x.0 == q) as (λ b. (if b then Some x.1 else line_for (put ++ p ∷ []) q)
    ≡ or_else (if b then Some x.1 else line_for put q) (line_for (p ∷ []) q)) [
      | true ↦ refl
      | false ↦ after put p q
    ]

or_some : (a b : Option (List ℕ)) → IsSome a → or_else a b ≡ a
or_some None b h = cc
or_some (Some x) b h = refl

or_none : (a : Option (List ℕ)) → or_else a None ≡ a
or_none None = refl
or_none (Some x) = refl

pub stays : (put : List Placed) (p : Placed) (q : ℕ) → IsSome (line_for put q)
    → line_for (put ++ p ∷ []) q ≡ line_for put q
stays put p q h = after put p q ∙ or_some (line_for put q) (line_for (p ∷ []) q) h

own : (x : Placed) → line_for (x ∷ []) x.0 ≡ Some x.1
own x = grind (arith, common_steps)

other : (x : Placed) (q : ℕ) → (x.0 ≡ q → ⊥) → line_for (x ∷ []) q ≡ None
other x q h = grind (arith, common_steps)

others : (put : List Placed) (p : Placed) (q : ℕ) → (p.0 ≡ q → ⊥)
    → line_for (put ++ p ∷ []) q ≡ line_for put q
others put p q h =
    after put p q ∙ (ap (or_else (line_for put q)) (other p q h) ∙ or_none (line_for put q))

first : (put : List Placed) (p : Placed) → line_for put p.0 ≡ None
    → line_for (put ++ p ∷ []) p.0 ≡ Some p.1
first put p none = after put p p.0 ∙ (ap (λ a. or_else a (line_for (p ∷ []) p.0)) none ∙ own p)

pub text_more : (put : List Placed) (n : ℕ)
    → text_below put (n + 1) ≡ text_below put n ++ bytes_of (line_for put n)
unfolding text_below
text_more put n = rw add-one refl

pub text_stays : (put : List Placed) (p : Placed) (n : ℕ)
    → ((q : ℕ) → q < n → IsSome (line_for put q)) → text_below (put ++ p ∷ []) n ≡ text_below put n
unfolding text_below
text_stays put p zero w = refl
text_stays put p (suc n) w =
    let e : line_for (put ++ p ∷ []) n ≡ line_for put n = stays put p n (w n (omega arith)) in
    let t : text_below (put ++ p ∷ []) n ≡ text_below put n = text_stays put p n
    (λ q h. w q (omega arith)) in
    ap (λ l. l ++ bytes_of (line_for (put ++ p ∷ []) n)) t
    ∙ ap (λ o. text_below put n ++ bytes_of o) e

-- a second line for a place changes nothing
pub dropped : (put : List Placed) (taken : List ℕ) (m : Merge) (p : Placed)
    → HasMerged put taken m → IsSome (line_for put p.0) → HasMerged (put ++ p ∷ []) taken m
dropped put taken m p h is =
    let same : (q : ℕ) → line_for (put ++ p ∷ []) q ≡ line_for put q = λ q. ⊎_elim
    (λ e. subst (λ x. line_for (put ++ p ∷ []) x ≡ line_for put x) e (stays put p p.0 is))
    (λ ne. others put p q ne) (cases_eq p.0 q) in
    record {
      in_order = record {
        whole = λ q lt. ap is_some (same q) ∙ h.in_order.whole q lt;
        text = h.in_order.text ∙ sym (text_stays put p m.next h.in_order.whole);
        kept = λ q le. h.in_order.kept q le ∙ sym (same q);
        held = h.in_order.held;
        last = λ q le. same q ∙ h.in_order.last q le;
      };
      lacks = same m.next ∙ h.lacks;
    }

-- ---- a map of early lines

apart : (p q : ℕ) → (p ≡ q → ⊥) → is_at (nat_cmp p) q ≡ false
apart p q h = grind (arith, common_steps)

abbrev pub Updated : Merge → Merge → ℕ → Option (Vec ℕ Global) → Type 0
Updated m n p w =
    (tree.get nat_cmp n.early p ≡ w)
    × ((q : ℕ) → is_at (nat_cmp p) q ≡ false
    → tree.get nat_cmp n.early q ≡ tree.get nat_cmp m.early q)

abbrev items_of : Option (Vec ℕ Global) → Option (List ℕ)
items_of o = option_map (λ (v : Vec ℕ Global). v.items) o

no_items : (o : Option (Vec ℕ Global)) → is_some o ≡ false → items_of o ≡ None
no_items None h = refl
no_items (Some v) h = cc

some_items : (o : Option (Vec ℕ Global)) → is_some o ≡ true → is_some (items_of o) ≡ true
some_items None h = h
some_items (Some v) h = refl

some_none : (x : List ℕ) → Some x ≡ None → ⊥
some_none x h = cc

below : (n : ℕ) → (2 ^ 64 - 1 ≤ n → ⊥) → n < 2 ^ 64 - 1
below n h = omega (arith, h)

is_none : (o : Option (Vec ℕ Global)) → is_some o ≡ false → o ≡ None
is_none None h = refl
is_none (Some v) h = cc

-- how many bytes are held after a removal, and after one more line
abbrev bytes_in : List (ℕ × Vec ℕ Global) → ℕ
bytes_in es = sum_by (λ (v : Vec ℕ Global). vec_len v) (values_of es)

abbrev len_of : Option (Vec ℕ Global) → ℕ
len_of o = unwrap_or (option_map (λ (v : Vec ℕ Global). vec_len v) o) 0

pub removed : (m n : Merge) (p : ℕ) (line : Vec ℕ Global)
    → n.early.entries ≡ remove_entry (is_at (nat_cmp p)) m.early.entries
    → tree.get nat_cmp m.early p ≡ Some line → early_bytes n + vec_len line ≡ early_bytes m
removed m n p line e here =
    ap (λ es. bytes_in es + vec_len line) e
    ∙ (ap (λ o. bytes_in (remove_entry (is_at (nat_cmp p)) m.early.entries) + len_of o) (sym here)
    ∙ sum_by-remove_entry (λ (v : Vec ℕ Global). vec_len v) (is_at (nat_cmp p)) m.early.entries)

pub inserted : (m n : Merge) (p : ℕ) (line : Vec ℕ Global)
    → n.early.entries ≡ insert_entry nat_cmp m.early.entries p line
    → is_some (tree.get nat_cmp m.early p) ≡ false → tree.IsOrdered nat_cmp m.early
    → early_bytes n ≡ early_bytes m + vec_len line
inserted m n p line e absent ordered =
    ap bytes_in e
    ∙ (sym (add-zero (bytes_in (insert_entry nat_cmp m.early.entries p line)))
    ∙ (ap (λ o. bytes_in (insert_entry nat_cmp m.early.entries p line) + len_of o)
    (sym (is_none (tree.get nat_cmp m.early p) absent))
    ∙ sum_by-insert_entry (λ (v : Vec ℕ Global). vec_len v) nat_cmp_total m.early.entries p line
    ordered))

-- an early line has room
pub fits : (put : List Placed) (taken : List ℕ) (m n : Merge) (k : ℕ) → IsMerging put taken m
    → early_bytes n + k ≡ early_bytes m → vec_len m.ready + k ≤ vec_capacity m.ready
fits put taken m n k h e =
    let held : m.held ≡ early_bytes m = h.in_order.held in
    let room : vec_len m.ready + m.held ≤ vec_capacity m.ready = h.room in
    omega (arith, held, room, e)

-- a line is there for a place that is below, or came early
pub has_early : (put : List Placed) (taken : List ℕ) (m : Merge) (p : ℕ) → HasMerged put taken m
    → m.next ≤ p → is_some (tree.get nat_cmp m.early p) ≡ true → IsSome (line_for put p)
has_early put taken m p h le is =
    ap is_some (sym (h.in_order.kept p le)) ∙ some_items (tree.get nat_cmp m.early p) is

-- nothing was put
pub begun : (m : Merge) → m.next ≡ 0 → m.ready.items ≡ [] → m.held ≡ 0 → m.early.entries ≡ []
    → HasMerged [] [] m
unfolding text_below
begun m next ready held early = record {
  in_order = record {
    whole = λ q lt. absurd (omega (arith, lt, next));
    text = ready ∙ ap (text_below []) (sym next);
    kept = λ q ge. ap (λ es. items_of (lookup (is_at (nat_cmp q)) es)) early;
    held = held ∙ ap bytes_in (sym early);
    last = λ q ge. refl;
  };
  lacks = refl;
}

-- the line of a place that has none yet
pub put_down : (put : List Placed) (taken : List ℕ) (m n : Merge) (place : ℕ) (line : Vec ℕ Global)
    → HasMerged put taken m → is_some (tree.get nat_cmp m.early place) ≡ false → m.next ≤ place
    → place < 2 ^ 64 - 1 → n.next ≡ m.next → n.ready.items ≡ m.ready.items
    → Updated m n place (Some line) → n.held ≡ early_bytes n
    → vec_len n.ready + n.held ≤ vec_capacity n.ready
    → IsMerging (put ++ (place, line.items) ∷ []) taken n
put_down put taken m n place line h absent le small same ready up held room =
    let p : Placed = (place, line.items) in
    let none : line_for put place ≡ None = sym (h.in_order.kept place le)
    ∙ no_items (tree.get nat_cmp m.early place) absent in
    let stay : (q : ℕ) → (place ≡ q → ⊥) → line_for (put ++ p ∷ []) q ≡ line_for put q =
    λ q ne. others put p q ne in
    record {
      in_order = record {
        whole = λ q lt. let w : IsSome (line_for put q) = h.in_order.whole q (omega arith) in
            ap is_some (stays put p q w) ∙ w;
        text = ap (λ l. taken ++ l) ready
            ∙ (h.in_order.text
            ∙ (sym (text_stays put p m.next h.in_order.whole)
            ∙ ap (text_below (put ++ p ∷ [])) (sym same)));
        kept = λ q ge. ⊎_elim
            (λ e. subst (λ x. early_line n x ≡ line_for (put ++ p ∷ []) x) e
            (ap items_of up.0 ∙ sym (first put p none)))
            (λ ne. ap items_of (up.1 q (apart place q ne))
            ∙ (h.in_order.kept q (omega arith) ∙ sym (stay q ne)))
            (cases_eq place q);
        held = held;
        last = λ q ge. stay q (λ e. omega (arith, e)) ∙ h.in_order.last q ge;
      };
      room = room;
    }

-- the next line was early, and is made ready
pub made_ready : (put : List Placed) (taken : List ℕ) (m n : Merge) (line : Vec ℕ Global)
    → IsMerging put taken m → tree.get nat_cmp m.early m.next ≡ Some line
    → Updated m n m.next None
    → (m.next < 2 ^ 64 - 1 → n.next ≡ m.next + 1)
    → n.ready.items ≡ m.ready.items ++ line.items
    → vec_len n.ready ≡ vec_len m.ready + vec_len line
    → vec_capacity m.ready ≤ vec_capacity n.ready
    → n.held ≡ m.held - vec_len line
    → early_bytes n + vec_len line ≡ early_bytes m
    → IsMerging put taken n
made_ready put taken m n line h here up next ready len cap held sum =
    let is : line_for put m.next ≡ Some line.items = sym (h.in_order.kept m.next (omega arith))
    ∙ ap items_of here in
    let small : m.next < 2 ^ 64 - 1 = below m.next (λ ge. some_none line.items
    (sym is ∙ h.in_order.last m.next ge)) in
    let step : n.next ≡ m.next + 1 = next small in
    let total : m.held ≡ early_bytes m = h.in_order.held in
    let space : vec_len m.ready + m.held ≤ vec_capacity m.ready = h.room in
    record {
      in_order = record {
        whole = λ q lt. ⊎_elim (λ e. subst (λ x. IsSome (line_for put x)) e (ap is_some is))
            (λ ne. h.in_order.whole q (omega (arith, ne))) (cases_eq m.next q);
        text = ap (λ l. taken ++ l) ready
            ∙ (sym (append_assoc taken m.ready.items line.items)
            ∙ (ap (λ l. l ++ line.items) h.in_order.text
            ∙ (ap (λ o. text_below put m.next ++ bytes_of o) (sym is)
            ∙ (sym (text_more put m.next) ∙ ap (text_below put) (sym step)))));
        kept = λ q ge. ap items_of (up.1 q (apart m.next q (λ e. omega (arith, e, ge, step))))
            ∙ h.in_order.kept q (omega (arith, ge, step));
        held = omega (arith, total, held, sum);
        last = h.in_order.last;
      };
      room = omega (arith, total, held, sum, len, cap, space);
    }
