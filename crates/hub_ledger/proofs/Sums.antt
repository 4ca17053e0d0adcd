-- What was handed out and what waits is what was routed.
use Rattle.hub_ledger.proofs.Vocabulary.{◌≡◌, ◌∙◌, ◌∷◌, ◌++◌, ◌+◌, ◌<◌, ◌≤◌, ℕ, suc, List, [], length, ap, arith}
use Rattle.hub_ledger.proofs.Vocabulary.{refl, sym, subst, Bool, true, false, cond, Option, Some, None, IsSome, ◌==◌}
use Rattle.hub_ledger.proofs.Vocabulary.{slice_get, if◌then◌else◌, length-append, length-map, AllByRecursion}
use Rattle.hub_ledger.proofs.Vocabulary.{all_weaken, nat_tests, slice_get_within, get_or_from_slice_get, Edition}
use Rattle.hub_ledger.proofs.Vocabulary.{UserId, Effect, Owners, AreSeats, seat_of, Sent, Session, StandsFor, begun}
use Rattle.hub_ledger.proofs.Vocabulary.{EventValue, Reply, entry_of, State, Receipt, AllBelow, Rise}
use Rattle.std.proofs.Common.{filter}
use Rattle.std.specs.Prelude.{◌*◌, ◌^◌, slice_set}
use Rattle.std.specs.List.{sum_by}
use Rattle.std.specs.Option.{option_map_or}
use Rattle.std.proofs.lemmas.List.Sums.{sum_by-cons, sum_by-set}
use Rattle.std.proofs.lemmas.List.Folds.{sum_by-replicate}
use Rattle.session.specs.Trace.{Entry, with_step}
use Rattle.hub_ledger.specs.Routing.{AreRouted, is_for, sent_by}
use Rattle.hub_ledger.specs.Seats.{handed_in, receipts_in}
use Rattle.hub_ledger.specs.States.{Balances, Takes, begun_with, routed, waits}
use Rattle.hub_ledger.proofs.Queues.{seat_within}
use Rattle.hub_ledger.proofs.Steps.{stood_after}

-- ---- amounts

-- one more receipt
pub one_told : (old new told : ℕ) → new ≡ old + 1 → receipts_in old ≡ told → told < 4194304
    → (receipts_in new ≡ told + 1) × (handed_in new ≡ handed_in old)
one_told old new told more is few = (omega (arith, more, is, few), omega (arith, more, is, few))

-- the amount of all seats
pub decoded : (amount told handed seats : ℕ) → amount ≡ told + handed * 2 ^ 32 → seats ≤ 8 → told ≤ seats * 4194304
    → (receipts_in amount ≡ told) × (handed_in amount ≡ handed)
decoded amount told handed seats is few most = (omega (arith, is, few, most), omega (arith, is, few, most))

over : (m n : ℕ) (rs : List Receipt) → AllByRecursion (λ (r : Receipt). m < r.place) rs → Rise rs → AllBelow rs n
    → m < n → m + 1 + length rs ≤ n
over m n [] above rise below l = omega (arith, l)
over m n (r ∷ rs) above rise below l = let rest = over r.place n rs rise.0 rise.1 below.1 below.0 in omega
    (arith, above.0, rest)

-- there are at most n receipts whose places rise and are below n
pub few_below : (n : ℕ) (rs : List Receipt) → Rise rs → AllBelow rs n → length rs ≤ n
few_below n [] rise below = omega arith
few_below n (r ∷ rs) rise below = let rest = over r.place n rs rise.0 rise.1 below.1 below.0 in omega (arith, rest)

-- ---- effects that wait

abbrev one : Bool → ℕ
one b = cond b 1 0

-- f of each place from k on, added up
abbrev more : {Y : Type 0} → (ℕ → ℕ) → ℕ → List Y → ℕ
more f k [] = 0
more f k (y ∷ ys) = f k + more f (suc k) ys

grown : {S : Type 0} (f : ℕ → ℕ) (k : ℕ) (old new : List (List S)) → length new ≡ length old
    → ((j : ℕ) (b : List S) → slice_get old j ≡ Some b
    → (w : List S) × (slice_get new j ≡ Some w) × (length w ≡ length b + f (j + k)))
    → sum_by (λ (w : List S). length w) new ≡ sum_by (λ (w : List S). length w) old + more f k old
grown f k [] [] same at = omega arith
grown f k [] (w ∷ ws) same at = absurd (omega (arith, same))
grown f k (b ∷ bs) [] same at = absurd (omega (arith, same))
grown {S = S} f k (b ∷ bs) (w ∷ ws) same at =
    let h = at 0 b refl in
    let is : w ≡ h.0 = (let s = h.1 in cc (s)) in
    let z : 0 + k ≡ k = omega arith in
    let len : length w ≡ length b + f k = ap (λ (x : List S). length x) is ∙ h.2 ∙ ap (λ n. length b + f n) z in
    let rest = grown f (suc k) bs ws (omega (arith, same))
    (λ j c is. let n = at (suc j) c is in (n.0, n.1, n.2 ∙ ap (λ m. length c + f m) (omega arith))) in
    omega (arith, len, rest, sum_by-cons (λ (x : List S). length x) b bs, sum_by-cons (λ (x : List S). length x) w ws)

none_one : {Y : Type 0} (s k : ℕ) (ys : List Y) → s < k → more (λ j. one (s == j)) k ys ≡ 0
none_one s k [] l = refl
none_one s k (y ∷ ys) l =
    let here : one (s == k) ≡ 0 = grind (arith, nat_tests, l) in
    let rest = none_one s (suc k) ys (omega (arith, l)) in
    omega (arith, here, rest)

all_one : {Y : Type 0} (s k : ℕ) (ys : List Y) → k ≤ s → s < k + length ys → more (λ j. one (s == j)) k ys ≡ 1
all_one s k [] le l = absurd (omega (arith, le, l))
all_one {Y = Y} s k (y ∷ ys) le l = on (s == k) refl (λ up. all_one s (suc k) ys up (omega (arith, l))) where
  on : (b : Bool) → (s == k) ≡ b → (suc k ≤ s → more {Y = Y} (λ j. one (s == j)) (suc k) ys ≡ 1)
      → more {Y = Y} (λ j. one (s == j)) k (y ∷ ys) ≡ 1
  on true is next =
      let same : s ≡ k = grind (arith, nat_tests, is) in
      let rest = none_one s (suc k) ys (omega (arith, same)) in
      let here : one (s == k) ≡ 1 = ap one is in
      omega (arith, here, rest)
  on false is next =
      let rest = next (grind (arith, nat_tests, is, le)) in
      let here : one (s == k) ≡ 0 = ap one is in
      omega (arith, here, rest)

more_sum : {Y : Type 0} (f g : ℕ → ℕ) (k : ℕ) (ys : List Y) → more (λ j. f j + g j) k ys ≡ more f k ys + more g k ys
more_sum f g k [] = omega arith
more_sum f g k (y ∷ ys) = let rest = more_sum f g (suc k) ys in omega (arith, rest)

more_same : {Y : Type 0} (f g : ℕ → ℕ) (k : ℕ) (ys : List Y) → ((j : ℕ) → f j ≡ g j) → more f k ys ≡ more g k ys
more_same f g k [] same = refl
more_same f g k (y ∷ ys) same = let here = same k in let rest = more_same f g (suc k) ys same in omega
    (arith, here, rest)

more_none : {Y : Type 0} (k : ℕ) (ys : List Y) → more (λ j. 0) k ys ≡ 0
more_none k [] = refl
more_none k (y ∷ ys) = let rest = more_none (suc k) ys in omega (arith, rest)

filtered : {X : Type 0} (p : X → Bool) (x : X) (xs : List X)
    → length (filter p (x ∷ xs)) ≡ one (p x) + length (filter p xs)
filtered {X = X} p x xs = on (p x) where
  on : (b : Bool) → length (if b then x ∷ filter p xs else filter p xs) ≡ one b + length (filter p xs)
  on true = omega arith
  on false = omega arith

-- each of these is for one place
each_once : {X Y : Type 0} (p : ℕ → X → Bool) (xs : List X) (ys : List Y)
    → AllByRecursion (λ (x : X). (s : ℕ) × ((j : ℕ) → p j x ≡ (s == j)) × (s < length ys)) xs
    → more (λ j. length (filter (p j) xs)) 0 ys ≡ length xs
each_once p [] ys all = more_none 0 ys
each_once p (x ∷ xs) ys all =
    let here = all.0 in
    let split = more_same (λ j. length (filter (p j) (x ∷ xs))) (λ j. one (here.0 == j) + length (filter (p j) xs)) 0 ys
    (λ j. filtered (p j) x xs ∙ ap (λ b. one b + length (filter (p j) xs)) (here.1 j)) in
    let sum = more_sum (λ j. one (here.0 == j)) (λ j. length (filter (p j) xs)) 0 ys in
    let first = all_one here.0 0 ys (omega arith) (let l = here.2 in omega (arith, l)) in
    let rest = each_once p xs ys all.1 in
    omega (arith, split, sum, first, rest)

some_is : (o : Option ℕ) → IsSome o → (s : ℕ) × (o ≡ Some s)
some_is None is = absurd (cc (is))
some_is (Some s) is = (s, refl)

pub all_wait : (o : Owners) (typist : Option UserId) (effects : List Effect) (old new : List (List Sent))
    → AreSeats (length old) o → AreRouted o typist effects old new → waits new ≡ waits old + length effects
all_wait o typist effects old new seats routed =
    let f : ℕ → ℕ = λ j. length (filter (is_for o j) effects) in
    let grow = grown f 0 old new routed.seats
    (λ j b is. let sent : List Sent = sent_by typist (filter (is_for o j) effects) in let z : j ≡ j + 0 = omega arith in
    let n : length (b ++ sent) ≡ length b + f j = omega
    (arith, length-append b sent, length-map {B = Sent} (filter (is_for o j) effects) (λ (e : Effect). (e, typist))) in
    (b ++ sent, routed.waiting j b is, n ∙ ap (λ m. length b + f m) z)) in
    let each = each_once (is_for o) effects old
    (all_weaken (λ (e : Effect). IsSome (seat_of o e))
    (λ (e : Effect). (s : ℕ) × ((j : ℕ) → is_for o j e ≡ (s == j)) × (s < length old)) effects
    (λ e is. let s = some_is (seat_of o e) is in (
      s.0,
      (λ j. ap (λ (x : Option ℕ). option_map_or (λ i. i == j) x false) s.1),
      seat_within (length old) o e s.0 seats s.1,
    )) routed.found) in
    omega (arith, grow, each)

-- ---- the sum

pub same_sum : (n m : ℕ) (s : State) → n ≡ m → Balances n s → Balances m s
same_sum n m s same sum = subst (λ (k : ℕ). Balances k s) same sum

pub begun_sum : (session : Session) (edition : Edition) (owner : UserId) (seats n : ℕ) (s : State)
    → s ≡ begun_with session edition owner seats → StandsFor (begun edition owner) session → n ≡ 0 → Balances n s
begun_sum session edition owner seats n s is stands none =
    let empty = sum_by-replicate (λ (w : List Sent). length w) seats [] in
    subst (λ (x : State). Balances n x) (sym is)
    (record {
      past = (begun edition owner, record { stands = stands; trail = refl; clients = refl; windows = refl });
      sum = omega (arith, none, empty);
    })

pub step_sum : (n seat : ℕ) (event : EventValue) (reply : Reply) (typed : Option ℕ) (old new : State)
    → AreSeats (length old.waiting) old.owners → Takes seat event reply typed old new → Balances n old → Balances n new
step_sum n seat event reply typed old new seats takes sum =
    let step : Entry = entry_of event reply takes.0 takes.1 in
    let put = all_wait old.owners takes.2.typist takes.1 old.waiting new.waiting seats takes.2.waiting in
    let was = sum.sum in
    let more = sum_by-cons (λ (e : Entry). length e.effects) step sum.past.0.entries in
    let now : n + waits new.waiting ≡ routed (with_step sum.past.0 step) = omega (arith, put, was, more) in
    record {
      past = (with_step sum.past.0 step, stood_after sum.past.0 old new seat step typed sum.past.1 takes.2);
      sum = now;
    }

pub take_sum : (n seat : ℕ) (effects : List Sent) (marks : List Bool) (s : State)
    → slice_get s.waiting seat ≡ Some effects → Balances n s
    → Balances (n + length effects) (record s { waiting = slice_set s.waiting seat []; marks = marks })
take_sum n seat effects marks s at sum =
    let within = slice_get_within s.waiting seat effects at in
    let left = sum_by-set (λ (w : List Sent). length w) s.waiting seat [] [] within in
    let here = ap (λ (w : List Sent). length w) (get_or_from_slice_get s.waiting seat effects [] at) in
    let was = sum.sum in
    let st = sum.past.1 in
    record {
      past = (
        sum.past.0,
        record { stands = st.stands; trail = st.trail; clients = st.clients; windows = st.windows },
      );
      sum = omega (arith, left, here, was);
    }
