-- Tables stay sound when windows and clients move.
use Rattle.session_laws.proofs.Vocabulary.{◌≡◌, ℕ, ◌+◌, ◌<◌, ◌≤◌, Bool, true, false, not, List, [], ◌∷◌, ◌++◌, None}
use Rattle.session_laws.proofs.Vocabulary.{refl, ap, sym, ◌∙◌, subst, map, filter, length, arith, if◌then◌else◌, ◌==◌}
use Rattle.session_laws.proofs.Vocabulary.{AllByRecursion, nat_tests, UserId, Act, Tables, Window, Client, row_of}
use Rattle.session_laws.proofs.Vocabulary.{Rises, AreSound, AreSoundRows, client_serials}
use Rattle.session_laws.proofs.DifferentNumbers.{serial_of, Differ}
use Rattle.session_laws.proofs.Moving.{Moves, id_of, ids, serials}
use Rattle.session_laws.proofs.CommandMoves.{length_map, length_filter}

-- ---- rising serials

below_filter : (n : ℕ) (p : ℕ → Bool) (ns : List ℕ) → AllByRecursion (λ m. n < m) ns
    → AllByRecursion (λ m. n < m) (filter p ns)
below_filter n p [] all = tt
below_filter n p (m ∷ ns) all = on (p m) (below_filter n p ns all.1) where
  on : (b : Bool) → AllByRecursion (λ m. n < m) (filter p ns)
      → AllByRecursion (λ m. n < m) (if b then m ∷ filter p ns else filter p ns)
  on true rest = (all.0, rest)
  on false rest = rest

rise_filter : (p : ℕ → Bool) (ns : List ℕ) (next : ℕ) → Rises ns next → Rises (filter p ns) next
rise_filter p [] next all = tt
rise_filter p (n ∷ ns) next all = on (p n) (rise_filter p ns next all.2) where
  on : (b : Bool) → Rises (filter p ns) next → Rises (if b then n ∷ filter p ns else filter p ns) next
  on true rest = (all.0, below_filter n p ns all.1, rest)
  on false rest = rest

below_next : (n next : ℕ) (ns : List ℕ) → n < next → AllByRecursion (λ m. n < m) ns
    → AllByRecursion (λ m. n < m) (ns ++ next ∷ [])
below_next n next [] lt all = (lt, tt)
below_next n next (m ∷ ns) lt all = (all.0, below_next n next ns lt all.1)

pub rise_next : (ns : List ℕ) (next : ℕ) → Rises ns next → Rises (ns ++ next ∷ []) (next + 1)
rise_next [] next all = (omega arith, tt, tt)
rise_next (n ∷ ns) next all = let lt : n < next = all.0 in
    (omega (arith, lt), below_next n next ns lt all.1, rise_next ns next all.2)

none_above : (ws : List Window) (n : ℕ) → AllByRecursion (λ m. n < m) (map serial_of ws) → row_of serial_of ws n ≡ None
none_above [] n all = refl
none_above (w ∷ ws) n all = let lt : n < w.serial = all.0 in rw
    (let e : (w.serial == n) ≡ false = grind (arith, nat_tests, lt) in e) (none_above ws n all.1)

pub differ : (ws : List Window) (next : ℕ) → Rises (map serial_of ws) next → Differ ws
differ [] next all = tt
differ (w ∷ ws) next all = (none_above ws w.serial all.1, differ ws next all.2)

-- the serials of clients, with their users left out
abbrev pub firsts : List (ℕ × UserId) → List ℕ
firsts ps = map (λ (p : ℕ × UserId). p.0) ps

pub client_firsts : (cs : List Client) → client_serials cs ≡ firsts (map id_of cs)
client_firsts [] = refl
client_firsts (c ∷ cs) = ap (λ ns. c.serial ∷ ns) (client_firsts cs)

below_ids : (n : ℕ) (p : ℕ × UserId → Bool) (ps : List (ℕ × UserId)) → AllByRecursion (λ m. n < m) (firsts ps)
    → AllByRecursion (λ m. n < m) (firsts (filter p ps))
below_ids n p [] all = tt
below_ids n p (x ∷ ps) all = on (p x) (below_ids n p ps all.1) where
  on : (b : Bool) → AllByRecursion (λ m. n < m) (firsts (filter p ps))
      → AllByRecursion (λ m. n < m) (firsts (if b then x ∷ filter p ps else filter p ps))
  on true rest = (all.0, rest)
  on false rest = rest

rise_ids : (p : ℕ × UserId → Bool) (ps : List (ℕ × UserId)) (next : ℕ) → Rises (firsts ps) next
    → Rises (firsts (filter p ps)) next
rise_ids p [] next all = tt
rise_ids p (x ∷ ps) next all = on (p x) (rise_ids p ps next all.2) where
  on : (b : Bool) → Rises (firsts (filter p ps)) next → Rises (firsts (if b then x ∷ filter p ps else filter p ps)) next
  on true rest = (all.0, below_ids x.0 p ps all.1, rest)
  on false rest = rest

-- ---- sound tables

few_by : {A B : Type 0} (f : A → B) (p : B → Bool) (xs ys : List A) (most : ℕ) → map f ys ≡ filter p (map f xs)
    → length xs ≤ most → length ys ≤ most
few_by f p xs ys most is le =
    let one : length (map f ys) ≡ length ys = length_map f ys in
    let two : length (filter p (map f xs)) ≤ length (map f xs) = length_filter p (map f xs) in
    let three : length (map f xs) ≡ length xs = length_map f xs in
    let same : length (map f ys) ≡ length (filter p (map f xs)) = ap length is in
    omega (arith, one, two, three, same, le)

pub moved_sound : (t u : Tables) (acts : List Act) (effects : ℕ) → AreSound t → Moves t u acts effects
    → AreSoundRows u.windows u.clients u.next_window u.next_client
moved_sound t u acts effects s m = record {
  windows_rise = subst (Rises (serials u)) (sym m.next_window)
      (subst (λ ns. Rises ns t.next_window) (sym m.windows)
      (rise_filter (λ n. not (m.closing n)) (serials t) t.next_window s.windows_rise));
  clients_rise = subst (Rises (client_serials u.clients)) (sym m.next_client)
      (subst (λ ns. Rises ns t.next_client) (sym (client_firsts u.clients ∙ ap firsts m.clients))
      (rise_ids (λ p. not (m.parting p)) (ids t) t.next_client
      (subst (λ ns. Rises ns t.next_client) (client_firsts t.clients) s.clients_rise)));
  numbers = m.numbers (differ t.windows t.next_window s.windows_rise) s.numbers;
  few_windows = few_by serial_of (λ n. not (m.closing n)) t.windows u.windows 40 m.windows s.few_windows;
  few_clients = few_by id_of (λ p. not (m.parting p)) t.clients u.clients 64 m.clients s.few_clients;
}
