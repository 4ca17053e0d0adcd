-- A step of keys reads at least one key, if there is one.
use Rattle.session_core.proofs.Vocabulary.{◌≡◌, ℕ, zero, suc, ◌+◌, ◌<◌, ◌≤◌, Bool, true, false, List, [], ◌∷◌, length}
use Rattle.session_core.proofs.Vocabulary.{Option, Some, None, Ok, Err, take, drop, refl, ap, sym, subst, ◌∙◌, arith}
use Rattle.session_core.proofs.Vocabulary.{◌⊎◌, inl, inr, append-nil, if◌then◌else◌, list_any, nat_tests, items}
use Rattle.session_core.proofs.Vocabulary.{Refusal, NoWindow, Keys, Reply, Tables, Client, client_at, taken, outcome}
use Rattle.session_core.proofs.Vocabulary.{keys_outcome, reply_of, if_true, if_false, untaken_keys, read_by}
use Rattle.std.proofs.Common.{add-one}
use Rattle.std.proofs.Math.Seq.{drop-length}
use Rattle.std.specs.Prelude.{find, unwrap_or, nat_lt}
use Rattle.std.specs.List.{range_with_len}
use Rattle.session_model.specs.Keying.{is_command, completes}
use Rattle.session_laws.proofs.Outcomes.{found}

-- no keys complete nothing
none_complete : (past keys : List ℕ) → completes past keys 0 ≡ false
none_complete past keys =
    ap (λ all. list_any is_command (drop (length (items past).0) (items all).0)) (append-nil past)
    ∙ ap (λ given. list_any is_command given) (drop-length (items past).0)

found_by : (low x : ℕ) (b : Bool) (o : Option ℕ) (d : ℕ) → low ≤ x → low ≤ unwrap_or o d
    → low ≤ unwrap_or (if b then Some x else o) d
found_by low x true o d here rest = here
found_by low x false o d here rest = rest

-- what is found in a range is none below it
found_from : (p : ℕ → Bool) (low n a d : ℕ) → low ≤ a → low ≤ d → low ≤ unwrap_or (find p (range_with_len a n)) d
found_from p low zero a d from default = default
found_from p low (suc n) a d from default = found_by low a (p a) _ d from
    (found_from p low n (a + 1) d (omega arith) default)

found_later : (b : Bool) (o : Option ℕ) (d : ℕ) → b ≡ false → 1 ≤ unwrap_or o d
    → 1 ≤ unwrap_or (if b then Some 0 else o) d
found_later true o d fails rest = absurd (cc (fails))
found_later false o d fails rest = rest

some_taken : (past : List ℕ) (b : ℕ) (bytes : List ℕ) → 1 ≤ taken past (b ∷ bytes)
some_taken past b bytes =
    let p : ℕ → Bool = completes past (b ∷ bytes) in
    let d : ℕ = length (b ∷ bytes) in
    subst (λ n. 1 ≤ unwrap_or (find p (range_with_len 0 n)) d) (sym (add-one d))
    (found_later (p 0) (find p (range_with_len 1 d)) d (none_complete past (b ∷ bytes))
    (found_from p 1 d 1 d (omega arith) (omega arith)))

some_read : (n b : ℕ) (bytes : List ℕ) → 1 ≤ n → 1 ≤ length (take n (b ∷ bytes))
some_read zero b bytes le = absurd (omega arith)
some_read (suc n) b bytes le = omega arith

-- an answer to keys, of which there are some, that isn't a refusal has read some
abbrev ReadsSome : List ℕ → Reply → Type 0
ReadsSome [] reply = Unit {0}
ReadsSome (b ∷ bytes) (Ok done) = 1 ≤ done.taken
ReadsSome (b ∷ bytes) (Err r) = Unit {0}

refused_reads : (bytes : List ℕ) (r : Refusal) → ReadsSome bytes (Err r)
refused_reads [] r = tt
refused_reads (b ∷ bytes) r = tt

step_reads : (c : Client) (bytes : List ℕ)
    → ReadsSome bytes (reply_of (length (take (taken c.keys bytes) bytes)) 0 0 None)
step_reads c [] = tt
step_reads c (b ∷ bytes) = some_read (taken c.keys (b ∷ bytes)) b bytes (some_taken c.keys b bytes)

reads_some : (t : Tables) (client : ℕ) (bytes : List ℕ) (reply : Reply) → reply ≡ (outcome t (Keys client bytes)).reply
    → ReadsSome bytes reply
reads_some t client bytes reply is =
    subst (λ r. ReadsSome bytes r) (sym is)
    (found (λ o. ReadsSome bytes o.reply) t (λ c. keys_outcome t c (take (taken c.keys bytes) bytes))
    (client_at t client) (refused_reads bytes NoWindow) (λ c at. step_reads c bytes))

not_below : (m n : ℕ) → n ≤ m → nat_lt m n ≡ false
not_below m n le = grind (arith, nat_tests, le)

below : (m n : ℕ) → m < n → nat_lt m n ≡ true
below m n lt = grind (arith, nat_tests, lt)

-- ---- what is left

all_read : (client : ℕ) (bytes : List ℕ) (reply : Reply) → length bytes ≤ read_by reply
    → untaken_keys (Keys client bytes) reply ≡ []
all_read client bytes (Ok done) le = if_false (nat_lt done.taken (length bytes)) _ _
    (not_below done.taken (length bytes) le)
all_read client bytes (Err r) le = refl

none_left : (client : ℕ) (bytes : List ℕ) (reply : Reply) → ReadsSome bytes reply → read_by reply ≡ 0
    → untaken_keys (Keys client bytes) reply ≡ []
none_left client bytes (Err r) some none = refl
none_left client [] (Ok done) some none = all_read client [] (Ok done) (omega arith)
none_left client (b ∷ bytes) (Ok done) some none = absurd (omega (arith, some, none))

none_read : (t : Tables) (client : ℕ) (bytes : List ℕ) (reply : Reply) → reply ≡ (outcome t (Keys client bytes)).reply
    → read_by reply ≡ 0
    → untaken_keys (Keys client bytes) reply ≡ []
none_read t client bytes reply is none = none_left client bytes reply (reads_some t client bytes reply is) none

-- a step that reads nothing, or all there is, leaves nothing
pub last_read : (t : Tables) (client : ℕ) (bytes : List ℕ) (reply : Reply) (read : ℕ)
    → reply ≡ (outcome t (Keys client bytes)).reply → read ≡ read_by reply → (read ≡ 0) ⊎ (length bytes ≤ read)
    → untaken_keys (Keys client bytes) reply ≡ []
last_read t client bytes reply read is by (inl none) = none_read t client bytes reply is (sym by ∙ none)
last_read t client bytes reply read is by (inr all) = all_read client bytes reply (omega (arith, by, all))

pub some_left : (client : ℕ) (bytes : List ℕ) (reply : Reply) (read : ℕ) → read ≡ read_by reply → 0 < read
    → read < length bytes
    → untaken_keys (Keys client bytes) reply ≡ Keys client (drop read bytes) ∷ []
some_left client bytes (Ok done) read is some lt =
    subst (λ n. untaken_keys (Keys client bytes) (Ok done) ≡ Keys client (drop n bytes) ∷ []) (sym is)
    (if_true (nat_lt done.taken (length bytes)) _ _ (below done.taken (length bytes) (omega (arith, is, lt))))
some_left client bytes (Err r) read is some lt = absurd (omega (arith, is, some))
