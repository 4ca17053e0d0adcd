-- Serials of clients stay below 2^32.
use Rattle.session.proofs.Vocabulary.{ℕ, ◌+◌, ◌≤◌, ◌^◌, ◌≡◌, true, List, [], ◌∷◌, Option, Some, None, refl, sym, subst}
use Rattle.session.proofs.Vocabulary.{arith, nat_lt, length, nat_tests, UserId, Effect, EventValue, Attach, Open, Draw}
use Rattle.session.proofs.Vocabulary.{Entry, Trace, drawn, drawn_on, tables_from, tables_of, AreSound, and_second}
use Rattle.session_model.specs.declared.refusal.Check.TheVariants.{Must as must}
use Rattle.session_model.specs.declared.refusal.Refusal.TheVariants.{NotMultiuser, UnknownUser, TooManyClients, BadSize}
use Rattle.session_model.specs.Tables.{Tables, Window, Client, client_at, is_known, fresh}
use Rattle.session_model.specs.Checks.{first_fault, verdicts}
use Rattle.session_model.specs.Events.{outcome}
use Rattle.session_model.specs.Comings.{attach_checks, attaches, new_client, open_checks, opens, new_window}
use Rattle.session_model.specs.Comings.{is_client_size, is_let_in}
use Rattle.session_model.specs.Outcomes.{reply_of}
use Rattle.session_laws.proofs.Settling.{moving}
use Rattle.session_laws.proofs.Sounding.{check_passed, fresh_sound, run_sound}
use Rattle.session_laws.proofs.Outcomes as outcomes

-- the client that comes next has a serial of 32 bits, or none comes any more
abbrev IsInRange : Tables → Type 0
IsInRange t = t.next_client ≤ 2 ^ 32

below : (n : ℕ) → nat_lt n (2 ^ 32) ≡ true → n + 1 ≤ 2 ^ 32
below n less = grind (arith, nat_tests, less)

attached : (t : Tables) (user : UserId) (rows columns : ℕ) → first_fault t (attach_checks t user rows columns) ≡ None
    → t.next_client + 1 ≤ 2 ^ 32
attached t user rows columns passes =
    below t.next_client (and_second (nat_lt (length t.clients) 64) (nat_lt t.next_client (2 ^ 32))
    (check_passed t
    (must (is_known t user) UnknownUser ∷ must (is_let_in t user) NotMultiuser ∷ must (is_client_size rows columns)
    BadSize ∷ []) [] _ TooManyClients passes))

same : (a b : ℕ) → a ≡ b → b ≤ 2 ^ 32 → a ≤ 2 ^ 32
same a b is le = subst (λ n. n ≤ 2 ^ 32) (sym is) le

stays : (t : Tables) (event : EventValue) → AreSound t → IsInRange t → IsInRange (outcome t event).tables
stays t (Attach user rows columns) s le =
    outcomes.passed (λ o. IsInRange o.tables) t (verdicts t (attach_checks t user rows columns))
    (first_fault t (attach_checks t user rows columns)) (reply_of 0 t.next_client 0 None)
    (attaches t (new_client t user rows columns)) (λ r is. le) (λ is. attached t user rows columns is)
stays t (Open user rows columns keep title) s le =
    let w : Window = new_window t rows columns keep title in
    outcomes.passed (λ o. IsInRange o.tables) t (verdicts t (open_checks t user rows columns keep title))
    (first_fault t (open_checks t user rows columns keep title)) (reply_of 0 w.serial w.number None)
    (opens t user w) (λ r is. le) (λ is. le)
stays t event s le = same _ _ (moving t event s refl).next_client le

drawn_next : (o : Option Client) (effects : List Effect) (t : Tables)
    → (drawn_on o effects t).next_client ≡ t.next_client
drawn_next None effects t = refl
drawn_next (Some c) effects t = refl

after_stays : (t : Tables) (event : EventValue) (effects : List Effect) → AreSound t → IsInRange t
    → IsInRange (drawn event effects (outcome t event).tables)
after_stays t (Draw client) effects s le =
    let u : Tables = (outcome t (Draw client)).tables in
    same _ _ (drawn_next (client_at u client) effects u) (stays t (Draw client) s le)
after_stays t event effects s le = stays t event s le

run_stays : (start : Tables) (past : List Entry) → AreSound start → IsInRange start → IsInRange (tables_from start past)
run_stays start [] s le = le
run_stays start (e ∷ past) s le = after_stays (tables_from start past) e.event e.effects (run_sound start past s)
    (run_stays start past s le)

pub sound : (h : Trace) → AreSound (tables_of h)
sound h = run_sound (fresh h.edition h.owner) h.entries (fresh_sound h.edition h.owner)

pub in_range : (h : Trace) → (tables_of h).next_client ≤ 2 ^ 32
in_range h = run_stays (fresh h.edition h.owner) h.entries (fresh_sound h.edition h.owner) (omega arith)
