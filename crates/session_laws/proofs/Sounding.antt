-- After each event, the tables are sound.
use Rattle.session_laws.proofs.Vocabulary.{◌≡◌, ℕ, ◌+◌, ◌<◌, ◌≤◌, ◌^◌, Bool, true, List, [], ◌∷◌, ◌++◌, Option, Some}
use Rattle.session_laws.proofs.Vocabulary.{None, refl, ap, sym, ◌∙◌, subst, map, length, arith, ◌&&◌, nat_lt, is_some}
use Rattle.session_laws.proofs.Vocabulary.{nat_tests, UserId, Screen, Execute, View, Check, right, must, Effect}
use Rattle.session_laws.proofs.Vocabulary.{NotMultiuser, UnknownUser, TooManyClients, BadSize, Windows, Full, BadTitle}
use Rattle.session_laws.proofs.Vocabulary.{EventValue, Attach, Open, Draw, Entry, Tables, Window, Client, client_at}
use Rattle.session_laws.proofs.Vocabulary.{is_known, fresh, free_number, is_title, first_fault, verdicts, outcome}
use Rattle.session_laws.proofs.Vocabulary.{attach_checks, attaches, new_client, open_checks, opens, new_window}
use Rattle.session_laws.proofs.Vocabulary.{has_place, is_client_size, is_window_size, is_let_in, reply_of, granted_view}
use Rattle.session_laws.proofs.Vocabulary.{drawn, drawn_on, with_drawn, tables_from, Rises, AreSound, client_serials}
use Rattle.session_laws.proofs.Vocabulary.{window_serials, and_first}
use Rattle.acl.specs.declared.act.Object.TheVariants as object
use Rattle.session_laws.proofs.DifferentNumbers.{more_numbers, number_free}
use Rattle.session_laws.proofs.Passing.{behind, first_passes}
use Rattle.session_laws.proofs.Moving.{id_of, ids}
use Rattle.session_laws.proofs.CommandMoves.{length_append, client_ids, length_ids}
use Rattle.session_laws.proofs.SoundMoves.{rise_next, moved_sound, client_firsts, firsts}
use Rattle.session_laws.proofs.Settling.{moving}
use Rattle.session_laws.proofs.Unread.{row_at}
use Rattle.session_laws.proofs.Outcomes as outcomes

pub map_append : {A B : Type 0} (f : A → B) (xs : List A) (x : A) → map f (xs ++ x ∷ []) ≡ map f xs ++ f x ∷ []
map_append f [] x = refl
map_append f (y ∷ xs) x = ap (λ ys. f y ∷ ys) (map_append f xs x)

one_more : {A : Type 0} (xs : List A) (x : A) (most : ℕ) → nat_lt (length xs) most ≡ true → length (xs ++ x ∷ []) ≤ most
one_more xs x most less =
    let sum : length (xs ++ x ∷ []) ≡ length xs + 1 = length_append xs (x ∷ []) in
    let lt : length xs < most = grind (arith, nat_tests, less) in
    omega (arith, sum, lt)

-- if a list of checks passes, so does each fact in it
pub check_passed : (t : Tables) (cs ds : List Check) (b : Bool)
    (r : Rattle.session_model.specs.declared.refusal.Refusal.Refusal) → first_fault t (cs ++ must b r ∷ ds) ≡ None
    → b ≡ true
check_passed t cs ds b r is = first_passes b (first_fault t ds) r (behind t cs (must b r ∷ ds) is)

attached : (t : Tables) (user : UserId) (rows columns : ℕ) → AreSound t
    → first_fault t (attach_checks t user rows columns) ≡ None
    → AreSound (attaches t (new_client t user rows columns)).tables
attached t user rows columns s passes =
    let c : Client = new_client t user rows columns in
    let place : (nat_lt (length t.clients) 64 && nat_lt t.next_client (2 ^ 32)) ≡ true =
    check_passed t
    (must (is_known t user) UnknownUser ∷ must (is_let_in t user) NotMultiuser ∷ must (is_client_size rows columns)
    BadSize ∷ []) [] _ TooManyClients passes in record {
      windows_rise = s.windows_rise;
      clients_rise = subst (λ ns. Rises ns (t.next_client + 1))
          (sym (map_append (λ (d : Client). d.serial) t.clients c))
          (rise_next (client_serials t.clients) t.next_client s.clients_rise);
      numbers = s.numbers;
      few_windows = s.few_windows;
      few_clients = one_more t.clients c 64
          (and_first (nat_lt (length t.clients) 64) (nat_lt t.next_client (2 ^ 32)) place);
    }

opened : (t : Tables) (user : UserId) (rows columns keep : ℕ) (title : List ℕ) → AreSound t
    → first_fault t (open_checks t user rows columns keep title) ≡ None
    → AreSound (opens t user (new_window t rows columns keep title)).tables
opened t user rows columns keep title s passes =
    let w : Window = new_window t rows columns keep title in
    let place : (has_place t.windows && nat_lt t.next_window (2 ^ 32)) ≡ true =
    check_passed t
    (must (is_known t user) UnknownUser ∷ right user Execute (object.Command Screen) ∷ must (is_let_in t user)
    NotMultiuser ∷ must (is_window_size rows columns keep) BadSize ∷ [])
    (must (is_title title) (Windows BadTitle) ∷ []) _ (Windows Full) passes in
    let free : has_place t.windows ≡ true = and_first (has_place t.windows) (nat_lt t.next_window (2 ^ 32)) place in
    record {
      windows_rise = subst (λ ns. Rises ns (t.next_window + 1))
          (sym (map_append (λ (v : Window). v.serial) t.windows w))
          (rise_next (window_serials t.windows) t.next_window s.windows_rise);
      clients_rise = s.clients_rise;
      numbers = more_numbers t.windows w s.numbers
          (number_free t.windows (free_number t.windows) refl
          (Rattle.session_laws.proofs.Lists.and_second (nat_lt (length t.windows) 40) (is_some (free_number t.windows))
          free));
      few_windows = one_more t.windows w 40
          (and_first (nat_lt (length t.windows) 40) (is_some (free_number t.windows)) free);
      few_clients = s.few_clients;
    }

sound : (t : Tables) (event : EventValue) → AreSound t → AreSound (outcome t event).tables
sound t (Attach user rows columns) s =
    outcomes.passed (λ o. AreSound o.tables) t (verdicts t (attach_checks t user rows columns))
    (first_fault t (attach_checks t user rows columns)) (reply_of 0 t.next_client 0 None)
    (attaches t (new_client t user rows columns))
    (λ r is. s) (λ is. sounds (attached t user rows columns s is)) where
      sounds : AreSound (attaches t (new_client t user rows columns)).tables
          → AreSound (attaches t (new_client t user rows columns)).tables
      sounds all = all
sound t (Open user rows columns keep title) s =
    let v : Window = new_window t rows columns keep title in
    outcomes.passed (λ o. AreSound o.tables) t (verdicts t (open_checks t user rows columns keep title))
    (first_fault t (open_checks t user rows columns keep title)) (reply_of 0 v.serial v.number None)
    (opens t user v)
    (λ r is. s) (λ is. opened t user rows columns keep title s is)
sound t event s = moved_sound t _ _ 0 s (moving t event s refl)

-- ---- after a draw

drawn_id : (effects : List Effect) (v : View) (c : Client) → id_of (with_drawn effects v c) ≡ id_of c
drawn_id [] v c = refl
drawn_id (f ∷ effects) v c = refl

pub drawn_ids : (t : Tables) (client : ℕ) (effects : List Effect) (o : Option Client) → client_at t client ≡ o
    → ids (drawn_on o effects t) ≡ ids t
drawn_ids t client effects None is = refl
drawn_ids t client effects (Some c) is = client_ids t c (with_drawn effects (granted_view t c) c) (row_at t client c is)
    (drawn_id effects (granted_view t c) c)

same_rows : (t : Tables) (effects : List Effect) (o : Option Client) → ids (drawn_on o effects t) ≡ ids t → AreSound t
    → AreSound (drawn_on o effects t)
same_rows t effects None same s = s
same_rows t effects (Some c) same s =
    let u : Tables = drawn_on (Some c) effects t in record {
      windows_rise = s.windows_rise;
      clients_rise = subst (λ ns. Rises ns t.next_client)
          (client_firsts t.clients ∙ sym (ap firsts same) ∙ sym (client_firsts u.clients)) s.clients_rise;
      numbers = s.numbers;
      few_windows = s.few_windows;
      few_clients = let e : length u.clients ≡ length t.clients = length_ids u.clients t.clients same in let le : length
          t.clients ≤ 64 = s.few_clients in omega (arith, e, le);
    }

pub lasting : (t : Tables) (event : EventValue) (effects : List Effect) → AreSound t
    → AreSound (drawn event effects (outcome t event).tables)
lasting t (Draw client) effects s =
    let u : Tables = (outcome t (Draw client)).tables in
    same_rows u effects (client_at u client) (drawn_ids u client effects (client_at u client) refl)
    (sound t (Draw client) s)
lasting t event effects s = sound t event s

pub fresh_sound : (edition : Rattle.acl.specs.declared.leaders.Edition.Edition) (owner : UserId)
    → AreSound (fresh edition owner)
fresh_sound edition owner = record
    { windows_rise = tt; clients_rise = tt; numbers = tt; few_windows = omega arith; few_clients = omega arith }

pub run_sound : (start : Tables) (entries : List Entry) → AreSound start → AreSound (tables_from start entries)
run_sound start [] s = s
run_sound start (e ∷ past) s = lasting (tables_from start past) e.event e.effects (run_sound start past s)
