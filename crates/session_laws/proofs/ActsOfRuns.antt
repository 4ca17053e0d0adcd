-- After each event, the acts of all steps agree with the tables.
use Rattle.session_laws.proofs.Vocabulary.{◌≡◌, ℕ, ◌+◌, Bool, true, false, List, [], ◌∷◌, ◌++◌, Option, Some, None}
use Rattle.session_laws.proofs.Vocabulary.{refl, ap, sym, ◌∙◌, subst, length, arith, if◌then◌else◌, ◌==◌, ◌||◌}
use Rattle.session_laws.proofs.Vocabulary.{unwrap_or, reverse-append, Edition, UserId, History, followed_by, is_open}
use Rattle.session_laws.proofs.Vocabulary.{open_count, Effect, EventValue, Attach, Open, Draw, Entry, Tables, Window}
use Rattle.session_laws.proofs.Vocabulary.{Client, client_at, focused, fresh, first_fault, verdicts, entering, outcome}
use Rattle.session_laws.proofs.Vocabulary.{Outcome, left_acts, reply_of, attach_checks, attaches, new_client}
use Rattle.session_laws.proofs.Vocabulary.{open_checks, opens, new_window, after, drawn, drawn_on, tables_from}
use Rattle.session_laws.proofs.Vocabulary.{AreSound, ActsAgree}
use Rattle.acl.specs.declared.act.Act.TheVariants as act
use Rattle.session_laws.proofs.DifferentNumbers.{serial_of}
use Rattle.session_laws.proofs.Moving.{AllAside, aside_append, id_of, ids, serials}
use Rattle.session_laws.proofs.CommandMoves.{length_append}
use Rattle.session_laws.proofs.Settling.{moving, left_aside, is_new}
use Rattle.session_laws.proofs.Sounding.{drawn_ids, run_sound, map_append}
use Rattle.session_laws.proofs.ActsOfMoves.{Says, SaysOf, has, has_append, aside_all, moved_says, agrees, says_of}
use Rattle.session_laws.proofs.Outcomes as outcomes

-- ---- windows and clients that come

entering_aside : (user : UserId) (o : Option ℕ) → AllAside (entering user o)
entering_aside user None = tt
entering_aside user (Some w) = (refl, tt)

attached_says : (h : History) (ns : List ℕ) (ps : List (ℕ × UserId)) (client : ℕ) (user : UserId) → Says h ns ps
    → Says (act.Attached client user ∷ h) ns (ps ++ (client, user) ∷ [])
attached_says h ns ps client user s = record {
  open_is = s.open_is;
  count_is = s.count_is;
  clients_are = ap (λ qs. (client, user) ∷ qs) s.clients_are ∙ sym (reverse-append ps ((client, user) ∷ []));
}

by_default : (b x : Bool) → unwrap_or (if b then Some true else None) x ≡ (b || x)
by_default true x = refl
by_default false x = refl

or_last : (a b : Bool) → (b || a) ≡ (a || (b || false))
or_last true true = refl
or_last true false = refl
or_last false true = refl
or_last false false = refl

opened_says : (h : History) (ns : List ℕ) (ps : List (ℕ × UserId)) (by : UserId) (n : ℕ) → Says h ns ps
    → Says (act.Opened by n ∷ h) (ns ++ n ∷ []) ps
opened_says h ns ps by n s = record {
  open_is = λ w. by_default (n == w) (is_open h w) ∙ ap (λ b. n == w || b) (s.open_is w) ∙ or_last (has ns w) (n == w)
      ∙ sym (has_append ns (n ∷ []) w);
  count_is = let count : open_count h ≡ length ns = s.count_is in let sum : length (ns ++ n ∷ []) ≡ length ns + 1 =
      length_append ns (n ∷ []) in omega (arith, count, sum);
  clients_are = s.clients_are;
}

-- ---- events

abbrev SaysIn : Outcome → Type 0
SaysIn o = SaysOf o.tables

-- the acts in the tables are the old ones and those that the outcome notes
abbrev Noted : Tables → Outcome → Type 0
Noted t o = o.tables.acts ≡ followed_by t.acts o.acts

noted_end : (t : Tables) (o : Outcome) → outcomes.Ends t o → Noted t o
noted_end t o (outcomes.refuses vs r) = refl
noted_end t o (outcomes.does_it vs y d) = refl

pub noted : (t : Tables) (event : EventValue) → Noted t (outcome t event)
noted t event = noted_end t (outcome t event) (outcomes.ends t event)

moved : (t : Tables) (event : EventValue) → AreSound t → SaysOf t → is_new event ≡ false → SaysIn (outcome t event)
moved t event s says other =
    let o : Outcome = outcome t event in
    subst (λ h. Says h (serials o.tables) (ids o.tables)) (sym (noted t event))
    (moved_says t o.tables o.acts 0 s says (moving t event s other))

said : (t : Tables) (event : EventValue) → AreSound t → SaysOf t → SaysIn (outcome t event)
said t (Attach user rows columns) s says =
    let c : Client = new_client t user rows columns in
    outcomes.passed SaysIn t (verdicts t (attach_checks t user rows columns))
    (first_fault t (attach_checks t user rows columns)) (reply_of 0 t.next_client 0 None) (attaches t c)
    (λ r is. says)
    (λ is. subst
    (Says
    (followed_by t.acts
    (act.Attached t.next_client user ∷ entering user (focused c) ++ left_acts t.clients (t.clients ++ c ∷ [])))
    (serials t)) (sym (map_append id_of t.clients c))
    (aside_all (entering user (focused c) ++ left_acts t.clients (t.clients ++ c ∷ []))
    (act.Attached t.next_client user ∷ t.acts) (serials t) (ids t ++ (t.next_client, user) ∷ [])
    (aside_append (entering user (focused c)) (left_acts t.clients (t.clients ++ c ∷ []))
    (entering_aside user (focused c)) (left_aside t.clients (t.clients ++ c ∷ [])))
    (attached_says t.acts (serials t) (ids t) t.next_client user says)))
said t (Open user rows columns keep title) s says =
    let v : Window = new_window t rows columns keep title in
    outcomes.passed SaysIn t (verdicts t (open_checks t user rows columns keep title))
    (first_fault t (open_checks t user rows columns keep title)) (reply_of 0 v.serial v.number None)
    (opens t user v) (λ r is. says)
    (λ is. subst
    (λ ns. Says (followed_by t.acts (act.Opened user t.next_window ∷ left_acts t.clients t.clients)) ns (ids t))
    (sym (map_append serial_of t.windows v))
    (aside_all (left_acts t.clients t.clients) (act.Opened user t.next_window ∷ t.acts)
    (serials t ++ t.next_window ∷ []) (ids t) (left_aside t.clients t.clients)
    (opened_says t.acts (serials t) (ids t) user t.next_window says)))
said t event s says = moved t event s says refl

-- ---- after a draw

drawn_acts : (o : Option Client) (effects : List Effect) (v : Tables) → (drawn_on o effects v).acts ≡ v.acts
drawn_acts None effects v = refl
drawn_acts (Some c) effects v = refl

drawn_serials : (o : Option Client) (effects : List Effect) (v : Tables) → serials (drawn_on o effects v) ≡ serials v
drawn_serials None effects v = refl
drawn_serials (Some c) effects v = refl

same_says : (h k : History) (ns ms : List ℕ) (ps qs : List (ℕ × UserId)) → k ≡ h → ms ≡ ns → qs ≡ ps → Says h ns ps
    → Says k ms qs
same_says h k ns ms ps qs acts windows clients s =
    subst (λ x. Says x ms qs) (sym acts) (subst (λ x. Says h x qs) (sym windows) (subst (Says h ns) (sym clients) s))

pub drawn_says : (t : Tables) (event : EventValue) (effects : List Effect) → AreSound t → SaysOf t
    → SaysOf (drawn event effects (outcome t event).tables)
drawn_says t (Draw client) effects s says =
    let u : Tables = (outcome t (Draw client)).tables in
    let o : Option Client = client_at u client in
    same_says u.acts (drawn_on o effects u).acts (serials u) (serials (drawn_on o effects u)) (ids u)
    (ids (drawn_on o effects u))
    (drawn_acts o effects u) (drawn_serials o effects u) (drawn_ids u client effects o refl)
    (said t (Draw client) s says)
drawn_says t event effects s says = said t event s says

pub after_acts : (t : Tables) (event : EventValue) (effects : List Effect)
    → (drawn event effects (outcome t event).tables).acts ≡ followed_by t.acts (outcome t event).acts
after_acts t (Draw client) effects = drawn_acts (client_at (outcome t (Draw client)).tables client) effects
    (outcome t (Draw client)).tables ∙ noted t (Draw client)
after_acts t event effects = noted t event

pub acts_agree : (t : Tables) (e : Entry) → AreSound t → ActsAgree t → ActsAgree (after t e)
acts_agree t e s a = agrees (after t e) (drawn_says t e.event e.effects s (says_of t a))

pub fresh_agrees : (edition : Edition) (owner : UserId) → ActsAgree (fresh edition owner)
fresh_agrees edition owner = record { open_is = λ w. refl; count_is = refl; clients_are = refl }

pub run_agrees : (start : Tables) (entries : List Entry) → AreSound start → ActsAgree start
    → ActsAgree (tables_from start entries)
run_agrees start [] s a = a
run_agrees start (e ∷ past) s a = acts_agree (tables_from start past) e (run_sound start past s)
    (run_agrees start past s a)
