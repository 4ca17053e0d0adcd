-- Moving windows and clients keeps what the acts of all steps say of them: which windows are open,
-- how many, and who is attached.
use Rattle.session_laws.proofs.Vocabulary.{◌≡◌, ℕ, ◌+◌, ◌-◌, ◌<◌, Bool, true, false, not, List, [], ◌∷◌, ◌++◌, Some}
use Rattle.session_laws.proofs.Vocabulary.{None, refl, ap, sym, ◌∙◌, subst, map, filter, length, reverse, arith}
use Rattle.session_laws.proofs.Vocabulary.{append_assoc, if◌then◌else◌, ◌==◌, ◌||◌, is_some, unwrap_or, AllByRecursion}
use Rattle.session_laws.proofs.Vocabulary.{list_any, nat_tests, reverse-append, UserId, Act, History, followed_by}
use Rattle.session_laws.proofs.Vocabulary.{is_open, open_count, clients_of, Tables, Window, row_of, Rises, AreSound}
use Rattle.session_laws.proofs.Vocabulary.{ActsAgree, equal, itself}
use Rattle.acl.specs.declared.act.Act.TheVariants as act
use Rattle.session_laws.proofs.Inputs.{append_nil}
use Rattle.session_laws.proofs.DifferentNumbers.{serial_of}
use Rattle.session_laws.proofs.Moving.{AllAside, is_aside, Moves, ids, serials, closed, parted}
use Rattle.session_laws.proofs.CommandMoves.{length_append, length_map}
use Rattle.session_laws.proofs.SoundMoves.{client_firsts, firsts}

-- ---- membership of numbers

abbrev pub has : List ℕ → ℕ → Bool
has ns w = list_any (λ n. n == w) ns

pub has_row : (ws : List Window) (w : ℕ) → is_some (row_of serial_of ws w) ≡ has (map serial_of ws) w
has_row [] w = refl
has_row (v ∷ ws) w = on (v.serial == w) (has_row ws w) where
  on : (b : Bool) → is_some (row_of serial_of ws w) ≡ has (map serial_of ws) w
      → is_some (if b then Some v else row_of serial_of ws w) ≡ (b || has (map serial_of ws) w)
  on true rest = refl
  on false rest = rest

pub has_append : (xs ys : List ℕ) (w : ℕ) → has (xs ++ ys) w ≡ (has xs w || has ys w)
has_append [] ys w = refl
has_append (x ∷ xs) ys w = on (x == w) (has_append xs ys w) where
  on : (b : Bool) → has (xs ++ ys) w ≡ (has xs w || has ys w) → (b || has (xs ++ ys) w) ≡ ((b || has xs w) || has ys w)
  on true rest = refl
  on false rest = rest

apart : (n w : ℕ) → n < w → (n == w) ≡ false
apart n w lt = grind (arith, nat_tests, lt)

none_below : (n : ℕ) (ns : List ℕ) → AllByRecursion (λ m. n < m) ns → has ns n ≡ false
none_below n [] all = refl
none_below n (m ∷ ns) all = let lt : n < m = all.0 in let off : (m == n) ≡ false = grind (arith, nat_tests, lt) in ap
    (λ b. b || has ns n) off ∙ none_below n ns all.1

-- ---- acts that follow acts

pub followed_append : (h : History) (xs ys : List Act) → followed_by h (xs ++ ys) ≡ followed_by (followed_by h xs) ys
followed_append h [] ys = refl
followed_append h (x ∷ xs) ys = followed_append (x ∷ h) xs ys

-- what a history says of windows and clients: these windows are open, and these clients are
-- attached
pub record Says (h : History) (ns : List ℕ) (ps : List (ℕ × UserId)) : Type 0 where
  pub open_is : (w : ℕ) → is_open h w ≡ has ns w
  pub count_is : open_count h ≡ length ns
  pub clients_are : clients_of h ≡ reverse ps

-- acts aside leave what the history says
aside_one : (a : Act) (h : History) (ns : List ℕ) (ps : List (ℕ × UserId)) → is_aside a ≡ true → Says h ns ps
    → Says (a ∷ h) ns ps
aside_one (act.Opened by window) h ns ps is s = absurd (cc (is))
aside_one (act.Closed window) h ns ps is s = absurd (cc (is))
aside_one (act.Attached client user) h ns ps is s = absurd (cc (is))
aside_one (act.Parted client) h ns ps is s = absurd (cc (is))
aside_one a h ns ps is s = record { open_is = s.open_is; count_is = s.count_is; clients_are = s.clients_are }

pub aside_all : (acts : List Act) (h : History) (ns : List ℕ) (ps : List (ℕ × UserId)) → AllAside acts → Says h ns ps
    → Says (followed_by h acts) ns ps
aside_all [] h ns ps all s = s
aside_all (a ∷ acts) h ns ps all s = aside_all acts (a ∷ h) ns ps all.1 (aside_one a h ns ps all.0 s)

-- ---- windows that are closed

-- no number of one list is in the other
abbrev NoneIn : List ℕ → List ℕ → Type 0
NoneIn kept ns = AllByRecursion (λ n. has kept n ≡ false) ns

none_in_more : (kept : List ℕ) (n : ℕ) (ns : List ℕ) → NoneIn kept ns → AllByRecursion (λ m. n < m) ns
    → NoneIn (kept ++ n ∷ []) ns
none_in_more kept n [] all above = tt
none_in_more kept n (m ∷ ns) all above =
    let off : (n == m) ≡ false = apart n m above.0 in (
      has_append kept (n ∷ []) m ∙ ap (λ b. b || (n == m || false)) all.0
          ∙ ap (λ b. b || false) off,
      none_in_more kept n ns all.1 above.1,
    )

if_or : (a k r : Bool) → (a ≡ true → (k || r) ≡ false) → (if a then false else (k || (a || r))) ≡ (k || r)
if_or true k r off = sym (off refl)
if_or false k r off = refl

by_default : (b x : Bool) → unwrap_or (if b then Some false else None) x ≡ (if b then false else x)
by_default true x = refl
by_default false x = refl

close_one : (kept : List ℕ) (n : ℕ) (ns : List ℕ) (h : History) (ps : List (ℕ × UserId)) → has kept n ≡ false
    → has ns n ≡ false
    → Says h (kept ++ n ∷ ns) ps → Says (act.Closed n ∷ h) (kept ++ ns) ps
close_one kept n ns h ps not_kept not_later s = record {
  open_is = λ w. by_default (n == w) (is_open h w)
      ∙ ap (λ b. if n == w then false else b) (s.open_is w ∙ has_append kept (n ∷ ns) w)
      ∙ if_or (n == w) (has kept w) (has ns w) (λ same. (let e : n ≡ w = equal n w same in
      ap (λ x. has kept x || has ns x) (sym e) ∙ ap (λ b. b || has ns n) not_kept ∙ not_later))
      ∙ sym (has_append kept ns w);
  count_is = counts (is_open h n) opened;
  clients_are = s.clients_are;
} where
  opened : is_open h n ≡ true
  opened = s.open_is n ∙ has_append kept (n ∷ ns) n ∙ ap (λ b. b || (n == n || has ns n)) not_kept
      ∙ ap (λ b. b || has ns n) (itself n)

  counts : (b : Bool) → b ≡ true → (if b then open_count h - 1 else open_count h) ≡ length (kept ++ ns)
  counts true is =
      let count : open_count h ≡ length (kept ++ n ∷ ns) = s.count_is in
      let one : length (kept ++ n ∷ ns) ≡ length kept + length (n ∷ ns) = length_append kept (n ∷ ns) in
      let two : length (kept ++ ns) ≡ length kept + length ns = length_append kept ns in
      omega (arith, count, one, two)
  counts false is = absurd (cc (is))

pub closed_says : (closing : ℕ → Bool) (kept ns : List ℕ) (next : ℕ) (h : History) (ps : List (ℕ × UserId))
    → Rises ns next → NoneIn kept ns → Says h (kept ++ ns) ps
    → Says (followed_by h (closed (filter closing ns))) (kept ++ filter (λ n. not (closing n)) ns) ps
closed_says closing kept [] next h ps rise none s = s
closed_says closing kept (n ∷ ns) next h ps rise none s =
    on (closing n)
    (closed_says closing kept ns next (act.Closed n ∷ h) ps rise.2 none.1
    (close_one kept n ns h ps none.0 (none_below n ns rise.1) s))
    (closed_says closing (kept ++ n ∷ []) ns next h ps rise.2 (none_in_more kept n ns none.1 rise.1)
    (subst (λ ms. Says h ms ps) (sym (append_assoc kept (n ∷ []) ns)) s)) where
      on : (b : Bool)
          → Says (followed_by (act.Closed n ∷ h) (closed (filter closing ns)))
          (kept ++ filter (λ n. not (closing n)) ns) ps
          → Says (followed_by h (closed (filter closing ns))) ((kept ++ n ∷ []) ++ filter (λ n. not (closing n)) ns) ps
          → Says (followed_by h (closed (if b then n ∷ filter closing ns else filter closing ns)))
          (kept ++ (if not b then n ∷ filter (λ n. not (closing n)) ns else filter (λ n. not (closing n)) ns)) ps
      on true goes stays = goes
      on false goes stays = subst (λ ms. Says (followed_by h (closed (filter closing ns))) ms ps)
          (append_assoc kept (n ∷ []) (filter (λ n. not (closing n)) ns)) stays

-- ---- clients that part

filter_append : {A : Type 0} (p : A → Bool) (xs ys : List A) → filter p (xs ++ ys) ≡ filter p xs ++ filter p ys
filter_append p [] ys = refl
filter_append p (x ∷ xs) ys = on (p x) (filter_append p xs ys) where
  on : (b : Bool) → filter p (xs ++ ys) ≡ filter p xs ++ filter p ys
      → (if b then x ∷ filter p (xs ++ ys) else filter p (xs ++ ys)) ≡ (if b then x ∷ filter p xs else filter p xs) ++
      filter p ys
  on true same = ap (λ zs. x ∷ zs) same
  on false same = same

filter_reverse : {A : Type 0} (p : A → Bool) (xs : List A) → filter p (reverse xs) ≡ reverse (filter p xs)
filter_reverse p [] = refl
filter_reverse p (x ∷ xs) =
    ap (filter p) (reverse-append (x ∷ []) xs) ∙ filter_append p (reverse xs) (x ∷ [])
    ∙ ap (λ ys. ys ++ filter p (x ∷ [])) (filter_reverse p xs) ∙ on (p x) where
      on : (b : Bool)
          → reverse (filter p xs) ++ (if b then x ∷ [] else []) ≡ reverse (if b then x ∷ filter p xs else filter p xs)
      on true = sym (reverse-append (x ∷ []) (filter p xs))
      on false = append_nil (reverse (filter p xs))

-- clients with another serial stay attached
others_stay : (n : ℕ) (ps : List (ℕ × UserId)) → has (firsts ps) n ≡ false
    → filter (λ (x : ℕ × UserId). not (x.0 == n)) ps ≡ ps
others_stay n [] none = refl
others_stay n (p ∷ ps) none = on (p.0 == n) none (others_stay n ps) where
  on : (b : Bool) → (b || has (firsts ps) n) ≡ false
      → (has (firsts ps) n ≡ false → filter (λ (x : ℕ × UserId). not (x.0 == n)) ps ≡ ps)
      → (if not b then p ∷ filter (λ (x : ℕ × UserId). not (x.0 == n)) ps else filter
      (λ (x : ℕ × UserId). not (x.0 == n)) ps) ≡ p ∷ ps
  on true none rest = absurd (cc (none))
  on false none rest = ap (λ qs. p ∷ qs) (rest none)

firsts_append : (xs ys : List (ℕ × UserId)) → firsts (xs ++ ys) ≡ firsts xs ++ firsts ys
firsts_append [] ys = refl
firsts_append (x ∷ xs) ys = ap (λ ns. x.0 ∷ ns) (firsts_append xs ys)

part_one : (kept : List (ℕ × UserId)) (p : ℕ × UserId) (ps : List (ℕ × UserId)) (h : History) (ns : List ℕ)
    → has (firsts kept) p.0 ≡ false → has (firsts ps) p.0 ≡ false
    → Says h ns (kept ++ p ∷ ps) → Says (act.Parted p.0 ∷ h) ns (kept ++ ps)
part_one kept p ps h ns not_kept not_later s = record {
  open_is = s.open_is;
  count_is = s.count_is;
  clients_are = ap (filter gone) s.clients_are ∙ filter_reverse gone (kept ++ p ∷ ps)
      ∙ ap reverse
      (filter_append gone kept (p ∷ ps) ∙ ap (λ qs. qs ++ filter gone (p ∷ ps)) (others_stay p.0 kept not_kept)
      ∙ ap (λ qs. kept ++ qs) (first (p.0 == p.0) (itself p.0) ∙ others_stay p.0 ps not_later));
} where
  gone : ℕ × UserId → Bool
  gone x = not (x.0 == p.0)

  first : (b : Bool) → b ≡ true
      →
      (if not b then p ∷ filter (λ (x : ℕ × UserId). not (x.0 == p.0)) ps else filter
      (λ (x : ℕ × UserId). not (x.0 == p.0)) ps) ≡ filter (λ (x : ℕ × UserId). not (x.0 == p.0)) ps
  first true is = refl
  first false is = absurd (cc (is))

abbrev NoneOf : List (ℕ × UserId) → List (ℕ × UserId) → Type 0
NoneOf kept ps = AllByRecursion (λ p. has (firsts kept) p.0 ≡ false) ps

none_of_more : (kept : List (ℕ × UserId)) (p : ℕ × UserId) (ps : List (ℕ × UserId)) → NoneOf kept ps
    → AllByRecursion (λ m. p.0 < m) (firsts ps) → NoneOf (kept ++ p ∷ []) ps
none_of_more kept p [] all above = tt
none_of_more kept p (q ∷ ps) all above =
    let off : (p.0 == q.0) ≡ false = apart p.0 q.0 above.0 in (
      ap (λ ns. has ns q.0) (firsts_append kept (p ∷ [])) ∙ has_append (firsts kept) (p.0 ∷ []) q.0
          ∙ ap (λ b. b || (p.0 == q.0 || false)) all.0 ∙ ap (λ b. b || false) off,
      none_of_more kept p ps all.1 above.1,
    )

pub parted_says : (parting : ℕ × UserId → Bool) (kept ps : List (ℕ × UserId)) (next : ℕ) (h : History) (ns : List ℕ)
    → Rises (firsts ps) next → NoneOf kept ps → Says h ns (kept ++ ps)
    → Says (followed_by h (parted (filter parting ps))) ns (kept ++ filter (λ p. not (parting p)) ps)
parted_says parting kept [] next h ns rise none s = s
parted_says parting kept (p ∷ ps) next h ns rise none s =
    on (parting p)
    (parted_says parting kept ps next (act.Parted p.0 ∷ h) ns rise.2 none.1
    (part_one kept p ps h ns none.0 (none_below p.0 (firsts ps) rise.1) s))
    (parted_says parting (kept ++ p ∷ []) ps next h ns rise.2 (none_of_more kept p ps none.1 rise.1)
    (subst (Says h ns) (sym (append_assoc kept (p ∷ []) ps)) s)) where
      on : (b : Bool)
          → Says (followed_by (act.Parted p.0 ∷ h) (parted (filter parting ps))) ns
          (kept ++ filter (λ p. not (parting p)) ps)
          → Says (followed_by h (parted (filter parting ps))) ns ((kept ++ p ∷ []) ++ filter (λ p. not (parting p)) ps)
          → Says (followed_by h (parted (if b then p ∷ filter parting ps else filter parting ps))) ns
          (kept ++ (if not b then p ∷ filter (λ p. not (parting p)) ps else filter (λ p. not (parting p)) ps))
      on true goes stays = goes
      on false goes stays = subst (Says (followed_by h (parted (filter parting ps))) ns)
          (append_assoc kept (p ∷ []) (filter (λ p. not (parting p)) ps)) stays

-- ---- what moves

none_kept : (ns : List ℕ) → NoneIn [] ns
none_kept [] = tt
none_kept (n ∷ ns) = (refl, none_kept ns)

none_parted : (ps : List (ℕ × UserId)) → NoneOf [] ps
none_parted [] = tt
none_parted (p ∷ ps) = (refl, none_parted ps)

abbrev pub SaysOf : Tables → Type 0
SaysOf t = Says t.acts (serials t) (ids t)

pub moved_says : (t u : Tables) (acts : List Act) (n : ℕ) → AreSound t → SaysOf t → Moves t u acts n
    → Says (followed_by t.acts acts) (serials u) (ids u)
moved_says t u acts n s says m =
    let one : List Act = closed (filter m.closing (serials t)) in
    let two : List Act = parted (filter m.parting (ids t)) in
    let first = closed_says m.closing [] (serials t) t.next_window t.acts (ids t) s.windows_rise (none_kept (serials t))
    says in
    let rise : Rises (firsts (ids t)) t.next_client = subst (λ ns. Rises ns t.next_client) (client_firsts t.clients)
    s.clients_rise in
    let second = parted_says m.parting [] (ids t) t.next_client (followed_by t.acts one)
    (filter (λ n. not (m.closing n)) (serials t)) rise (none_parted (ids t)) first in
    let third = aside_all m.others (followed_by (followed_by t.acts one) two)
    (filter (λ n. not (m.closing n)) (serials t)) (filter (λ p. not (m.parting p)) (ids t)) m.aside second in
    let in_order : followed_by t.acts acts ≡ followed_by (followed_by (followed_by t.acts one) two) m.others =
    ap (followed_by t.acts) m.acts_are ∙ followed_append t.acts one (two ++ m.others)
    ∙ followed_append (followed_by t.acts one) two m.others in
    subst (λ h. Says h (serials u) (ids u)) (sym in_order)
    (subst (λ ns. Says (followed_by (followed_by (followed_by t.acts one) two) m.others) ns (ids u)) (sym m.windows)
    (subst
    (Says (followed_by (followed_by (followed_by t.acts one) two) m.others)
    (filter (λ n. not (m.closing n)) (serials t))) (sym m.clients) third))

pub agrees : (t : Tables) → SaysOf t → ActsAgree t
agrees t s = record {
  open_is = λ w. s.open_is w ∙ sym (has_row t.windows w);
  count_is = s.count_is ∙ length_map serial_of t.windows;
  clients_are = s.clients_are;
}

pub says_of : (t : Tables) → ActsAgree t → SaysOf t
says_of t a = record {
  open_is = λ w. a.open_is w ∙ has_row t.windows w;
  count_is = a.count_is ∙ sym (length_map serial_of t.windows);
  clients_are = a.clients_are;
}
