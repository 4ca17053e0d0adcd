-- Lines of a setup, one after another, lead a session from tables to tables.
use Rattle.trail_again.proofs.Vocabulary.{◌≡◌, ◌∙◌, ℕ, ◌+◌, ◌≤◌, Bool, true, false, List, [], ◌∷◌, ◌++◌, refl, ap, sym}
use Rattle.trail_again.proofs.Vocabulary.{map, subst, if◌then◌else◌, Option, Some, None, length, append_assoc, arith}
use Rattle.trail_again.proofs.Vocabulary.{length-append, nat_lt, AllByRecursion, flat_map, slice_split, option_or}
use Rattle.trail_again.proofs.Vocabulary.{is_utf8, nat_tests, append-nil, Act, Edition, UserId, History, followed_by}
use Rattle.trail_again.proofs.Vocabulary.{followed_by-append, Tables, is_feed, command_of, spoken, Kind, PutsLines}
use Rattle.trail_again.proofs.Vocabulary.{line, AreTaken, session_after}
use Rattle.session.specs.Trace.{Command, EventValue}
use Rattle.program_words.specs.declared.setup.SetupFault.{SetupFault}
use Rattle.program_words.specs.declared.setup.SetupFault.TheVariants.{NotText, TooLong}
use Rattle.program_words.specs.SetupLines.{Line, commands_from, fault_of, first_fault, is_skipped, numbered}
use Rattle.trail_setup.specs.Lines.{begun, on_lines}
use Rattle.trail_again.proofs.Doing.{IsTaken}
use Rattle.trail_again.proofs.Reading.{Free, split_at}

-- what a file gives that begins with the line of this number
abbrev pub events : UserId → ℕ → List ℕ → List EventValue
events owner n file = map (command_of owner) (commands_from n (slice_split is_feed file))

-- none of its lines is too long
abbrev pub IsRead : ℕ → List ℕ → Type 0
IsRead n file = first_fault (commands_from n (slice_split is_feed file)) ≡ None

-- these bytes, which are whole lines, lead from these tables to those
abbrev pub Leads : UserId → Tables → List ℕ → Tables → Type 0
Leads owner t bytes new =
    (n : ℕ) (rest : List ℕ) (end : Tables) → IsRead n (bytes ++ rest)
    → ((m : ℕ) → IsRead m rest → AreTaken new (events owner m rest) end)
    → AreTaken t (events owner n (bytes ++ rest)) end

pub leads_nothing : (owner : UserId) (t : Tables) → Leads owner t [] t
leads_nothing owner t n rest end read later = later n read

pub leads_then : (owner : UserId) (t u v : Tables) (a b : List ℕ) → Leads owner t a u → Leads owner u b v
    → Leads owner t (a ++ b) v
leads_then owner t u v a b first second n rest end read later =
    subst (λ x. AreTaken t (events owner n x) end) (sym (append_assoc a b rest))
    (first n (b ++ rest) end (subst (λ x. IsRead n x) (append_assoc a b rest) read)
    (λ m r. second m rest end r later))

pub leads_same : (owner : UserId) (t u v : Tables) (a b : List ℕ) → a ≡ b → u ≡ v → Leads owner t a u
    → Leads owner t b v
leads_same owner t u v a b e f l =
    subst (λ (x : Tables). Leads owner t b x) f (subst (λ (x : List ℕ). Leads owner t x u) e l)

-- ---- one line

module _ (owner : UserId) (t : Tables) (text : List ℕ) (whole : Free is_feed text) where
  cut : (rest : List ℕ) → slice_split is_feed ((text ++ 0x0A ∷ []) ++ rest) ≡ text ∷ slice_split is_feed rest
  cut rest = ap (slice_split is_feed) (append_assoc text (0x0A ∷ []) rest) ∙ split_at is_feed text 0x0A rest whole refl

  skip : (b : Bool) → is_skipped text ≡ b → (n : ℕ) (rest : List ℕ)
      → commands_from n (slice_split is_feed ((text ++ 0x0A ∷ []) ++ rest))
      ≡ (if b then commands_from (n + 1) (slice_split is_feed rest)
      else numbered n text ∷ commands_from (n + 1) (slice_split is_feed rest))
  skip b e n rest = ap (commands_from n) (cut rest)
      ∙ ap (λ c. if c then commands_from (n + 1) (slice_split is_feed rest)
      else numbered n text ∷ commands_from (n + 1) (slice_split is_feed rest)) e

  pub leads_comment : is_skipped text ≡ true → Leads owner t (text ++ 0x0A ∷ []) t
  leads_comment skipped n rest end read later =
      let same = skip true skipped n rest in
      subst (λ (ls : List Line). AreTaken t (map (command_of owner) ls) end) (sym same)
      (later (n + 1) (subst (λ (ls : List Line). first_fault ls ≡ None) same read))

  fine : (o p : Option SetupFault) → option_or o p ≡ None → (o ≡ None) × (p ≡ None)
  fine None p e = (refl, e)
  fine (Some f) p e = absurd (cc (e))

  short : (n : ℕ) → fault_of (numbered n text) ≡ None → length text ≤ 1024
  short n e = at (nat_lt 1024 (length text)) (is_utf8 text) refl e
    where
      at : (b c : Bool) → nat_lt 1024 (length text) ≡ b
          → (if b then Some (TooLong n) else (if c then None else Some (NotText n))) ≡ None → length text ≤ 1024
      at true c e f = absurd (cc (f))
      at false c e f = grind (arith, nat_tests, e)

  pub leads_line : (new : Tables) → is_skipped text ≡ false
      → (length text ≤ 1024 → IsTaken t (Command (spoken owner text).0 None (spoken owner text).1) new)
      → Leads owner t (text ++ 0x0A ∷ []) new
  leads_line new skipped does n rest end read later =
      let same = skip false skipped n rest in
      let all = subst (λ (ls : List Line). first_fault ls ≡ None) same read in
      let parts = fine (fault_of (numbered n text)) (first_fault (commands_from (n + 1)
      (slice_split is_feed rest))) all in
      let done = does (short n parts.0) in
      subst (λ (ls : List Line). AreTaken t (map (command_of owner) ls) end) (sym same) (
        done.reply,
        subst (λ (x : Tables). AreTaken x (events owner (n + 1) rest) end) (sym done.tables)
            (later (n + 1) parts.1),
      )

-- ---- lines on which words stand

abbrev head_or : List ℕ → List (List ℕ) → List ℕ
head_or d [] = d
head_or d (x ∷ xs) = x

abbrev rest_of : List (List ℕ) → List (List ℕ)
rest_of [] = []
rest_of (x ∷ xs) = xs

-- a list, of which some are at the front
record Fronts {X : Type 0} (f : X → List ℕ) (xs : List X) (words rest : List (List ℕ)) : Type 0 where
  front : List X
  behind : List X
  all : xs ≡ front ++ behind
  words_are : map f front ≡ words
  rest_are : map f behind ≡ rest

none_left : {P : Type 0} (w : List ℕ) (ws : List (List ℕ)) → [] ≡ w ∷ ws → P
none_left w ws e = absurd (let wrong : 0 ≡ length (w ∷ ws) = ap length e in omega (arith, wrong))

fronts : {X : Type 0} (f : X → List ℕ) (words : List (List ℕ)) (xs : List X) (rest : List (List ℕ))
    → map f xs ≡ words ++ rest → Fronts f xs words rest
fronts f [] xs rest e = record { front = []; behind = xs; all = refl; words_are = refl; rest_are = e }
fronts f (w ∷ words) [] rest e = none_left w (words ++ rest) e
fronts f (w ∷ words) (x ∷ xs) rest e =
    let later = fronts f words xs rest (ap rest_of e) in
    record {
      front = x ∷ later.front;
      behind = later.behind;
      all = ap (λ l. x ∷ l) later.all;
      words_are = (λ j. ap (head_or w) e j ∷ later.words_are j);
      rest_are = later.rest_are;
    }

flat_append : {X : Type 0} (g : X → List Act) (xs ys : List X) → flat_map g (xs ++ ys) ≡ flat_map g xs ++ flat_map g ys
flat_append g [] ys = refl
flat_append g (x ∷ xs) ys = ap (λ (l : List Act). g x ++ l) (flat_append g xs ys)
    ∙ sym (append_assoc (g x) (flat_map g xs) (flat_map g ys))

-- the last line was ended
ended : (k : Kind) (last : List (List ℕ)) → [] ≡ begun k last → last ≡ []
ended k [] e = refl
ended k (w ∷ ws) e = absurd
    (let same : 0 ≡ length (k.head ++ 0x20 ∷ (w ++ flat_map (λ v. k.between ∷ v) ws)) = ap length e in
    let some : length (k.head ++ 0x20 ∷ (w ++ flat_map (λ v. k.between ∷ v) ws))
    ≡ length k.head + length (0x20 ∷ (w ++ flat_map (λ v. k.between ∷ v) ws)) =
    length-append k.head (0x20 ∷ (w ++ flat_map (λ v. k.between ∷ v) ws)) in
    omega (arith, same, some))

-- bytes that were put, and where they lead to
abbrev pub Brings : UserId → Tables → Tables → (start out : List ℕ) → Type 0
Brings owner t new start out = (bytes : List ℕ) × (out ≡ start ++ bytes) × Leads owner t bytes new

module _ (edition : Edition) (owner : UserId) {X : Type 0} (k : Kind) (f : X → List ℕ) (acts : X → List Act)
    (Holds : History → List X → Type 0) where
  -- each line, with words of some of those that are left
  abbrev pub EachLeads : Type 0
  EachLeads =
      (h : History) (x : X) (xs rest : List X) → Holds h (x ∷ (xs ++ rest))
      → Leads owner (session_after edition owner h) (line k (f x, map f xs))
      (session_after edition owner (followed_by h (flat_map acts (x ∷ xs))))
      × Holds (followed_by h (flat_map acts (x ∷ xs))) rest

  one_line : EachLeads → (l : List ℕ × List (List ℕ)) (front behind : List X) (h : History) → Holds h (front ++ behind)
      → map f front ≡ l.0 ∷ l.1
      → Leads owner (session_after edition owner h) (line k l)
      (session_after edition owner (followed_by h (flat_map acts front)))
      × Holds (followed_by h (flat_map acts front)) behind
  one_line each l [] behind h holds e = none_left l.0 l.1 e
  one_line each l (x ∷ xs) behind h holds e =
      let first = each h x xs behind holds in (
        subst (λ (b : List ℕ). Leads owner (session_after edition owner h) b
            (session_after edition owner (followed_by h (flat_map acts (x ∷ xs)))))
            (λ j. line k (ap (head_or l.0) e j, ap rest_of e j)) first.0,
        first.1,
      )

  go : EachLeads → (ls : List (List ℕ × List (List ℕ))) (xs : List X) (h : History) → Holds h xs
      → map f xs ≡ on_lines ls
      → Leads owner (session_after edition owner h) (flat_map (line k) ls)
      (session_after edition owner (followed_by h (flat_map acts xs)))
  go each [] [] h holds e = leads_nothing owner (session_after edition owner h)
  go each [] (x ∷ xs) h holds e = none_left (f x) (map f xs) (sym e)
  go each (l ∷ ls) xs h holds e =
      let fr = fronts f (l.0 ∷ l.1) xs (on_lines ls) e in
      let next : History = followed_by h (flat_map acts fr.front) in
      let first = one_line each l fr.front fr.behind h (subst (Holds h) fr.all holds) fr.words_are in
      let later = go each ls fr.behind next first.1 fr.rest_are in
      leads_same owner (session_after edition owner h)
      (session_after edition owner (followed_by next (flat_map acts fr.behind)))
      (session_after edition owner (followed_by h (flat_map acts xs))) (line k l ++ flat_map (line k) ls)
      (flat_map (line k) (l ∷ ls)) refl
      (ap (session_after edition owner) (sym (followed_by-append h (flat_map acts fr.front) (flat_map acts fr.behind))
      ∙ ap (followed_by h) (sym (flat_append acts fr.front fr.behind) ∙ ap (flat_map acts) (sym fr.all))))
      (leads_then owner (session_after edition owner h) (session_after edition owner next)
      (session_after edition owner (followed_by next (flat_map acts fr.behind))) (line k l) (flat_map (line k) ls)
      first.0 later)

  pub lines_lead : EachLeads → (xs : List X) (h : History) → Holds h xs → (start out : List ℕ)
      → PutsLines k start (map f xs) out
      → Brings owner (session_after edition owner h)
      (session_after edition owner (followed_by h (flat_map acts xs))) start out
  lines_lead each xs h holds start out put = (
    flat_map (line k) put.lines,
    put.put,
    go each put.lines xs h holds (put.all ∙ ap (λ l. on_lines put.lines ++ l) (ended k put.last put.begins)
        ∙ append-nil (on_lines put.lines)),
  )

-- lines that say nothing
pub comments_lead : (owner : UserId) (t : Tables) (k : Kind)
    → ((l : List ℕ × List (List ℕ)) → AllByRecursion (Free is_feed) (l.0 ∷ l.1) → Leads owner t (line k l) t)
    → (words : List (List ℕ)) → AllByRecursion (Free is_feed) words → (start out : List ℕ)
    → PutsLines k start words out → Brings owner t t start out
comments_lead owner t k each words free start out put = (
  flat_map (line k) put.lines,
  put.put,
  all put.lines (subst (AllByRecursion (Free is_feed))
      (put.all ∙ ap (λ l. on_lines put.lines ++ l) (ended k put.last put.begins)
      ∙ append-nil (on_lines put.lines)) free),
)
  where
    front_free : (xs ys : List (List ℕ)) → AllByRecursion (Free is_feed) (xs ++ ys)
        → AllByRecursion (Free is_feed) xs × AllByRecursion (Free is_feed) ys
    front_free [] ys a = (tt, a)
    front_free (x ∷ xs) ys a = let more = front_free xs ys a.1 in ((a.0, more.0), more.1)

    all : (ls : List (List ℕ × List (List ℕ))) → AllByRecursion (Free is_feed) (on_lines ls)
        → Leads owner t (flat_map (line k) ls) t
    all [] a = leads_nothing owner t
    all (l ∷ ls) a =
        let parts = front_free (l.0 ∷ l.1) (on_lines ls) a in
        leads_then owner t t t (line k l) (flat_map (line k) ls) (each l parts.0) (all ls parts.1)
