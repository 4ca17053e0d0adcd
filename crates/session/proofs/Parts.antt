-- Scripts that are played line by line.
use Rattle.session.proofs.Vocabulary.{ℕ, Bool, true, false, ◌+◌, ◌<◌, ◌≡◌, refl, sym, ◌∙◌, ap, subst, List, [], ◌∷◌}
use Rattle.session.proofs.Vocabulary.{◌++◌, length, Option, Some, None, Result, Ok, Err, drop, append_assoc}
use Rattle.session.proofs.Vocabulary.{length-append, IfErr, IsErrAnd, IfSome, flat_map, append-nil, Appends, Keeps}
use Rattle.session.proofs.Vocabulary.{IsAtEnd, prepend_known, first_piece, drop_through, DropsThrough, YieldsKnownPiece}
use Rattle.session.proofs.Vocabulary.{reader_remaining, reader_buffer, reader_capacity, reader_inner, Effect, Session}
use Rattle.session.proofs.Vocabulary.{EventValue, Reply, Trace, begun, StandsFor, with_steps, AllSteps, KeepsPromise}
use Rattle.session.proofs.Vocabulary.{Serves, SomeRun, untaken_events, without_keys, effects_of, replies_of}
use Rattle.session.proofs.Vocabulary.{effect_line, reply_line, lines_of, tables_of, printed, views, views_if}
use Rattle.session.proofs.Vocabulary.{IfNotUnderstood, IsBad, OfScript, PlaysAll, PlaysUntil, Runs, Played, PlayedPart}
use Rattle.session.proofs.Vocabulary.{Edition, UserId, Line, Behind, SetsUp}
use Rattle.std.specs.declared.io.buffered.BufReader.{BufReader}
use Rattle.session_model.specs.declared.event.Ran.{Ran}
use Rattle.session.specs.declared.player.Fault.{Fault}
use Rattle.session.specs.declared.player.Fault.TheVariants.{NotUnderstood, Io, NoMemory}
use Rattle.session_model.specs.Tables.{Tables}
use Rattle.session.proofs.Lines.{first_line}
use Rattle.session.proofs.Playing.{keeps_on, appends_on, played_on}
use Rattle.session.proofs.Texts.{one_event}

-- ---- one event

pub left_none : (ran : Ran) (event : EventValue) → ran.taken ≡ 1 → untaken_events ran (event ∷ []) ≡ []
left_none ran event all = ap (λ n. without_keys ran.part (drop n (event ∷ []))) all

pub event_ran : (h : Trace) (old new : Session) (event : EventValue) (no_effects effects : List Effect)
    (no_replies replies : List Reply) (left : List EventValue) (a b : Option (List ℕ)) (text : List ℕ)
    → no_effects ≡ [] → no_replies ≡ []
    → SomeRun old
    (record {
      events = event ∷ [];
      effects = no_effects;
      more_effects = effects;
      replies = no_replies;
      more_replies =
          replies;
      left = left;
    }) new (AllSteps KeepsPromise)
    → left ≡ [] → text ≡ flat_map effect_line effects ++ flat_map (reply_line event) replies → Appends a b text
    → StandsFor h old → Runs h event new a b
event_ran h old new event no_effects effects no_replies replies left a b text bare unsaid run none is prints st =
    let ran = run h st in
    let serves : Serves (event ∷ []) ran.0 [] = subst (λ l. Serves (event ∷ []) ran.0 l) none ran.1.events in
    let made : effects ≡ effects_of ran.0 = ran.1.effects ∙ ap (λ es. es ++ effects_of ran.0) bare in
    let said : replies ≡ replies_of ran.0 = ran.1.replies ∙ ap (λ rs. rs ++ replies_of ran.0) unsaid in
    record {
      steps = ran.0;
      serves = serves;
      run = ran.3;
      stands = ran.2;
      prints = subst (λ bytes. Appends a b bytes)
          (is ∙ (ap (λ es. flat_map effect_line es ++ flat_map (reply_line event) replies) made
          ∙ (ap (λ rs. flat_map effect_line (effects_of ran.0) ++ flat_map (reply_line event) rs) said
          ∙ sym (one_event event ran.0 serves)))) prints;
    }

-- ---- lines

-- the bytes after a new buffer
pub read_ahead : {R A : Type 0} → (remaining : R → Option (List ℕ)) (r : BufReader R A) (reader : R) (script : List ℕ)
    → reader_inner r ≡ reader → reader_buffer r ≡ [] → reader_capacity r ≡ 8192 → remaining reader ≡ Some script
    → reader_remaining remaining r ≡ Some script
read_ahead remaining r reader script inner empty capacity known = rw (capacity, empty)
    (rw inner (ap (λ k. prepend_known [] k) known))

pub none_read : (h : Trace) (s : Session) (script : List ℕ) (count : ℕ) (left known : Option (List ℕ)) → count ≡ 0
    → left ≡ Some script → Played h [] s known known → PlayedPart h script count left s known known
none_read h s script count left known zero is played = record {
  past = [];
  rest = script;
  lines = refl;
  count_is = zero;
  left_is = is;
  played = played;
}

-- what `split` gives next, and what it leaves
pub record Piece (line : List ℕ) (left behind : Option (List ℕ)) : Type 0 where
  pub first : IfSome left (λ bytes. (0 < length bytes) × (line ≡ first_piece 0x0A bytes))
  pub rest : DropsThrough left behind 0x0A

pub piece_of : {X E : Type 0} (items : X → List ℕ) (byte : ℕ) (left behind : Option (List ℕ)) (item : Result X E)
    (x : X) (line : List ℕ) → byte ≡ 0x0A
    → YieldsKnownPiece {E = E} items (first_piece byte) byte left (Some item) behind → item ≡ Ok x → line ≡ items x
    → Piece line left behind
piece_of {X} {E} items byte left behind item x line byte_is yields item_is line_is =
    let fed = subst (λ b. YieldsKnownPiece {E = E} items (first_piece b) b left (Some item) behind) byte_is yields in
    let got : YieldsKnownPiece {E = E} items (first_piece 0x0A) 0x0A left (Some (Ok x)) behind = subst
    (λ i. YieldsKnownPiece {E = E} items (first_piece 0x0A) 0x0A left (Some i) behind) item_is fed in
    record {
      first = subst (λ l. IfSome left (λ bytes. (0 < length bytes) × (l ≡ first_piece 0x0A bytes))) (sym line_is) got.0;
      rest = got.1;
    }

record Next (line rest : List ℕ) (behind : Option (List ℕ)) : Type 0 where
  lines_are : lines_of rest ≡ line ∷ lines_of (drop_through 0x0A rest)
  behind_is : behind ≡ Some (drop_through 0x0A rest)

next_line : (line rest : List ℕ) (left behind : Option (List ℕ)) → left ≡ Some rest → Piece line left behind
    → Next line rest behind
next_line line rest None behind is piece = cc
next_line line rest (Some bytes) behind is piece =
    let same : bytes ≡ rest = cc in
    subst (λ bs. Next line bs behind) same (record {
      lines_are = first_line bytes piece.first.0 ∙ ap (λ l. l ∷ lines_of (drop_through 0x0A bytes)) (sym piece.first.1);
      behind_is = piece.rest;
    })

pub line_on : (h : Trace) (script : List ℕ) (count more : ℕ) (left behind : Option (List ℕ)) (old new : Session)
    (line : List ℕ) (a b c : Option (List ℕ))
    → PlayedPart h script count left old a b → Piece line left behind → more ≡ count + 1
    → ((now : Trace) → StandsFor now old → Played now (line ∷ []) new b c)
    → PlayedPart h script more behind new a c
line_on h script count more left behind old new line a b c p piece next played =
    let is = next_line line p.rest left behind p.left_is piece in
    record {
      past = p.past ++ line ∷ [];
      rest = drop_through 0x0A p.rest;
      lines = p.lines
          ∙
          (ap (λ ls. p.past ++ ls) is.lines_are
          ∙ sym (append_assoc p.past (line ∷ []) (lines_of (drop_through 0x0A p.rest))));
      count_is = next ∙ (ap (λ n. n + 1) p.count_is ∙ sym (length-append p.past (line ∷ [])));
      left_is = is.behind_is;
      played = played_on h p.past (line ∷ []) old new a b c p.played
          (played (with_steps h p.played.steps) p.played.stands);
    }

at_end : (rest : List ℕ) (left : Option (List ℕ)) → left ≡ Some rest → IsAtEnd left → rest ≡ []
at_end rest None is end = cc
at_end rest (Some bytes) is end = let same : bytes ≡ rest = cc in sym same ∙ end

pub all_played : (h : Trace) (script : List ℕ) (count : ℕ) (left : Option (List ℕ)) (s : Session)
    (a b : Option (List ℕ)) → PlayedPart h script count left s a b → IsAtEnd left → Played h (lines_of script) s a b
all_played h script count left s a b p end =
    let none : p.rest ≡ [] = at_end p.rest left p.left_is end in
    subst (λ ls. Played h ls s a b) (sym (p.lines ∙ (ap (λ bs. p.past ++ lines_of bs) none ∙ append-nil p.past)))
    p.played

pub stopped_at : (h : Trace) (script : List ℕ) (count number : ℕ) (left behind : Option (List ℕ)) (s : Session)
    (line : List ℕ) (a b c : Option (List ℕ))
    → PlayedPart h script count left s a b → Piece line left behind → number ≡ count + 1 → IsBad line → Keeps b c
    → PlaysUntil number h script a c
stopped_at h script count number left behind s line a b c p piece is bad kept =
    let next = next_line line p.rest left behind p.left_is piece in
    record {
      past = p.past;
      line = line;
      behind = lines_of (drop_through 0x0A p.rest);
      lines = p.lines ∙ ap (λ ls. p.past ++ ls) next.lines_are;
      number_is = is ∙ ap (λ n. n + 1) p.count_is;
      bad = bad;
      steps = p.played.steps;
      plays = p.played.plays;
      prints = keeps_on a b c (printed p.played.steps) p.played.prints kept;
    }

-- ---- whole scripts

pub if_known : (o : Option (List ℕ)) (P : List ℕ → Type 0) → ((script : List ℕ) → o ≡ Some script → P script)
    → IfSome o P
if_known None P each = tt
if_known (Some script) P each = each script refl

-- what is played over a session that began with these lines is played after them
pub plays_behind : (groups : Edition) (name : UserId) (lines commands : List Line) (shows : Bool)
    (read : Option (List ℕ)) (s : Session) (a b : Option (List ℕ))
    → lines ≡ commands → Behind (λ h. StandsFor h s) (begun groups name) name lines
    → OfScript read s (λ h script. PlaysAll h shows script a b)
    → IfSome read (λ script. Behind (λ h. PlaysAll h shows script a b) (begun groups name) name commands)
plays_behind groups name lines commands shows read s a b is (steps, up, st) plays =
    if_known read (λ script. Behind (λ h. PlaysAll h shows script a b) (begun groups name) name commands)
    (λ script known. (
      steps,
      subst (λ ls. SetsUp (begun groups name) name ls steps) is up,
      plays script known (with_steps (begun groups name) steps) st,
    ))

views_false : (shows : Bool) (t : Tables) → shows ≡ false → views_if shows t ≡ []
views_false shows t quiet = ap (λ b. views_if b t) quiet

views_true : (shows : Bool) (t : Tables) → shows ≡ true → views_if shows t ≡ views t
views_true shows t asked = ap (λ b. views_if b t) asked

pub plays_quietly : (start : Trace) (shows : Bool) (script : List ℕ) (s : Session) (a b : Option (List ℕ))
    → shows ≡ false → Played start (lines_of script) s a b → PlaysAll start shows script a b
plays_quietly start shows script s a b quiet p = record {
  steps = p.steps;
  plays = p.plays;
  prints = subst (λ text. Appends a b text)
      (sym
      (ap (λ text. printed p.steps ++ text) (views_false shows (tables_of (with_steps start p.steps)) quiet)
      ∙ append-nil (printed p.steps))) p.prints;
}

pub plays_shown : (start : Trace) (shows : Bool) (script : List ℕ) (s : Session) (a b c : Option (List ℕ))
    → shows ≡ true → Played start (lines_of script) s a b
    → ((h : Trace) → StandsFor h s → Appends b c (views (tables_of h))) → PlaysAll start shows script a c
plays_shown start shows script s a b c asked p shown =
    let h : Trace = with_steps start p.steps in record {
      steps = p.steps;
      plays = p.plays;
      prints = subst (λ text. Appends a c text)
          (sym (ap (λ text. printed p.steps ++ text) (views_true shows (tables_of h) asked)))
          (appends_on a b c (printed p.steps) (views (tables_of h)) p.prints (shown h p.stands));
    }

pub if_bad : (P Q : ℕ → Type 0) (fault : Fault) → IfNotUnderstood fault P → ((number : ℕ) → P number → Q number)
    → IfNotUnderstood fault Q
if_bad P Q (NotUnderstood number) is so = so number is
if_bad P Q (Io error) is so = tt
if_bad P Q NoMemory is so = tt

pub if_err_same : (result : Result (Unit {0}) Fault) (fault : Fault) (P : Fault → Type 0)
    → IsErrAnd result (λ e. e ≡ fault) → P fault → IfErr result P
if_err_same (Ok done) fault P same is = tt
if_err_same (Err e) fault P same is = subst P (sym same) is
