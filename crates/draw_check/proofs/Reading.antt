-- Bytes begin a list of functions exactly if they have a place.
use Rattle.std.proofs.Common.{◌≡◌, ℕ, ◌+◌, ◌==◌, ◌&&◌, ◌||◌, nat_lt, Bool, true, false, if◌then◌else◌}
use Rattle.std.proofs.Common.{List, [], ◌∷◌, ◌++◌, refl, sym, ap, ◌∙◌, subst, append_assoc, append-nil}
use Rattle.std.proofs.Common.{Option, Some, None, IsTrue, is_some, ◌↔◌}
use Prim.Native.Char.{code}
use Rattle.std.specs.List.{AllByRecursion, concat}
use Rattle.charsets.specs.Units.{is_plain}
use Rattle.charsets.specs.Utf8.{is_lead, continues}
use Rattle.draw_check.specs.declared.place.DrawPlace.{DrawPlace}
use Rattle.draw_check.specs.declared.place.DrawPlace.TheVariants.{Between, Escape, Coding, Control, Values}
use Rattle.draw_check.specs.declared.place.DrawPlace.TheVariants.{Mode, Cursor, Switch, Off, Lead, Third, Last}
use Rattle.draw_check.specs.Functions.{is_empty, is_second, is_value, is_last, is_short, is_function, IsFunction}
use Rattle.draw_check.specs.Functions.{ends_last, ends_third, ends_lead, ends_switch, ends_off, ends_cursor, ends_mode}
use Rattle.draw_check.specs.Functions.{ends_values, ends_control, ends_coding, ends_escape, AreDraws, BeginDraws}
use Rattle.draw_check.specs.Places.{between_if, place_if, next, next_in, after, place_after}
use Rattle.draw_check.proofs.Joining.{none_draw, one_draws, draws_append}

-- the bytes end a function after this place
abbrev ends : DrawPlace → List ℕ → Bool
ends Between bytes = is_function bytes
ends Escape bytes = ends_escape bytes
ends Coding bytes = ends_coding bytes
ends Control bytes = ends_control bytes
ends (Values n) bytes = ends_values n bytes
ends Mode bytes = ends_mode bytes
ends Cursor bytes = ends_cursor bytes
ends Switch bytes = ends_switch bytes
ends Off bytes = ends_off bytes
ends (Lead a) bytes = ends_lead a bytes
ends Third bytes = ends_third bytes
ends Last bytes = ends_last bytes

-- the bytes end what has begun: nothing between functions
abbrev left : DrawPlace → List ℕ → Bool
left Between bytes = is_empty bytes
left Escape bytes = ends_escape bytes
left Coding bytes = ends_coding bytes
left Control bytes = ends_control bytes
left (Values n) bytes = ends_values n bytes
left Mode bytes = ends_mode bytes
left Cursor bytes = ends_cursor bytes
left Switch bytes = ends_switch bytes
left Off bytes = ends_off bytes
left (Lead a) bytes = ends_lead a bytes
left Third bytes = ends_third bytes
left Last bytes = ends_last bytes

abbrev left_in : Option DrawPlace → List ℕ → Bool
left_in None bytes = false
left_in (Some place) bytes = left place bytes

between : (is : Bool) (bytes : List ℕ) → (is && is_empty bytes) ≡ left_in (between_if is) bytes
between true bytes = refl
between false bytes = refl

placed : (is : Bool) (place : DrawPlace) (bytes : List ℕ) → (is && left place bytes) ≡ left_in (place_if is place) bytes
placed true place bytes = refl
placed false place bytes = refl

value : (is few last : Bool) (n : ℕ) (bytes : List ℕ)
    → (if is then few && ends_values n bytes else last && is_empty bytes)
    ≡ left_in (if is then place_if few (Values n) else between_if last) bytes
value true few last n bytes = placed few (Values n) bytes
value false few last n bytes = between last bytes

begun : (one escape lead : Bool) (b : ℕ) (bytes : List ℕ)
    → (if one then is_empty bytes else (if escape then ends_escape bytes else lead && ends_lead b bytes))
    ≡ left_in (if one then Some Between else (if escape then Some Escape else place_if lead (Lead b))) bytes
begun true escape lead b bytes = refl
begun false true lead b bytes = refl
begun false false lead b bytes = placed lead (Lead b) bytes

escaped : (control coding short : Bool) (bytes : List ℕ)
    → (if control then ends_control bytes else (if coding then ends_coding bytes else short && is_empty bytes))
    ≡ left_in (if control then Some Control else (if coding then Some Coding else between_if short)) bytes
escaped true coding short bytes = refl
escaped false true short bytes = refl
escaped false false short bytes = between short bytes

marked : (one two seven : Bool) (bytes : List ℕ)
    → (if one then ends_switch bytes else (if two then ends_cursor bytes else seven && ends_off bytes))
    ≡ left_in (if one then Some Switch else (if two then Some Cursor else place_if seven Off)) bytes
marked true two seven bytes = refl
marked false true seven bytes = refl
marked false false seven bytes = placed seven Off bytes

controlled : (mode is few last : Bool) (n : ℕ) (bytes : List ℕ)
    → (if mode then ends_mode bytes else (if is then few && ends_values n bytes else last && is_empty bytes))
    ≡ left_in (if mode then Some Mode else (if is then place_if few (Values n) else between_if last)) bytes
controlled true is few last n bytes = refl
controlled false is few last n bytes = value is few last n bytes

second : (is two three : Bool) (bytes : List ℕ)
    → (is && (if two then is_empty bytes else (if three then ends_last bytes else ends_third bytes)))
    ≡ left_in (place_if is (if two then Between else (if three then Last else Third))) bytes
second false two three bytes = refl
second true true three bytes = refl
second true false true bytes = refl
second true false false bytes = refl

-- one more byte
step : (place : DrawPlace) (b : ℕ) (bytes : List ℕ) → ends place (b ∷ bytes) ≡ left_in (next place b) bytes
step Between b bytes = begun (is_plain b || b == 0x18) (b == 0x1B) (is_lead b) b bytes
step Escape b bytes = escaped (b == code "[") (b == code "%") (is_short b) bytes
step Coding b bytes = between (b == code "G") bytes
step Control b bytes = controlled (b == code "?") (is_value b) (nat_lt 0 79) (is_last b) (0 + 1) bytes
step (Values n) b bytes = value (is_value b) (nat_lt n 79) (is_last b) (n + 1) bytes
step Mode b bytes = marked (b == code "1") (b == code "2") (b == code "7") bytes
step Cursor b bytes = placed (b == code "5") Switch bytes
step Switch b bytes = between (b == code "h" || b == code "l") bytes
step Off b bytes = between (b == code "l") bytes
step (Lead a) b bytes = second (is_second a b) (nat_lt a 0xE0) (nat_lt a 0xF0) bytes
step Third b bytes = placed (continues b) Last bytes
step Last b bytes = between (continues b) bytes

none_ends : (place : DrawPlace) → ends place [] ≡ false
none_ends Between = refl
none_ends Escape = refl
none_ends Coding = refl
none_ends Control = refl
none_ends (Values n) = refl
none_ends Mode = refl
none_ends Cursor = refl
none_ends Switch = refl
none_ends Off = refl
none_ends (Lead a) = refl
none_ends Third = refl
none_ends Last = refl

-- ---- what is a list of functions is read

empty : (bytes : List ℕ) → is_empty bytes ≡ true → bytes ≡ []
empty [] h = refl
empty (b ∷ bytes) h = absurd (cc)

to_between : (place : DrawPlace) (bytes : List ℕ) → (ends place bytes ≡ true → after (Some place) bytes ≡ Some Between)
    → left place bytes ≡ true → after (Some place) bytes ≡ Some Between
to_between Between bytes go h = ap (after (Some Between)) (empty bytes h)
to_between Escape bytes go h = go h
to_between Coding bytes go h = go h
to_between Control bytes go h = go h
to_between (Values n) bytes go h = go h
to_between Mode bytes go h = go h
to_between Cursor bytes go h = go h
to_between Switch bytes go h = go h
to_between Off bytes go h = go h
to_between (Lead a) bytes go h = go h
to_between Third bytes go h = go h
to_between Last bytes go h = go h

ended : (bytes : List ℕ) (place : DrawPlace) → ends place bytes ≡ true → after (Some place) bytes ≡ Some Between
ended [] place h = absurd (let none = none_ends place in cc)
ended (b ∷ bytes) place h = go (next place b) (sym (step place b bytes) ∙ h) (ended bytes)
  where
    go : (q : Option DrawPlace) → left_in q bytes ≡ true
        → ((p : DrawPlace) → ends p bytes ≡ true → after (Some p) bytes ≡ Some Between) → after q bytes ≡ Some Between
    go None k later = absurd (cc)
    go (Some q) k later = to_between q bytes (later q) k

after_append : (front later : List ℕ) (place : Option DrawPlace)
    → after place (front ++ later) ≡ after (after place front) later
after_append [] later place = refl
after_append (b ∷ front) later place = after_append front later (next_in place b)

after_none : (bytes : List ℕ) → after None bytes ≡ None
after_none [] = refl
after_none (b ∷ bytes) = after_none bytes

pub after_one : (bytes : List ℕ) (b : ℕ) (place : Option DrawPlace)
    → after place (bytes ++ b ∷ []) ≡ next_in (after place bytes) b
after_one bytes b place = after_append bytes (b ∷ []) place

pub one_more : (came bytes : List ℕ) → after (place_after came) bytes ≡ place_after (came ++ bytes)
one_more came bytes = sym (after_append came bytes (Some Between))

functions_read : (functions : List (List ℕ)) → AllByRecursion IsFunction functions
    → place_after (concat functions) ≡ Some Between
functions_read [] used = refl
functions_read (f ∷ functions) used =
    after_append f (concat functions) (Some Between)
    ∙ ap (λ place. after place (concat functions)) (ended f Between used.0)
    ∙ functions_read functions used.1

pub beginning_is_read : (bytes : List ℕ) → BeginDraws bytes → place_after bytes ≡ None → ⊥
beginning_is_read bytes begins none =
    let read : place_after (bytes ++ begins.more) ≡ Some Between = ap place_after begins.draws.whole
    ∙ functions_read begins.draws.functions begins.draws.used in
    let lost : place_after (bytes ++ begins.more) ≡ None = after_append bytes begins.more (Some Between)
    ∙ ap (λ place. after place begins.more) none ∙ after_none begins.more in
    cc

-- ---- what is read begins a list of functions

-- whatever ends what has begun makes the bytes a list of functions
abbrev Opened : DrawPlace → List ℕ → Type 0
Opened place bytes = (more : List ℕ) → left place more ≡ true → AreDraws (bytes ++ more)

-- a function may begin, or goes on
goes_on : (place : DrawPlace) (bytes : List ℕ) → Opened place bytes → (more : List ℕ) → ends place more ≡ true
    → AreDraws (bytes ++ more)
goes_on Between bytes opened more h =
    draws_append bytes more (subst AreDraws (append-nil bytes) (opened [] refl)) (one_draws more h)
goes_on Escape bytes opened more h = opened more h
goes_on Coding bytes opened more h = opened more h
goes_on Control bytes opened more h = opened more h
goes_on (Values n) bytes opened more h = opened more h
goes_on Mode bytes opened more h = opened more h
goes_on Cursor bytes opened more h = opened more h
goes_on Switch bytes opened more h = opened more h
goes_on Off bytes opened more h = opened more h
goes_on (Lead a) bytes opened more h = opened more h
goes_on Third bytes opened more h = opened more h
goes_on Last bytes opened more h = opened more h

opened_next : (place q : DrawPlace) (b : ℕ) (came : List ℕ) → Opened place came → next place b ≡ Some q
    → Opened q (came ++ b ∷ [])
opened_next place q b came opened is more h =
    subst AreDraws (sym (append_assoc came (b ∷ []) more))
    (goes_on place came opened (b ∷ more) (step place b more ∙ ap (λ p. left_in p more) is ∙ h))

opened_after : (bytes came : List ℕ) (place q : DrawPlace) → Opened place came → after (Some place) bytes ≡ Some q
    → Opened q (came ++ bytes)
opened_after [] came place q opened is =
    let same : place ≡ q = cc in
    subst (λ p. Opened p (came ++ [])) same (subst (Opened place) (sym (append-nil came)) opened)
opened_after (b ∷ bytes) came place q opened is =
    go (next place b) refl is (λ p o e. opened_after bytes (came ++ b ∷ []) p q o e)
  where
    go : (p : Option DrawPlace) → next place b ≡ p → after p bytes ≡ Some q
        → ((p : DrawPlace) → Opened p (came ++ b ∷ []) → after (Some p) bytes ≡ Some q
        → Opened q ((came ++ b ∷ []) ++ bytes))
        → Opened q (came ++ b ∷ bytes)
    go None k e later = absurd (let none = after_none bytes in cc)
    go (Some p) k e later = subst (Opened q) (append_assoc came (b ∷ []) bytes)
        (later p (opened_next place p b came opened k) e)

tail : (two three : Bool) → (bytes : List ℕ)
    × ((if two then is_empty bytes else (if three then ends_last bytes else ends_third bytes)) ≡ true)
tail true three = ([], refl)
tail false true = (0x80 ∷ [], refl)
tail false false = (0x80 ∷ 0x80 ∷ [], refl)

some_second : (a : ℕ) → (b : ℕ) × (is_second a b ≡ true)
some_second a = go (a == 0xC2) (a == 0xE0) (a == 0xED) (a == 0xF0) (a == 0xF4) refl refl refl refl refl
  where
    go : (p q r s t : Bool) → a == 0xC2 ≡ p → a == 0xE0 ≡ q → a == 0xED ≡ r → a == 0xF0 ≡ s → a == 0xF4 ≡ t
        → (b : ℕ) × (is_second a b ≡ true)
    go true q r s t e f g h i = (0xA0, rw e refl)
    go false true r s t e f g h i = (0xA0, rw (e, f) refl)
    go false false true s t e f g h i = (0x80, rw (e, f, g) refl)
    go false false false true t e f g h i = (0xA0, rw (e, f, g, h) refl)
    go false false false false true e f g h i = (0x80, rw (e, f, g, h, i) refl)
    go false false false false false e f g h i = (0x80, rw (e, f, g, h, i) refl)

-- each place can be left
closes : (place : DrawPlace) → (more : List ℕ) × (left place more ≡ true)
closes Between = ([], refl)
closes Escape = (code "E" ∷ [], refl)
closes Coding = (code "G" ∷ [], refl)
closes Control = (code "m" ∷ [], refl)
closes (Values n) = (code "m" ∷ [], refl)
closes Mode = (code "1" ∷ code "h" ∷ [], refl)
closes Cursor = (code "5" ∷ code "h" ∷ [], refl)
closes Switch = (code "h" ∷ [], refl)
closes Off = (code "l" ∷ [], refl)
closes (Lead a) =
    let s = some_second a in
    let t = tail (nat_lt a 0xE0) (nat_lt a 0xF0) in
    let rest : Bool = if nat_lt a 0xE0 then is_empty t.0
    else (if nat_lt a 0xF0 then ends_last t.0 else ends_third t.0) in
    (s.0 ∷ t.0, ap (λ is. is && rest) s.1 ∙ t.1)
closes Third = (0x80 ∷ 0x80 ∷ [], refl)
closes Last = (0x80 ∷ [], refl)

opened_first : Opened Between []
opened_first more h = subst AreDraws (sym (empty more h)) none_draw

pub read_is_beginning : (bytes : List ℕ) (place : DrawPlace) → place_after bytes ≡ Some place → BeginDraws bytes
read_is_beginning bytes place is =
    let last = closes place in
    record { more = last.0; draws = opened_after bytes [] Between place opened_first is last.0 last.1 }

pub decides : (place : Option DrawPlace) (bytes : List ℕ) → place ≡ place_after bytes
    → IsTrue (is_some place) ↔ BeginDraws bytes
decides None bytes is = (λ h. absurd (cc), λ begins. absurd (beginning_is_read bytes begins (sym is)))
decides (Some place) bytes is = (λ h. read_is_beginning bytes place (sym is), λ begins. refl)
