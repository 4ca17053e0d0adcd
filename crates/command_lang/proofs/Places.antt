-- The first fault of a line has the least place.
use Rattle.command_lang.proofs.Vocabulary.{◌≡◌, ℕ, ◌+◌, ◌-◌, ◌≤◌, Bool, true, false, cond, List, [], ◌∷◌, ◌++◌, length}
use Rattle.command_lang.proofs.Vocabulary.{sym, ap, ◌∙◌, subst, arith, Option, Some, None, option_to_list, unwrap_or}
use Rattle.command_lang.proofs.Vocabulary.{true≢false, nat_lt, is_some, chars, encodes-chars, IsUtf8-from_is_utf8}
use Rattle.command_lang.proofs.Vocabulary.{CommandName, Word, Words, FaultKind, ParseFault, command_named, Line, IsCut}
use Rattle.command_lang.proofs.Vocabulary.{size, one_cut, takes, least, kind_at, at, at_place, judged, words_faults}
use Rattle.command_lang.proofs.Vocabulary.{first_of, HasWords, Refuses, NoneBefore, named_faults, line_faults}
use Rattle.std.specs.List.{AllByRecursion}
use Rattle.command_lang.specs.declared.fault.FaultKind.TheVariants as faults
use Rattle.strings.proofs.Suffixes.{smaller, word-behind}
use Rattle.strings.proofs.Cutting.{size-cons}

-- words at rising places, all of them from the first place to the end
abbrev Rising : ℕ → ℕ → List Word → Type 0
Rising place end [] = place ≤ end
Rising place end (w ∷ ws) = (place ≤ w.place) × Rising w.place end ws

lower : (p q end : ℕ) (ws : List Word) → p ≤ q → Rising q end ws → Rising p end ws
lower p q end [] h r = omega (arith, h, r)
lower p q end (w ∷ ws) h r = (omega (arith, h, r.0), r.1)

rising : (end : ℕ) {cs : List ℕ} {ws : List Word} → Line end cs ws → size cs ≤ end → Rising (end - size cs) end ws
rising end Line.last h = omega arith
rising end (Line.blank {cs = cs} {ws = ws} d) h =
    let l = size-cons 0x20 cs in
    lower (end - size (0x20 ∷ cs)) (end - size cs) end ws (omega (arith, l)) (rising end d (omega (arith, l, h)))
rising end (Line.word {c = c} {cs = cs} {text = text} {rest = rest} {ws = ws} n f d) h =
    let l = smaller 1 (c ∷ cs) rest (word-behind c cs text (Some rest) n f) in (
      omega arith,
      lower (end - size (c ∷ cs)) (end - size rest) end ws (omega (arith, l))
          (rising end d (omega (arith, l, h))),
    )
rising end (Line.broken n f) h = (omega arith, omega arith)

rising-cut : (cs : List ℕ) (ws : List Word) (end : ℕ) → IsCut cs ws → size cs ≡ end → Rising 0 end ws
rising-cut cs ws end d e = subst (λ n. Rising 0 n ws) e
    (lower 0 (size cs - size cs) (size cs) ws (omega arith) (rising (size cs) d (omega arith)))

-- faults at rising places
abbrev Sorted : ℕ → List ParseFault → Type 0
Sorted p [] = Unit {0}
Sorted p (f ∷ fs) = (p ≤ f.place) × Sorted f.place fs

later : (p q : ℕ) (fs : List ParseFault) → p ≤ q → Sorted q fs → Sorted p fs
later p q [] h s = tt
later p q (f ∷ fs) h s = (omega (arith, h, s.0), s.1)

joined : (p q : ℕ) (o : Option FaultKind) (fs : List ParseFault) → p ≤ q → Sorted q fs
    → Sorted p (option_to_list (at_place q o) ++ fs)
joined p q None fs h s = later p q fs h s
joined p q (Some k) fs h s = (h, s)

sorted-words : (r : Words) (i p end : ℕ) (ws : List Word) → Rising p end ws → Sorted p (words_faults r i end ws)
unfolding words_faults
sorted-words r i p end [] h = by (nat_lt i (least r))
  where
    by : (b : Bool) → Sorted p (cond b (at end faults.MissingWord ∷ []) [])
    by true = (h, tt)
    by false = tt
sorted-words r i p end (w ∷ ws) h =
    joined p w.place (cond w.is_closed (judged (kind_at r i) w.text) (Some faults.BadQuote))
    (words_faults r (i + 1) end ws) h.0 (sorted-words r (i + 1) w.place end ws h.1)

sorted-line : (end : ℕ) (ws : List Word) → Rising 0 end ws → Sorted 0 (line_faults end ws)
sorted-line end [] h = (h, tt)
sorted-line end (w ∷ ws) h = by w.is_closed (command_named w.text)
  where
    by : (b : Bool) (o : Option CommandName)
        → Sorted 0 (cond b (named_faults o w.place end ws) (at w.place faults.BadQuote ∷ []))
    by true None = (h.0, tt)
    by true (Some n) = later 0 w.place (words_faults (takes n) 0 end ws) h.0
        (sorted-words (takes n) 0 w.place end ws h.1)
    by false o = (h.0, tt)

sorted-faults : (line : List ℕ) (ws : List Word) → HasWords line ws → Sorted 0 (line_faults (length line) ws)
sorted-faults line ws h =
    sorted-line (length line) ws
    (rising-cut (chars line) ws (length line) h.cut
    (ap length (encodes-chars line (IsUtf8-from_is_utf8 line h.text))))

-- no fault is at a place before the first one
abbrev AllFrom : ℕ → List ParseFault → Type 0
AllFrom place fs = AllByRecursion (λ g. place ≤ g.place) fs

same-place : (f g : ParseFault) → Some g ≡ Some f → g.place ≡ f.place
same-place f g h = ap (λ o. (unwrap_or o g).place) h

none-before : (p : ℕ) (fs : List ParseFault) → Sorted p fs → AllFrom p fs
none-before p [] s = tt
none-before p (f ∷ fs) s = (s.0, none-before p fs (later p f.place fs s.0 s.1))

first-least : (p : ℕ) (fs : List ParseFault) (f : ParseFault) → Sorted p fs → first_of fs ≡ Some f → AllFrom f.place fs
first-least p [] f s h = absurd (true≢false (sym (ap is_some h)))
first-least p (g ∷ fs) f s h = let e = same-place f g h in none-before f.place (g ∷ fs) (omega (arith, e), s.1)

pub least_place : (line : List ℕ) (f : ParseFault) → Refuses line f → NoneBefore line f
least_place line f (Refuses.long l) ws h = absurd (let s = h.short in omega (arith, l, s))
least_place line f (Refuses.no_text l e) ws h = absurd (true≢false (sym h.text ∙ e))
least_place line f (Refuses.fault {ws = vs} k e) ws h =
    let same = one_cut (chars line) vs ws k.cut h.cut in
    first-least 0 (line_faults (length line) ws) f (sorted-faults line ws h)
    (ap (λ l. first_of (line_faults (length line) l)) (sym same) ∙ e)
