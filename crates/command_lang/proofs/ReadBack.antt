-- A printed command reads back.
use Rattle.command_lang.proofs.Vocabulary.{◌≡◌, ℕ, ◌≤◌, Bool, true, false, cond, List, [], ◌∷◌, length, refl, sym, ap}
use Rattle.command_lang.proofs.Vocabulary.{◌∙◌, subst, Option, Some, None, true≢false, is_some, option_and_then, chars}
use Rattle.command_lang.proofs.Vocabulary.{IsUtf8, IsUtf8-from_is_utf8, scalars-chars, CommandName, Command, Word}
use Rattle.command_lang.proofs.Vocabulary.{ParseFault, name_text, command_named, name_of, takes, at, words_faults}
use Rattle.command_lang.proofs.Vocabulary.{first_of, IsCut, command_of, texts_of, line_command, Relates, Refuses}
use Rattle.command_lang.proofs.Vocabulary.{named_faults, line_faults, ReadsBack, words_of, printed}
use Rattle.std.proofs.lemmas.Str.{chars-encodes}
use Rattle.acl.specs.declared.command_name.CommandName.TheVariants as name
use Rattle.command_lang.specs.declared.fault.FaultKind.TheVariants as faults
use Rattle.command_lang.specs.Printing.{printed_chars}
use Rattle.command_lang.proofs.Fits.{Fits, fits, no_faults}
use Rattle.command_lang.proofs.Scalars.{AllText, of-cut}
use Rattle.command_lang.proofs.Sound.{Sound, sound}
use Rattle.command_lang.proofs.Spelled.{line-spells, line-scalars}
use Rattle.command_lang.proofs.Whole.{relates}

some-fault : (f : ParseFault) (fs : List ParseFault) → f ∷ fs ≡ [] → ⊥
some-fault f fs h = true≢false (ap (λ l. is_some (first_of l)) h)

-- its words are a command's name and texts that fit
record Named (ws : List Word) (c : Command) : Type 0 where
  name : CommandName
  texts : List (List ℕ)
  means : command_of name texts ≡ Some c
  fit : Fits (takes name) texts
  spelled : AllText (texts_of ws) → AllText texts

named : (end : ℕ) (ws : List Word) (c : Command) → line_faults end ws ≡ [] → line_command ws ≡ Some c → Named ws c
named end [] c h m = absurd (some-fault (at end faults.MissingWord) [] h)
named end (w ∷ ws) c h m = by w.is_closed (command_named w.text) h m
  where
    by : (b : Bool) (o : Option CommandName)
        → cond b (named_faults o w.place end ws) (at w.place faults.BadQuote ∷ []) ≡ []
        → option_and_then (λ n. command_of n (texts_of ws)) o ≡ Some c → Named (w ∷ ws) c
    by true None k e = absurd (some-fault (at w.place faults.UnknownCommand) [] k)
    by true (Some n) k e = record
        { name = n; texts = texts_of ws; means = e; fit = fits (takes n) end ws (ap first_of k); spelled = λ u. u.1 }
    by false o k e = absurd (some-fault (at w.place faults.BadQuote) [] k)

name-found : (n : CommandName) → command_named (name_text n) ≡ Some n
unfolding command_named
name-found name.Acladd = refl
name-found _ = refl

line-fine : (end : ℕ) (n : CommandName) (w : Word) (ws : List Word) → w.is_closed ≡ true → w.text ≡ name_text n
    → words_faults (takes n) 0 end ws ≡ [] → line_faults end (w ∷ ws) ≡ []
line-fine end n w ws h t f =
    ap (λ b. cond b (named_faults (command_named w.text) w.place end ws) (at w.place faults.BadQuote ∷ [])) h
    ∙ ap (λ o. named_faults o w.place end ws) (ap command_named t ∙ name-found n) ∙ f

line-means : (n : CommandName) (w : Word) (ws : List Word) → w.text ≡ name_text n
    → line_command (w ∷ ws) ≡ command_of n (texts_of ws)
line-means n w ws t = ap (option_and_then (λ m. command_of m (texts_of ws))) (ap command_named t ∙ name-found n)

printed-text : (c : Command) → AllText (words_of c) → IsUtf8 (printed c) × (chars (printed c) ≡ printed_chars c)
unfolding printed
printed-text c u =
    let s = line-scalars (name_of c) (words_of c) u in
    ((printed_chars c, (s, refl)), chars-encodes (printed_chars c) s)

reads : (c : Command) → Sound (name_of c) c → length (printed c) ≤ 1024 → Relates (printed c) c
reads c s h =
    let n = name_of c in
    let p = printed-text c s.text in
    let l = line-spells n (words_of c) s.text in
    let fit : Fits (takes n) (texts_of l.behind) = subst (Fits (takes n)) (sym l.spelled.texts) s.fit in
    let fine = line-fine (length (printed c)) n l.first l.behind l.whole l.name
    (no_faults (takes n) (length (printed c)) l.behind l.spelled.whole fit) in
    let means = line-means n l.first l.behind l.name ∙ ap (command_of n) l.spelled.texts ∙ s.again in
    relates (printed c) (l.first ∷ l.behind) c h p.0 (subst (λ cs. IsCut cs (l.first ∷ l.behind)) (sym p.1) l.cut)
    (fine, means)

pub read_back : (line : List ℕ) (c : Command) → Relates line c → ReadsBack (printed c) c
read_back line c r =
    let m = named (length line) r.words c r.fine r.means in
    let u = m.spelled (of-cut (chars line) r.words r.has.cut (scalars-chars line (IsUtf8-from_is_utf8 line r.has.text)))
    in
    let s = sound m.name m.texts m.fit u c m.means in
    record {
      short = reads c (subst (λ n. Sound n c) (sym s.named) s);
      long = λ h. Refuses.long h;
    }
