-- Lines of a setup, given one after another.
use Rattle.session.proofs.Vocabulary.{ℕ, ◌+◌, ◌<◌, ◌≡◌, refl, sym, ◌∙◌, ap, subst, List, [], ◌∷◌, ◌++◌, map, length}
use Rattle.session.proofs.Vocabulary.{take, drop, get_or, Result, Ok, Err, IfErr, IsErrAnd, is_ok, map-append, UserId}
use Rattle.session.proofs.Vocabulary.{Line, line_of, Effect, text_of, EventValue, Reply, Entry, Trace, with_step}
use Rattle.session.proofs.Vocabulary.{tables_of, with_steps, AllSteps, StandsFor, Takes, entry_of, Session, command_of}
use Rattle.session.proofs.Vocabulary.{AreDone, Behind, Refuses, StopsAt, IfRefused}
use Rattle.std.proofs.lemmas.List.{map_more, drop_more, take-append-drop}
use Rattle.program_words.specs.declared.setup.SetupLine.{SetupLine}
use Rattle.session_model.specs.declared.event.Done.{Done}
use Rattle.session_model.specs.declared.refusal.Refusal.{Refusal}
use Rattle.session_laws.proofs.Promising.{step_keeps}
use Rattle.session_core.specs.Headline.{Keeps}
use Rattle.session_core.specs.Noted.{Noted}
use Rattle.session.specs.declared.setup_file.Unbegun.{Unbegun}
use Rattle.session.specs.declared.setup_file.Unbegun.TheVariants.{Refused, NoMemory}

-- ---- one step

keeps : (h : Trace) (e : Entry) (new : Session) → StandsFor (with_step h e) new → Keeps h e
keeps h e new st = step_keeps (tables_of h) e st.run.1

pub one_done : (h : Trace) (old new : Session) (owner : UserId) (line : Line) (event : EventValue) (noted : Noted)
    (before after : List Effect) (reply : Reply) (done : Done)
    → event ≡ command_of owner line → reply ≡ Ok done → Takes old event noted before after reply new → StandsFor h old
    → Behind (λ now. StandsFor now new) h owner (line ∷ [])
one_done h old new owner line event noted before after reply done is ok takes st =
    let made = takes h st in
    let e : Entry = entry_of event reply noted made.0 in
    (e ∷ [], record { done = (is, ap is_ok ok, tt); run = (keeps h e new made.2, tt) }, made.2)

pub one_refused : (h : Trace) (old new : Session) (owner : UserId) (line : Line) (event : EventValue) (noted : Noted)
    (before after : List Effect) (reply : Reply) (refusal : Refusal) (said : List ℕ)
    → event ≡ command_of owner line → reply ≡ Err refusal → Takes old event noted before after reply new
    → said ≡ text_of refusal → StandsFor h old
    → Refuses h owner line said
one_refused h old new owner line event noted before after reply refusal said is err takes text st =
    let made = takes h st in
    let e : Entry = entry_of event reply noted made.0 in
    record { refusal = refusal; text = text; step = e; event = is; reply = err; keeps = keeps h e new made.2 }

-- the error that is made of a refusal has its text
pub refused_by : (fault : Unbegun) (number : ℕ) (text : List ℕ) (P : List ℕ → Type 0)
    → IfRefused fault (λ line said. (line ≡ number) × (said ≡ text)) → P text
    → IfRefused fault (λ line said. (line ≡ number) × P said)
refused_by (Refused line said) number text P is holds = (is.0, subst P (sym is.1) holds)
refused_by NoMemory number text P is holds = tt

pub stopped_by : (fault : Unbegun) (number : ℕ) (P Q : ℕ → List ℕ → Type 0) → IfRefused fault P
    → ((line : ℕ) (said : List ℕ) → P line said → Q line said) → IfRefused fault Q
stopped_by (Refused line said) number P Q is so = so line said.items is
stopped_by NoMemory number P Q is so = tt

-- ---- steps after others

with_steps-append : (h : Trace) (xs ys : List Entry) → with_steps h (xs ++ ys) ≡ with_steps (with_steps h xs) ys
with_steps-append h [] ys = refl
with_steps-append h (x ∷ xs) ys = with_steps-append (with_step h x) xs ys

keep_on : (h : Trace) (xs ys : List Entry) → AllSteps Keeps h xs → AllSteps Keeps (with_steps h xs) ys
    → AllSteps Keeps h (xs ++ ys)
keep_on h [] ys before behind = behind
keep_on h (x ∷ xs) ys before behind = (before.0, keep_on (with_step h x) xs ys before.1 behind)

done_on : (owner : UserId) (lines more : List Line) (xs ys : List Entry) → AreDone owner lines xs
    → AreDone owner more ys → AreDone owner (lines ++ more) (xs ++ ys)
done_on owner [] more [] ys before behind = behind
done_on owner [] more (x ∷ xs) ys before behind = absurd before
done_on owner (l ∷ lines) more [] ys before behind = absurd before
done_on owner (l ∷ lines) more (x ∷ xs) ys before behind =
    (before.0, before.1, done_on owner lines more xs ys before.2 behind)

pub none_given : (h : Trace) (s : Session) (owner : UserId) → StandsFor h s → Behind (λ now. StandsFor now s) h owner []
none_given h s owner st = ([], record { done = tt; run = tt }, st)

pub given_on : (h : Trace) (mid new : Session) (owner : UserId) (lines more : List Line)
    → Behind (λ now. StandsFor now mid) h owner lines
    → ((now : Trace) → StandsFor now mid → Behind (λ then. StandsFor then new) now owner more)
    → Behind (λ now. StandsFor now new) h owner (lines ++ more)
given_on h mid new owner lines more (xs, before, st) next =
    let rest = next (with_steps h xs) st in (
      xs ++ rest.0,
      record {
        done = done_on owner lines more xs rest.0 before.done rest.1.done;
        run = keep_on h xs rest.0 before.run
            rest.1.run;
      },
      subst (λ t. StandsFor t new) (sym (with_steps-append h xs rest.0)) rest.2,
    )

-- ---- by places

pub next_given : (h : Trace) (mid new : Session) (owner : UserId) (setup : List SetupLine) (i : ℕ) (d : SetupLine)
    → i < length setup
    → Behind (λ now. StandsFor now mid) h owner (map line_of (take i setup))
    → ((now : Trace) → StandsFor now mid
    → Behind (λ then. StandsFor then new) now owner (line_of (get_or setup i d) ∷ []))
    → Behind (λ now. StandsFor now new) h owner (map line_of (take (i + 1) setup))
next_given h mid new owner setup i d lt before next =
    subst (λ ls. Behind (λ now. StandsFor now new) h owner ls) (sym (map_more line_of setup i d lt))
    (given_on h mid new owner (map line_of (take i setup)) (line_of (get_or setup i d) ∷ []) before next)

whole : (setup : List SetupLine) (i : ℕ) (d : SetupLine) → i < length setup
    → map line_of setup ≡ map line_of (take i setup) ++ line_of (get_or setup i d) ∷ map line_of (drop (i + 1) setup)
whole setup i d lt =
    ap (λ ls. map line_of ls) (sym (take-append-drop i setup))
    ∙ (map-append line_of (take i setup) (drop i setup)
    ∙ ap (λ ls. map line_of (take i setup) ++ map line_of ls) (drop_more setup i d lt))

pub stops : (h : Trace) (mid : Session) (owner : UserId) (setup : List SetupLine) (i number : ℕ) (d : SetupLine)
    (said : List ℕ) → i < length setup
    → Behind (λ now. StandsFor now mid) h owner (map line_of (take i setup))
    → number ≡ (get_or setup i d).number
    → ((now : Trace) → StandsFor now mid → Refuses now owner (line_of (get_or setup i d)) said)
    → StopsAt number said h owner (map line_of setup)
stops h mid owner setup i number d said lt (xs, before, st) number_is refuses = record {
  past = map line_of (take i setup);
  line = line_of (get_or setup i d);
  rest = map line_of (drop (i + 1) setup);
  lines_are = whole setup i d lt;
  number_is = number_is;
  refuses = (xs, before, refuses (with_steps h xs) st);
}

-- ---- what calls give

pub if_err : {X : Type 0} (r : Result X Unbegun) (e : Unbegun) (P : Unbegun → Type 0) → IsErrAnd r (λ f. f ≡ e) → P e
    → IfErr r P
if_err (Ok x) e P is h = absurd is
if_err (Err f) e P is h = subst P (sym is) h
