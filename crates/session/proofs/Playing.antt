-- Lines that are played one after another.
use Rattle.session.proofs.Vocabulary.{ℕ, ◌<◌, ◌≡◌, refl, sym, ◌∙◌, ap, subst, List, [], ◌∷◌, ◌++◌, map, Option, Some}
use Rattle.session.proofs.Vocabulary.{None, append_assoc, flat_map-append, append-nil, map-append, Appends, Keeps}
use Rattle.session.proofs.Vocabulary.{Entry, Trace, with_step, StandsFor, with_steps, AllSteps, KeepsPromise, Session}
use Rattle.session.proofs.Vocabulary.{event_of, filled, Plays, step_lines, printed, Played}
use Rattle.session.proofs.Serving.{with_steps-append, serves_before, serves_on}

-- ---- known bytes

pub keeps_on : (a b c : Option (List ℕ)) (bytes : List ℕ) → Appends a b bytes → Keeps b c → Appends a c bytes
keeps_on None b c bytes before behind = tt
keeps_on (Some olds) None c bytes before behind = absurd before
keeps_on (Some olds) (Some bs) None bytes before behind = absurd behind
keeps_on (Some olds) (Some bs) (Some cs) bytes before behind = behind ∙ before

pub appends_on : (a b c : Option (List ℕ)) (xs ys : List ℕ) → Appends a b xs → Appends b c ys → Appends a c (xs ++ ys)
appends_on None b c xs ys before behind = tt
appends_on (Some olds) None c xs ys before behind = absurd before
appends_on (Some olds) (Some bs) None xs ys before behind = absurd behind
appends_on (Some olds) (Some bs) (Some cs) xs ys before behind = behind
    ∙ (ap (λ zs. zs ++ ys) before ∙ append_assoc olds xs ys)

pub appends_none : (a : Option (List ℕ)) → Appends a a []
appends_none None = tt
appends_none (Some olds) = sym (append-nil olds)

pub keeps_same : (a : Option (List ℕ)) → Keeps a a
keeps_same None = tt
keeps_same (Some olds) = refl

-- ---- steps

steps_on : (P : Trace → Entry → Type 0) (h : Trace) (xs ys : List Entry) → AllSteps P h xs
    → AllSteps P (with_steps h xs) ys → AllSteps P h (xs ++ ys)
steps_on P h [] ys before behind = behind
steps_on P h (x ∷ xs) ys before behind = (before.0, steps_on P (with_step h x) xs ys before.1 behind)

-- ---- lines

filled-append : (xs ys : List (List ℕ)) → filled (xs ++ ys) ≡ filled xs ++ filled ys
filled-append [] ys = refl
filled-append ([] ∷ xs) ys = filled-append xs ys
filled-append ((byte ∷ bytes) ∷ xs) ys = ap (λ ls. (byte ∷ bytes) ∷ ls) (filled-append xs ys)

-- no line
pub none_played : (h : Trace) (s : Session) (known : Option (List ℕ)) → StandsFor h s → Played h [] s known known
none_played h s known st = record {
  steps = [];
  plays = record { events = []; understood = refl; serves = refl; run = tt };
  stands = st;
  prints = appends_none known;
}

-- lines after others
plays_on : (h : Trace) (xs ys : List (List ℕ)) (before behind : List Entry) → Plays h xs before
    → Plays (with_steps h before) ys behind → Plays h (xs ++ ys) (before ++ behind)
plays_on h xs ys before behind p q = record {
  events = p.events ++ q.events;
  understood = ap (λ ls. map event_of ls) (filled-append xs ys) ∙ (map-append event_of (filled xs) (filled ys)
      ∙ (ap (λ es. es ++ map event_of (filled ys)) p.understood
      ∙ (ap (λ es. map Some p.events ++ es) q.understood ∙ sym (map-append (λ e. Some e) p.events q.events))));
  serves = serves_on (p.events ++ q.events) before behind q.events []
      (serves_before p.events before [] q.events p.serves) q.serves;
  run = steps_on KeepsPromise h before behind p.run q.run;
}

pub played_on : (h : Trace) (xs ys : List (List ℕ)) (s t : Session) (a b c : Option (List ℕ)) → (p : Played h xs s a b)
    → Played (with_steps h p.steps) ys t b c → Played h (xs ++ ys) t a c
played_on h xs ys s t a b c p q = record {
  steps = p.steps ++ q.steps;
  plays = plays_on h xs ys p.steps q.steps p.plays q.plays;
  stands = subst (λ after. StandsFor after t) (sym (with_steps-append h p.steps q.steps)) q.stands;
  prints = subst (λ text. Appends a c text) (sym (flat_map-append step_lines p.steps q.steps))
      (appends_on a b c (printed p.steps) (printed q.steps) p.prints q.prints);
}
