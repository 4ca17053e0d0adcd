-- What a client that has keys of its own sends, key after key.
use Rattle.std.proofs.Common.{◌≡◌, ◌≢◌, ◌==◌, inl, inr, ℕ, ◌<◌, Bool, true, false, List, [], ◌∷◌, ◌++◌}
use Rattle.std.proofs.Common.{if◌then◌else◌, true≢false, refl, sym, ap, ◌∙◌, subst, append-nil, append_assoc, arith}
use Rattle.std.specs.Prelude.{codes}
use Rattle.std.proofs.lemmas.Bool.{eqb-true}
use Rattle.std.proofs.lemmas.Bool.Decides.{nat_tests}
use Rattle.keys.specs.Grammar.{Item, Rest, nothing, command_key, prompt, rest_step, items_from, items, control_a}
use Rattle.client_typing.specs.Assisting.{IsSent, Assisted, waiting, without_waiting, HasSent}
use Rattle.client_typing.specs.Assisting.{Makes, MakesFirst, Standing, beginning, end_of, passed, to_end}
use Rattle.client_typing.specs.Own.{question, turned, view_command, view_keys, IsOwn}
use Rattle.client_typing.specs.Fitting.{given_keys, fit_keys, IsLine, awaits_key}
use Rattle.client_typing.proofs.Fitting.{rest-after, given-alone, fit-line, view-line}
use Rattle.client_typing.proofs.Typed.{after-second, within}

-- nothing was typed yet
pub has-sent-none : HasSent nothing 0 [] []
unfolding items_from
has-sent-none = record {
  taken = [];
  whole = refl;
  assisted = Assisted.none;
  reads = refl;
  last = λ e. refl;
  few = omega arith;
}

-- ---- a key

-- nothing waits unless the command key was typed last
none-waits : (r : Rest) → awaits_key r ≡ false → (waiting r ≡ []) × (without_waiting r ≡ r)
none-waits nothing e = (refl, refl)
none-waits command_key e = absurd (true≢false e)
none-waits (prompt bytes) e = (refl, refl)

is-sent : (r : Rest) (back k : ℕ) → awaits_key r ≡ false → (r ≡ nothing → back ≡ 0) → IsSent r back k
is-sent nothing back k e h = h refl
is-sent command_key back k e h = absurd (true≢false e)
is-sent (prompt bytes) back k e h = tt

-- a key that is sent at once
pub sent-alone : (r : Rest) (k back : ℕ) (typed sent : List ℕ) → awaits_key r ≡ false
    → awaits_key (rest_step r k).1 ≡ false → (r ≡ nothing → back ≡ 0) → HasSent r back typed sent
    → HasSent (rest_step r k).1 back (typed ++ k ∷ []) (sent ++ k ∷ [])
sent-alone r k back typed sent was is rests h =
    let here : (items sent).1 ≡ r = h.reads ∙ (none-waits r was).1 in
    let all : typed ≡ h.taken =
    h.whole ∙ ap (λ (l : List ℕ). h.taken ++ l) (none-waits r was).0 ∙ append-nil h.taken in
    record {
      taken = typed ++ k ∷ [];
      whole =
          sym (append-nil (typed ++ k ∷ []))
          ∙ ap (λ (l : List ℕ). (typed ++ k ∷ []) ++ l) (sym (none-waits (rest_step r k).1 is).0);
      assisted =
          Assisted.key k (subst (λ s. IsSent s back k) (sym here) (is-sent r back k was rests))
          (subst (λ l. Assisted l sent back) (sym all) h.assisted);
      reads = rest-after r sent k here ∙ sym (none-waits (rest_step r k).1 is).1;
      last = λ e. absurd (true≢false (sym (ap awaits_key e) ∙ is));
      few = h.few;
    }

abbrev step_if : Bool → ℕ → List Item × Rest
step_if v k = if v then ([], command_key) else (Item.typed k ∷ [], nothing)

-- the command key, which isn't sent yet
pub sent-later : (r : Rest) (k back : ℕ) (typed sent : List ℕ) → awaits_key r ≡ false
    → awaits_key (rest_step r k).1 ≡ true → (r ≡ nothing → back ≡ 0) → HasSent r back typed sent
    → HasSent (rest_step r k).1 back (typed ++ k ∷ []) (sent ++ [])
sent-later nothing k back typed sent was is rests h = go (k == control_a) refl is
  where
    go : (v : Bool) → (k == control_a) ≡ v → awaits_key (step_if v k).1 ≡ true
        → HasSent (step_if v k).1 back (typed ++ k ∷ []) (sent ++ [])
    go true e waits = record {
      taken = h.taken;
      whole =
          ap (λ (l : List ℕ). l ++ k ∷ []) (h.whole ∙ append-nil h.taken)
          ∙ ap (λ n. h.taken ++ n ∷ []) (eqb-true k control_a e);
      assisted = rw append-nil h.assisted;
      reads = rw append-nil h.reads;
      last = λ e. rests refl;
      few = h.few;
    }
    go false e waits = absurd (true≢false (sym waits))
sent-later command_key k back typed sent was is rests h = absurd (true≢false was)
sent-later (prompt bytes) k back typed sent was is rests h = absurd (true≢false (sym is ∙ within bytes k))

-- the key after the command key, with it
pub sent-second : (k back : ℕ) (typed sent : List ℕ) → k ≢ question → HasSent command_key back typed sent
    → HasSent (rest_step command_key k).1 back (typed ++ k ∷ []) (sent ++ control_a ∷ k ∷ [])
sent-second k back typed sent other h =
    let first : Assisted (h.taken ++ control_a ∷ []) (sent ++ control_a ∷ []) back =
    Assisted.key control_a (subst (λ s. IsSent s back control_a) (sym h.reads) (h.last refl)) h.assisted in
    let begun : (items (sent ++ control_a ∷ [])).1 ≡ command_key = rest-after nothing sent control_a h.reads in
    let second : Assisted ((h.taken ++ control_a ∷ []) ++ k ∷ []) ((sent ++ control_a ∷ []) ++ k ∷ []) back =
    Assisted.key k (subst (λ s. IsSent s back k) (sym begun) other) first in
    let both : (sent ++ control_a ∷ []) ++ k ∷ [] ≡ sent ++ control_a ∷ k ∷ [] =
    append_assoc sent (control_a ∷ []) (k ∷ []) in
    let is : awaits_key (rest_step command_key k).1 ≡ false = after-second k in
    record {
      taken = typed ++ k ∷ [];
      whole =
          sym (append-nil (typed ++ k ∷ []))
          ∙ ap (λ (l : List ℕ). (typed ++ k ∷ []) ++ l) (sym (none-waits (rest_step command_key k).1 is).0);
      assisted =
          subst (λ l. Assisted (l ++ k ∷ []) (sent ++ control_a ∷ k ∷ []) back) (sym h.whole)
          (subst (λ l. Assisted ((h.taken ++ control_a ∷ []) ++ k ∷ []) l back) both second);
      reads =
          ap (λ l. (items l).1) (sym both) ∙ rest-after command_key (sent ++ control_a ∷ []) k begun
          ∙ sym (none-waits (rest_step command_key k).1 is).1;
      last = λ e. absurd (true≢false (sym (ap awaits_key e) ∙ is));
      few = h.few;
    }

-- the pair that asks for the help isn't sent
pub sent-help : (back : ℕ) (typed sent : List ℕ) → HasSent command_key back typed sent
    → HasSent nothing back (typed ++ question ∷ []) (sent ++ [])
sent-help back typed sent h =
    let end : back ≡ 0 = h.last refl in
    let pair : Assisted (h.taken ++ control_a ∷ question ∷ []) (sent ++ []) 0 =
    Assisted.own h.reads IsOwn.helps (subst (Assisted h.taken sent) end h.assisted) in
    record {
      taken = typed ++ question ∷ [];
      whole = sym (append-nil (typed ++ question ∷ []));
      assisted =
          subst (λ l. Assisted l (sent ++ []) back)
          (sym (ap (λ (l : List ℕ). l ++ question ∷ []) h.whole
          ∙ append_assoc h.taken (control_a ∷ []) (question ∷ [])))
          (subst (Assisted (h.taken ++ control_a ∷ question ∷ []) (sent ++ [])) (sym end) pair);
      reads = rw append-nil h.reads;
      last = λ e. absurd (true≢false (sym (ap awaits_key e)));
      few = h.few;
    }

-- ---- a command of the client's own

pub sent-own : (back after : ℕ) (command taken typed sent : List ℕ) → IsLine command
    → IsOwn back taken (given_keys command) after → after < 65536 → HasSent nothing back typed sent
    → HasSent nothing after (typed ++ taken) (sent ++ given_keys command)
sent-own back after command taken typed sent is own few h =
    let all : typed ≡ h.taken = h.whole ∙ append-nil h.taken in
    record {
      taken = typed ++ taken;
      whole = sym (append-nil (typed ++ taken));
      assisted = Assisted.own h.reads own (subst (λ l. Assisted l sent back) (sym all) h.assisted);
      reads = given-alone command sent is h.reads;
      last = λ e. absurd (true≢false (sym (ap awaits_key e)));
      few = few;
    }

pub sent-fit : (back : ℕ) (typed sent : List ℕ) → HasSent nothing back typed sent
    → HasSent nothing back typed (sent ++ fit_keys)
sent-fit back typed sent h =
    subst (λ (l : List ℕ). HasSent nothing back l (sent ++ fit_keys)) (append-nil typed)
    (sent-own back back (codes "fit") [] typed sent fit-line IsOwn.fits h.few h)

-- the view comes to its end, if the session waits for no key
sent-end : (r : Rest) (back : ℕ) (typed sent : List ℕ) → HasSent r back typed sent
    → HasSent r (end_of r back) typed (sent ++ to_end r back)
sent-end nothing back typed sent h = go (back == 0) refl
  where
    go : (b : Bool) → (back == 0) ≡ b → HasSent nothing 0 typed (sent ++ (if b then [] else view_keys 0))
    go true e =
        subst (λ (l : List ℕ). HasSent nothing 0 typed l) (sym (append-nil sent))
        (subst (λ n. HasSent nothing n typed sent) (eqb-true back 0 e) h)
    go false e =
        subst (λ (l : List ℕ). HasSent nothing 0 l (sent ++ view_keys 0)) (append-nil typed)
        (sent-own back 0 (view_command 0) [] typed sent (view-line 0 (omega arith)) (IsOwn.returns (grind (arith, nat_tests)))
        (omega arith) h)
sent-end command_key back typed sent h =
    subst (λ (l : List ℕ). HasSent command_key back typed l) (sym (append-nil sent)) h
sent-end (prompt bytes) back typed sent h =
    subst (λ (l : List ℕ). HasSent (prompt bytes) back typed l) (sym (append-nil sent)) h

ends : (r : Rest) (back : ℕ) → r ≡ nothing → end_of r back ≡ 0
ends nothing back is = refl
ends command_key back is = absurd (true≢false (ap awaits_key is))
ends (prompt bytes) back is = cc

-- ---- a key of the keyboard

sent-key : (r : Rest) (k back : ℕ) (typed sent : List ℕ) → (r ≡ nothing → back ≡ 0) → HasSent r back typed sent
    → HasSent (rest_step r k).1 back (typed ++ k ∷ []) (sent ++ passed r k)
sent-key nothing k back typed sent end h = go (k == control_a) refl
  where
    go : (b : Bool) → (k == control_a) ≡ b
        → HasSent (rest_step nothing k).1 back (typed ++ k ∷ []) (sent ++ (if b then [] else k ∷ []))
    go true e = sent-later nothing k back typed sent refl (ap (λ b. awaits_key (step_if b k).1) e) end h
    go false e = sent-alone nothing k back typed sent refl (ap (λ b. awaits_key (step_if b k).1) e) end h
sent-key command_key k back typed sent end h = go (k == question) refl
  where
    go : (b : Bool) → (k == question) ≡ b
        → HasSent (rest_step command_key k).1 back (typed ++ k ∷ []) (sent ++ (if b then [] else control_a ∷ k ∷ []))
    go true e = rw (eqb-true k question e) (sent-help back typed sent h)
    go false e = sent-second k back typed sent (grind (arith, nat_tests)) h
sent-key (prompt bytes) k back typed sent end h =
    sent-alone (prompt bytes) k back typed sent refl (within bytes k) end h

turned-few : (is_up : Bool) (lines back : ℕ) → back < 65536 → turned is_up lines back < 65536
turned-few true lines back few = omega arith
turned-few false lines back few = omega arith

-- ---- all keys of a read

module _ (lines : ℕ) (old new : Standing) (keys sent later typed had : List ℕ) (h : HasSent old.rest old.back typed had) where
  abbrev Goes : Type 0
  Goes = (taken : List ℕ) × (keys ≡ taken ++ later) × HasSent new.rest new.back (typed ++ taken) (had ++ sent)

  sent-first : MakesFirst lines old keys sent later new → Goes
  sent-first (inl t) =
      let back : ℕ = turned t.is_up lines old.back in
      let given : HasSent nothing back (typed ++ t.taken) (had ++ view_keys back) =
      sent-own old.back back (view_command back) t.taken typed had (view-line back (turned-few t.is_up lines old.back h.few))
      (IsOwn.turns lines t.is) (turned-few t.is_up lines old.back h.few)
      (subst (λ r. HasSent r old.back typed had) t.rests h) in (
        t.taken,
        t.whole,
        subst (λ (s : Standing). HasSent s.rest s.back (typed ++ t.taken) (had ++ sent)) (sym t.after)
            (subst (λ (l : List ℕ). HasSent nothing back (typed ++ t.taken) (had ++ l)) (sym t.sends) given),
      )
  sent-first (inr p) =
      let r : Rest = old.rest in
      let end : List ℕ = to_end r old.back in
      let given : HasSent (rest_step r p.first).1 (end_of r old.back) (typed ++ p.first ∷ []) ((had ++ end) ++ passed r p.first) =
      sent-key r p.first (end_of r old.back) typed (had ++ end) (ends r old.back) (sent-end r old.back typed had h) in
      let all : (had ++ end) ++ passed r p.first ≡ had ++ sent =
      append_assoc had end (passed r p.first) ∙ ap (λ (l : List ℕ). had ++ l) (sym p.sends) in (
        p.first ∷ [],
        p.whole,
        subst (λ (s : Standing). HasSent s.rest s.back (typed ++ p.first ∷ []) (had ++ sent)) (sym p.after)
            (subst (λ (l : List ℕ). HasSent (rest_step r p.first).1 (end_of r old.back) (typed ++ p.first ∷ []) l) all given),
      )

pub sent-all : (lines : ℕ) {old new : Standing} {keys more : List ℕ} → Makes lines old keys more new
    → (typed had : List ℕ) → HasSent old.rest old.back typed had
    → HasSent new.rest new.back (typed ++ keys) (had ++ more)
sent-all lines (Makes.none {s = s}) typed had h = rw (append-nil, append-nil) h
sent-all lines
    (Makes.next {s = s} {middle = middle} {last = last} {keys = keys} {sent = sent} {later = later} {more = more} first m)
    typed had h =
    let a = sent-first lines s middle keys sent later typed had h first in
    let b : HasSent last.rest last.back ((typed ++ a.0) ++ later) ((had ++ sent) ++ more) =
    sent-all lines m (typed ++ a.0) (had ++ sent) a.2 in
    let whole : (typed ++ a.0) ++ later ≡ typed ++ keys =
    append_assoc typed a.0 later ∙ ap (λ (l : List ℕ). typed ++ l) (sym a.1) in
    subst (λ (l : List ℕ). HasSent last.rest last.back l (had ++ (sent ++ more))) whole
    (subst (λ (l : List ℕ). HasSent last.rest last.back ((typed ++ a.0) ++ later) l) (append_assoc had sent more) b)

-- ---- a session that has read no key

abbrev standing : Rest → Standing
standing r = record { rest = r; back = 0; asks = false }

pub begins-at : (r : Rest) → r ≡ nothing → standing r ≡ beginning
begins-at r is = ap standing is
