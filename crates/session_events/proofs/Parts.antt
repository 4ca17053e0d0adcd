-- Effects removed one at a time, from the front, leave what the definitions leave.
use Rattle.std.proofs.Common.{◌≡◌, ℕ, ◌+◌, ◌<◌, ◌≤◌, Bool, true, false, List, [], ◌∷◌, ◌++◌, refl, ap, sym, ◌∙◌, length}
use Rattle.std.proofs.Common.{take, drop, get_or, arith, append-nil, append_assoc, length-append}
use Rattle.std.specs.Prelude.{not, if◌then◌else◌}
use Rattle.std.specs.List.{remove, list_any}
use Rattle.std.proofs.lemmas.List.Elements.{filter-append}
use Rattle.session_model.specs.declared.event.Effect.{Effect}
use Rattle.session_model.specs.Answering.{says_same, unsaid}
use Rattle.session_events.specs.Dropping.{is_said}

pub removed : {A : Type 0} (front rest : List A) (e : A)
    → remove (front ++ e ∷ rest) (length front) ≡ front ++ rest
removed [] rest e = refl
removed (x ∷ front) rest e = ap (λ xs. x ∷ xs) (removed front rest e)

pub got : {A : Type 0} (front rest : List A) (e d : A)
    → get_or (front ++ e ∷ rest) (length front) d ≡ e
got [] rest e d = refl
got (x ∷ front) rest e d = got front rest e d

-- what stands between two places
dropped : {A : Type 0} (past rest : List A) → drop (length past) (past ++ rest) ≡ rest
dropped [] rest = refl
dropped (x ∷ past) rest = dropped past rest

pub kept : {A : Type 0} (said more : List A) → take (length said) (said ++ more) ≡ said
kept [] more = refl
kept (x ∷ said) more = ap (λ xs. x ∷ xs) (kept said more)

-- the effects up to a place
pub record Part (past said more now : List Effect) (turn place : ℕ) : Type 0 where
  pub done : List Effect
  pub rest : List Effect
  pub split : more ≡ done ++ rest
  pub turns : turn ≡ length (past ++ said) + length done
  pub items_are : now ≡ past ++ (said ++ (unsaid said done ++ rest))
  pub place_is : place ≡ length (past ++ said) + length (unsaid said done)

abbrev pub DropsSoFar : ℕ → ℕ → List Effect → List Effect → ℕ → ℕ → Type 0
DropsSoFar start end old now turn place =
    (past said more : List Effect) → old ≡ past ++ (said ++ more)
    → length past ≡ start → length (past ++ said) ≡ end
    → Part past said more now turn place

pub begun : (past said more old : List Effect) (end : ℕ) → old ≡ past ++ (said ++ more)
    → length (past ++ said) ≡ end → Part past said more old end end
begun past said more old end is to = record {
  done = [];
  rest = more;
  split = refl;
  turns = omega (arith, to);
  items_are = is;
  place_is = omega (arith, to);
}

-- the front of the place, all in one
abbrev pub front_of : List Effect → List Effect → List Effect → List Effect
front_of past said done = past ++ (said ++ unsaid said done)

pub front_length : (past said kept : List Effect)
    → length (past ++ (said ++ kept)) ≡ length (past ++ said) + length kept
front_length past said kept = ap length (sym (append_assoc past said kept)) ∙ length-append (past ++ said) kept

pub regrouped : (past said kept rest : List Effect)
    → past ++ (said ++ (kept ++ rest)) ≡ (past ++ (said ++ kept)) ++ rest
regrouped past said kept rest =
    ap (λ xs. past ++ xs) (sym (append_assoc said kept rest)) ∙ sym (append_assoc past (said ++ kept) rest)

unsaid_on : (said done : List Effect) (e : Effect) (b : Bool) → is_said said e ≡ b
    → unsaid said (done ++ e ∷ []) ≡ unsaid said done ++ (if not b then e ∷ [] else [])
unsaid_on said done e b is =
    filter-append (λ f. not (list_any (says_same f) said)) done (e ∷ [])
    ∙ ap (λ c. unsaid said done ++ (if not c then e ∷ [] else [])) is

pub length_all : (past said done rest : List Effect)
    → length (past ++ (said ++ (done ++ rest))) ≡ length (past ++ said) + length done + length rest
length_all past said done rest =
    ap length (regrouped past said done rest) ∙ length-append (past ++ (said ++ done)) rest
    ∙ ap (λ n. n + length rest) (front_length past said done)

module _ (past said more old now new : List Effect) (start end turn place count : ℕ) (b : Bool)
    (is : old ≡ past ++ (said ++ more)) (all : count ≡ length old) (below : turn < count) where
  stepped : (done rest : List Effect) → more ≡ done ++ rest
      → turn ≡ length (past ++ said) + length done
      → now ≡ past ++ (said ++ (unsaid said done ++ rest))
      → place ≡ length (past ++ said) + length (unsaid said done)
      → ((front later : List Effect) (e : Effect) → now ≡ front ++ e ∷ later
      → length front ≡ place → b ≡ is_said said e)
      → new ≡ (if b then remove now place else now)
      → Part past said more new (turn + 1) (if b then place else place + 1)
  stepped done [] split turns items at tells next =
      let len : length old ≡ length (past ++ said) + length done + 0 =
      ap length (is ∙ ap (λ xs. past ++ (said ++ xs)) split) ∙ length_all past said done [] in
      absurd (omega (arith, len, turns, all, below))
  stepped done (e ∷ rest) split turns items at tells next =
      on b (sym told) next where
        front : List Effect
        front = front_of past said done

        stands : now ≡ front ++ e ∷ rest
        stands = items ∙ regrouped past said (unsaid said done) (e ∷ rest)

        behind : length front ≡ place
        behind = front_length past said (unsaid said done) ∙ sym at

        told : b ≡ is_said said e
        told = tells front rest e stands behind

        further : more ≡ (done ++ e ∷ []) ++ rest
        further = split ∙ sym (append_assoc done (e ∷ []) rest)

        counted : turn + 1 ≡ length (past ++ said) + length (done ++ e ∷ [])
        counted =
            let len : length (done ++ e ∷ []) ≡ length done + 1 = length-append done (e ∷ []) in
            omega (arith, turns, len)

        on : (c : Bool) → is_said said e ≡ c → new ≡ (if c then remove now place else now)
            → Part past said more new (turn + 1) (if c then place else place + 1)
        on true same goes =
            let stays : unsaid said (done ++ e ∷ []) ≡ unsaid said done =
            unsaid_on said done e true same ∙ append-nil (unsaid said done) in
            record {
              done = done ++ e ∷ [];
              rest = rest;
              split = further;
              turns = counted;
              items_are = goes
                  ∙ ap (λ xs. remove xs place) stands
                  ∙ ap (λ n. remove (front ++ e ∷ rest) n) (sym behind)
                  ∙ removed front rest e
                  ∙ sym (regrouped past said (unsaid said done) rest)
                  ∙ ap (λ xs. past ++ (said ++ (xs ++ rest))) (sym stays);
              place_is = at ∙ ap (λ xs. length (past ++ said) + length xs) (sym stays);
            }
        on false same goes =
            let more_said : unsaid said (done ++ e ∷ []) ≡ unsaid said done ++ e ∷ [] =
            unsaid_on said done e false same in
            let len : length (unsaid said (done ++ e ∷ [])) ≡ length (unsaid said done) + 1 =
            ap length more_said ∙ length-append (unsaid said done) (e ∷ []) in
            record {
              done = done ++ e ∷ [];
              rest = rest;
              split = further;
              turns = counted;
              items_are = goes ∙ items
                  ∙ ap (λ xs. past ++ (said ++ xs))
                  (sym (append_assoc (unsaid said done) (e ∷ []) rest)
                  ∙ ap (λ xs. xs ++ rest) (sym more_said));
              place_is = omega (arith, at, len);
            }

pub goes_on : (past said more old now new : List Effect) (turn place count : ℕ)
    (b : Bool) → old ≡ past ++ (said ++ more) → count ≡ length old → turn < count
    → Part past said more now turn place
    → ((front later : List Effect) (e : Effect) → now ≡ front ++ e ∷ later
    → length front ≡ place → b ≡ is_said said e)
    → new ≡ (if b then remove now place else now)
    → Part past said more new (turn + 1) (if b then place else place + 1)
goes_on past said more old now new turn place count b is all below part tells next =
    stepped past said more old now new 0 0 turn place count b is all below part.done part.rest
    part.split part.turns part.items_are part.place_is tells next

pub ended : (past said more old now : List Effect) (turn place count : ℕ)
    → old ≡ past ++ (said ++ more) → count ≡ length old → count ≤ turn
    → Part past said more now turn place → now ≡ past ++ (said ++ unsaid said more)
ended past said more old now turn place count is all past_it part =
    on part.rest part.split part.items_are where
      on : (rest : List Effect) → more ≡ part.done ++ rest
          → now ≡ past ++ (said ++ (unsaid said part.done ++ rest))
          → now ≡ past ++ (said ++ unsaid said more)
      on [] split items =
          items ∙ ap (λ xs. past ++ (said ++ xs)) (append-nil (unsaid said part.done)
          ∙ ap (λ xs. unsaid said xs) (sym (split ∙ append-nil part.done)))
      on (e ∷ rest) split items =
          let len : length old ≡ length (past ++ said) + length part.done + length (e ∷ rest) =
          ap length (is ∙ ap (λ xs. past ++ (said ++ xs)) split)
          ∙ length_all past said part.done (e ∷ rest) in
          absurd (omega (arith, len, part.turns, all, past_it))
