-- Effects are put after those that wait for the seat of their peer.
use Rattle.hub_ledger.proofs.Vocabulary.{Option, ◌≡◌, ◌≢◌, ℕ, zero, suc, ◌<◌, ◌≤◌, ◌+◌, Bool, true, false, List, []}
use Rattle.hub_ledger.proofs.Vocabulary.{◌∷◌, ◌++◌, length, Some, set, refl, ap, sym, ◌∙◌, subst, inl, inr, arith}
use Rattle.hub_ledger.proofs.Vocabulary.{length-append, append_assoc, ◌==◌, IsSome, slice_get, vec_len, vec_capacity}
use Rattle.hub_ledger.proofs.Vocabulary.{if◌then◌else◌, AllByRecursion, append-nil, map-set, map_push, filter-append}
use Rattle.hub_ledger.proofs.Vocabulary.{Vec, Global, UserId, equal, Effect, Input, Deliver, Say, Size, Gone, Owners}
use Rattle.hub_ledger.proofs.Vocabulary.{AreSeats, seat_of, HasPeer, Sent, views}
use Rattle.std.proofs.Common.{filter}
use Rattle.std.specs.Option.{option_map, option_map_or}
use Rattle.std.proofs.lemmas.Option.{slice_get-map}
use Rattle.session.proofs.Lists.{itself}
use Rattle.session.specs.event.Peer.TheVariants as peer
use Rattle.hub_ledger.specs.Routing.{is_for, sent_by}
use Rattle.hub_ledger.proofs.Places.{slice_get-set, slice_get-set_here, slice_get-set_other}

-- ---- seats of peers

pub all_at : {X : Type 0} (P : X → Type 0) (xs : List X) (k : ℕ) (x : X) → AllByRecursion P xs → slice_get xs k ≡ Some x
    → P x
all_at P [] k x all at = absurd (cc (at))
all_at P (y ∷ xs) zero x all at = let e : y ≡ x = cc (at) in subst P e all.0
all_at P (y ∷ xs) (suc k) x all at = all_at P xs k x all.1 at

there : {X : Type 0} (xs : List X) (k : ℕ) → k < length xs → IsSome (slice_get xs k)
there [] k l = absurd (omega (arith, l))
there (x ∷ xs) zero l = refl
there (x ∷ xs) (suc k) l = there xs k (omega (arith, l))

pub seat_there : (o : Owners) (e : Effect) → HasPeer o e → IsSome (seat_of o e)
seat_there o (Input window bytes) here = there o.windows window here
seat_there o (Deliver client bytes) here = there o.clients client here
seat_there o (Say client text) here = there o.clients client here
seat_there o (Size window rows columns) here = there o.windows window here
seat_there o (Gone (peer.Window window) why) here = there o.windows window here
seat_there o (Gone (peer.Client client) why) here = there o.clients client here

pub seat_within : (n : ℕ) (o : Owners) (e : Effect) (s : ℕ) → AreSeats n o → seat_of o e ≡ Some s → s < n
seat_within n o (Input window bytes) s all at = all_at (λ k. k < n) o.windows window s all.windows at
seat_within n o (Deliver client bytes) s all at = all_at (λ k. k < n) o.clients client s all.clients at
seat_within n o (Say client text) s all at = all_at (λ k. k < n) o.clients client s all.clients at
seat_within n o (Size window rows columns) s all at = all_at (λ k. k < n) o.windows window s all.windows at
seat_within n o (Gone (peer.Window window) why) s all at = all_at (λ k. k < n) o.windows window s all.windows at
seat_within n o (Gone (peer.Client client) why) s all at = all_at (λ k. k < n) o.clients client s all.clients at

-- ---- one effect more

abbrev pub Waits : Owners → Option UserId → List Effect → List (List Sent) → List (List Sent) → Type 0
Waits o typist effects old new = (seat : ℕ) (before : List Sent) → slice_get old seat ≡ Some before
    → slice_get new seat ≡ Some (before ++ sent_by typist (filter (is_for o seat) effects))

pub none_waits : (o : Owners) (typist : Option UserId) (ws : List (List Sent)) → Waits o typist [] ws ws
none_waits o typist ws seat before at = at ∙ ap (λ (x : List Sent). Some x) (sym (append-nil before))

push_here : (o : Owners) (k : ℕ) (e : Effect) (es : List Effect) → seat_of o e ≡ Some k
    → filter (is_for o k) (es ++ e ∷ []) ≡ filter (is_for o k) es ++ e ∷ []
push_here o k e es is = filter-append (is_for o k) es (e ∷ [])
    ∙ ap (λ (x : List Effect). filter (is_for o k) es ++ x)
    (one (is_for o k e) (ap (λ s. option_map_or (λ j. j == k) s false) is ∙ itself k)) where
      one : (b : Bool) → b ≡ true → (if b then e ∷ [] else []) ≡ e ∷ []
      one true so = refl
      one false so = absurd (cc (so))

push_other : (o : Owners) (k j : ℕ) (e : Effect) (es : List Effect) → seat_of o e ≡ Some k → k ≢ j
    → filter (is_for o j) (es ++ e ∷ []) ≡ filter (is_for o j) es
push_other o k j e es is other = filter-append (is_for o j) es (e ∷ [])
    ∙ ap (λ (x : List Effect). filter (is_for o j) es ++ x) (one (is_for o j e) refl)
    ∙ append-nil (filter (is_for o j) es) where
      one : (b : Bool) → is_for o j e ≡ b → (if b then e ∷ [] else []) ≡ []
      one true so = absurd (other (equal k j (sym (ap (λ s. option_map_or (λ i. i == j) s false) is) ∙ so)))
      one false so = refl

views_at : (ws : List (Vec Sent Global)) (k : ℕ) (v : Vec Sent Global) → slice_get ws k ≡ Some v
    → slice_get (views ws) k ≡ Some v.items
views_at ws k v at = slice_get-map (λ (u : Vec Sent Global). u.items) ws k
    ∙ ap (option_map (λ (u : Vec Sent Global). u.items)) at

push_waits : (o : Owners) (typist : Option UserId) (es : List Effect) (e : Effect) (k : ℕ) (old now : List (List Sent))
    (items : List Sent) → k < length now → seat_of o e ≡ Some k → slice_get now k ≡ Some items
    → Waits o typist es old now → Waits o typist (es ++ e ∷ []) old (set now k (items ++ (e, typist) ∷ []))
push_waits o typist es e k old now items here is at waits seat before was = on (k == seat) refl where
  on : (b : Bool) → (k == seat) ≡ b
      → slice_get (set now k (items ++ (e, typist) ∷ [])) seat
      ≡ Some (before ++ sent_by typist (filter (is_for o seat) (es ++ e ∷ [])))
  on true same =
      let s : k ≡ seat = equal k seat same in
      let mine : List Sent = sent_by typist (filter (is_for o k) es) in
      let had : Some items ≡ Some (before ++ mine) = sym at ∙ waits k before (ap (slice_get old) s ∙ was) in
      let items_are : items ≡ before ++ mine = cc (had) in
      let more : sent_by typist (filter (is_for o k) (es ++ e ∷ [])) ≡ mine ++ (e, typist) ∷ [] =
      ap (sent_by typist) (push_here o k e es is)
      ∙ map_push (λ (x : Effect). (x, typist)) (filter (is_for o k) es) e in
      let now_is : slice_get (set now k (items ++ (e, typist) ∷ [])) k
      ≡ Some (before ++ sent_by typist (filter (is_for o k) (es ++ e ∷ []))) =
      slice_get-set_here now k (items ++ (e, typist) ∷ []) here
      ∙ ap (λ (x : List Sent). Some x)
      (ap (λ (x : List Sent). x ++ (e, typist) ∷ []) items_are ∙ append_assoc before mine ((e, typist) ∷ [])
      ∙ ap (λ (x : List Sent). before ++ x) (sym more)) in
      subst
      (λ (j : ℕ). slice_get (set now k (items ++ (e, typist) ∷ [])) j
      ≡ Some (before ++ sent_by typist (filter (is_for o j) (es ++ e ∷ [])))) s now_is
  on false differ =
      let other : k ≢ seat = λ p. absurd
      (let t = itself k in let q : (k == k) ≡ false = ap (λ j. k == j) p ∙ differ in cc (t, q)) in
      slice_get-set_other now k (items ++ (e, typist) ∷ []) seat (λ p. other (sym p)) ∙ waits seat before was
      ∙ ap (λ (x : List Effect). Some (before ++ sent_by typist x)) (sym (push_other o k seat e es is other))

pub more_waits : (o : Owners) (typist : Option UserId) (es : List Effect) (e : Effect) (k : ℕ) (old : List (List Sent))
    (ws : List (Vec Sent Global)) (v new : Vec Sent Global) → k < length (views ws) → seat_of o e ≡ Some k
    → slice_get ws k ≡ Some v → new.items ≡ v.items ++ (e, typist) ∷ [] → Waits o typist es old (views ws)
    → Waits o typist (es ++ e ∷ []) old (views (set ws k new))
more_waits o typist es e k old ws v new here is at put waits =
    let now : views (set ws k new) ≡ set (views ws) k (v.items ++ (e, typist) ∷ []) = map-set
    (λ (u : Vec Sent Global). u.items) ws k new ∙ ap (set (views ws) k) put in
    subst (Waits o typist (es ++ e ∷ []) old) (sym now)
    (push_waits o typist es e k old (views ws) v.items here is (views_at ws k v at) waits)

-- ---- room

-- how much room there is after one list got one effect more
pub room_left : (ws : List (Vec Sent Global)) (k : ℕ) (v new : Vec Sent Global) (most : ℕ) (done : List Effect)
    (e : Effect) → slice_get ws k ≡ Some v
    → vec_len new ≡ vec_len v + 1 → vec_capacity new ≡ vec_capacity v
    → ((i : ℕ) (u : Vec Sent Global) → slice_get ws i ≡ Some u → vec_len u + most ≤ vec_capacity u + length done)
    → (i : ℕ) (u : Vec Sent Global) → slice_get (set ws k new) i ≡ Some u
    → vec_len u + most ≤ vec_capacity u + length (done ++ e ∷ [])
room_left ws k v new most done e at len cap room i u is = elim (slice_get-set ws k new u i is) [
  | inl p ↦
      (let r = room k v at in let l : vec_len u ≡ vec_len new = ap (λ (x : Vec Sent Global). vec_len x) p.1 in let d :
      vec_capacity u ≡ vec_capacity new = ap (λ (x : Vec Sent Global). vec_capacity x) p.1 in omega
      (arith, r, l, d, len, cap, length-append done (e ∷ [])))
  | inr p ↦ (let r = room i u p.1 in omega (arith, r, length-append done (e ∷ [])))
]

pub append_turned : (ys : List Effect) (e : Effect) (rest all : List Effect) → all ≡ ys ++ e ∷ rest
    → all ≡ (ys ++ e ∷ []) ++ rest
append_turned ys e rest all is = is ∙ sym (append_assoc ys (e ∷ []) rest)
