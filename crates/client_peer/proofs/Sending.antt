-- What a connection takes, write after write.
use Rattle.std.proofs.Common.{◌≡◌, ◌+◌, ◌∙◌, ◌<◌, ℕ, Bool, true, false, List, [], ◌++◌, length, take, drop, Option}
use Rattle.std.proofs.Common.{Result, Ok, Err, OnOk, sym, ap, append_assoc, arith, length-drop}
use Rattle.std.specs.Io.KnownBytes.{Appends}
use Rattle.std.proofs.KnownBytes.{Appends-trans}
use Rattle.std.proofs.lemmas.List.{drop-drop, take-append-drop}
use Rattle.client_peer.specs.declared.outgoing.Batch.{Batch}
use Rattle.client_peer.specs.declared.peer.Peer.{Peer}
use Rattle.client_peer.specs.Sending.{HasBack, SendsSome, left, unsent}

pub sends_then : (a b c : Option (List ℕ)) (old middle new : Batch) → SendsSome a old b middle
    → SendsSome b middle c new → SendsSome a old c new
sends_then a b c old middle new p q = record {
  taken = p.taken ++ q.taken;
  whole =
      p.whole ∙ ap (λ (l : List ℕ). p.taken ++ l) q.whole
      ∙ sym (append_assoc p.taken q.taken (drop new.sent new.frames.items));
  appends = Appends-trans a b c p.taken q.taken p.appends q.appends;
  rest = q.rest ∙ ap (λ (t : Batch). record t { sent = new.sent; is_shut = new.is_shut }) p.rest;
}

-- a write that took nothing
pub sends_none : (a b : Option (List ℕ)) (old new : Batch) (shut : Bool) → Appends a b []
    → new ≡ record old { is_shut = shut } → SendsSome a old b new
sends_none a b old new shut is e = record {
  taken = [];
  whole = sym (ap (λ (t : Batch). left t) e);
  appends = is;
  rest =
      e ∙ ap (λ (n : ℕ). record old { sent = n; is_shut = shut }) (sym (ap (λ (t : Batch). t.sent) e))
      ∙ ap (λ (s : Bool). record old { sent = new.sent; is_shut = s }) (sym (ap (λ (t : Batch). t.is_shut) e));
}

-- a write that took the first bytes of what was left
pub sends_first : (a b : Option (List ℕ)) (old new : Batch) (n : ℕ) (offered : List ℕ) → offered ≡ left old
    → Appends a b (take n offered) → new ≡ record old { sent = old.sent + n } → SendsSome a old b new
sends_first a b old new n offered same is e = record {
  taken = take n offered;
  whole =
      sym (take-append-drop n (left old)) ∙ ap (λ (x : List ℕ). take n x ++ drop n (left old)) (sym same)
      ∙ ap (λ (x : List ℕ). take n offered ++ x) (drop-drop n old.sent old.frames.items)
      ∙ ap (λ (t : Batch). take n offered ++ left t) (sym e);
  appends = is;
  rest =
      e ∙ ap (λ (k : ℕ). record old { sent = k }) (sym (ap (λ (t : Batch). t.sent) e))
      ∙ ap (λ (s : Bool). record old { sent = new.sent; is_shut = s }) (sym (ap (λ (t : Batch). t.is_shut) e));
}

some_left : (b : Batch) → b.sent < length b.frames.items → left b ≡ [] → ⊥
some_left b few none = omega (arith, few, length-drop b.sent b.frames.items, ap length none)

false_true : false ≡ true → ⊥
false_true e = cc

-- what wasn't sent comes back
pub has_back : {T E : Type 0} (r : Result T E) (old new : Peer) (batch : Batch) (stuck : Bool)
    → batch.connection ≡ old.connection → stuck ≡ true → batch.sent < length batch.frames.items
    → OnOk r ((old.sent ≡ 0 → unsent new ≡ left batch ++ unsent old)
    × (new ≡ record old {
      frames = new.frames;
      sent = new.sent;
      is_sending = false;
      is_shut = batch.is_shut;
      is_stuck = stuck;
    })) → OnOk r (HasBack old batch new)
has_back (Err e) old new batch stuck same is few b = tt
has_back (Ok x) old new batch stuck same is few b =
    let shut : new.is_shut ≡ batch.is_shut = ap (λ (p : Peer). p.is_shut) b.1 in
    let stays : new.is_stuck ≡ stuck = ap (λ (p : Peer). p.is_stuck) b.1 in record {
      back = λ c none. b.0 none;
      shut = λ c. shut;
      stuck = λ c free. absurd (false_true (sym free ∙ (stays ∙ is)));
      free = λ c none. absurd (some_left batch few none);
      other = λ c. absurd (c same);
      rest = b.1 ∙ ap (λ (s : Bool). record old {
        frames = new.frames;
        sent = new.sent;
        is_sending = false;
        is_shut = s;
        is_stuck = stuck;
      }) (sym shut) ∙ ap (λ (s : Bool). record old {
        frames = new.frames;
        sent = new.sent;
        is_sending = false;
        is_shut = new.is_shut;
        is_stuck = s;
      }) (sym stays);
    }
