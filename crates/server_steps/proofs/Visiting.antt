-- Keys one by one, and the connections whose first message isn't done.
use Rattle.std.proofs.Common.{◌≡◌, ◌∙◌, ◌<◌, ◌≤◌, ◌+◌, ◌-◌, ℕ, zero, suc, Bool, true, false, Option, Some, None, refl}
use Rattle.std.proofs.Common.{ap, sym, subst, arith, if◌then◌else◌}
use Rattle.std.specs.Prelude.{IfSome, is_some, nat_le}
use Rattle.slab.specs.Slab.{Slab, get}
use Rattle.server_connections.specs.Changing.{changed, changed_if}
use Rattle.server_connections.specs.Lending.{touched}
use Rattle.server_connections.specs.declared.connections.Connections.{Connections}
use Rattle.server_connections.specs.declared.peer.Peer.{Peer}
use Rattle.server_steps.specs.Ending.{EachKey, IsFirstNew, new_below, new_number, older}
use Rattle.std.proofs.lemmas.Bool.Decides.{nat_tests}
use borrow.Author.Count.{below_more}

module _ {T : Type 0} (visits : ℕ → T → T → Type 0) where
  pub visited_next : (end key : ℕ) (old mid new : T) → key < end → visits key old mid
      → EachKey visits (end - (key + 1)) (key + 1) mid new → EachKey visits (end - key) key old new
  visited_next end key old mid new more one rest =
      let e : suc (end - (key + 1)) ≡ end - key = omega (arith, more) in
      subst (λ (n : ℕ). EachKey visits n key old new) e (mid, one, rest)

  pub all_visited : (end key : ℕ) (old : T) → end ≤ key → EachKey visits (end - key) key old old
  all_visited end key old over =
      let e : zero ≡ end - key = omega (arith, over) in subst (λ (n : ℕ). EachKey visits n key old old) e refl

  pub from_first : (end : ℕ) (old new : T) → EachKey visits (end - 0) 0 old new → EachKey visits end 0 old new
  from_first end old new all =
      let e : end - 0 ≡ end = omega arith in subst (λ (n : ℕ). EachKey visits n 0 old new) e all

pub by_case : {A : Type 0} (b : Bool) (x y z : A) → (b ≡ true → z ≡ x) → (b ≡ false → z ≡ y)
    → z ≡ (if b then x else y)
by_case true x y z is isnt = is refl
by_case false x y z is isnt = isnt refl

le_all : (o : Option ℕ) (a b : ℕ) → a ≤ b → IfSome o (λ n. b ≤ n) → IfSome o (λ n. a ≤ n)
le_all None a b le all = tt
le_all (Some n) a b le all = omega arith

le_of : (a b : ℕ) → nat_le a b ≡ true → a ≤ b
le_of a b is = grind (arith, nat_tests)

lt_of : (a b : ℕ) → nat_le a b ≡ false → b < a
lt_of a b is = grind (arith, nat_tests)

module _ {S : Type 0} where
  pub changed_at : (change : Peer S → Peer S) (key : ℕ) (s : Connections S) (peer left : Peer S)
      → get s.peers key ≡ Some peer → left ≡ change peer → touched s key left ≡ changed change key s
  changed_at change key s peer left is e =
      subst (λ (o : Option (Peer S)). touched s key left ≡ changed_if change o key s) (sym is)
      (ap (λ (p : Peer S). touched s key p) e)

  pub below_next : (peers : Slab (Peer S)) (key count more : ℕ) (number : Option ℕ)
      → number ≡ new_number (get peers key) → count ≡ new_below peers key
      → more ≡ count + (if is_some number then 1 else 0) → more ≡ new_below peers (key + 1)
  below_next peers key count more number is counted e =
      let next : suc key ≡ key + 1 = omega arith in
      e ∙ subst (λ (n : ℕ). count + (if is_some number then 1 else 0) ≡ new_below peers n) next
      (ap (λ (n : ℕ). n + (if is_some number then 1 else 0)) counted
      ∙ ap (λ (o : Option ℕ). new_below peers key + (if is_some o then 1 else 0)) is)

  -- of the new connections below a key, the one that came first, if there is one
  abbrev pub FindsOldest : Slab (Peer S) → ℕ → Option (ℕ × ℕ) → Type 0
  FindsOldest peers end None = (k : ℕ) → k < end → new_number (get peers k) ≡ None
  FindsOldest peers end (Some found) = IsFirstNew peers end found.0 found.1

  abbrev NoEarlier : Slab (Peer S) → ℕ → ℕ → Type 0
  NoEarlier peers number k = IfSome (new_number (get peers k)) (λ other. number ≤ other)

  no_newer : (peers : Slab (Peer S)) (number k : ℕ) → new_number (get peers k) ≡ None → NoEarlier peers number k
  no_newer peers number k is = subst (λ (o : Option ℕ). IfSome o (λ other. number ≤ other)) (sym is) tt

  is_newer : (peers : Slab (Peer S)) (number k other : ℕ) → new_number (get peers k) ≡ Some other → number ≤ other
      → NoEarlier peers number k
  is_newer peers number k other is le = subst (λ (o : Option ℕ). IfSome o (λ n. number ≤ n)) (sym is) le

  the_older : (peers : Slab (Peer S)) (key number : ℕ) (oldest : ℕ × ℕ) (b : Bool) → nat_le oldest.0 number ≡ b
      → Some number ≡ new_number (get peers key) → IsFirstNew peers key oldest.0 oldest.1
      → FindsOldest peers (key + 1) (if b then Some oldest else Some (number, key))
  the_older peers key number oldest true le is found = record {
    within = omega (arith, found.within);
    is_new = found.is_new;
    first = below_more (NoEarlier peers oldest.0) key found.first
        (is_newer peers oldest.0 key number (sym is) (le_of oldest.0 number le));
  }
  the_older peers key number oldest false le is found = record {
    within = omega arith;
    is_new = sym is;
    first = below_more (NoEarlier peers number) key
        (λ k lt. le_all (new_number (get peers k)) number oldest.0
        (let more : number < oldest.0 = lt_of oldest.0 number le in omega (arith, more)) (found.first k lt))
        (is_newer peers number key number (sym is) (omega arith));
  }

  -- one key more
  pub older_next : (peers : Slab (Peer S)) (key : ℕ) (number : Option ℕ) (oldest : Option (ℕ × ℕ))
      → number ≡ new_number (get peers key) → FindsOldest peers key oldest
      → FindsOldest peers (key + 1) (older number oldest key)
  older_next peers key None None is found = below_more (λ (k : ℕ). new_number (get peers k) ≡ None) key found (sym is)
  older_next peers key None (Some oldest) is found = record {
    within = omega (arith, found.within);
    is_new = found.is_new;
    first = below_more (NoEarlier peers oldest.0) key found.first (no_newer peers oldest.0 key (sym is));
  }
  older_next peers key (Some number) None is found = record {
    within = omega arith;
    is_new = sym is;
    first = below_more (NoEarlier peers number) key (λ k lt. no_newer peers number k (found k lt))
        (is_newer peers number key number (sym is) (omega arith));
  }
  older_next peers key (Some number) (Some oldest) is found =
      the_older peers key number oldest (nat_le oldest.0 number) refl is found
