-- Each effect of a command's deed, and what the deed lists, is one that the command may have.
use Rattle.session_laws.proofs.Vocabulary.{◌≡◌, ℕ, Bool, true, false, not, List, [], ◌∷◌, ◌++◌, Option, Some, None, map}
use Rattle.session_laws.proofs.Vocabulary.{filter, refl, ap, sym, ◌∙◌, subst, length, if◌then◌else◌, ◌==◌, codes}
use Rattle.session_laws.proofs.Vocabulary.{AllByRecursion, option_map_or, UserId, named_by, Order, Effect, Input, Say}
use Rattle.session_laws.proofs.Vocabulary.{Gone, Size, Reason, Detached, Killed, Removed, SingleUser, Quit, Tables}
use Rattle.session_laws.proofs.Vocabulary.{Window, Client, Caller, Deed, removes, is_of, parts, closes, without_window}
use Rattle.session_laws.proofs.Vocabulary.{without_windows, input_of, both, changing, tells, writes, does}
use Rattle.session_laws.proofs.Vocabulary.{caller_client, SomeOf, IsOn, IsOpen, IsClient, IsDoneBy, is_named, told_by}
use Rattle.session_laws.proofs.Vocabulary.{equal, all_weaken, all_append, all_map, all_passed, filter_all, some_weaken}
use Rattle.session_laws.proofs.Vocabulary.{members}
use Rattle.acl.specs.Names.{name_of}
use Rattle.command_lang.specs.declared.command.Command.TheVariants as command
use Rattle.session_model.specs.declared.event.Peer.TheVariants as peer
use Rattle.terminal_model.specs.Writing as written
use Rattle.session_laws.proofs.Doing.{Either, giving, caller_is}
use Rattle.session_laws.proofs.Shapes as shapes

-- ---- what is done

pub record HasDone (t : Tables) (k : Caller) (c : Order) (d : Deed) : Type 0 where
  pub effects : AllByRecursion (IsDoneBy t (giving k c) c) d.effects
  pub lists : (bytes : List ℕ) → d.lists ≡ Some bytes → told_by t (giving k c) c ≡ Some bytes

none_listed : {X : Type 0} (bytes : List ℕ) → None ≡ Some bytes → X
none_listed bytes is = absurd (cc (is))

-- a deed without effects that lists nothing
still : (t : Tables) (k : Caller) (c : Order) (d : Deed) → d.effects ≡ [] → d.lists ≡ None → HasDone t k c d
still t k c d none lists = record {
  effects = subst (λ es. AllByRecursion (IsDoneBy t (giving k c) c) es) (sym none) tt;
  lists = λ bytes is. none_listed bytes (sym lists ∙ is);
}

on_own : (o : Option Window) (w : Window) (n : ℕ) → o ≡ Some w → w.serial ≡ n → IsOn o n
on_own o w n is same = subst (λ x. IsOn x n) (sym is) same

-- the windows and clients that go were there
gone_windows : (P : Effect → Type 0) (t : Tables) (goes : Window → Bool) (why : Reason)
    → ((w : Window) → goes w ≡ true → IsOpen t w.serial → P (Gone (peer.Window w.serial) why))
    → AllByRecursion P (map (λ (w : Window). Gone (peer.Window w.serial) why) (filter goes t.windows))
gone_windows P t goes why on =
    all_map P (λ (w : Window). Gone (peer.Window w.serial) why) (filter goes t.windows)
    (all_passed (λ (w : Window). P (Gone (peer.Window w.serial) why)) goes t.windows
    (all_weaken (λ w. SomeOf (λ v. v ≡ w) t.windows)
    (λ (w : Window). goes w ≡ true → P (Gone (peer.Window w.serial) why))
    t.windows
    (λ w some is. on w is
    (some_weaken (λ v. v ≡ w) (λ (v : Window). v.serial ≡ w.serial) t.windows
    (λ v e. ap (λ (x : Window). x.serial) e) some))
    (members t.windows)))

gone_clients : (P : Effect → Type 0) (t : Tables) (goes : Client → Bool) (why : Reason)
    → ((c : Client) → goes c ≡ true → IsClient t goes c.serial → P (Gone (peer.Client c.serial) why))
    → AllByRecursion P (map (λ (c : Client). Gone (peer.Client c.serial) why) (filter goes t.clients))
gone_clients P t goes why on =
    all_map P (λ (c : Client). Gone (peer.Client c.serial) why) (filter goes t.clients)
    (all_passed (λ (c : Client). P (Gone (peer.Client c.serial) why)) goes t.clients
    (all_weaken (λ c. SomeOf (λ d. d ≡ c) t.clients)
    (λ (c : Client). goes c ≡ true → P (Gone (peer.Client c.serial) why))
    t.clients
    (λ c some is. on c is
    (some_weaken (λ d. d ≡ c) (λ (d : Client). (d.serial ≡ c.serial) × (goes d ≡ true)) t.clients
    (λ d e. (ap (λ (x : Client). x.serial) e, ap goes e ∙ is)) some))
    (members t.clients)))

removal_done : (t : Tables) (k : Caller) (word : List ℕ) (o : Option UserId) → named_by word ≡ o
    → HasDone t k (command.Acldel word) (removes o t)
removal_done t k word None is = still t k (command.Acldel word) _ refl refl
removal_done t k word (Some u) is = record {
  effects = gone_clients (IsDoneBy t (giving k (command.Acldel word)) (command.Acldel word)) t (is_of u) Removed
      (λ c goes some. (
        some_weaken (λ (d : Client). (d.serial ≡ c.serial) × (is_of u d ≡ true))
            (λ (d : Client). (d.serial ≡ c.serial) × (is_named word d ≡ true)) t.clients
            (λ d here. (here.0, ap (λ o. option_map_or (Rattle.acl.specs.Same.same_user d.user) o false) is ∙ here.1))
            some,
        refl,
      ));
  lists = λ bytes is. none_listed bytes is;
}

stuff_done : (t : Tables) (k : Caller) (w : Window) (bytes : List ℕ) (b : Bool) → k.window ≡ Some w
    → AllByRecursion (IsDoneBy t (giving k (command.Stuff bytes)) (command.Stuff bytes))
    (if b then [] else Input w.serial bytes ∷ [])
stuff_done t k w bytes true is = tt
stuff_done t k w bytes false is = ((on_own k.window w w.serial is refl, refl), tt)

without_serials : (ws : List Window) (cs : List Client)
    → map (λ (c : Client). c.serial) (without_windows ws cs) ≡ map (λ (c : Client). c.serial) cs
without_serials [] cs = refl
without_serials (w ∷ ws) cs = without_serials ws (map (without_window w.serial) cs) ∙ one cs where
  one : (cs : List Client)
      → map (λ (c : Client). c.serial) (map (without_window w.serial) cs) ≡ map (λ (c : Client). c.serial) cs
  one [] = refl
  one (c ∷ cs) = ap (λ ns. c.serial ∷ ns) (one cs)

quit_clients : (t : Tables) (k : Caller) (ws : List Window)
    → AllByRecursion (IsDoneBy t (giving k command.Quit) command.Quit)
    (map (λ (c : Client). Gone (peer.Client c.serial) Quit)
    (filter (λ (c : Client). true) (without_windows ws t.clients)))
quit_clients t k ws =
    let P : Effect → Type 0 = IsDoneBy t (giving k command.Quit) command.Quit in
    let cs : List Client = without_windows ws t.clients in
    let Is : ℕ → Type 0 = λ n. P (Gone (peer.Client n) Quit) in
    let there : AllByRecursion Is (map (λ (c : Client). c.serial) t.clients) =
    all_map Is (λ (c : Client). c.serial) t.clients
    (all_weaken (λ c. SomeOf (λ d. d ≡ c) t.clients) (λ (c : Client). Is c.serial) t.clients
    (λ c some. (
      some_weaken (λ d. d ≡ c) (λ (d : Client). (d.serial ≡ c.serial) × (true ≡ true)) t.clients
          (λ d e. (ap (λ (x : Client). x.serial) e, refl)) some,
      refl,
    ))
    (members t.clients)) in
    subst (λ xs. AllByRecursion P (map (λ (c : Client). Gone (peer.Client c.serial) Quit) xs)) (sym (filter_all cs))
    (back cs (subst (λ ns. AllByRecursion Is ns) (sym (without_serials ws t.clients)) there)) where
      back : (cs : List Client)
          → AllByRecursion (λ n. IsDoneBy t (giving k command.Quit) command.Quit (Gone (peer.Client n) Quit))
          (map (λ (c : Client). c.serial) cs)
          → AllByRecursion (IsDoneBy t (giving k command.Quit) command.Quit)
          (map (λ (c : Client). Gone (peer.Client c.serial) Quit) cs)
      back [] all = tt
      back (c ∷ cs) all = (all.0, back cs all.1)

-- ---- the kinds

module _ (t : Tables) (k : Caller) where
  -- what only one command does
  as_done : (c x : Order) (d : Deed) → c ≡ x → HasDone t k x d → HasDone t k c d
  as_done c x d is did = subst (λ (y : Order). HasDone t k y d) (sym is) did

  shut_done : HasDone t k (command.Multiuser false)
      (parts (λ d. not (is_of t.owner d)) SingleUser (record t { is_multiuser = false }))
  shut_done = record {
    effects = gone_clients (IsDoneBy t (giving k (command.Multiuser false)) (command.Multiuser false)) t
        (λ c. not (is_of t.owner c)) SingleUser (λ c goes some. (some, refl));
    lists = λ bytes is. none_listed bytes is;
  }

  told_done : (bytes : List ℕ) → HasDone t k (command.Wall bytes) (tells (name_of k.user ++ (codes ": " ++ bytes)) t)
  told_done bytes = record {
    effects = all_map (IsDoneBy t (giving k (command.Wall bytes)) (command.Wall bytes)) (λ (c : Client). Say c.serial _)
        t.clients
        (all_weaken (λ c. SomeOf (λ d. d ≡ c) t.clients)
        (λ (c : Client). IsDoneBy t (giving k (command.Wall bytes)) (command.Wall bytes) (Say c.serial _)) t.clients
        (λ c some. (
          some_weaken (λ d. d ≡ c) (λ (d : Client). (d.serial ≡ c.serial) × (true ≡ true)) t.clients
              (λ d e. (ap (λ (x : Client). x.serial) e, refl)) some,
          refl,
        ))
        (members t.clients));
    lists = λ bytes is. none_listed bytes is;
  }

  fitted_done : (w : Window) (rows columns : ℕ) → k.window ≡ Some w
      → HasDone t k command.Fit
      (record (writes t w (written.Size rows columns)) { effects = Size w.serial rows columns ∷ [] })
  fitted_done w rows columns at = record {
    effects = (on_own k.window w w.serial at refl, tt);
    lists = λ bytes is. none_listed bytes is;
  }

  typed_done : (w : Window) (bytes : List ℕ) → k.window ≡ Some w
      → HasDone t k (command.Stuff bytes) (record (changing t) { effects = input_of w.serial bytes })
  typed_done w bytes at = record {
    effects = stuff_done t k w bytes (length bytes == 0) at;
    lists = λ bytes is. none_listed bytes is;
  }

  detached_done : (c : Client) → caller_client t k ≡ Some c
      → HasDone t k command.Detach (parts (λ (d : Client). d.serial == c.serial) Detached t)
  detached_done c is = record {
    effects = gone_clients (IsDoneBy t (giving k command.Detach) command.Detach) t
        (λ (d : Client). d.serial == c.serial) Detached (λ d goes some.
        (caller_is t k.client c is ∙ ap Some (sym (equal d.serial c.serial goes)), refl));
    lists = λ bytes is. none_listed bytes is;
  }

  killed_done : (w : Window) → k.window ≡ Some w
      → HasDone t k command.Kill (closes (λ (v : Window). v.serial == w.serial) Killed t)
  killed_done w is = record {
    effects = gone_windows (IsDoneBy t (giving k command.Kill) command.Kill) t (λ (v : Window). v.serial == w.serial)
        Killed (λ v goes some.
        (on_own k.window w v.serial is (sym (equal v.serial w.serial goes)), refl));
    lists = λ bytes is. none_listed bytes is;
  }

  quit_done : HasDone t k command.Quit (both (closes (λ w. true) Quit t) (parts (λ d. true) Quit))
  quit_done = record {
    effects = all_append (IsDoneBy t (giving k command.Quit) command.Quit)
        (map (λ (w : Window). Gone (peer.Window w.serial) Quit) (filter (λ (w : Window). true) t.windows)) _
        (gone_windows (IsDoneBy t (giving k command.Quit) command.Quit) t (λ (w : Window). true) Quit
        (λ w goes some. (some, refl)))
        (quit_clients t k (filter (λ (w : Window). true) t.windows));
    lists = λ bytes is. none_listed bytes is;
  }

  deed_done : (c : Order) (d : Deed) → shapes.Shape t k c d → HasDone t k c d
  deed_done c d (shapes.lists bytes none tells) = record { effects = tt; lists = λ more is. tells ∙ is }
  deed_done c d (shapes.shut is) = as_done c _ _ is shut_done
  deed_done c d (shapes.told bytes is) = as_done c _ _ is (told_done bytes)
  deed_done c d (shapes.removed word is clear) = as_done c _ _ is (removal_done t k word (named_by word) refl)
  deed_done c d (shapes.fitted w rows columns is at) = as_done c _ _ is (fitted_done w rows columns at)
  deed_done c d (shapes.typed w bytes is at) = as_done c _ _ is (typed_done w bytes at)
  deed_done c d (shapes.detached x is at) = as_done c _ _ is (detached_done x at)
  deed_done c d (shapes.killed w is at) = as_done c _ _ is (killed_done w at)
  deed_done c d (shapes.quits is) = as_done c _ _ is quit_done
  deed_done c d kind = still t k c _ refl refl

pub done_by : (t : Tables) (k : Caller) (c : Order) → Either (HasDone t k c) (does t k c)
done_by t k c = shapes.by_shape (HasDone t k c) t k c (deed_done t k c)
