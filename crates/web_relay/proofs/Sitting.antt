-- A browser's seat in a hall, and what it is told after it was shown the page.
use Rattle.web_relay.proofs.Vocabulary.{◌≡◌, Bool, true, false, Option, Some, None, ap, sym, subst, ◌∙◌, Hall}
use Rattle.web_relay.proofs.Vocabulary.{HallNumber, Relay, Watches}
use Rattle.std.specs.Prelude.{MatchBool}
use Rattle.web_relay.specs.declared.upstream.TheConstants.{ENDED}
use Rattle.web_relay.specs.Relaying.{LosesPage}
use Rattle.slab.specs.Slab.{with_value}
use Rattle.web_client.specs.Asking.{IsWatcher}
use Rattle.web_relay.specs.Halls.{hall_of}
use Rattle.web_relay.specs.declared.halls.Halls.{Halls}
use Rattle.web_relay.specs.Seeing.{MissesHall, ShowsHall, ShowsPage}

module _ {S : Type 0} (hall after : Hall S) (old mid new : Relay S) (shows : ShowsHall hall after old mid) where
  watches : (b : Bool) → after.is_lost ≡ b → MatchBool b (LosesPage ENDED.now mid new) (new ≡ mid)
      → Watches hall after old new
  watches b lost ends =
      let e : hall.is_lost ≡ b = sym (ap (λ (h : Hall S). h.is_lost) shows.counted) ∙ lost in
      (mid, shows, subst (λ (v : Bool). MatchBool v (LosesPage ENDED.now mid new) (new ≡ mid)) (sym e) ends)

  pub watches_last : after.is_lost ≡ true → LosesPage ENDED.now mid new → Watches hall after old new
  watches_last lost loses = watches true lost loses

  pub watches_on : after.is_lost ≡ false → new ≡ mid → Watches hall after old new
  watches_on lost same = watches false lost same

module _ {S : Type 0} where
  -- a browser keeps its hall as it is told that there is none
  pub misses_hall : (found : Option HallNumber) (old new : Relay S) → MissesHall found old new → new.hall ≡ old.hall
  misses_hall None old new misses = ap (λ (r : Relay S). r.hall) misses.rest
  misses_hall (Some number) old new same = ap (λ (r : Relay S). r.hall) same

module _ {S : Type 0} (halls : Halls S) (old : Relay S) (after : Halls S) (new : Relay S) (number : HallNumber)
    (is : old.hall ≡ Some number) (watches : IsWatcher old.visitor.identity) where
  same : (other : HallNumber) → old.hall ≡ Some other → number ≡ other
  same other e = let s : Some number ≡ Some other = sym is ∙ e in cc

  -- a browser that watches was shown the page of its hall
  pub shows_hall : (hall_of halls.list number ≡ None → (after ≡ halls) × LosesPage ENDED.now old new)
      → ((hall : Hall S) → hall_of halls.list number ≡ Some hall → (then : Hall S)
      × (after ≡ record halls { list = with_value halls.list number.place then }) × Watches hall then old new)
      → ShowsPage halls old after new
  shows_hall gone there = record {
    own = λ no. absurd (no watches);
    none = λ _ e. absurd (let wrong : None ≡ Some number = sym e ∙ is in cc);
    gone = λ _ other e.
        subst (λ (n : HallNumber). hall_of halls.list n ≡ None → (after ≡ halls) × LosesPage ENDED.now old new)
        (same other e) gone;
    hall = λ _ other hall e.
        subst (λ (n : HallNumber). hall_of halls.list n ≡ Some hall → (then : Hall S)
        × (after ≡ record halls { list = with_value halls.list n.place then }) × Watches hall then old new)
        (same other e) (there hall);
  }
