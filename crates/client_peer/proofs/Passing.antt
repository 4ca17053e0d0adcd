-- What a client passes on, step after step.
use Rattle.std.proofs.Common.{◌≡◌, ℕ, List, [], ◌++◌, refl, sym, ap, ◌∙◌, subst, append-nil, append_assoc}
use Rattle.std.proofs.Common.{Result, Ok, Err, OnErr}
use Rattle.std.specs.Prelude.{IfErr}
use Rattle.client_words.specs.declared.arguments.Subcommand.TheVariants.{Attach}
use Rattle.draw_check.specs.Functions.{BeginDraws}
use Rattle.draw_check.specs.Places.{place_after}
use Rattle.client_peer.specs.declared.peer.Peer.{Peer}
use Rattle.client_peer.specs.Showing.{Adds, Keeps, Passed, PassesOn, StopsAt}

pub passes_keeps : (old new : Peer) → Keeps old new → PassesOn old new
passes_keeps old new k = record {
  subcommand = k.subcommand;
  passes = λ is came begun stands. record {
    passed = record {
      more = [];
      added = k.kept ∙ sym (append-nil old.bytes.items);
      begin = subst BeginDraws (sym (append-nil came)) begun;
    };
    stands = k.draws ∙ stands ∙ ap place_after (sym (append-nil came));
  };
}

pub passes_stops : (old new : Peer) → PassesOn old new → StopsAt old new
passes_stops old new p is came begun stands = (p.passes is came begun stands).passed

module _ (old middle new : Peer) (p : PassesOn old middle) where
  passed_then : (is : old.subcommand ≡ Attach) (came : List ℕ) (begun : BeginDraws came)
      (stands : old.draws ≡ place_after came)
      → Passed middle new (came ++ (p.passes is came begun stands).passed.more) → Passed old new came
  passed_then is came begun stands q =
      let r = p.passes is came begun stands in record {
        more = r.passed.more ++ q.more;
        added = q.added ∙ ap (λ (l : List ℕ). l ++ q.more) r.passed.added
            ∙ append_assoc old.bytes.items r.passed.more q.more;
        begin = subst BeginDraws (append_assoc came r.passed.more q.more) q.begin;
      }

  pub stops_then : StopsAt middle new → StopsAt old new
  stops_then s is came begun stands =
      let r = p.passes is came begun stands in
      passed_then is came begun stands
      (s (p.subcommand ∙ is) (came ++ r.passed.more) r.passed.begin r.stands)

  pub passes_then : PassesOn middle new → PassesOn old new
  unfolding passed_then
  passes_then s = record {
    subcommand = s.subcommand ∙ p.subcommand;
    passes = λ is came begun stands.
        let r = p.passes is came begun stands in
        let q = s.passes (p.subcommand ∙ is) (came ++ r.passed.more) r.passed.begin r.stands in record {
          passed = passed_then is came begun stands q.passed;
          stands = q.stands ∙ ap place_after (append_assoc came r.passed.more q.passed.more);
        };
  }

pub keeps_same : (s : Peer) → Keeps s s
keeps_same s = record { subcommand = refl; draws = refl; kept = refl }

pub passes_same : (s : Peer) → PassesOn s s
passes_same s = passes_keeps s s (keeps_same s)

-- a text that a client hears adds no bytes
pub passes_heard : (old new : Peer) → new.subcommand ≡ old.subcommand
    → (old.subcommand ≡ Attach → Keeps old new) → PassesOn old new
passes_heard old new same k = record {
  subcommand = same;
  passes = λ is came begun stands. (passes_keeps old new (k is)).passes is came begun stands;
}

-- the check has read a draw's bytes, and they are added
pub passes_draw : (old middle new : Peer) (bytes : List ℕ) → middle.subcommand ≡ old.subcommand
    → middle.bytes.items ≡ old.bytes.items
    → ((came : List ℕ) → old.draws ≡ place_after came → middle.draws ≡ place_after (came ++ bytes))
    → ((came : List ℕ) → old.draws ≡ place_after came → BeginDraws (came ++ bytes))
    → Adds middle new bytes → PassesOn old new
passes_draw old middle new bytes same kept read begin a = record {
  subcommand = a.subcommand ∙ same;
  passes = λ is came begun stands. record {
    passed = record {
      more = bytes;
      added = a.added ∙ ap (λ (l : List ℕ). l ++ bytes) kept;
      begin = begin came stands;
    };
    stands = a.draws ∙ read came stands;
  };
}

pub on_err_given : {T E P : Type 0} (r : Result T E) → P → OnErr r P
on_err_given (Ok x) p = tt
on_err_given (Err e) p = p

pub if_err_given : {T E : Type 0} (P : E → Type 0) (r : Result T E) (e : E) → P e → r ≡ Err e → IfErr r P
if_err_given P r e p is = rw is p
