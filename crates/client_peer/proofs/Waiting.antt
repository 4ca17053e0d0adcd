-- What a look does, step after step.
use Rattle.std.proofs.Common.{◌≡◌, ◌∙◌, refl, sym, ap, subst, inl, inr, ◌⊎◌, ℕ, ◌≤◌, ◌-◌, true, false}
use Rattle.std.proofs.Common.{Option, Some, None, IsSome, Result, Ok, Err}
use Rattle.std.specs.Prelude.{IfOk, IsSomeAnd}
use Rattle.client_notice.specs.declared.notice.NoticeTask.{NoticeTask}
use Rattle.client_notice.specs.declared.notice.NoticeTask.TheVariants.{Nothing, Show, TakeAway}
use Rattle.client_typing.specs.Following.{stage_of}
use Rattle.client_words.specs.declared.fault.PeerFault.{PeerFault}
use Rattle.client_peer.specs.declared.looking.PeerTask.{PeerTask}
use Rattle.client_peer.specs.declared.looking.PeerTask.TheVariants as task
use Rattle.client_peer.specs.declared.peer.Peer.{Peer}
use Rattle.client_peer.specs.Acting.{Acts, ActsIf, ActsInTime, Does, IsUnmoved}
use Rattle.client_peer.specs.Looking.{BeginsInTime, DoesNext, IsDone, IsIdle, IsToLeave, LeavesInTime, MayLeave}
use Rattle.client_peer.specs.Looking.{acting, in_time, paired_after}
use Rattle.client_peer.specs.Sending.{MaySend}

pub false_true : false ≡ true → ⊥
false_true e = cc

pub not_none : {T : Type 0} (o : Option T) → o ≡ None → IsSome o → ⊥
not_none o none some = false_true (subst IsSome none some)

is_none : {T : Type 0} (o : Option T) → (IsSome o → ⊥) → o ≡ None
is_none None h = refl
is_none (Some x) h = absurd (h refl)

pub if_ok_by : {T E : Type 0} (r : Result T E) (P Q : T → Type 0) → ((x : T) → P x → Q x) → IfOk r P → IfOk r Q
if_ok_by (Ok x) P Q f p = f x p
if_ok_by (Err e) P Q f p = tt

-- ---- a user who leaves, or stays

module _ (old first : Peer) (now : ℕ) (m : MayLeave old now first) where
  pub was_none : first.times.left_at ≡ None → old.times.left_at ≡ None
  was_none none =
      is_none old.times.left_at
      (λ some. not_none first.times.left_at none
      (subst (λ (p : Peer). IsSome p.times.left_at) (sym (m.left some)) some))

  pub stays_on : first.times.left_at ≡ None → IsToLeave old now → ⊥
  stays_on none to =
      not_none first.times.left_at none (subst IsSome (sym (m.leaves (was_none none) to).0) refl)

  pub leaves_then : (new : Peer) → new.times.left_at ≡ first.times.left_at → new.times.paired ≡ first.times.paired
      → new.typing.leave ≡ first.typing.leave → LeavesInTime old now new
  leaves_then new left paired leave = record {
    left = λ some. left ∙ ap (λ (p : Peer). p.times.left_at) (m.left some);
    leaves = λ none to. (left ∙ (m.leaves none to).0, ap stage_of leave ∙ (m.leaves none to).1);
    stays = λ none not. (
      left ∙ ap (λ (p : Peer). p.times.left_at) (m.stays none not) ∙ none,
      paired ∙ ap (λ (p : Peer). p.times.paired) (m.stays none not),
      leave ∙ ap (λ (p : Peer). p.typing.leave) (m.stays none not),
    );
  }

-- ---- a peer whose user stays, and which ends, perhaps

abbrev pub beside : Peer → ℕ → Peer → Peer
beside old now p = record old {
  times = record old.times { paired = paired_after old now };
  is_final = p.is_final;
  end = p.end;
}

pub beside_by : (old first second third : Peer) (now : ℕ) → MayLeave old now first → first.times.left_at ≡ None
    → second ≡ record first { is_final = second.is_final; end = second.end }
    → third ≡ record second { end = third.end } → third ≡ beside old now third
beside_by old first second third now m none lost late =
    let stays : first ≡ record old { times = record old.times { paired = paired_after old now } } =
    m.stays (was_none old first now m none) (stays_on old first now m none) in
    let whole : third ≡ record old {
      times = record old.times { paired = paired_after old now };
      is_final = second.is_final;
      end = third.end;
    } =
    late
    ∙ ap (λ (q : Peer). record q { end = third.end }) (lost
    ∙ ap (λ (q : Peer). record q { is_final = second.is_final; end = second.end }) stays) in
    subst (λ (q : Peer). q ≡ beside old now q) (sym whole) refl

module _ (old third new : Peer) (now : ℕ) (same : third ≡ beside old now third) where
  -- the peer has ended
  module _ (end : IsSome third.end)
      (last : new ≡ record third { times = record third.times { ended_at = new.times.ended_at } }) where
    whole : new ≡ record (beside old now third) {
      times = record (beside old now third).times { ended_at = new.times.ended_at };
    }
    whole =
        last
        ∙ ap (λ (q : Peer). record q { times = record q.times { ended_at = new.times.ended_at } }) same

    pub rest_end : new ≡ in_time old new
    rest_end = subst (λ (q : Peer). q ≡ in_time old q) (sym whole) refl

    pub acts_end : (next : PeerTask) → (IsToLeave old now → ⊥) → ActsInTime old now next new
    acts_end next not = record {
      leaves = λ l. absurd (not l.1);
      acts = λ n. record {
        acts = λ is. absurd (not_none new.end is.0 (subst IsSome (sym (ap (λ (p : Peer). p.end) last)) end));
        rests = λ closed. (
          (ap (λ (p : Peer). p.frames.items) whole, ap (λ (p : Peer). p.bytes.items) whole),
          ap (λ (p : Peer). p.typing) whole,
          ap (λ (p : Peer). p.notice) whole,
          (ap (λ (p : Peer). p.times.wants_fit) whole, ap (λ (p : Peer). p.times.fit_at) whole),
          ap (λ (p : Peer). p.times.has_typed) whole,
        );
      };
    }

  -- the connection is open
  does_same : (does : NoticeTask) → Does does (beside old now third) now new → Does does old now new
  does_same Nothing d = (d.0, record { fits = d.1.fits; waits = d.1.waits; counts = d.1.counts; rests = d.1.rests })
  does_same Show d = d
  does_same TakeAway d = d

  pub acts_open : (next : PeerTask) → (IsToLeave old now → ⊥) → ActsIf third now next new → ActsInTime old now next new
  acts_open next not a =
      let b : ActsIf (beside old now third) now next new = subst (λ (p : Peer). ActsIf p now next new) same a in
      record {
        leaves = λ l. absurd (not l.1);
        acts = λ n. record {
          acts = λ is.
              let d : Acts (beside old now third) now new = b.acts is in
              record { does = d.does; turn = d.turn; done = does_same d.does d.done; seen = d.seen };
          rests = b.rests;
        };
      }

  pub unmoved : IsUnmoved third new → IsUnmoved old new
  unmoved u = (u.0 ∙ ap (λ (p : Peer). p.frames.items) same, u.1 ∙ ap (λ (p : Peer). p.bytes.items) same)

  pub rest_open : new ≡ acting third new → new ≡ in_time old new
  rest_open last =
      subst (λ (q : Peer). q ≡ in_time old q) (sym (last ∙ ap (λ (q : Peer). acting q new) same)) refl

-- ---- nothing is to be done

pub is_idle : (p : Peer) → p.end ≡ None → (MaySend p → ⊥) → p.is_reopening ≡ false → IsIdle p
is_idle p end none opened = inr (end, none, λ left. opened)

pub not_done : (p : Peer) (now : ℕ) → p.end ≡ None → p.times.left_at ≡ None → IsDone p now → ⊥
not_done p now end left (inl a) =
    subst (λ (o : Option ℕ). IsSomeAnd o (λ at. IsSome p.end ⊎ (IsSome p.loss ⊎ (100 ≤ now - at)))) left a
not_done p now end left (inr d) = not_none p.end end d.0

-- ---- when standard input is begun

pub begins_end : (old third new : Peer) (now : ℕ) (next : PeerTask) → third ≡ beside old now third → IsSome third.end
    → new ≡ record third { times = record third.times { ended_at = new.times.ended_at } } → DoesNext new now next
    → BeginsInTime old now (Ok next) new
begins_end old third new now next same end last does =
    let ended : IsSome new.end = subst IsSome (sym (ap (λ (p : Peer). p.end) last)) end in record {
      once = λ is.
          let e : next ≡ task.Begin = cc in
          absurd (not_none new.end (subst (DoesNext new now) e does).0 ended);
      soon = λ still stays may. absurd (not_none new.end still ended);
      rest = λ other.
          ap (λ (p : Peer). p.times.has_begun) last ∙ ap (λ (p : Peer). p.times.has_begun) same;
    }

pub begins_open : (old third new : Peer) (now : ℕ) (next : Result PeerTask PeerFault)
    → third ≡ beside old now third → BeginsInTime third now next new → BeginsInTime old now next new
begins_open old third new now next same b = record {
  once = λ is. sym (ap (λ (p : Peer). p.times.has_begun) same) ∙ b.once is;
  soon = b.soon;
  rest = λ other. b.rest other ∙ ap (λ (p : Peer). p.times.has_begun) same;
}
