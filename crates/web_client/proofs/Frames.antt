-- Frames that are read one after another.
use Rattle.std.proofs.Common.{◌≡◌, ◌⊎◌, ℕ, suc, ◌+◌, Bool, false, true, List, ◌++◌, take, drop, length, Option}
use Rattle.std.proofs.Common.{option_map, Result, Ok, Err, ◌≤◌, ◌-◌, refl, sym, ap, ◌∙◌, subst, inl, inr, arith}
use Rattle.std.proofs.Common.{append_assoc}
use Rattle.std.proofs.Math.Seq.{take-append_seam}
use Rattle.std.proofs.lemmas.List.{drop-drop, drop-take, drop_at, length-take}
use Rattle.websocket.specs.declared.error.Error.{Error}
use Rattle.websocket.specs.declared.protocol.context.Step.{Step}
use Rattle.websocket.specs.declared.protocol.frame.codec.FrameStatus.{FrameStatus}
use Rattle.websocket.specs.declared.protocol.frame.codec.FrameStatus.TheVariants.{Partial, Complete}
use Rattle.websocket.specs.declared.protocol.frame.coding.CloseCode.TheVariants.{Policy}
use Rattle.websocket.specs.Content.{Content, received_content}
use Rattle.websocket.specs.Connection.{Connection, Effect, Sends}
use Rattle.websocket.specs.View.{Returns, ReadLeaves}
use Rattle.web_client.specs.declared.identity.Identity.{Identity}
use Rattle.web_client.specs.declared.visitor.TheConstants.{NOT_UNDERSTOOD}
use Rattle.web_client.specs.declared.wire.Phase.TheVariants.{Socket, Last}
use Rattle.web_client.specs.declared.wire.Wire.{Wire}
use Rattle.web_client.specs.declared.frame.PageFrame.{PageFrame}
use Rattle.web_client.specs.declared.frame.PageFrame.TheVariants as frame
use Rattle.web_client.specs.Frames.{Page, Says, SaysNothing, Closes, IsSaid, BeginsWith, IsRead, Reads, GoesOn}
use Rattle.web_client.specs.Frames.{EndsWith, TakesMessage, answered_after, TakesFrame, TakesFrames, EndsAt, TakesSome}
use Rattle.web_client.specs.Frames.{IsSentBy, Replies, TellsOut}
use Rattle.web_client.specs.Rows.{Closes as ClosesBy}

-- what was lent of a list from a place on, and given back
pub behind : (n k : ℕ) (a r post rest : List ℕ) → n ≤ length a → k ≡ length a → length r ≡ length a - n
    → drop n (take k ((take n a ++ (r ++ post)) ++ rest)) ≡ r
behind n k a r post rest l e d =
    let whole : k ≡ n + length r = omega (arith, l, e, d) in
    let front : length (take n a) ≡ n = omega (arith, l, length-take n a) in
    ap (λ (i : ℕ). drop n (take i ((take n a ++ (r ++ post)) ++ rest))) whole
    ∙ drop-take n (length r) ((take n a ++ (r ++ post)) ++ rest)
    ∙ ap (λ (x : List ℕ). take (length r) (drop n x)) (append_assoc (take n a) (r ++ post) rest)
    ∙ ap (λ (x : List ℕ). take (length r) x) (drop_at (take n a) ((r ++ post) ++ rest) n front)
    ∙ ap (λ (x : List ℕ). take (length r) x) (append_assoc r post rest)
    ∙ take-append_seam r (post ++ rest)

pub completes : (r : Result (FrameStatus (ℕ × Effect)) Error) (input : List ℕ) (step : Step)
    → Returns r input (Complete step) → (f : ℕ × Effect) × (r ≡ Ok (Complete f)) × (step.consumed ≡ f.0)
    × (option_map (received_content input) step.message ≡ f.1.message)
completes (Err e) input step h = absurd h
completes (Ok (Partial n)) input step h = absurd (cc h)
completes (Ok (Complete f)) input step h = (f, refl, h.0, h.1.0)

pub waits : (r : Result (FrameStatus (ℕ × Effect)) Error) (input : List ℕ) (n : ℕ) → Returns r input (Partial n)
    → (needed : ℕ) × (r ≡ Ok (Partial needed))
waits (Err e) input n h = absurd h
waits (Ok (Partial m)) input n h = (m, refl)
waits (Ok (Complete f)) input n h = absurd h

pub leaves : (r : Result (FrameStatus (ℕ × Effect)) Error) (before after : Connection) (old new : List ℕ)
    (f : ℕ × Effect) → ReadLeaves r before after old new → r ≡ Ok (Complete f)
    → (after ≡ f.1.next) × Sends f.1.next.role f.1.reply old new
leaves (Err e) before after old new f h is = absurd h
leaves (Ok (Partial n)) before after old new f h is = absurd (cc is)
leaves (Ok (Complete g)) before after old new f h is =
    let same : g ≡ f = cc is in
    subst (λ (k : ℕ × Effect). (after ≡ k.1.next) × Sends k.1.next.role k.1.reply old new) same
    (h.0, subst (λ (c : Connection). Sends c.role g.1.reply old new) h.0 h.1)

-- ---- a loop over the frames

-- This many frames were taken, and the connection goes on; or fewer, and it has ended.
abbrev pub Went : {A : Type 0} → Option A → ℕ → Page → Page → Type 0
Went watcher count old now =
    (TakesFrames count old now × (now.phase ≡ Socket))
    ⊎ ((n : ℕ) × (last : Page) × TakesFrames n old last × (now.phase ≡ Last) × EndsAt watcher last now)

pub started : {A : Type 0} (watcher : Option A) (p : Page) → p.phase ≡ Socket → Went watcher 0 p p
unfolding TakesFrames
started watcher p e = inl (refl, e)

going : {A : Type 0} (watcher : Option A) (count : ℕ) (old now : Page) → Went watcher count old now
    → now.phase ≡ Socket → TakesFrames count old now
going watcher count old now w e = elim w [ inl h ↦ h.0 | inr h ↦ absurd (cc (e, h.3)) ]

one_more : (n : ℕ) (old between new : Page) → TakesFrames n old between → TakesFrame between new
    → TakesFrames (suc n) old new
unfolding TakesFrames
one_more n old between new k t = (between, k, t)

next_one : (n : ℕ) (old between new : Page) → TakesFrames n old between → TakesFrame between new
    → TakesFrames (n + 1) old new
next_one n old between new k t =
    let e : suc n ≡ n + 1 = omega arith in
    subst (λ (m : ℕ). TakesFrames m old new) e (one_more n old between new k t)

pub after_other : {A : Type 0} (watcher : Option A) (count : ℕ) (old now next : Page) → Went watcher count old now
    → now.phase ≡ Socket → Reads now frame.Other next → next.identity ≡ now.identity → Went watcher (count + 1) old next
after_other watcher count old now next w e r s =
    let k = going watcher count old now w e in
    inl (
      next_one count old now next k (record { frame = r.0; read = r.1; taken = inl (r.2, s) }),
      r.1.phase ∙ e,
    )

pub after_message : {A : Type 0} (watcher : Option A) (message : List ℕ) (count : ℕ) (old now read next : Page)
    → Went watcher count old now → now.phase ≡ Socket
    → ((f : ℕ × Effect) × IsRead f now read × Says f.1.message message) → read.identity ≡ now.identity
    → TakesMessage watcher message read next → Went watcher (count + 1) old next
after_message watcher message count old now read next w e r s t =
    let k = going watcher count old now w e in
    elim t [
      | inl h ↦ inl (
        next_one count old now next k (record {
          frame = r.0;
          read = record {
            next = r.1.next;
            replies = subst (λ (l : List ℕ). Sends r.0.1.next.role r.0.1.reply now.output l) (sym h.output)
                r.1.replies;
            phase = h.phase ∙ r.1.phase;
            socket = h.socket ∙ r.1.socket;
            waiting = h.waiting ∙ r.1.waiting;
            answered = h.answered ∙ r.1.answered;
          };
          taken = inr (message, r.2, subst (λ (v : Identity). GoesOn v message next.identity) s h.identity);
        }),
        h.phase ∙ (r.1.phase ∙ e),
      )
      | inr h ↦ inr (
        count,
        now,
        k,
        h.0,
        inr (r.0, read, message, r.1, s, r.2, h.1),
      )
    ]

-- what was sent says nothing of the bytes that wait
sent_behind : (Sent : Wire → Wire → Type 0) (old new : Page) (a b : List ℕ) → b ≡ a → IsSentBy Sent old new
    → IsSentBy Sent (record old { waiting = a }) (record new { waiting = b })
sent_behind Sent old new a b e h = (
  h.0,
  h.1,
  ap (λ (p : Page). record p { waiting = a }) h.2,
  ap (λ (p : Page). record p { waiting = a }) h.3 ∙ ap (λ (l : List ℕ). record new { waiting = l }) (sym e),
  h.4,
)

ends_behind : {A : Type 0} (watcher : Option A) (message : List ℕ) (old new : Page) (a b : List ℕ) → b ≡ a
    → EndsWith watcher message old new
    → EndsWith watcher message (record old { waiting = a }) (record new { waiting = b })
ends_behind watcher message old new a b e t =
    elim t [
      | inl h ↦ inl (h.0, h.1, sent_behind (ClosesBy Policy NOT_UNDERSTOOD.now) old new a b e h.2)
      | inr h ↦ inr (h.0, h.1, sent_behind (TellsOut new.identity) old new a b e h.2)
    ]

-- a message says nothing of the bytes that wait
pub shifted : {A : Type 0} (watcher : Option A) (message : List ℕ) (old new : Page) (a b : List ℕ) → b ≡ a
    → TakesMessage watcher message old new
    → TakesMessage watcher message (record old { waiting = a }) (record new { waiting = b })
shifted watcher message old new a b e t =
    elim t [
      | inl h ↦ inl (record {
        phase = h.phase;
        socket = h.socket;
        waiting = e;
        answered = h.answered;
        output = h.output;
        identity = h.identity;
      })
      | inr h ↦ inr (h.0, ends_behind watcher message old new a b e h.1)
    ]

-- no frame was read any more
pub after_none : {A : Type 0} (watcher : Option A) (count : ℕ) (old now next : Page) → Went watcher count old now
    → now.phase ≡ Socket → Reads now frame.None next → next.identity ≡ now.identity → TakesSome watcher old next false
after_none watcher count old now next w e r s =
    let k = going watcher count old now w e in
    elim r [
      | inl h ↦ (count, now, k, inl (h.0, h.1))
      | inr h ↦ (
        count,
        now,
        k,
        inr (h.0, inl (h.1, s)),
      )
    ]

-- the loop is over: the connection has ended, or 64 frames were taken
pub finished : {A : Type 0} (watcher : Option A) (count : ℕ) (old now new : Page) (more : Bool)
    → Went watcher count old now → new ≡ now → (more ≡ true → now.phase ≡ Socket) → (now.phase ≡ Socket → more ≡ true)
    → (more ≡ true → count ≡ 64) → TakesSome watcher old new more
finished watcher count old now new true w e on off all =
    (count, now, going watcher count old now w (on refl), (all refl, e))
finished watcher count old now new false w e on off all =
    elim w [
      | inl h ↦ absurd (let bad : false ≡ true = off h.1 in cc)
      | inr h ↦ (
        h.0,
        h.1,
        h.2,
        inr (
          subst (λ (p : Page). p.phase ≡ Last) (sym e) h.3,
          subst (λ (p : Page). EndsAt watcher h.1 p) (sym e) h.4,
        ),
      )
    ]

-- bytes that were read are counted with those that were read before
pub further : (taken count : ℕ) (old new : Page) (said : PageFrame) (items rest : List ℕ)
    → new.waiting ≡ drop (taken + count) items → drop taken items ≡ rest
    → Reads old said (record new { waiting = drop count rest }) → Reads old said new
further taken count old new said items rest w d h =
    let same : new.waiting ≡ drop count rest =
    w ∙ sym (drop-drop count taken items) ∙ ap (λ (l : List ℕ). drop count l) d in
    subst (λ (l : List ℕ). Reads old said (record new { waiting = l })) (sym same) h

-- a frame was read, and this is what it says
pub read_whole : (f : ℕ × Effect) (said : PageFrame) (content : Option Content) (old new : Page) → BeginsWith old f
    → content ≡ f.1.message → IsSaid content said → (new.socket ≡ f.1.next) × Replies f.1 old new
    → new.waiting ≡ drop f.0 old.waiting → new.answered ≡ answered_after content old.answered
    → (said ≡ frame.None → new.phase ≡ Last) → ((said ≡ frame.None → ⊥) → new.phase ≡ old.phase) → Reads old said new
read_whole f frame.None content old new b m h s w a last same =
    inr (last refl, inr (f, b, subst Closes m h, s.1))
read_whole f frame.Other content old new b m h s w a last same = (
  f,
  record {
    next = b;
    replies = s.1;
    phase = same (λ e. cc e);
    socket = s.0;
    waiting = w;
    answered = a ∙ ap (λ (it : Option Content). answered_after it old.answered) m;
  },
  subst SaysNothing m h,
)
read_whole f (frame.Message message) content old new b m h s w a last same = (
  f,
  record {
    next = b;
    replies = s.1;
    phase = same (λ e. cc e);
    socket = s.0;
    waiting = w;
    answered = a ∙ ap (λ (it : Option Content). answered_after it old.answered) m;
  },
  subst (λ (it : Option Content). Says it message.items) m h,
)
