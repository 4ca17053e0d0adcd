use Rattle.std.proofs.Common.{◌≡◌, List, ℕ, ◌≤◌, length, drop, refl, sym, ap, subst, arith, rules, true}
use Rattle.web_client.specs.declared.frame.PageFrame.{PageFrame}
use Rattle.web_client.specs.Frames.{page, page_after, stands, Reads, TakesMessage}
use Rattle.web_client.proofs.Adding.{then_same, then_more, nothing}
use Rattle.web_client.proofs.Answering.{leaves_all, leaves_both}
use Rattle.web_client.proofs.Frames.{started, after_other, after_message, finished, shifted}
use Rattle.web_client.proofs.visitor.Visitor.read_frames.Goals as goal
use Rattle.web_client.proofs.visitor.Visitor.read_frames.Goals.{else-frames-test, then-frames-test+else-count-lt-FRAMES}

pub frames-init : goal.frames-init
frames-init c = record {
  went = started c.args.site.now.watcher (page c.args.self.now) c.requires;
  within = omega arith;
  few = omega arith;
  asks = nothing c.args.self.now.identity;
  leaves = leaves_all c.args.self.now;
}

pub frames-preserved-in-Other : goal.frames-preserved-in-Other
frames-preserved-in-Other c =
    let r = subst (λ (f : PageFrame). Reads (page_after c.frames.taken c.frames.self) f
    (page_after c.read_frame.new.taken c.read_frame.new.self)) c.in-Other.is c.in_ok-read_frame.ensures.reads in
    record {
      went = after_other c.args.site.now.watcher c.frames.count (page c.args.self.now)
          (page_after c.frames.taken c.frames.self) (page_after c.read_frame.new.taken c.read_frame.new.self)
          c.frames.invariant.went (c.frames-test.ensures.0 refl) r c.read_frame.ensures.identity;
      within = omega (arith, c.read_frame.ensures.within, c.read_frame.new.self.input.ok);
      few = omega (arith, c.if-count-lt-FRAMES.true);
      asks = then_same c.args.self.now.identity c.frames.self.identity c.read_frame.new.self.identity
          c.frames.invariant.asks
          c.read_frame.ensures.identity;
      leaves = leaves_both _ _ _ c.frames.invariant.leaves c.in_ok-read_frame.ensures.leaves;
    }

pub frames-preserved : goal.frames-preserved
frames-preserved c =
    let r = subst (λ (f : PageFrame). Reads (page_after c.frames.taken c.frames.self) f
    (page_after c.read_frame.new.taken c.read_frame.new.self)) c.in-Message.is c.in_ok-read_frame.ensures.reads in
    record {
      went = after_message c.args.site.now.watcher c.in-Message.message.items c.frames.count (page c.args.self.now)
          (page_after c.frames.taken c.frames.self) (page_after c.read_frame.new.taken c.read_frame.new.self)
          (page_after c.read_frame.new.taken c.take_message.new.self) c.frames.invariant.went
          (c.frames-test.ensures.0 refl) r c.read_frame.ensures.identity
          (shifted c.args.site.now.watcher c.in-Message.message.items (page c.read_frame.new.self)
          (page c.take_message.new.self) (drop c.read_frame.new.taken c.read_frame.new.self.input.items)
          (drop c.read_frame.new.taken c.take_message.new.self.input.items)
          (ap (λ (l : List ℕ). drop c.read_frame.new.taken l) c.take_message.ensures.input)
          (subst (λ (l : List ℕ). TakesMessage c.args.site.now.watcher l (page c.read_frame.new.self)
          (page c.take_message.new.self)) c.deref.ensures.value c.in_ok-take_message-in-Message.ensures.takes));
      within =
          let before : c.read_frame.new.taken ≤ length c.read_frame.new.self.input.items =
          omega (arith, c.read_frame.ensures.within, c.read_frame.new.self.input.ok) in
          subst (λ (l : List ℕ). c.read_frame.new.taken ≤ length l) (sym c.take_message.ensures.input) before;
      few = omega (arith, c.if-count-lt-FRAMES.true);
      asks = then_more c.args.self.now.identity c.frames.self.identity c.read_frame.new.self.identity
          c.take_message.new.self.identity c.frames.invariant.asks
          c.read_frame.ensures.identity c.take_message.ensures.asks;
      leaves = leaves_both _ _ _ (leaves_both _ _ _ c.frames.invariant.leaves c.in_ok-read_frame.ensures.leaves)
          c.in_ok-take_message-in-Message.ensures.leaves;
    }

pub returns-clause-takes : goal.returns-clause-takes
returns-clause-takes c =
    let v = c.frames.self in
    let same = ap (λ (l : List ℕ). stands v.wire l v.identity) c.drop_front-2.ensures in
    let all : c.is_open-2.result ≡ true → c.frames.count ≡ 64 = λ on.
    elim c.frames-test.branch [
      | then-frames-test+else-count-lt-FRAMES w ↦ omega (arith, w.if-count-lt-FRAMES.false, c.frames.invariant.few)
      | else-frames-test w ↦ search (rules, on)
    ] in (
      finished c.args.site.now.watcher c.frames.count (page c.args.self.now) (page_after c.frames.taken v) _
          c.is_open-2.result c.frames.invariant.went same c.is_open-2.ensures.0 c.is_open-2.ensures.1 all,
      search rules,
    )

pub returns-in_err-take_message-in-Message-clause-asks : goal.returns-in_err-take_message-in-Message-clause-asks
returns-in_err-take_message-in-Message-clause-asks c =
    then_more c.args.self.now.identity c.frames.self.identity c.read_frame.new.self.identity
    c.take_message.new.self.identity
    c.frames.invariant.asks c.read_frame.ensures.identity c.take_message.ensures.asks
