use Rattle.std.proofs.Common.{◌≡◌, ◌<◌, ◌+◌, ◌-◌, ◌∙◌, ◌++◌, [], List, ℕ, true, false, length, take, drop, ap, sym}
use Rattle.std.proofs.Common.{arith, Bool, get_or, set, subst, refl}
use Rattle.std.specs.Prelude.{if◌then◌else◌}
use Rattle.std.proofs.lemmas.List.{drop_more, drop-set-lt}
use Rattle.server_sending.specs.declared.typists.TypedFrame.{TypedFrame}
use Rattle.acl.specs.Same.{same_user}
use Rattle.server_sending.specs.Written.{AreWithin, stays_to, without_frames}
use Rattle.server_sending.proofs.Typing.{frame_next, within_end, bytes_next, his_goes, other_stays}
use Rattle.server_sending.proofs.typists.drop_frames.Goals as goal

pub overflow_add-end : goal.overflow_add-end
overflow_add-end c =
    let next = frame_next c.frames.at c.frames.frames c.frames.i
    (record { user = record { name = [] }; from = 0; len = 0 })
    (length c.frames.bytes) (omega arith) c.frames.invariant.within in
    omega (arith, within_end _ _ _ next.1)

pub copy_within-requires-clause-in_bounds : goal.copy_within-requires-clause-in_bounds
copy_within-requires-clause-in_bounds c =
    let next = frame_next c.frames.at c.frames.frames c.frames.i
    (record { user = record { name = [] }; from = 0; len = 0 })
    (length c.frames.bytes) (omega arith) c.frames.invariant.within in
    omega (arith, within_end _ _ _ next.1)

pub copy_within-requires-clause-dest_in_bounds : goal.copy_within-requires-clause-dest_in_bounds
copy_within-requires-clause-dest_in_bounds c =
    let next = frame_next c.frames.at c.frames.frames c.frames.i
    (record { user = record { name = [] }; from = 0; len = 0 })
    (length c.frames.bytes) (omega arith) c.frames.invariant.within in
    omega (arith, next.0, within_end _ _ _ next.1, c.frames.invariant.gone_most)

pub overflow_add-gone : goal.overflow_add-gone
overflow_add-gone c =
    let next = frame_next c.frames.at c.frames.frames c.frames.i
    (record { user = record { name = [] }; from = 0; len = 0 })
    (length c.frames.bytes) (omega arith) c.frames.invariant.within in
    omega (arith, next.0, within_end _ _ _ next.1, c.frames.invariant.gone_most)

pub frames-preserved-then-eq : goal.frames-preserved-then-eq
frames-preserved-then-eq c =
    let d : TypedFrame = record { user = record { name = [] }; from = 0; len = 0 } in
    let f : TypedFrame = get_or c.frames.frames c.frames.i d in
    let at : ℕ = c.frames.at in
    let rest : List TypedFrame = drop (c.frames.i + 1) c.frames.frames in
    let lt : c.frames.i < length c.frames.frames = omega arith in
    let next = frame_next at c.frames.frames c.frames.i d (length c.frames.bytes) lt c.frames.invariant.within in
    let fits = within_end _ _ _ next.1 in
    let his : same_user f.user c.args.user ≡ true = sym c.eq.ensures ∙ c.if-eq.true in
    let stays : stays_to c.args.user f ≡ f.from = ap (λ (b : Bool). if b then f.from else f.from + f.len) his in
    record {
      gone_most = omega (arith, next.0, c.frames.invariant.gone_most);
      kept_most = omega (arith, c.frames.invariant.kept_most);
      within = subst (AreWithin (f.from + f.len) rest) (sym c.copy_within.ensures.len) next.1;
      bytes_are = bytes_next c.args.user at (at - c.frames.gone) (f.from - at)
          ((f.from + f.len) - (c.frames.gone + f.len)) f rest c.frames.bytes c.copy_within.new.self (omega arith)
          (omega (arith, next.0, stays)) (omega (arith, stays)) fits c.copy_within.ensures.after
          (omega (arith, next.0, c.frames.invariant.gone_most))
          ∙ ap
          (λ (l : List TypedFrame). take (at - c.frames.gone) c.frames.bytes
          ++ without_frames c.args.user at l (drop at c.frames.bytes))
          (sym (drop_more c.frames.frames c.frames.i d lt))
          ∙ c.frames.invariant.bytes_are;
      frames_are = ap (λ (l : List TypedFrame). take c.frames.kept c.frames.frames ++ l)
          (his_goes c.args.user c.frames.gone c.frames.i c.frames.frames d lt his)
          ∙ c.frames.invariant.frames_are;
    }

pub copy_within-requires-in-frames-clause-in_bounds : goal.copy_within-requires-in-frames-clause-in_bounds
copy_within-requires-in-frames-clause-in_bounds c =
    let next = frame_next c.frames.at c.frames.frames c.frames.i
    (record { user = record { name = [] }; from = 0; len = 0 })
    (length c.frames.bytes) (omega arith) c.frames.invariant.within in
    omega (arith, within_end _ _ _ next.1)

pub copy_within-requires-in-frames-clause-dest_in_bounds : goal.copy_within-requires-in-frames-clause-dest_in_bounds
copy_within-requires-in-frames-clause-dest_in_bounds c =
    let next = frame_next c.frames.at c.frames.frames c.frames.i
    (record { user = record { name = [] }; from = 0; len = 0 })
    (length c.frames.bytes) (omega arith) c.frames.invariant.within in
    omega (arith, next.0, within_end _ _ _ next.1, c.frames.invariant.gone_most)

pub frames-preserved : goal.frames-preserved
frames-preserved c =
    let d : TypedFrame = record { user = record { name = [] }; from = 0; len = 0 } in
    let f : TypedFrame = get_or c.frames.frames c.frames.i d in
    let at : ℕ = c.frames.at in
    let rest : List TypedFrame = drop (c.frames.i + 1) c.frames.frames in
    let lt : c.frames.i < length c.frames.frames = omega arith in
    let next = frame_next at c.frames.frames c.frames.i d (length c.frames.bytes) lt c.frames.invariant.within in
    let fits = within_end _ _ _ next.1 in
    let not_his : same_user f.user c.args.user ≡ false = sym c.eq.ensures ∙ c.if-eq.false in
    let stays : stays_to c.args.user f ≡ f.from + f.len =
    ap (λ (b : Bool). if b then f.from else f.from + f.len) not_his in
    let x : TypedFrame = record f { from = f.from - c.frames.gone } in
    let same : drop (c.frames.i + 1) (set c.frames.frames c.frames.kept x) ≡ rest =
    drop-set-lt (c.frames.i + 1) c.frames.frames c.frames.kept x (omega (arith, c.frames.invariant.kept_most)) in
    record {
      gone_most = omega (arith, next.0, c.frames.invariant.gone_most);
      kept_most = omega (arith, c.frames.invariant.kept_most);
      within = subst (AreWithin (f.from + f.len) (drop (c.frames.i + 1) (set c.frames.frames c.frames.kept x)))
          (sym c.copy_within-in-frames.ensures.len)
          (subst (λ (l : List TypedFrame). AreWithin (f.from + f.len) l (length c.frames.bytes)) (sym same) next.1);
      bytes_are = ap
          (λ (l : List TypedFrame). take ((f.from + f.len) - c.frames.gone) c.copy_within-in-frames.new.self
          ++ without_frames c.args.user (f.from + f.len) l (drop (f.from + f.len) c.copy_within-in-frames.new.self))
          same
          ∙ bytes_next c.args.user at (at - c.frames.gone) ((f.from + f.len) - at)
          ((f.from + f.len) - c.frames.gone) f rest c.frames.bytes c.copy_within-in-frames.new.self (omega arith)
          (omega (arith, next.0, stays)) (omega (arith, stays)) fits c.copy_within-in-frames.ensures.after
          (omega (arith, next.0, c.frames.invariant.gone_most))
          ∙ ap
          (λ (l : List TypedFrame). take (at - c.frames.gone) c.frames.bytes
          ++ without_frames c.args.user at l (drop at c.frames.bytes))
          (sym (drop_more c.frames.frames c.frames.i d lt))
          ∙ c.frames.invariant.bytes_are;
      frames_are = other_stays c.args.user c.frames.gone c.frames.kept c.frames.i c.frames.frames d x lt
          c.frames.invariant.kept_most not_his refl
          ∙ c.frames.invariant.frames_are;
    }
