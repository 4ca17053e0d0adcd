use Rattle.std.proofs.Common.{arith, length, take, subst, sym, ap, List, ℕ, ◌≡◌, ◌∙◌, ◌-◌}
use Rattle.server_sending.specs.declared.typists.TypedFrame.{TypedFrame}
use Rattle.server_sending.specs.Written.{AreWithin, frames_of_others, without_frames}
use Rattle.server_sending.proofs.Typing.{within_left, written}
use Rattle.server_sending.proofs.turn.Turn.drop_typed.Goals as goal

pub invariant_of-self : goal.invariant_of-self
invariant_of-self c =
    let user = c.args.user in
    let typed : List TypedFrame = c.self.inside.typed.items in
    let bytes : List ℕ = c.as_mut_slice.result.now in
    let left = c.drop_frames-left.result in
    let done = c.drop_frames-left.ensures in
    let frames_are : c.truncate-2.new.self.items ≡ frames_of_others user 0 typed = c.truncate-2.ensures.items
    ∙ ap (take left.frames) (written c.drop_frames-left.new.frames typed c.self.inside.typed.len
    c.self.inside.typed.ok.0 (c.drop_frames-left.auto.frames
    ∙ ap (λ (l : List TypedFrame). length l) c.as_mut_slice-2.ensures.value))
    ∙ done.frames
    ∙ ap (frames_of_others user 0) c.as_mut_slice-2.ensures.value in
    let size : c.truncate.new.self.len ≡ length (without_frames user 0 typed bytes) = c.truncate.new.self.ok.0
    ∙ ap (λ (l : List ℕ). length l) (c.truncate.ensures.items
    ∙ ap (take left.bytes) (written c.drop_frames-left.new.bytes c.let_go.new.bytes.items c.let_go.new.bytes.len
    c.let_go.new.bytes.ok.0 (c.drop_frames-left.auto.bytes ∙ ap (λ (l : List ℕ). length l)
    c.as_mut_slice.ensures.value))
    ∙ done.bytes
    ∙ ap (λ (l : List TypedFrame). without_frames user 0 l bytes) c.as_mut_slice-2.ensures.value) in
    let before : AreWithin 0 typed (length bytes) = subst (AreWithin 0 typed)
    (omega (arith, c.as_mut_slice.ensures.len, c.let_go.ensures.len)) c.self.invariant.2 in (
      omega arith,
      λ e. omega (
        arith,
        c.self.invariant.1 e,
        c.let_go.ensures.room,
        c.let_go.ensures.len,
        c.truncate.ensures.capacity,
        c.truncate.ensures.len,
      ),
      subst (λ (l : List TypedFrame). AreWithin 0 l (c.truncate.new.self.len - 0)) (sym frames_are)
          (within_left user typed bytes c.truncate.new.self.len before size),
    )
