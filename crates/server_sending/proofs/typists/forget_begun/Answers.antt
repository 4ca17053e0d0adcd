use Rattle.std.proofs.Common.{◌≡◌, List, ◌++◌, map, rules, length, take, ◌∙◌, ap, arith, append-nil}
use Rattle.std.specs.Prelude.{nat_le}
use Rattle.std.proofs.lemmas.Fn.{filter_same}
use Rattle.std.proofs.lemmas.List.{drop_all, take_all}
use Rattle.server_sending.specs.declared.typists.TypedFrame.{TypedFrame}
use Rattle.server_sending.specs.Written.{moved_up}
use Rattle.server_sending.proofs.typists.forget_begun.Goals as goal

pub returns : goal.returns
returns c =
    let now : List TypedFrame = c.move_up.new.frames in
    let kept : List TypedFrame = c.retain.new.self.items in
    let is : length now ≡ length kept = c.move_up.auto.frames
    ∙ ap (λ (l : List TypedFrame). length l) c.as_mut_slice.ensures.value in
    ap (λ (l : List TypedFrame). take c.retain.new.self.len (now ++ l))
    (drop_all (length now) kept (omega (arith, is)))
    ∙ ap (take c.retain.new.self.len) (append-nil now)
    ∙ take_all c.retain.new.self.len now (omega (arith, is, c.retain.new.self.ok.0))
    ∙ c.move_up.ensures
    ∙ ap (λ (l : List TypedFrame). map (moved_up c.args.written) l)
    (c.as_mut_slice.ensures.value
    ∙ filter_same _ (λ (f : TypedFrame). nat_le c.args.written f.from) _ (λ x b f called. search rules)
    c.args.frames.now.items kept c.retain.ensures.filtered)
