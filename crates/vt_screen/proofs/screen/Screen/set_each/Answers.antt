use Rattle.vt_screen.proofs.Vocabulary.{sym, subst, ◌∙◌, get_or, ℕ, List, Option, arith, drop_more, drop_all, Action}
use Rattle.vt_screen.proofs.Vocabulary.{alone, each, meaning, Stored, Performs}
use Rattle.vt_screen.proofs.Turns.{performs-on, performs-none}
use Rattle.vt_screen.proofs.screen.Screen.set_each.Goals.{in-Some, in_default}
use Rattle.vt_screen.proofs.screen.Screen.set_each.Goals as goal

pub loop-value-preserved : goal.loop-value-preserved
loop-value-preserved c = λ new h.
    let here : Option Action = meaning c.args.setting (get_or c.args.values.now c.loop-value.value-index 0) in
    let one : Performs c.loop-value.self (alone here) c.match-action.self = elim c.match-action.branch [
      | in-Some w ↦ subst (λ (x : Stored). Performs c.loop-value.self (alone here) x) (sym w.self-is)
          (subst (λ (o : Option Action). Performs c.loop-value.self (alone o) w.perform.new.self)
          (sym w.in-Some.is ∙ c.action.ensures.value)
          w.perform.ensures)
      | in_default w ↦ subst (λ (x : Stored). Performs c.loop-value.self (alone here) x) (sym w.self-is)
          (subst (λ (o : Option Action). Performs c.loop-value.self (alone o) c.loop-value.self)
          (sym w.in_default.is ∙ c.action.ensures.value)
          (performs-none c.loop-value.self))
    ] in
    c.loop-value.invariant new
    (subst (λ (values : List ℕ). Performs c.loop-value.self (each (meaning c.args.setting) values) new)
    (sym (drop_more c.args.values.now c.loop-value.value-index 0 (omega arith)))
    (performs-on c.loop-value.self c.match-action.self new here _ one h))

pub returns : goal.returns
returns c =
    c.loop-value.invariant c.loop-value.self
    (subst (λ (values : List ℕ). Performs c.loop-value.self (each (meaning c.args.setting) values) c.loop-value.self)
    (sym (drop_all c.loop-value.value-index c.args.values.now (omega arith))) (performs-none c.loop-value.self))
