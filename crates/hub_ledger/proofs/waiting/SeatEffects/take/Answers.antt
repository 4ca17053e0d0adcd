use Rattle.hub_ledger.proofs.Vocabulary.{ap, ◌∙◌, Vec, Global, map-set, Sent, views}
use Rattle.std.specs.Prelude.{slice_set}
use Rattle.hub_ledger.proofs.waiting.SeatEffects.take.Goals as goal

pub returns-clause-lists : goal.returns-clause-lists
returns-clause-lists c =
    map-set (λ v. v.items) c.args.self.now.lists.items c.args.seat c.replace-effects.new.dest
    ∙ ap (λ w. slice_set (views c.args.self.now.lists.items) c.args.seat w)
    (ap (λ (v : Vec Sent Global). v.items) c.replace-effects.ensures.after ∙ c.new.ensures.items)
