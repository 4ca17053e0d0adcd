use Rattle.hub_ledger.proofs.Vocabulary.{◌∙◌, ◌∷◌, ◌++◌, [], Bool, List, false, ap, sym, Vec, Global, map_push, Sent}
use Rattle.hub_ledger.proofs.Vocabulary.{views}
use Rattle.std.proofs.lemmas.Grind.{replicate_next}
use Rattle.hub_ledger.proofs.waiting.SeatEffects.new.Goals as goal

pub seats-preserved : goal.seats-preserved
seats-preserved c = record {
  lists = ap views c.in_ok-push.ensures.items
      ∙ map_push (λ (v : Vec Sent Global). v.items) c.seats.lists.items c.new.result
      ∙ (λ i. c.seats.invariant.lists i ++ c.new.ensures.items i ∷ []) ∙ sym (replicate_next c.seats._seat []);
  marks = c.in_ok-push-2.ensures.items ∙ ap (λ (x : List Bool). x ++ false ∷ []) c.seats.invariant.marks
      ∙ sym (replicate_next c.seats._seat false);
}
