use Rattle.std.proofs.Common.{arith, subst, ap, ◌∙◌, List, ℕ, ◌^◌}
use Rattle.std.specs.Prelude.{slice_set, bit_and, ◌*◌, ◌/◌, ◌%◌, ◌-◌}
use Rattle.server_connections.specs.Marked.{IsSameBut, without_mark}
use Rattle.server_connections.proofs.Marking.{unmarked, unmarked_alone, as_unmarked}
use Rattle.server_connections.proofs.marked.MarkedKeys.unmark.Goals as goal

pub returns-clause-unmarked : goal.returns-clause-unmarked
returns-clause-unmarked c =
    unmarked c.self.inside.words.items c.args.key c.index_mut.result.now
    (omega (arith, c.if-place-len.false, c.len.ensures)) c.index_mut.ensures.value

pub returns-clause-others : goal.returns-clause-others
returns-clause-others c =
    subst (λ (ws : List ℕ). IsSameBut c.args.key ws (slice_set c.self.inside.words.items (c.args.key / 64)
    (bit_and c.index_mut.result.now (2 ^ 64 - 1 - 1 * 2 ^ (c.args.key % 64) % 2 ^ 64)))) c.self.view_is
    (unmarked_alone c.self.inside.words.items c.args.key c.index_mut.result.now
    (omega (arith, c.if-place-len.false, c.len.ensures)) c.index_mut.ensures.value)

pub returns-clause-words : goal.returns-clause-words
returns-clause-words c =
    as_unmarked c.self.inside.words.items c.args.key c.index_mut.result.now
    (omega (arith, c.if-place-len.false, c.len.ensures)) c.index_mut.ensures.value
    ∙ ap (λ (ws : List ℕ). without_mark ws c.args.key) c.self.view_is
