use Rattle.std.proofs.Common.{arith, subst, ap, ◌∙◌, List, ℕ, ◌^◌}
use Rattle.std.specs.Prelude.{slice_set, bit_or, ◌*◌, ◌/◌, ◌%◌}
use Rattle.server_connections.specs.Marked.{IsSameBut, with_mark}
use Rattle.server_connections.proofs.Marking.{marked, marked_alone, as_marked}
use Rattle.server_connections.proofs.marked.MarkedKeys.mark.Goals as goal

pub returns-clause-marked : goal.returns-clause-marked
returns-clause-marked c room =
    marked c.self.inside.words.items c.args.key c.index_mut.result.now
    (omega (arith, c.if-place-len.false, c.len.ensures)) c.index_mut.ensures.value

pub returns-clause-others : goal.returns-clause-others
returns-clause-others c =
    subst (λ (ws : List ℕ). IsSameBut c.args.key ws (slice_set c.self.inside.words.items (c.args.key / 64)
    (bit_or c.index_mut.result.now (1 * 2 ^ (c.args.key % 64) % 2 ^ 64)))) c.self.view_is
    (marked_alone c.self.inside.words.items c.args.key c.index_mut.result.now
    (omega (arith, c.if-place-len.false, c.len.ensures)) c.index_mut.ensures.value)

pub returns-clause-words : goal.returns-clause-words
returns-clause-words c =
    as_marked c.self.inside.words.items c.args.key c.index_mut.result.now
    (omega (arith, c.if-place-len.false, c.len.ensures)) c.index_mut.ensures.value
    ∙ ap (λ (ws : List ℕ). with_mark ws c.args.key) c.self.view_is
