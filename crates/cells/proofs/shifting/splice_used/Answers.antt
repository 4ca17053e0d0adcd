use Rattle.cells.proofs.Vocabulary.{◌≡◌, ◌+◌, ◌-◌, ◌≤◌, [], ◌++◌, List, length, replicate, take, drop, refl, ap, ◌∙◌}
use Rattle.cells.proofs.Vocabulary.{inl, inr, ◌⊎◌, ⊎_elim, arith, length-take, length-replicate, cases_lt, Cell, blank}
use Rattle.cells.proofs.Vocabulary.{cells_from, spliced}
use Rattle.cells.proofs.PuttingWhole.{put_none}
use Rattle.cells.proofs.UsedSplices.{blanks_at, front_paired, front_spliced, splices_are_one}
use Rattle.cells.proofs.shifting.splice_used.Goals as goal

pub returns-then-used-at-clause-value : goal.returns-then-used-at-clause-value
returns-then-used-at-clause-value c =
    put_none c.args.at [] c.args.cells.now refl c.requires.used.paired
    ∙ splices_are_one c.args.at [] (replicate c.args.count blank) (c.args.at + 0) c.args.rest c.args.used
    c.args.cells.now (blanks_at 0) (blanks_at c.args.count)
    (omega arith) (omega arith) c.requires.used.paired c.requires.used.blank

pub returns-then-used-rest-clause-value : goal.returns-then-used-rest-clause-value
returns-then-used-rest-clause-value c =
    c.erase.ensures
    ∙ splices_are_one c.args.at (replicate (c.args.used - c.args.at) blank) (replicate c.args.count blank) c.args.used
    c.args.rest c.args.used c.args.cells.now (blanks_at _) (blanks_at _)
    (omega arith) (omega arith) c.requires.used.paired c.requires.used.blank

pub splice-requires-clause-paired : goal.splice-requires-clause-paired
splice-requires-clause-paired c = front_paired c.max.result c.args.cells.now
    (λ k h. c.requires.used.blank k (omega arith)) c.requires.used.paired

pub returns-clause-value : goal.returns-clause-value
returns-clause-value c =
    let cells : List Cell = c.args.cells.now in
    let end = c.max.result in
    let fresh : List Cell = replicate c.args.count blank in
    let count : length fresh ≡ c.args.count = length-replicate c.args.count blank in
    let inside : end ≤ length cells = omega
    (arith, c.max.ensures, c.min.ensures, c.requires.used.inside, c.requires.room) in
    let width : length (take end cells) ≡ end = simp length-take (omega arith) in
    let room : c.args.at + length fresh ≤ end = omega (arith, count, c.max.ensures, c.min.ensures) in
    let order : c.args.used ≤ end = omega (arith, c.max.ensures) in
    let enough : (end ≡ length cells) ⊎ (c.args.used + (c.args.at + length fresh) ≤ end + c.args.rest) = ⊎_elim
    (λ a. inr (omega (arith, count, c.max.ensures, c.min.ensures, a)))
    (λ a. inl (omega (arith, c.max.ensures, c.min.ensures, c.requires.used.inside, c.requires.room, a)))
    (cases_lt (c.args.used - c.args.rest) (length cells - (c.args.at + c.args.count))) in
    ap (λ (x : List Cell). x ++ drop end cells) c.splice.ensures
    ∙ ap (λ n. cells_from (spliced c.args.at fresh c.args.rest n) (take end cells) ++ drop end cells) width
    ∙ front_spliced c.args.at fresh c.args.rest c.args.used end cells room order inside enough c.requires.used.paired
    c.requires.used.blank
