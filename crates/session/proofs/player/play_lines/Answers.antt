use Rattle.session.proofs.Vocabulary.{◌≡◌, ℕ, ◌+◌, ap, ◌∙◌, List, Some, vec_items, Keeps, Trace, StandsFor}
use Rattle.session.proofs.Vocabulary.{IfNotUnderstood, IsBad, PlaysUntil, split_known_bytes, split_byte}
use Rattle.session.proofs.Vocabulary.{reader_remaining, enumerate_source, enumerate_count}
use Rattle.session.proofs.Playing.{none_played}
use Rattle.session.proofs.Parts.{read_ahead, none_read, piece_of, line_on, all_played, stopped_at, if_bad, if_err_same}
use Rattle.session.proofs.player.play_lines.Goals as goal

pub lines-init : goal.lines-init
lines-init g c =
    let same = c.into_iter-past-iterator.ensures.into_iter_gives in (
      ap (λ it. split_byte (enumerate_source it)) same
          ∙ (ap (λ s. split_byte s) c.enumerate-past-items.ensures.source ∙ c.split-lines.ensures.byte),
      λ script known h st. none_read h c.args.session.now script (enumerate_count c.into_iter-past-iterator.result)
          (split_known_bytes (reader_remaining g.R.Read.remaining) (enumerate_source c.into_iter-past-iterator.result))
          (g.W.Write.contents c.args.writer.now)
          (ap (λ it. enumerate_count it) same ∙ c.enumerate-past-items.ensures.count)
          (ap (λ it. split_known_bytes (reader_remaining g.R.Read.remaining) (enumerate_source it)) same
          ∙ (ap (λ s. split_known_bytes (reader_remaining g.R.Read.remaining) s) c.enumerate-past-items.ensures.source
          ∙ (c.split-lines.ensures.bytes
          ∙ read_ahead g.R.Read.remaining c.in_ok-new.field-0 c.args.reader script c.in_ok-new.ensures.inner
          c.in_ok-new.ensures.empty c.in_ok-new.ensures.capacity known)))
          (none_played h c.args.session.now (g.W.Write.contents c.args.writer.now) st),
    )

pub lines-preserved : goal.lines-preserved
lines-preserved g c =
    let steps = c.in-Some.ensures.steps in (
      steps.0.1 ∙ c.lines.invariant.0,
      λ script known h st.
          line_on h script (enumerate_count c.lines.past-iterator) (enumerate_count c.next.new.self)
          (split_known_bytes (reader_remaining g.R.Read.remaining) (enumerate_source c.lines.past-iterator))
          (split_known_bytes (reader_remaining g.R.Read.remaining) (enumerate_source c.next.new.self))
          c.lines.session c.play_line.new.session c.deref.result.now (g.W.Write.contents c.args.writer.now)
          (g.W.Write.contents c.lines.writer) (g.W.Write.contents c.play_line.new.writer)
          (c.lines.invariant.1 script known h st)
          (piece_of vec_items (split_byte (enumerate_source c.lines.past-iterator)) _ _ c.in-Some.line c.in_ok-line.line
          c.deref.result.now c.lines.invariant.0 steps.0.2 c.in_ok-line.was c.deref.ensures.value)
          steps.2 c.in_ok-play_line.ensures.played,
    )

pub returns-in_err-play_line-clause-until : goal.returns-in_err-play_line-clause-until
returns-in_err-play_line-clause-until g c =
    let steps = c.in-Some.ensures.steps in
    let bad : IfNotUnderstood c.in_err-play_line.field-0.0
    (λ n. (n ≡ c.in-Some.past + 1) × IsBad c.deref.result.now
    × Keeps (g.W.Write.contents c.lines.writer) (g.W.Write.contents c.play_line.new.writer)) =
    c.in_err-play_line.ensures.bad in
    let stops : ℕ → Type 0 = λ number. (script : List ℕ) → g.R.Read.remaining c.args.reader ≡ Some script → (h : Trace)
    → StandsFor h c.args.session.now
    → PlaysUntil number h script (g.W.Write.contents c.args.writer.now) (g.W.Write.contents c.play_line.new.writer) in
    if_err_same c.from_residual-in_err-play_line.result c.in_err-play_line.field-0.0
    (λ fault. IfNotUnderstood fault stops) c.from_residual-in_err-play_line.ensures.1
    (if_bad _ stops c.in_err-play_line.field-0.0 bad (λ number is script known h st.
    stopped_at h script (enumerate_count c.lines.past-iterator) number
    (split_known_bytes (reader_remaining g.R.Read.remaining) (enumerate_source c.lines.past-iterator))
    (split_known_bytes (reader_remaining g.R.Read.remaining) (enumerate_source c.next.new.self))
    c.lines.session c.deref.result.now (g.W.Write.contents c.args.writer.now) (g.W.Write.contents c.lines.writer)
    (g.W.Write.contents c.play_line.new.writer)
    (c.lines.invariant.1 script known h st)
    (piece_of vec_items (split_byte (enumerate_source c.lines.past-iterator)) _ _ c.in-Some.line c.in_ok-line.line
    c.deref.result.now c.lines.invariant.0 steps.0.2 c.in_ok-line.was c.deref.ensures.value)
    (is.0 ∙ ap (λ n. n + 1) steps.1) is.1 is.2))

pub returns-clause-whole : goal.returns-clause-whole
returns-clause-whole g c = λ script known h st.
    all_played h script (enumerate_count c.lines.past-iterator)
    (split_known_bytes (reader_remaining g.R.Read.remaining) (enumerate_source c.lines.past-iterator))
    c.lines.session (g.W.Write.contents c.args.writer.now) (g.W.Write.contents c.lines.writer)
    (c.lines.invariant.1 script known h st) c.in-None.ensures.steps.0.2
