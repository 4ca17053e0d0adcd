use Rattle.trail_setup.proofs.Vocabulary.{◌∙◌, ◌++◌, [], Bool, List, ap, sym, subst, take, slice_index_or, OnOk, Option}
use Rattle.trail_setup.proofs.Vocabulary.{flat_map, take_more, joins_next, take_past, HoldWords, Kind, PutsLines}
use Rattle.trail_setup.proofs.Vocabulary.{kind_of, known_in, mask_kind, word_of, words_in, words_of}
use Rattle.trail_setup.proofs.Putting.{rewritten}
use Rattle.trail_setup.proofs.masks.SetupMasks.push_of.Goals as goal

pub loop-user-preserved : goal.loop-user-preserved
loop-user-preserved c = (
  ap kind_of c.in_ok-put_said.ensures.form ∙ c.loop-user.invariant.0,
  (λ edition owner h s.
      (let users = c.args.self.now.users.now in
      let i = c.loop-user.user-index in
      let u = slice_index_or users i (record { name = [] }) in
      let text = word_of c.args.is_later owner h (known_in c.args.self.now) c.args.by in
      let out = c.args.out.now.items in
      let kind = c.loop-user.invariant.0 in
      rewritten (kind_of c.loop-user.lines.form) (mask_kind c.args.head.now) out _ _ _ _ kind
      (ap (λ (b : Option (List Bool)). flat_map text (take i users) ++ words_in u b)
      (c.said_of-said.ensures edition owner h s)
      ∙ joins_next text users i u (take_more users i _ c.loop-user-test.true))
      (c.in_ok-put_said.ensures.holds out (flat_map text (take i users))
      (subst (λ (k : Kind). HoldWords k out (flat_map text (take i users)) c.loop-user.out.items
      c.loop-user.lines.line.items) (sym kind) (c.loop-user.invariant.1 edition owner h s))))),
)

pub returns : goal.returns
returns c = λ edition owner h s.
    let m = known_in c.args.self.now in
    let out = c.args.out.now.items in
    let words = words_of c.args.is_later owner h m c.args.by in
    let kind = c.loop-user.invariant.0 in
    subst (λ (k : Kind). OnOk c.end.result (PutsLines k out words c.end.new.out.items)) kind
    (c.end.ensures.puts out words (rewritten _ _ out _ words _ _ (sym kind)
    (ap (flat_map (word_of c.args.is_later owner h m c.args.by))
    (take_past c.loop-user.user-index c.args.self.now.users.now c.loop-user-test.false))
    (c.loop-user.invariant.1 edition owner h s)))
