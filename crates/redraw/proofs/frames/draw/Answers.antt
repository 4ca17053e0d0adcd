use Rattle.redraw.proofs.Vocabulary.{◌≡◌, ◌∙◌, [], List, ℕ, subst, sym, ap, Option, Some, None, View, HaveHalves}
use Rattle.redraw.proofs.Vocabulary.{IsDrawable, Knowledge, CanBeShown, DrawsBytes}
use Rattle.redraw.specs.Steps.{Bytes}
use Rattle.redraw.proofs.frames.draw.Goals.{in-None+in_ok-first_bytes-in-None}
use Rattle.redraw.proofs.frames.draw.Goals.{in-Some+in-Some-first_change+in_ok-next_bytes-in-Some}
use Rattle.redraw.proofs.frames.draw.Goals as goal

pub returns-clause-drawn : goal.returns-clause-drawn
returns-clause-drawn c =
    let v : View = c.args.view.now in
    let at : List ℕ → List ℕ → Option View → Type 0 = λ before after known. CanBeShown known → IsDrawable v
    → DrawsBytes known v before after in
    elim c.match-shadow.branch [
      | in-None+in_ok-first_bytes-in-None w ↦
          let is : c.args.shadow.now.known ≡ None = sym (ap (λ (k : Knowledge). k.known) c.shadow.view_is)
          ∙ w.in-None.is in
          subst (at [] c.match-shadow.bytes.items) (sym is) (λ shown drawable.
          subst (λ (b : Bytes). DrawsBytes None v [] b.items) (sym w.bytes-is)
          (subst (λ (bs : List ℕ). DrawsBytes None v bs w.first_bytes.new.out.items) c.new-bytes.ensures.items
          (w.in_ok-first_bytes-in-None.ensures drawable)))
      | in-Some+in-Some-first_change+in_ok-next_bytes-in-Some w ↦
          let is : c.args.shadow.now.known ≡ Some w.in-Some.last = sym
          (ap (λ (k : Knowledge). k.known) c.shadow.view_is) ∙ w.in-Some.is in
          subst (at [] c.match-shadow.bytes.items) (sym is) (λ shown drawable.
          subst (λ (b : Bytes). DrawsBytes (Some w.in-Some.last) v [] b.items) (sym w.bytes-is)
          (subst (λ (bs : List ℕ). DrawsBytes (Some w.in-Some.last) v bs w.next_bytes.new.out.items)
          c.new-bytes.ensures.items
          (subst
          (λ (old : View). HaveHalves old.page
          → DrawsBytes (Some old) v c.new-bytes.result.items w.next_bytes.new.out.items) w.get-last.ensures.value
          (λ halves. w.in_ok-next_bytes-in-Some.ensures halves drawable) shown)))
    ]
