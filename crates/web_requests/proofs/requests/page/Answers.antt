use Rattle.std.proofs.Common.{◌≡◌, List, ℕ, ◌++◌, length, append_assoc, append-nil, ap, sym, ◌∙◌}
use Rattle.std.specs.declared.alloc.Global.{Global}
use Rattle.std.specs.declared.vec.Vec.{Vec}
use Rattle.web_requests.specs.Serving.{guards, head_of, reply}
use Rattle.web_requests.proofs.requests.page.Goals as goal
use Rattle.web_requests.proofs.requests.page.Goals.{then-is_shown+in_ok-extend_from_slice-2, else-is_shown}

pub returns : goal.returns
unfolding reply
returns c =
    let head = head_of c.args.status.now c.args.kind.now (length c.args.body.now) in
    let front : c.extend_from_slice.new.self.items ≡ head ++ guards =
    c.in_ok-extend_from_slice.ensures.items
    ∙ (ap (λ (l : List ℕ). l ++ c.guards.result.now)
    (ap (λ (v : Vec ℕ Global). v.items) c.into_bytes-bytes.ensures.value ∙ c.in_ok-head.ensures)
    ∙ ap (λ (l : List ℕ). head ++ l) c.guards.ensures) in
    elim c.if-is_shown.branch [
      | then-is_shown+in_ok-extend_from_slice-2 w ↦ rw (w.bytes-is, w.if-is_shown.true)
          (w.in_ok-extend_from_slice-2.ensures.items ∙ (ap (λ (l : List ℕ). l ++ c.args.body.now) front
          ∙ append_assoc head guards c.args.body.now))
      | else-is_shown w ↦ rw (w.bytes-is, w.if-is_shown.false)
          (front ∙ ap (λ (l : List ℕ). head ++ l) (sym (append-nil guards)))
    ]
