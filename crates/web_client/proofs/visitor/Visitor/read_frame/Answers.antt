use Rattle.std.proofs.Common.{◌≡◌, ℕ, ◌-◌, ◌≤◌, List, length, drop, arith, refl, sym, ap, ◌∙◌, subst, length-drop}
use Rattle.std.proofs.lemmas.List.{take_rest, length-take}
use Rattle.web_client.specs.Frames.{page_after, stands, Reads}
use Rattle.web_client.proofs.Frames.{further, behind}
use Rattle.web_client.proofs.visitor.Visitor.read_frame.Goals as goal

pub returns-clause-reads : goal.returns-clause-reads
returns-clause-reads c =
    let all = c.as_mut_slice.result.now in
    let within : c.args.taken.now ≤ length all = omega (arith, c.requires, c.as_mut_slice.ensures.len) in
    let lent : length c.read.new.rest ≡ length all - c.args.taken.now =
    omega (
      arith,
      within,
      c.read.auto.rest,
      length-drop c.args.taken.now all,
      length-take (length all - c.args.taken.now) (drop c.args.taken.now all),
    ) in
    further c.args.taken.now c.in_ok-read.read.1 (page_after c.args.taken.now c.args.self.now) _ c.in_ok-read.read.0 _
    c.read.new.rest refl
    (behind c.args.taken.now c.args.self.now.input.len all c.read.new.rest _ _ within
    (sym c.as_mut_slice.ensures.len) lent)
    (subst (λ (l : List ℕ). Reads (stands c.args.self.now.wire l c.args.self.now.identity)
    c.in_ok-read.read.0 (stands c.read.new.self (drop c.in_ok-read.read.1 c.read.new.rest) c.args.self.now.identity))
    (take_rest c.as_mut_slice.result.now c.args.taken.now
    ∙ ap (λ (l : List ℕ). drop c.args.taken.now l) c.as_mut_slice.ensures.value)
    (c.in_ok-read.ensures.reads c.args.self.now.identity))
