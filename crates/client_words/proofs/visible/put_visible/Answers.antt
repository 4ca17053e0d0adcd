use Rattle.std.proofs.Common.{◌≡◌, ◌+◌, ◌-◌, ◌++◌, ◌∷◌, [], ℕ, List, drop, take, length, get_or, ap, ap₂, sym, ◌∙◌}
use Rattle.std.proofs.Common.{append-nil, append_assoc, arith}
use Rattle.std.proofs.lemmas.Grind.{common_steps}
use Rattle.std.specs.declared.vec.Vec.{Vec}
use Rattle.std.specs.declared.alloc.Global.{Global}
use Rattle.client_words.specs.Visible.{visible, visible_behind, piece, written, further}
use Rattle.client_words.proofs.Shown.{behind_more, behind_first, behind_end}
use Rattle.client_words.proofs.visible.put_visible.Goals.{then-skip-gt0, else-skip-gt0+in_ok-put}
use Rattle.client_words.proofs.visible.put_visible.Goals as goal

pub loop-at-preserved : goal.loop-at-preserved
loop-at-preserved c =
    let text : List ℕ = c.args.text.now in
    let i : ℕ = c.loop-at.at in
    let x : ℕ = get_or text i 0 in
    let rest : List ℕ = drop (i + 1) text in
    let out : List ℕ = c.loop-at.out.items in
    let skip : ℕ = c.loop-at.skip in
    let all : drop i text ≡ x ∷ rest = grind (arith, common_steps) in
    let so_far : out ++ visible_behind skip (x ∷ rest) ≡ c.args.out.now.items ++ visible text = ap
    (λ (l : List ℕ). out ++ visible_behind skip l) (sym all) ∙ c.loop-at.invariant in
    elim c.if-skip-gt0.branch [
      | then-skip-gt0 w ↦
          ap₂ (λ (l : List ℕ) n. l ++ visible_behind n rest) (ap (λ (v : Vec ℕ Global). v.items) w.out-is) w.skip-is
          ∙ ap (λ (l : List ℕ). out ++ l) (sym (behind_more skip x rest w.if-skip-gt0.true))
          ∙ so_far
      | else-skip-gt0+in_ok-put w ↦
          let whole : take (length text - (i + 1)) rest ≡ rest = grind (arith, common_steps) in
          let p : w.of-piece.result ≡ piece x rest = w.of-piece.ensures ∙ ap (piece x) whole in
          let here : c.if-skip-gt0.out.items ≡ out ++ written (piece x rest) x = ap (λ (v : Vec ℕ Global). v.items)
          w.out-is ∙ w.in_ok-put.ensures ∙ ap (λ q. out ++ written q x) p in
          let later : c.if-skip-gt0.skip ≡ further (piece x rest) = w.skip-is ∙ w.further-skip.ensures ∙ ap further p in
          let none : skip ≡ 0 = omega (arith, w.if-skip-gt0.false) in
          ap₂ (λ (l : List ℕ) n. l ++ visible_behind n rest) here later
          ∙ append_assoc out (written (piece x rest) x) (visible_behind (further (piece x rest)) rest)
          ∙ ap (λ (l : List ℕ). out ++ l) (sym (behind_first x rest))
          ∙ ap (λ n. out ++ visible_behind n (x ∷ rest)) (sym none)
          ∙ so_far
    ]

pub returns : goal.returns
returns c =
    let text : List ℕ = c.args.text.now in
    let out : List ℕ = c.loop-at.out.items in
    let end : drop c.loop-at.at text ≡ [] = grind (arith, common_steps) in
    sym (append-nil out) ∙ ap (λ (l : List ℕ). out ++ l) (sym (behind_end c.loop-at.skip))
    ∙ ap (λ (l : List ℕ). out ++ visible_behind c.loop-at.skip l) (sym end) ∙ c.loop-at.invariant
