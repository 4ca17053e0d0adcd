use Rattle.std.proofs.Common.{◌≡◌, ◌==◌, ◌∙◌, ap, subst, sym, ℕ, zero, suc, List, [], ◌∷◌, ◌++◌, Some, length, slice_get}
use Rattle.std.proofs.Common.{is_some, rules}
use Rattle.server.specs.Starting.{IsStart}
use Rattle.server.specs.declared.loop_handle.LoopStart.{LoopStart}
use Rattle.server.proofs.loop_handle.places.Goals as goal

-- what holds of each place of a list and of the one behind it holds of each place of both
each_more : (P : ℕ → LoopStart → Type 0) (rest : List LoopStart) (s t : LoopStart) (k : ℕ)
    → ((j : ℕ) (u : LoopStart) → slice_get rest j ≡ Some u → P j u) → P (length rest) s
    → slice_get (rest ++ s ∷ []) k ≡ Some t → P k t
each_more P [] s t zero before is at =
    let same : s ≡ t = cc (at) in
    subst (P 0) same is
each_more P [] s t (suc k) before is at = absurd (cc (at))
each_more P (r ∷ rest) s t zero before is at = before 0 t at
each_more P (r ∷ rest) s t (suc k) before is at =
    each_more (λ (j : ℕ). P (suc j)) rest s t k (λ j u h. before (suc j) u h) is at

pub loop-me-preserved : goal.loop-me-preserved
loop-me-preserved g c =
    let before = c.loop-me.invariant in
    let made = c.in_ok-start.ensures in
    let here : IsStart (length c.loop-me.starts.items) (length c.loop-me.starts.items == 0) c.in_ok-start.start = (
      made.0 ∙ sym before.0,
      made.1 ∙ ap is_some c.take.ensures.value ∙ before.2 ∙ ap (λ (n : ℕ). n == 0) (sym before.0),
    ) in (
      search rules,
      search rules,
      search rules,
      λ k start at. each_more (λ (j : ℕ) (s : LoopStart). IsStart j (j == 0) s) c.loop-me.starts.items
          c.in_ok-start.start start k before.3 here
          (ap (λ (xs : List LoopStart). slice_get xs k) (sym c.in_ok-push.ensures.items) ∙ at),
    )
