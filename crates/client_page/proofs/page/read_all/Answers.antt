use Rattle.std.proofs.Common.{◌≡◌, ◌-◌, ◌++◌, sym, ap, ◌∙◌, subst, take, drop, length, List, ℕ, arith, length-drop}
use Rattle.std.proofs.lemmas.List.{take_all, take-append-drop}
use Rattle.terminal_model.specs.Reading.{Read, reads}
use Rattle.terminal_model.proofs.Readings.{reads-append}
use Rattle.emulator.specs.Standing.{StandsFor}
use Rattle.client_page.proofs.page.read_all.Goals as goal

pub returns-in-Err : goal.returns-in-Err
returns-in-Err c =
    let n : ℕ = c.in-Err.stopped.read in
    let b : List ℕ = c.args.bytes.now in
    let later : List ℕ = take (length b - n) (drop n b) in
    let cut : later ≡ drop n b = take_all (length b - n) (drop n b) (omega (arith, length-drop n b)) in
    λ t h.
    subst (λ (r : Read). StandsFor c.read_each.new.emulator r.terminal)
    (sym (reads-append t (take n b) later) ∙ ap (λ (l : List ℕ). reads t (take n b ++ l)) cut
    ∙ ap (λ (l : List ℕ). reads t l) (take-append-drop n b))
    (c.read_each.ensures _ (c.in-Err.ensures.err t h).stands)
