use Rattle.std.proofs.Common.{◌≡◌, ◌∙◌, ◌++◌, ap, append_assoc, ℕ, List, Result, Ok, Err}
use Rattle.std.specs.Prelude.{OnOk, codes, if◌then◌else◌}
use Rattle.std.specs.Result.{is_ok}
use Rattle.trail_lines.specs.Heading.{cause_text}
use Rattle.trail_log.proofs.log_line.push_why.Goals as goal

-- a list to which something was appended
on_ok : {T E : Type 0} (r : Result T E) (now more old all : List ℕ) → now ≡ (if is_ok r then more else old)
    → more ≡ all → OnOk r (now ≡ all)
on_ok (Ok x) now more old all is same = is ∙ same
on_ok (Err e) now more old all is same = tt

pub returns : goal.returns
returns c =
    let out = c.args.out.now.items in
    let text = codes " the session ended: " in
    on_ok c.extend_from_slice-2.result _ _ _ _ c.extend_from_slice-2.ensures.items
    (ap (λ x. x ++ c.word.result.now) c.in_ok-extend_from_slice.ensures.items
    ∙ (ap (λ w. (out ++ text) ++ w) c.word.ensures
    ∙ append_assoc out text (cause_text c.args.ended.now.cause)))
