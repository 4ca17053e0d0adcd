-- Spelled functions, one after another.
use Rattle.control_parser.proofs.Vocabulary.{◌≡◌, ℕ, List, [], ◌∷◌, ◌++◌, map, true, ap, ◌∙◌, subst, arith}
use Rattle.control_parser.proofs.Vocabulary.{AllByRecursion, flat_map, list_all, is_plain, Utf8, Unit, units-append}
use Rattle.control_parser.proofs.Vocabulary.{Func, Print, functions, spelling, ReadsAs}
use Rattle.charsets.specs.declared.decoder.Coding.{Coding}
use Rattle.charsets.proofs.Pieces.{units-plain}
use Rattle.charsets.proofs.Pushes.{units-none}
use Rattle.control_parser.specs.Spelling.{IsGivenInUtf8}
use Rattle.control_parser.proofs.Keeping.{functions-append}
use Rattle.control_parser.proofs.Pieces.{functions-none, functions-plain}
use Rattle.control_parser.proofs.Spelled.{spelled_reads}

pub reads-append : (coding : Coding) (front later : List ℕ) (fs gs : List Func) → ReadsAs coding front fs
    → ReadsAs coding later gs
    → ReadsAs coding (front ++ later) (fs ++ gs)
reads-append coding front later fs gs h k = grind (arith, units-append, functions-append)

pub reads-spelled : (fs : List Func) → AllByRecursion IsGivenInUtf8 fs → ReadsAs Utf8 (flat_map spelling fs) fs
reads-spelled [] h =
    (ap (λ x. x.1) (units-none Utf8), ap (λ (x : List Unit × List ℕ). functions x.0) (units-none Utf8) ∙ functions-none)
reads-spelled (f ∷ fs) h =
    let P : Coding → Type 0 = λ coding. ReadsAs coding (spelling f) (f ∷ []) in
    reads-append Utf8 (spelling f) (flat_map spelling fs) (f ∷ []) fs (subst P h.0.1 (spelled_reads f h.0.0))
    (reads-spelled fs h.1)

pub reads-plain : (coding : Coding) (bytes : List ℕ) → list_all is_plain bytes ≡ true
    → ReadsAs coding bytes (map (λ b. Print b) bytes)
reads-plain coding bytes h =
    let e = units-plain coding bytes h in
    (ap (λ (x : List Unit × List ℕ). x.1) e, ap (λ (x : List Unit × List ℕ). functions x.0) e ∙ functions-plain bytes h)
