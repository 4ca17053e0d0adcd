-- The bytes that are written after those that were there, and the bytes that a reader has left.
use Rattle.std.proofs.Common.{◌≡◌, ℕ, ◌+◌, ◌<◌, List, [], ◌∷◌, ◌++◌, length, take, drop, Option}
use Rattle.std.proofs.Common.{Some, None, refl, sym, ◌∙◌, ap, subst, arith}
use Rattle.std.specs.Prelude.{slice_get}
use Rattle.std.specs.Io.KnownBytes.{Appends}
use Rattle.std.proofs.KnownBytes.{Appends-trans}
use Rattle.std.proofs.lemmas.List.{take_more}
use Rattle.std.proofs.Math.Seq.{take-add}
use Rattle.std.proofs.lemmas.Option.{slice_get_within, get_or_from_slice_get}
use Rattle.std.proofs.lemmas.Grind.{common_steps}
use Rattle.hub.specs.Trails.{Entry}
use Rattle.trail_lines.specs.Entries.{line_of}
use Rattle.trail_lines.specs.declared.halt.NextLine.TheVariants as came
use Rattle.trail_lines.specs.Lines.{ComesAs, OfKnown}
use Rattle.server_trail.specs.Files.{Cuts, AreLines, Reads, ReadsLines}

-- ---- writing

-- and more after it
pub both : (old mid new : Option (List ℕ)) (a b c : List ℕ) → Appends old mid a
    → Appends mid new b → a ++ b ≡ c → Appends old new c
both old mid new a b c p q e = subst (Appends old new) e (Appends-trans old mid new a b p q)

pub two_parts : (bytes : List ℕ) (n k : ℕ)
    → take n bytes ++ take k (drop n bytes) ≡ take (n + k) bytes
two_parts bytes n k = sym (take-add n k bytes)

-- ---- reading

-- a whole line that came
pub cut : (old new : Option (List ℕ)) (line : List ℕ) → OfKnown old new (ComesAs came.Whole line) → Cuts old line new
cut None new line c = tt
cut (Some bytes) None line c = absurd c
cut (Some bytes) (Some rest) line c = c.1

-- and none if nothing was left
pub over : (old new : Option (List ℕ)) (line : List ℕ) → OfKnown old new (ComesAs came.Nothing line)
    → Reads old (λ bytes. bytes ≡ [])
over None new line c = tt
over (Some bytes) None line c = absurd c
over (Some bytes) (Some rest) line c = c.0

-- one entry's line more
pub one_more : (first p : ℕ) (entries : List Entry) (e : Entry) (bytes rest more : List ℕ) (ms : ℕ)
    → p ≡ first + length entries → AreLines first entries bytes rest
    → rest ≡ line_of (p, ms, e) ++ 0x0A ∷ more → AreLines first (entries ++ e ∷ []) bytes more
one_more first p [] e bytes rest more ms at a is =
    let same : p ≡ first = omega (arith, at) in
    (ms, more, a ∙ (is ∙ ap (λ q. line_of (q, ms, e) ++ 0x0A ∷ more) same), refl)
one_more first p (x ∷ entries) e bytes rest more ms at a is =
    (a.0, a.1, a.2, one_more (first + 1) p entries e a.1 rest more ms (omega (arith, at)) a.3 is)

pub line_more : (entries : List Entry) (place : ℕ) (e : Entry) (line : List ℕ)
    (old mid new : Option (List ℕ)) → slice_get entries place ≡ Some e
    → ReadsLines (take place entries) old mid → Cuts mid line new
    → ((ms : ℕ) × (line ≡ line_of (place, ms, e))) → ReadsLines (take (place + 1) entries) old new
line_more entries place e line None mid new at a c is = tt
line_more entries place e line (Some bytes) None new at a c is = absurd a
line_more entries place e line (Some bytes) (Some rest) None at a c is = absurd c
line_more entries place e line (Some bytes) (Some rest) (Some more) at a c is =
    let inside : place < length entries = slice_get_within entries place e at in
    let front : take (place + 1) entries ≡ take place entries ++ e ∷ [] = take_more entries place e inside
    ∙ ap (λ x. take place entries ++ x ∷ []) (get_or_from_slice_get entries place e e at) in
    let long : place ≡ 0 + length (take place entries) = grind (arith, common_steps) in
    subst (λ es. AreLines 0 es bytes more) (sym front) (one_more 0 place (take place entries) e bytes
    rest more is.0 long a (c ∙ ap (λ l. l ++ 0x0A ∷ more) is.1))
