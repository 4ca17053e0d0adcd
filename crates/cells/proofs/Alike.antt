-- Cells that are equal field by field look alike.
use Rattle.cells.proofs.Vocabulary.{◌≡◌, refl, sym, ap, ◌∙◌, Cell, unprotected, codes_of, bits_of, rendition_of}
use Rattle.cells.specs.declared.marks.Marks.{Marks}
use Rattle.cells.specs.declared.marks.Marks.TheVariants.{Bare, One, Two}
use Rattle.cells.specs.Marks.{marks_of}
use Rattle.cells.specs.Rendition.{Rendition}
use Rattle.cells.proofs.Packed.{rendition_back}

marks_back : (m : Marks) → marks_of (codes_of m).0 (codes_of m).1 ≡ m
marks_back Bare = refl
marks_back (One first) = refl
marks_back (Two first second) = refl

pub same_marks : (m n : Marks) → (codes_of m).0 ≡ (codes_of n).0 → (codes_of m).1 ≡ (codes_of n).1 → m ≡ n
same_marks m n first second =
    sym (marks_back m) ∙ ap (λ a. marks_of a (codes_of m).1) first ∙ ap (marks_of (codes_of n).0) second ∙ marks_back n

pub same_rendition : (r s : Rendition) → bits_of r ≡ bits_of s → r ≡ s
same_rendition r s same = sym (rendition_back r) ∙ ap rendition_of same ∙ rendition_back s

pub alike : (a b : Cell) → a.character ≡ b.character → a.rendition ≡ b.rendition → a.shape ≡ b.shape → a.marks ≡ b.marks
    → unprotected a ≡ unprotected b
alike a b character rendition shape marks = rw (character, rendition, shape, marks) refl
