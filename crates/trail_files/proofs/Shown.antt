-- What was written of the lines that came is written of all of them.
use Rattle.std.proofs.Common.{◌≡◌, ◌∙◌, ◌++◌, ◌∷◌, [], ℕ, List, Bool, true, false, cond, Option, Some, None, ap, sym}
use Rattle.std.proofs.Common.{append_assoc, append-nil, refl, subst}
use Rattle.std.proofs.KnownBytes.{Appends-nil, Appends-trans}
use Rattle.std.proofs.lemmas.Bool.{and_parts}
use Rattle.std.specs.Io.KnownBytes.{Appends}
use Rattle.std.specs.Prelude.{◌==◌, not, IfSome}
use Rattle.trail_lines.specs.Files.{lines_from, whole_lines}
use Rattle.trail_lines.specs.Lines.{ComesAs, OfKnown, feed, is_unbroken}
use Rattle.trail_lines.specs.declared.halt.NextLine.{NextLine}
use Rattle.trail_lines.specs.declared.halt.NextLine.TheVariants as came
use Rattle.trail_files.specs.Showing.{Shows, ShowsAs, coming, coming_text, lines_text, more_after, shown_text}
use Rattle.trail_files.specs.declared.show.LineFormat.{LineFormat}
use Rattle.trail_files.specs.declared.show.LineKind.{LineKind}
use Rattle.trail_files.specs.declared.show.LineKind.TheVariants as kind

-- ---- the first whole line

is_not : (b : Bool) → not b ≡ true → b ≡ false
is_not true e = cc
is_not false e = refl

no_line : (begun bytes : List ℕ) → is_unbroken bytes ≡ true → lines_from begun bytes ≡ []
no_line begun [] free = refl
no_line begun (b ∷ bytes) free =
    let both = and_parts (not (b == feed)) (is_unbroken bytes) free in
    ap (λ t. cond t (begun ∷ lines_from [] bytes) (lines_from (begun ++ b ∷ []) bytes)) (is_not (b == feed) both.0)
    ∙ no_line (begun ++ b ∷ []) bytes both.1

one_line : (begun line rest : List ℕ) → is_unbroken line ≡ true
    → lines_from begun (line ++ feed ∷ rest) ≡ (begun ++ line) ∷ whole_lines rest
one_line begun [] rest free = ap (λ line. line ∷ whole_lines rest) (sym (append-nil begun))
one_line begun (b ∷ line) rest free =
    let both = and_parts (not (b == feed)) (is_unbroken line) free in
    ap (λ t. cond t (begun ∷ lines_from [] (line ++ feed ∷ rest)) (lines_from (begun ++ b ∷ []) (line ++ feed ∷ rest)))
    (is_not (b == feed) both.0)
    ∙ one_line (begun ++ b ∷ []) line rest both.1
    ∙ ap (λ line. line ∷ whole_lines rest) (append_assoc begun (b ∷ []) line)

-- what is written of all lines begins with what is written of the one that comes
first_shown : (form : LineFormat) (c : NextLine) (line bytes rest : List ℕ) → ComesAs c line bytes rest
    → shown_text form bytes ≡ coming_text form c line ++ more_after (coming c line) (shown_text form rest)
first_shown form came.Whole line bytes rest comes =
    ap (shown_text form) comes.1 ∙ ap (lines_text form) (one_line [] line rest comes.0)
first_shown form came.Torn line bytes rest comes =
    ap (shown_text form) comes.2 ∙ ap (lines_text form) (no_line [] line comes.0)
first_shown form came.Nothing line bytes rest comes = ap (shown_text form) comes.0

-- ---- one line more

-- this was written of the bytes before the rest
abbrev pub HasShown : LineFormat → Option (List ℕ) → Option (List ℕ) → List ℕ → List ℕ → Type 0
HasShown form old new bytes rest =
    (text : List ℕ) × Appends old new text × (shown_text form bytes ≡ text ++ shown_text form rest)

pub shown_none : (form : LineFormat) (a out : Option (List ℕ)) → OfKnown a a (HasShown form out out)
shown_none form None out = tt
shown_none form (Some x) out = ([], Appends-nil out, refl)

pub shown_more : (form : LineFormat) (a b c old mid new : Option (List ℕ)) → OfKnown a b (HasShown form old mid)
    → OfKnown b c (Shows form mid new kind.Entry) → OfKnown a c (HasShown form old new)
shown_more form None b c old mid new before shows = tt
shown_more form (Some x) None c old mid new before shows = absurd before
shown_more form (Some x) (Some y) None old mid new before shows = absurd shows
shown_more form (Some x) (Some y) (Some z) old mid new before shows =
    let line = coming_text form shows.0 shows.1 in
    let more = first_shown form shows.0 shows.1 y z shows.2
    ∙ ap (λ (k : LineKind). line ++ more_after k (shown_text form z)) (sym shows.3) in (
      before.0 ++ line,
      Appends-trans old mid new before.0 line before.1 shows.4,
      before.2 ∙ (ap (λ text. before.0 ++ text) more ∙ sym (append_assoc before.0 line (shown_text form z))),
    )

pub shown_all : (form : LineFormat) (k : LineKind) (a b c old mid new : Option (List ℕ))
    → ((more : List ℕ) → more_after k more ≡ []) → OfKnown a b (HasShown form old mid)
    → OfKnown b c (Shows form mid new k) → IfSome a (λ bytes. Appends old new (shown_text form bytes))
shown_all form k None b c old mid new ends before shows = tt
shown_all form k (Some x) None c old mid new ends before shows = absurd before
shown_all form k (Some x) (Some y) None old mid new ends before shows = absurd shows
shown_all form k (Some x) (Some y) (Some z) old mid new ends before shows =
    let line = coming_text form shows.0 shows.1 in
    let last = first_shown form shows.0 shows.1 y z shows.2
    ∙ (ap (λ (k : LineKind). line ++ more_after k (shown_text form z)) (sym shows.3)
    ∙ (ap (λ text. line ++ text) (ends (shown_text form z)) ∙ append-nil line)) in
    subst (Appends old new) (sym (before.2 ∙ ap (λ text. before.0 ++ text) last))
    (Appends-trans old mid new before.0 line before.1 shows.4)

-- ---- the line that comes

pub shows_as : (form : LineFormat) (k : LineKind) (a b old new : Option (List ℕ)) → OfKnown a b (Shows form old new k)
    → OfKnown a b (ShowsAs k)
shows_as form k None b old new shows = tt
shows_as form k (Some x) None old new shows = absurd shows
shows_as form k (Some x) (Some y) old new shows = (shows.0, shows.1, shows.2, shows.3)
