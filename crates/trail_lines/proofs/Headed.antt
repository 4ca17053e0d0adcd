-- First and last lines that were printed are read.
use Rattle.trail_lines.proofs.Vocabulary.{◌≡◌, ℕ, ◌<◌, ◌≤◌, ◌^◌, List, ◌∷◌, ◌++◌, ap, refl, ◌∙◌, Bool, true, false}
use Rattle.trail_lines.proofs.Vocabulary.{cond, Option, Some, None, codes, decimal, bytes_eq, bytes_eq-Decides, Edition}
use Rattle.trail_lines.proofs.Vocabulary.{name_of, ◌>>=◌, cut, IsFree, first_field, number_again, blank, field}
use Rattle.acl.specs.declared.leaders.Edition.TheVariants as edition
use Rattle.line_fields.proofs.Again.{apart_blank, most64, number_at_again, user_at_again}
use Rattle.trail_lines.specs.declared.header.Header.{Header}
use Rattle.trail_lines.specs.declared.ending.Cause.{Cause}
use Rattle.trail_lines.specs.declared.ending.Cause.TheVariants as cause
use Rattle.trail_lines.specs.declared.ending.Ended.{Ended}
use Rattle.trail_lines.specs.Heading.{edition_in, form_text, header_text, header_fields, if_header, read_header}
use Rattle.trail_lines.specs.Heading.{cause_text, cause_in, end_text, end_fields, if_end, read_end, IsHeader}
use Rattle.trail_lines.specs.Heading.{ReadsHeaders, ReadsEnds}

abbrev digit : Edition → List ℕ
digit edition.First = codes "1"
digit edition.Second = codes "2"

digit_again : (e : Edition) → edition_in (digit e) ≡ Some e
digit_again edition.First = refl
digit_again edition.Second = refl

digit_free : (e : Edition) → IsFree blank (digit e)
digit_free edition.First = record { free = refl }
digit_free edition.Second = record { free = refl }

form_fields : (e : Edition) (rest : List ℕ)
    → form_text e ++ rest ≡ field blank (codes "mux-trail") (field blank (codes "1") (field blank (digit e) rest))
form_fields edition.First rest = refl
form_fields edition.Second rest = refl

cause_again : (c : Cause) → cause_in (cause_text c) ≡ Some c
cause_again cause.Quit = refl
cause_again cause.Full = refl
cause_again cause.Disk = refl
cause_again cause.Memory = refl
cause_again cause.Script = refl

cut_free : (word rest : List ℕ) → IsFree blank word → cut blank (field blank word rest) ≡ Some (word, rest)
cut_free word rest is = first_field blank word rest is

same_bytes : (bytes : List ℕ) → bytes_eq bytes bytes ≡ true
same_bytes bytes = (bytes_eq-Decides bytes bytes).1 refl

fields_again : (h : Header) → IsHeader h → header_fields (header_text h) ≡ Some h
unfolding header_fields
fields_again h is =
    let behind = field blank (name_of h.owner) (field blank h.version (decimal h.ms)) in
    ap header_fields (form_fields h.edition behind)
    ∙ rw (
      cut_free (codes "mux-trail") (field blank (codes "1") (field blank (digit h.edition) behind))
          (record { free = refl }),
      cut_free (codes "1") (field blank (digit h.edition) behind) (record { free = refl }),
      cut_free (digit h.edition) behind (digit_free h.edition),
      digit_again h.edition,
      user_at_again blank h.owner
          (field blank h.version (decimal h.ms)) apart_blank is.0,
      cut_free h.version (decimal h.ms)
          (record { free = is.1 }),
      number_again (2 ^ 64) h.ms is.2 most64,
    ) refl

pub reads_headers : ReadsHeaders
unfolding read_header
reads_headers h is = ap (λ o. o >>= if_header (header_text h)) (fields_again h is)
    ∙ ap (λ b. cond b (Some h) None) (same_bytes (header_text h))

end_again : (e : Ended) → e.entries < 2 ^ 64 → e.ms < 2 ^ 64 → end_fields (end_text e) ≡ Some e
unfolding end_fields
end_again e few small =
    let behind = field blank (decimal e.ms) (cause_text e.cause) in
    rw (
      cut_free (codes "end") (field blank (decimal e.entries) behind) (record { free = refl }),
      number_at_again blank
          (2 ^ 64) e.entries behind apart_blank few most64,
      number_at_again blank (2 ^ 64) e.ms (cause_text e.cause)
          apart_blank small most64,
      cause_again e.cause,
    ) refl

pub reads_ends : ReadsEnds
unfolding read_end
reads_ends e few small = ap (λ o. o >>= if_end (end_text e)) (end_again e few small)
    ∙ ap (λ b. cond b (Some e) None) (same_bytes (end_text e))
