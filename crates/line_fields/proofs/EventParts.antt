-- The words of events, and an event that is made of its parts.
use Rattle.std.proofs.Common.{◌≡◌, refl}
use Rattle.std.specs.Prelude.{Some}
use Rattle.session_model.specs.Trace.{EventValue, Draw}
use Rattle.line_fields.specs.declared.events.EventKind.{EventKind}
use Rattle.line_fields.specs.declared.events.EventKind.TheVariants as kind
use Rattle.line_fields.specs.Events.{row_of, word_of, Parts, of_parts, kind_in}
use Rattle.line_fields.specs.Rows.{made_in}
use Rattle.line_fields.proofs.Again.{IsPart}

pub kind_again : (k : EventKind) → kind_in (word_of k) ≡ Some k
unfolding kind_in
kind_again kind.Draw = refl
kind_again _ = refl

pub word_part : (k : EventKind) → IsPart (word_of k)
word_part kind.Draw = record { bytes = refl }
word_part _ = record { bytes = refl }

abbrev pub Whole : Type 0
Whole = (k : EventKind) × Parts k

abbrev pub whole : (k : EventKind) → Parts k → Whole
whole k v = (k, v)

abbrev pub parts_of : EventValue → Whole
parts_of event = of_parts whole event

pub made_again : (event : EventValue) → made_in (row_of (parts_of event).0) (parts_of event).1 ≡ event
made_again (Draw client) = refl
made_again _ = refl
