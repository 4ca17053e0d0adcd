use Rattle.std.proofs.Common.{◌≡◌, ◌∙◌, [], List, ℕ, Option, Some, None, Result, Ok, Err, ap, refl}
use Rattle.std.specs.Io.Buffered.{reader_buffer, reader_capacity, reader_inner, reader_remaining}
use Rattle.std.specs.Io.KnownBytes.{prepend_known}
use Rattle.std.specs.Prelude.{IfOk}
use Rattle.std.specs.declared.io.buffered.BufReader.{BufReader}
use Rattle.mux_trail.proofs.program.buffered.Goals as goal

none_before : (known : Option (List ℕ)) → prepend_known [] known ≡ known
none_before None = refl
none_before (Some bytes) = refl

-- a new buffer is empty
unread : {F A E : Type 0} (remaining : F → Option (List ℕ)) (file : F) (made : Result (BufReader F A) E)
    → IfOk made (λ r. reader_inner r ≡ file) → IfOk made (λ r. reader_buffer r ≡ [])
    → IfOk made (λ r. reader_capacity r ≡ 8192) → IfOk made (λ r. reader_remaining remaining r ≡ remaining file)
unread remaining file (Err e) inner empty capacity = tt
unread remaining file (Ok r) inner empty capacity =
    rw (capacity, empty) (none_before (remaining (reader_inner r)) ∙ ap remaining inner)

pub returns : goal.returns
returns g c =
    unread g.F.Read.remaining c.args.file c.new.result c.new.ensures.inner c.new.ensures.empty c.new.ensures.capacity
