-- What comes of a stream, and what is written to it.
use Rattle.std.specs.Prelude.{◌≡◌, ◌≢◌, ◌⊎◌, ◌≤◌, ℕ, zero, suc, Bool, true, false, List, [], ◌++◌, drop, Result, Ok}
use Rattle.std.specs.Prelude.{Err}
use Rattle.std.specs.declared.io.Error.{Error}
use Rattle.std.specs.declared.io.ErrorKind.{ErrorKind}
use Rattle.std.specs.declared.io.ErrorKind.TheVariants.{WouldBlock, Interrupted}
use Rattle.std.specs.IoError.{error_kind}
use Rattle.web_streams.specs.declared.stream.ReadOutcome.{ReadOutcome}
use Rattle.web_streams.specs.declared.stream.ReadOutcome.TheVariants.{More, Nothing, End}
use Rattle.web_streams.specs.declared.stream.WriteOutcome.{WriteOutcome}
use Rattle.web_streams.specs.declared.stream.WriteOutcome.TheVariants as wrote

-- ---- what a read and a write came to

-- a stream that fails ends, unless it only has to be asked again
abbrev pub failed : ErrorKind → ReadOutcome
failed WouldBlock = Nothing
failed Interrupted = More
failed _ = End

abbrev pub came_of : Result ℕ Error → ReadOutcome
came_of (Ok zero) = End
came_of (Ok (suc n)) = More
came_of (Err error) = failed (error_kind error)

-- the same of a write
abbrev pub stopped : ErrorKind → WriteOutcome
stopped WouldBlock = wrote.Full
stopped Interrupted = wrote.Nothing
stopped _ = wrote.Broken

abbrev pub took_of : Result ℕ Error → WriteOutcome
took_of (Ok zero) = wrote.Broken
took_of (Ok (suc n)) = wrote.Some (suc n)
took_of (Err error) = stopped (error_kind error)

-- how many bytes a write took
abbrev pub count_of : WriteOutcome → ℕ
count_of (wrote.Some count) = count
count_of _ = 0

-- another write is made after it
abbrev pub goes_on : WriteOutcome → Bool
goes_on (wrote.Some count) = true
goes_on wrote.Nothing = true
goes_on _ = false

-- the connection isn't broken after it
abbrev pub is_whole : WriteOutcome → Bool
is_whole wrote.Broken = false
is_whole _ = true

-- ---- what is read through a stream, by what that says of its reads

module _ {S : Type 0} (reads : S → List ℕ → ReadOutcome → S → Type 0) where
  -- One read was made, and what came is after all that waited. If there is no memory for it, the connection ends.
  pub record Receives (stream : S) (old : List ℕ) (came : ReadOutcome) (left : S) (new : List ℕ) : Type 0 where
    pub piece : List ℕ
    pub arrived : ReadOutcome
    pub read : reads stream piece arrived left
    pub taken : ((came ≡ arrived) × (new ≡ old ++ piece)) ⊎ ((came ≡ End) × (new ≡ old))

-- ---- what is written through a stream, by what that says of its writes

module _ {S : Type 0} (writes : S → List ℕ → WriteOutcome → S → Type 0) where
  -- one write of what waits was made, and what was taken doesn't wait any more
  abbrev pub WritesOnce : S → List ℕ → WriteOutcome → S → List ℕ → Type 0
  WritesOnce stream old took left new =
      (old ≢ []) × writes stream old took left × (new ≡ drop (count_of took) old)

  -- this many writes were made, one after the other, and after each the stream may take more
  abbrev pub WritesFor : ℕ → S → List ℕ → S → List ℕ → Type 0
  WritesFor zero stream old left new = (left ≡ stream) × (new ≡ old)
  WritesFor (suc count) stream old left new =
      (mid : S) × (rest : List ℕ) × WritesFor count stream old mid rest
      × (took : WriteOutcome) × (goes_on took ≡ true) × WritesOnce mid rest took left new

  -- nothing waits, or a write was made after which the stream takes no more
  abbrev pub WritesLast : S → List ℕ → Bool → S → List ℕ → Type 0
  WritesLast stream old whole left new =
      ((old ≡ []) × (whole ≡ true) × (left ≡ stream) × (new ≡ []))
      ⊎ ((took : WriteOutcome) × (goes_on took ≡ false) × (whole ≡ is_whole took) × WritesOnce stream old took left new)

  -- Write after write was made, until nothing waits or the stream takes no more; 2 ^ 64 - 1 of them at most.
  pub record WritesOut (stream : S) (old : List ℕ) (whole : Bool) (left : S) (new : List ℕ) : Type 0 where
    pub count : ℕ
    pub mid : S
    pub rest : List ℕ
    pub so_far : WritesFor count stream old mid rest
    pub last : WritesLast mid rest whole left new
        ⊎ ((18446744073709551615 ≤ count) × (whole ≡ true) × (left ≡ mid) × (new ≡ rest))
