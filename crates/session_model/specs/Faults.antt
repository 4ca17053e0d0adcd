-- Refusals of a session for faults of the table of windows.
use Rattle.session_model.specs.declared.refusal.Refusal.{Refusal}
use Rattle.session_model.specs.declared.refusal.Refusal.TheVariants as refusal
use Rattle.windows_model.specs.declared.rows.WindowsFault.{WindowsFault}
use Rattle.windows_model.specs.declared.rows.WindowsFault.TheVariants as fault

-- NoSuchWindow becomes NoWindow, and NoMemory is the session's own.
abbrev pub refusal_of : WindowsFault → Refusal
refusal_of fault.NoSuchWindow = refusal.NoWindow
refusal_of fault.NoMemory = refusal.NoMemory
refusal_of fault.Full = refusal.Windows fault.Full
refusal_of fault.NumberTaken = refusal.Windows fault.NumberTaken
refusal_of fault.BadTitle = refusal.Windows fault.BadTitle
