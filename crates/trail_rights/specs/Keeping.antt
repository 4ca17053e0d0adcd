-- Which acts are kept: those that tell something of what is asked about.
use Rattle.std.specs.Prelude.{◌≡◌, Bool, true, false, ◌&&◌, [], filter}
use Rattle.acl.specs.declared.act.Act.{Act}
use Rattle.acl.specs.declared.act.Act.TheVariants.{Known, Gone, Set, Masked, Preset, Opened, Closed}
use Rattle.acl.specs.declared.act.Object.{Object}
use Rattle.acl.specs.declared.act.Object.TheVariants.{Window, Command}
use Rattle.acl.specs.declared.bits.Bit.{Bit}
use Rattle.acl.specs.Same.{same_bit, same_object}
use Rattle.writelock.specs.Holding.{clients_of}
use Rattle.trail_rights.specs.declared.acts.MarkedActs.{MarkedActs}
use Rattle.trail_rights.specs.declared.acts.AskedBits.{AskedBits}
use Rattle.trail_rights.specs.declared.acts.AskedBits.TheVariants as asked
use Rattle.trail_rights.specs.declared.decider.Decider.{Decider}
use Rattle.trail_rights.specs.declared.acts.Mark.{Mark}
use Rattle.trail_rights.specs.Marks.{Marked, acts_in, marked_on}

-- whether the bit on the object is asked about
abbrev pub asks : AskedBits → Bit → Object → Bool
asks asked.Nothing b o = false
asks (asked.On bit object) b o = same_bit b bit && same_object o object
asks (asked.Windows bit) b (Window w) = same_bit b bit
asks (asked.Windows bit) b (Command c) = false
asks (asked.Commands bit) b (Command c) = same_bit b bit
asks (asked.Commands bit) b (Window w) = false

-- whether an act may open or close a window, give a setting its value, or decide a bit that is asked about
abbrev pub tells : AskedBits → Act → Bool
tells a (Set user bit o value) = asks a bit o
tells a (Known user) = true
tells a (Gone user) = true
tells a (Masked by user bit value) = true
tells a (Preset kind bit value) = true
tells a (Opened by w) = true
tells a (Closed w) = true
tells a _ = false

-- the acts that do
abbrev pub told : AskedBits → Marked → Marked
told a marked = filter (λ (p : Mark × Act). tells a p.1) marked

-- whether a decider looks for a bit that is asked about
abbrev pub is_asked : AskedBits → Decider → Bool
is_asked a d = asks a d.bit d.object

-- of these acts those are kept that tell something, each with its mark
pub record HasKept (a : MarkedActs) (marked : Marked) : Type 0 where
  pub clients : a.clients.items ≡ clients_of (acts_in marked)
  pub acts : marked_on [] a.marked.items ≡ told a.asked marked

-- if these acts were followed before, more acts are followed now
abbrev pub Keeps : MarkedActs → MarkedActs → (Marked → Marked) → Type 0
Keeps old new more = (marked : Marked) → HasKept old marked → HasKept new (more marked)
