-- What each user gets on a window that is opened.
use Rattle.std.specs.Prelude.{◌≡◌, true, ◌||◌, Ok}
use Rattle.acl.specs.declared.user_id.UserId.{UserId}
use Rattle.acl.specs.declared.bits.Bit.{Bit}
use Rattle.acl.specs.declared.act.Object.TheVariants as object
use Rattle.acl.specs.History.{mask}
use Rattle.acl.specs.Same.{same_user}
use Rattle.session_model.specs.Trace.{EventValue, Open, Reply, Entry}
use Rattle.session_model.specs.Tables.{Tables, is_known}
use Rattle.session_model.specs.Rights.{has_in}
use Rattle.session_model.specs.Run.{IsStep, after}

-- a known user has a bit on the new window exactly if they opened it, or the opener's mask for them
-- allows the bit
abbrev pub IsGivenByMasks : Tables → Entry → EventValue → Reply → Type 0
IsGivenByMasks t e (Open opener rows columns keep title) (Ok done) =
    (user : UserId) (bit : Bit) → is_known t user ≡ true →
    has_in (after t e) user bit (object.Window t.next_window)
    ≡ (same_user opener user || mask t.acts opener user bit)
IsGivenByMasks t e event reply = Unit {0}

abbrev pub NewWindowsAreMasked : Type 0
NewWindowsAreMasked = (t : Tables) (e : Entry) → IsStep t e → IsGivenByMasks t e e.event e.reply
