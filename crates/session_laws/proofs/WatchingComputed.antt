-- The rows of bob, who watches, proved by computing.
use Rattle.session_laws.proofs.Vocabulary.{◌≡◌, ℕ, Bool, true, false, Some, None, refl, if◌then◌else◌, ◌==◌, ◌||◌}
use Rattle.session_laws.proofs.Vocabulary.{unwrap_or, digits, Write, Execute, CommandName, items_from, command_named}
use Rattle.session_laws.proofs.Vocabulary.{unless, refused_if, given, may_in, is_watching, bob}
use Rattle.acl.specs.declared.act.Object.TheVariants as object
use Rattle.acl.specs.declared.command_name.CommandName.TheVariants as name
use Rattle.session_laws.specs.WorkedWatching as rows

nowhere : (w : ℕ) → may_in rows.watched bob Write (object.Window w) ≡ false
unfolding digits items_from command_named unless refused_if given
nowhere w = on (0 == w) where
  -- the part that can be computed: whether the window is own's
  on : (b : Bool)
      →
      (unwrap_or (if unwrap_or (if b then Some true else None) false then Some false else None)
      (unwrap_or (if b then None else None) false) || false) ≡ false
  on true = refl
  on false = refl

no_more : (c : CommandName) → is_watching c ≡ false → may_in rows.watched bob Execute (object.Command c) ≡ false
unfolding digits items_from command_named unless refused_if given
no_more name.Detach is = absurd (cc (is))
no_more name.Next is = absurd (cc (is))
no_more name.Prev is = absurd (cc (is))
no_more name.Scrollview is = absurd (cc (is))
no_more c is = refl

pub bob_watches : rows.BobWatches
bob_watches = record { write = nowhere; commands = no_more }

pub they_read : rows.HeReads
unfolding digits items_from command_named unless refused_if given
they_read = (refl, refl)
