-- Why a hub refuses an event, by the cases of its fault.
use Rattle.std.proofs.Common.{◌≡◌, refl}
use Rattle.std.specs.Prelude.{IsSome}
use Rattle.hub.specs.Filing.{kept_of}
use Rattle.hub.specs.Faults.{foreign, full}
use Rattle.hub.specs.answer.HubFault.{HubFault}
use Rattle.hub.specs.answer.HubFault.TheVariants as hub
use Rattle.session.specs.Trace.{EventValue}
use Rattle.server_session.specs.Seating.{IsRefused}

pub refused : (event : EventValue) (why : HubFault) → (why ≡ hub.TrailFull full → IsSome (kept_of event))
    → (why ≡ hub.Strange foreign → IsSome (kept_of event)) → IsRefused event why
refused event hub.NoMemory f s = tt
refused event (hub.TrailFull why) f s = f refl
refused event (hub.Strange why) f s = s refl
