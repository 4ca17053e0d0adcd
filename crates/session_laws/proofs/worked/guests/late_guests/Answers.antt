use Rattle.session_laws.proofs.worked.guests.late_guests.Goals as goal
use Rattle.session_laws.proofs.LateComersComputed as computed

pub returns-clause-guest : goal.returns-clause-guest
returns-clause-guest c = computed.is_guest

pub returns-clause-unmasked : goal.returns-clause-unmasked
returns-clause-unmasked c = computed.unmasked

pub returns-clause-reopened : goal.returns-clause-reopened
returns-clause-reopened c = computed.reopened

pub returns-clause-needed : goal.returns-clause-needed
returns-clause-needed c = computed.masks_are_needed

pub returns-clause-mended : goal.returns-clause-mended
returns-clause-mended c = computed.mended

pub returns-clause-nothing : goal.returns-clause-nothing
returns-clause-nothing c = computed.nothing_comes
