use Rattle.session_laws.proofs.guests.pages_show_what_is_read.Goals as goal
use Rattle.session_laws.proofs.Pages.{page_same}

pub returns : goal.returns
returns c t client windows same = page_same t client windows same
