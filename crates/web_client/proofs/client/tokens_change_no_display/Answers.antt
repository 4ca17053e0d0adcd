use Rattle.web_client.proofs.Tokens.{same-display}
use Rattle.web_client.proofs.client.tokens_change_no_display.Goals as goal

pub returns : goal.returns
returns c = same-display
