use Rattle.web_page.proofs.Harmless.{text_harmless, text_says}
use Rattle.web_page.proofs.texts_hold_no_markup.Goals as goal

pub returns-clause-bytes : goal.returns-clause-bytes
returns-clause-bytes c = text_harmless

pub returns-clause-says : goal.returns-clause-says
returns-clause-says c = text_says
