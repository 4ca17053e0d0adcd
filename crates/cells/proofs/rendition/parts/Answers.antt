use Rattle.std.proofs.Common.{rules}
use Rattle.cells.proofs.Packed.{with_back, with_blinking, with_bold, with_fore, with_reversed, with_underlined}
use Rattle.cells.proofs.rendition.parts.Goals as goal

pub returns-in-Bold : goal.returns-in-Bold
returns-in-Bold c = λ r. rw c.in-Bold.is (with_bold r c.in-Bold.is_bold _ (search rules))

pub returns-in-Underlined : goal.returns-in-Underlined
returns-in-Underlined c = λ r. rw c.in-Underlined.is (with_underlined r c.in-Underlined.is_underlined _ (search rules))

pub returns-in-Blinking : goal.returns-in-Blinking
returns-in-Blinking c = λ r. rw c.in-Blinking.is (with_blinking r c.in-Blinking.is_blinking _ (search rules))

pub returns-in-Reversed : goal.returns-in-Reversed
returns-in-Reversed c = λ r. rw c.in-Reversed.is (with_reversed r c.in-Reversed.is_reversed _ (search rules))

pub returns-in-Foreground : goal.returns-in-Foreground
returns-in-Foreground c = λ r. rw c.in-Foreground.is (with_fore r c.in-Foreground.fore _ (search rules))

pub returns-in-Background : goal.returns-in-Background
returns-in-Background c = λ r. rw c.in-Background.is (with_back r c.in-Background.back _ (search rules))
