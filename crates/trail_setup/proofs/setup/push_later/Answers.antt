use Rattle.trail_setup.proofs.Vocabulary.{◌++◌, [], ℕ, List, refl, true, known_in, mask_parts}
use Rattle.trail_setup.specs.Setup.{later_start, mode_text}
use Rattle.trail_setup.proofs.Putting.{puts_text}
use Rattle.trail_setup.proofs.setup.push_later.Goals as goal

pub returns : goal.returns
returns c = λ edition owner h stands.
    puts_text c.push_mode.result (mask_parts true owner h (known_in c.args.masks) later_start)
    (mode_text c.args.masks.state.now.mode) c.args.out.now.items c.push.new.out.items c.push_mode.new.out.items
    (c.in_ok-push.ensures edition owner h stands) c.push_mode.ensures
