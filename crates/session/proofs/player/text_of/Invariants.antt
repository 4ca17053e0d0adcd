use Rattle.session.proofs.Vocabulary.{◌≡◌, ◌++◌, take, flat_map, string_bytes, happening, effect_line, reply_line}
use Rattle.session.proofs.player.text_of.Given as goal

abbrev pub invariant-loop-effect : goal.invariant-loop-effect
invariant-loop-effect l = string_bytes l.text ≡ flat_map effect_line (take l.effect-index l.effects)

abbrev pub invariant-loop-reply : goal.invariant-loop-reply
invariant-loop-reply l = string_bytes l.text ≡ flat_map effect_line l.effects ++ flat_map
    (reply_line (happening l.event)) (take l.reply-index l.replies)
