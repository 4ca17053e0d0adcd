use Rattle.std.proofs.Common.{◌≡◌, ◌++◌, drop, length}
use Rattle.std.specs.Str.{chars}
use Rattle.std.specs.String.{string_bytes}
use Rattle.web_page.specs.Json.{spelled_text}
use Rattle.web_page.proofs.character.put_text.Given as goal

abbrev pub invariant-loop-character : goal.invariant-loop-character
invariant-loop-character l = string_bytes l.fn.out ++ spelled_text (chars l.text) ≡ string_bytes l.out ++ spelled_text
    (drop (length l.yielded) (chars l.text))
