use Rattle.std.proofs.Common.{◌≡◌, ℕ, List, Option, None, Some, IfSome, option_map, String, Global, ap, inr}
use Rattle.std.specs.String.{string_bytes}
use Rattle.web_turn.specs.declared.link_files.FoundLink.{FoundLink}
use Rattle.web_turn.proofs.links.AnyTakesLinks.take_link.Goals as goal

-- a text and a time, as the bytes of the text
abbrev bytes_of : String Global × ℕ → List ℕ × ℕ
bytes_of it = (string_bytes it.0, it.1)

read_of : (f : FoundLink) (r : Option (String Global × ℕ)) → IfSome r (λ it. it ≡ (f.text, f.seconds))
    → IfSome (option_map bytes_of r) (λ it. it ≡ (string_bytes f.text, f.seconds))
read_of f None read = tt
read_of f (Some it) read = ap bytes_of read

pub returns : goal.returns
returns g c =
    let link = c.in_ok-found.found in
    inr (
      link,
      c.in_ok-found.ensures.finds,
      c.remove_link.ensures.removes,
      c.in_ok-found.ensures.secret,
      read_of link c.remove_link.result c.remove_link.ensures.read,
    )
