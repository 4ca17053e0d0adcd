use Rattle.std.proofs.Common.{◌≡◌, ◌++◌, drop, option_copied, option_to_list}
use Rattle.websocket.specs.Headers.{fields_of}
use Rattle.web_requests.specs.Serving.{values}
use Rattle.web_requests.proofs.requests.value_of.Given as goal

-- the value that was found, and those that come after it
abbrev pub invariant-loop-span : goal.invariant-loop-span
invariant-loop-span l =
    values (fields_of l.head l.spans) l.name
    ≡ option_to_list (option_copied l.found) ++ values (fields_of l.head (drop l.span-index l.spans)) l.name
