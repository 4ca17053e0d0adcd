-- News of a loop, which wait to be told to the log.
use Rattle.std.specs.Prelude.{◌++◌, ◌∷◌, ℕ, List, [], Option, Some, None, Ok, Err, Result}
use Rattle.std.specs.Prelude.{if◌then◌else◌, length, nat_lt, option_map}
use Rattle.attach_proto.specs.declared.why.Why.{Why}
use Rattle.server_connections.specs.declared.peer.Role.{Role}
use Rattle.server_connections.specs.declared.peer.Role.TheVariants as role
use Rattle.server_seat.specs.declared.news.Guest.{Guest}
use Rattle.server_seat.specs.declared.news.News.{News}
use Rattle.server_seat.specs.declared.news.News.TheVariants as news
use Rattle.server_seat.specs.declared.seat.SeatAnswer.{SeatAnswer}
use Rattle.server_seat.specs.declared.seat.SeatFault.{SeatFault}

-- the news that wait after one more: at most 1,024 wait, and later ones are left out
abbrev pub with_news : News → List News → List News
with_news one waiting = if nat_lt (length waiting) 1024 then waiting ++ one ∷ [] else waiting

-- after one more, if there is one
abbrev pub with_any : Option News → List News → List News
with_any None waiting = waiting
with_any (Some one) waiting = with_news one waiting

-- what is told of an answer: how full the trail is, if that is news
abbrev pub filled_by : Result SeatAnswer SeatFault → Option News
filled_by (Ok answer) = option_map (λ (percent : ℕ). news.Filled percent) answer.filled
filled_by (Err why) = None

-- of what a connection sent that it mustn't: it isn't even a first message
abbrev pub misfit : Role → Option News
misfit role.Stranger = Some news.Misfit
misfit other = None

-- of a guest that went, and why it was told to go
abbrev pub went : Option (Guest × Option Why) → Option News
went None = None
went (Some gone) = Some (news.Went gone.0 gone.1)
