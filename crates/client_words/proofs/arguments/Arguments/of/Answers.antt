use Rattle.std.proofs.Common.{◌≡◌, ℕ, List, Option, Some, None, option_map}
use Rattle.std.specs.Box.{box_value}
use Rattle.std.specs.declared.boxed.Box.{Box}
use Rattle.clap.specs.Simple.{subcommand_rows}
use Rattle.clap.specs.Words.{Row, found_of}
use Rattle.clap.specs.declared.parser.matches.ArgMatches.TheViews.{out-SubCommand}
use Rattle.clap.specs.declared.parser.matches.SubCommand.{SubCommand}
use Rattle.client_words.proofs.arguments.Arguments.of.Goals as goal

-- the name and the rows are those of one subcommand
joined : {Z : Type 0} (found : Option (Box SubCommand Z)) (name : List ℕ) (rows : List Row)
    → Some name ≡ option_map (λ b. (out-SubCommand (box_value b)).name.now) found
    → Some rows ≡ option_map (λ p. p.1) (subcommand_rows found) → subcommand_rows found ≡ Some (name, rows)
joined None name rows named held = cc
joined (Some b) name rows named held = cc

pub returns-clause-some : goal.returns-clause-some
returns-clause-some c =
    let found = c.in_ok-name.ensures in (
      c.in_ok-name.name.now,
      found_of c.in_ok-name.matches.now,
      joined _ _ _ found.name found.rows,
      rw c.of.ensures at c.of_subcommand.ensures,
    )
