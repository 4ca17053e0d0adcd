-- What the words of the command line ask for.
use Rattle.std.specs.Prelude.{◌≡◌, ◌⊎◌, ℕ, pos, Bool, true, false, List, [], ◌∷◌, Option, Some, None}
use Rattle.std.specs.Prelude.{IfSome, option_and_then, codes}
use Rattle.acl.specs.declared.leaders.Edition.{Edition}
use Rattle.acl.specs.declared.leaders.Edition.TheVariants.{First, Second}
use Rattle.acl.specs.declared.user_id.UserId.{UserId}
use Rattle.acl.specs.Names.{named_by}
use Rattle.clap.specs.Words.{App, Rule, Text, new_app, new_rule, with_rule, matches_of, takes, first_of, one_of}
use Rattle.clap.specs.declared.builder.ArgAction.TheVariants.{SetTrue}
use Rattle.clap.specs.declared.builder.value_parser.ValueParser.TheVariants.{Signed}
use Rattle.session_model.specs.Trace.{begun}
use Rattle.program_words.specs.SetupLines.{commands_in, first_fault}
use Rattle.program_words.specs.declared.setup.SetupLine.{SetupLine}
use Rattle.session.specs.Played.{PlaysAll}
use Rattle.session.specs.declared.setup_file.Beginning.{Beginning}
use Rattle.session.specs.Setup.{Behind}

-- ---- muxsim [--edition N] [--setup FILE] [--show] [--trail FILE] OWNER

-- the number 1 or 2; 2 if none is given
abbrev pub edition : Rule
edition = record (new_rule (codes "edition")) {
  long = Some (codes "edition");
  value_names = 1;
  defaults = codes "2" ∷ [];
  parser = Some (Signed (pos 1) (pos 2));
}

abbrev pub setup : Rule
setup = record (new_rule (codes "setup")) { long = Some (codes "setup"); value_names = 1 }

abbrev pub show : Rule
show = record (new_rule (codes "show")) { long = Some (codes "show"); action = Some SetTrue }

abbrev pub trail : Rule
trail = record (new_rule (codes "trail")) { long = Some (codes "trail"); value_names = 1 }

abbrev pub owner : Rule
owner = record (new_rule (codes "owner")) { value_names = 1; required = true }

abbrev pub muxsim : App
muxsim =
    with_rule (with_rule (with_rule (with_rule (with_rule (new_app (codes "muxsim"))
    edition) setup) show) trail) owner

-- ---- what is asked for

abbrev pub flag_text : Bool → Text
flag_text true = codes "true"
flag_text false = codes "false"

abbrev pub edition_text : Edition → Text
edition_text First = codes "1"
edition_text Second = codes "2"

-- the arguments are valid, and name this owner and this edition, with `--show` or without it
pub record Asks (words : List Text) (groups : Edition) (name : UserId) (shows : Bool) : Type 0 where
  pub understood : takes muxsim words ≡ true
  pub edition_is : one_of (codes "edition") (matches_of muxsim words) ≡ Some (edition_text groups)
  pub owner_is :
      option_and_then named_by (first_of (codes "owner") (matches_of muxsim words)) ≡ Some name
  pub shows_is : one_of (codes "show") (matches_of muxsim words) ≡ Some (flag_text shows)

-- a session begins with this edition, this owner and this setup
abbrev pub IsBeginning : Edition → UserId → List SetupLine → Option Beginning → Type 0
IsBeginning groups name lines None = ⊥
IsBeginning groups name lines (Some b) = (b.edition ≡ groups) × (b.owner ≡ name) × (b.setup.now ≡ lines)

-- what the setup may be: empty if the arguments name no file
abbrev pub MayHave : List Text → List ℕ → Type 0
MayHave words setup = first_of (codes "setup") (matches_of muxsim words) ≡ None → setup ≡ []

-- after the commands of this setup the whole script was played
pub record PlaysBehind (groups : Edition) (name : UserId) (shows : Bool) (setup : List ℕ)
    (script before after : Option (List ℕ)) : Type 0 where
  pub commands : first_fault (commands_in setup) ≡ None
  pub plays : IfSome script (λ bytes. Behind (λ h. PlaysAll h shows bytes before after)
      (begun groups name) name (commands_in setup))

-- status 0, and all was played; or status 1
abbrev pub Simulates : Edition → UserId → Bool → List ℕ → Option (List ℕ) → ℕ
    → Option (List ℕ) → Option (List ℕ) → Type 0
Simulates groups name shows setup script status before after =
    ((status ≡ 0) × PlaysBehind groups name shows setup script before after) ⊎ (status ≡ 1)
