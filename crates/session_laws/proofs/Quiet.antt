-- No command but `stuff` puts bytes into windows.
use Rattle.session_laws.proofs.Vocabulary.{◌≡◌, ℕ, Bool, true, false, not, List, [], ◌∷◌, ◌++◌, Option, Some, None, Ok}
use Rattle.session_laws.proofs.Vocabulary.{Err, map, filter, refl, ap, sym, ◌∙◌, true≢false, ◌==◌, codes, Say, Gone}
use Rattle.session_laws.proofs.Vocabulary.{Reason, Detached, Killed, Removed, SingleUser, Quit, UserId, named_by, does}
use Rattle.session_laws.proofs.Vocabulary.{Deed, Answer, removes, is_of, closes, Caller, inputs, Tables, Window, Client}
use Rattle.command_lang.specs.declared.command.Command.{Command}
use Rattle.command_lang.specs.declared.command.Command.TheVariants as command
use Rattle.session_model.specs.declared.event.Peer.TheVariants as peer
use Rattle.acl.specs.Names.{name_of}
use Rattle.session_laws.proofs.Doing.{Either}
use Rattle.session_laws.proofs.Shapes as shapes

-- a fact of the deed, if there is one
abbrev pub Of : (Deed → Type 0) → Answer → Type 0
Of P (Ok d) = P d
Of P (Err r) = Unit {0}

abbrev pub IsQuiet : Deed → Type 0
IsQuiet d = (w : ℕ) → inputs d.effects w ≡ []

pub gone_windows : (why : Reason) (ws : List Window) (v : ℕ)
    → inputs (map (λ (w : Window). Gone (peer.Window w.serial) why) ws) v ≡ []
gone_windows why [] v = refl
gone_windows why (w ∷ ws) v = gone_windows why ws v

pub gone_clients : (why : Reason) (cs : List Client) (v : ℕ)
    → inputs (map (λ (c : Client). Gone (peer.Client c.serial) why) cs) v ≡ []
gone_clients why [] v = refl
gone_clients why (c ∷ cs) v = gone_clients why cs v

gone_both : (why : Reason) (ws : List Window) (cs : List Client) (v : ℕ)
    → inputs (map (λ (w : Window). Gone (peer.Window w.serial) why) ws ++ map
    (λ (c : Client). Gone (peer.Client c.serial) why) cs) v ≡
    []
gone_both why [] cs v = gone_clients why cs v
gone_both why (w ∷ ws) cs v = gone_both why ws cs v

said : (bytes : List ℕ) (cs : List Client) (v : ℕ) → inputs (map (λ (c : Client). Say c.serial bytes) cs) v ≡ []
said bytes [] v = refl
said bytes (c ∷ cs) v = said bytes cs v

abbrev pub types : Command → Bool
types (command.Stuff bytes) = true
types _ = false

quiet_removal : (t : Tables) (o : Option UserId) → IsQuiet (removes o t)
quiet_removal t None v = refl
quiet_removal t (Some u) v = gone_clients Removed (filter (is_of u) t.clients) v

quiet_deed : (t : Tables) (k : Caller) (c : Command) (d : Deed) → types c ≡ false → shapes.Shape t k c d → IsQuiet d
quiet_deed t k c d other (shapes.shut is) v = gone_clients SingleUser
    (filter (λ (x : Client). not (is_of t.owner x)) t.clients) v
quiet_deed t k c d other (shapes.told bytes is) v = said (name_of k.user ++ (codes ": " ++ bytes)) t.clients v
quiet_deed t k c d other (shapes.removed word is clear) v = quiet_removal t (named_by word) v
quiet_deed t k c d other (shapes.typed w bytes is at) v = absurd (true≢false (sym (ap types is) ∙ other))
quiet_deed t k c d other (shapes.detached x is at) v = gone_clients Detached
    (filter (λ (y : Client). y.serial == x.serial) t.clients) v
quiet_deed t k c d other (shapes.killed w is at) v = gone_windows Killed
    (filter (λ (y : Window). y.serial == w.serial) t.windows) v
quiet_deed t k c d other (shapes.quits is) v = gone_both Quit (filter (λ (w : Window). true) t.windows)
    (filter (λ (x : Client). true) (closes (λ w. true) Quit t).tables.clients) v
quiet_deed t k c d other kind v = refl

pub quiet : (t : Tables) (k : Caller) (c : Command) → types c ≡ false → Of IsQuiet (does t k c)
quiet t k c other = through (does t k c) (shapes.by_shape IsQuiet t k c (λ d is. quiet_deed t k c d other is)) where
  through : (a : Answer) → Either IsQuiet a → Of IsQuiet a
  through (Ok d) is = is
  through (Err r) is = tt
