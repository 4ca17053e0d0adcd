-- The lists of checks that the code makes are the definitions' lists.
use Rattle.std.proofs.Common.{◌≡◌, ℕ, Bool, true, false, List, [], ◌∷◌, ◌++◌, Option, Some, None}
use Rattle.std.proofs.Common.{refl, ap, sym, subst, ◌∙◌}
use Rattle.std.specs.Option.{option_map, option_and_then, is_some}
use Rattle.acl.specs.declared.user_id.UserId.{UserId}
use Rattle.acl.specs.declared.bits.Bit.TheVariants.{Execute}
use Rattle.acl.specs.declared.act.Object.TheVariants as object
use Rattle.acl.specs.History.{is_open}
use Rattle.command_lang.specs.declared.command.Command.{Command}
use Rattle.command_lang.specs.Names.{name_of}
use Rattle.session_model.specs.declared.refusal.Check.{Check}
use Rattle.session_model.specs.declared.refusal.Check.TheVariants.{Right, Must}
use Rattle.command_lang.specs.declared.needs.Needs.{Needs}
use Rattle.session_model.specs.declared.refusal.Refusal.TheVariants.{NotMultiuser, NoWindow}
use Rattle.session_model.specs.Tables.{Window, Tables, window_at}
use Rattle.session_model.specs.Checks.{where_needed, window_checks, checks, typing_checks}
use Rattle.command_lang.specs.Needs.{needs}
use Rattle.windows_model.proofs.Serials.{serial_is}
use Rattle.session_state.specs.declared.state.Caller.{Caller}
use Rattle.session_model.specs.Sound.{AreFit}
use Rattle.session_state.specs.Doing.{caller_in}
use Rattle.session_checks.specs.Checked.{AllMade, listed, only_if, access, writing, writing_on, lock_on, row_of_caller}

-- a check that is needed, and then others
pub needed : (b : Bool) (c : Check) (cs : List (Option Check))
    → listed (only_if b (Some c) ∷ cs) ≡ where_needed b (c ∷ []) ++ listed cs
needed true c cs = refl
needed false c cs = refl

-- the checks of a window
pub on_window : (n : Needs) (w write lock : Bool) (user : UserId) (window : Option ℕ)
    → listed (only_if w (Some (access user window))
    ∷ only_if w (only_if write (writing_on user window))
    ∷ only_if w (only_if lock (lock_on user window)) ∷ [])
    ≡ where_needed w (window_checks user (record n { write = write; lock = lock }) window)
on_window n false write lock user window = refl
on_window n true true true user None = refl
on_window n true true false user None = refl
on_window n true false true user None = refl
on_window n true false false user None = refl
on_window n true true true user (Some w) = refl
on_window n true true false user (Some w) = refl
on_window n true false true user (Some w) = refl
on_window n true false false user (Some w) = refl

pub command_listed : (t : Tables) (k : Caller) (c : Command)
    → listed (Some (Right k.user Execute (object.Command (name_of c)))
    ∷ only_if (needs c).multiuser (Some (Must t.is_multiuser NotMultiuser))
    ∷ only_if (needs c).client (Some (Must (is_some k.client) NoWindow))
    ∷ only_if (needs c).window (Some (access k.user (row_of_caller t k)))
    ∷ only_if (needs c).window (only_if (needs c).write (writing_on k.user (row_of_caller t k)))
    ∷ only_if (needs c).window (only_if (needs c).lock (lock_on k.user (row_of_caller t k))) ∷ [])
    ≡ checks t (caller_in t k) c
command_listed t k c =
    let n = needs c in
    ap (λ cs. Right k.user Execute (object.Command (name_of c)) ∷ cs)
    (needed n.multiuser (Must t.is_multiuser NotMultiuser) _
    ∙ ap (λ cs. where_needed n.multiuser (Must t.is_multiuser NotMultiuser ∷ []) ++ cs)
    (needed n.client (Must (is_some k.client) NoWindow) _
    ∙ ap (λ cs. where_needed n.client (Must (is_some k.client) NoWindow ∷ []) ++ cs)
    (on_window n n.window n.write n.lock k.user (row_of_caller t k))))

pub typing_listed : (user : UserId) (o : Option Window)
    → listed (Some (writing user (option_map (λ (w : Window). w.serial) o))
    ∷ lock_on user (option_map (λ (w : Window). w.serial) o) ∷ [])
    ≡ typing_checks user o
typing_listed user None = refl
typing_listed user (Some w) = refl

module _ (t : Tables) where
  made_where : (b : Bool) (cs : List Check) → AllMade t cs → AllMade t (where_needed b cs)
  made_where true cs made = made
  made_where false cs made = tt

  made_on : (cs ds : List Check) → AllMade t cs → AllMade t ds → AllMade t (cs ++ ds)
  made_on [] ds p q = q
  made_on (c ∷ cs) ds p q = (p.0, made_on cs ds p.1 q)

  -- the window of a caller is open by the acts
  pub open_row : AreFit t → (s : Option ℕ) (w : Window) → option_and_then (window_at t) s ≡ Some w
      → is_open t.acts w.serial ≡ true
  open_row fit None w at = absurd (cc (at))
  open_row fit (Some s) w at =
      subst (λ n. is_open t.acts n ≡ true)
      (sym (serial_is (λ (v : Window). v.serial) t.windows s w at))
      (fit.agree.open_is s ∙ ap is_some at)

  made_window : (user : UserId) (n : Needs) (o : Option Window)
      → ((w : Window) → o ≡ Some w → is_open t.acts w.serial ≡ true)
      → AllMade t (window_checks user n (option_map (λ (w : Window). w.serial) o))
  made_window user n None opened = (tt, tt)
  made_window user n (Some w) opened =
      let there = opened w refl in (
        there,
        made_on (where_needed n.write _) (where_needed n.lock _)
            (made_where n.write _ (there, tt)) (made_where n.lock _ (tt, tt)),
      )

  pub all_made : AreFit t → (k : Caller) (c : Command) → AllMade t (checks t (caller_in t k) c)
  all_made fit k c =
      let n = needs c in (
        refl,
        made_on (where_needed n.multiuser _) _ (made_where n.multiuser _ (tt, tt))
            (made_on (where_needed n.client _) _ (made_where n.client _ (tt, tt))
            (made_where n.window _ (made_window k.user n (caller_in t k).window (open_row fit k.window)))),
      )

  made_typing : (user : UserId) (o : Option Window)
      → ((w : Window) → o ≡ Some w → is_open t.acts w.serial ≡ true)
      → AllMade t (typing_checks user o)
  made_typing user None opened = (tt, tt)
  made_typing user (Some w) opened = (opened w refl, (tt, tt))

  pub typing_made : AreFit t → (k : Caller)
      → AllMade t (typing_checks k.user (caller_in t k).window)
  typing_made fit k = made_typing k.user (caller_in t k).window (open_row fit k.window)
