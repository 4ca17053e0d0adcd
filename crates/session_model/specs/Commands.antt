-- What each command does after its checks passed: its own refusals, its acts, the new tables, its
-- effects and what it lists. Each command has one row. The commands are those of the GNU Screen
-- manual; only scrollview is this project's own.
use Rattle.std.specs.Prelude.{ℕ, ◌==◌, Bool, true, false, not, List, [], ◌∷◌, ◌++◌, Option, Some, None, Ok, Err, codes}
use Rattle.std.specs.Prelude.{length}
use Rattle.std.specs.List.{flat_map}
use Rattle.std.specs.Option.{option_map, option_map_or, option_and_then}
use Rattle.acl.specs.declared.user_id.UserId.{UserId}
use Rattle.acl.specs.declared.bits.BitChange.{BitChange}
use Rattle.acl.specs.declared.act.Act.{Act}
use Rattle.acl.specs.declared.act.Act.TheVariants as act
use Rattle.acl.specs.declared.act.Object.{Object}
use Rattle.acl.specs.declared.entries.MaskEntry.{MaskEntry}
use Rattle.acl.specs.declared.entries.AclFault.{AclFault}
use Rattle.acl.specs.Names.{named_by, name_of}
use Rattle.acl.specs.Commands.{change_acts, known_name_fault, group_acts, mask_fault, mask_acts}
use Rattle.command_lang.specs.declared.command.Command.{Command}
use Rattle.command_lang.specs.declared.command.Command.TheVariants as command
use Rattle.command_lang.specs.declared.command.Mask.{Mask}
use Rattle.command_lang.specs.declared.command.Coding.{Coding}
use Rattle.command_lang.specs.declared.command.Coding.TheVariants as coding
use Rattle.charsets.specs.declared.decoder.Coding as charsets
use Rattle.charsets.specs.declared.decoder.Coding.TheVariants as units
use Rattle.regions.specs.declared.node.Way.{Way}
use Rattle.regions.specs.declared.node.Way.TheVariants.{Below, Right}
use Rattle.regions.specs.declared.layout.RegionFault.TheVariants.{LastRegion}
use Rattle.regions.specs.Layouts.{kept_alone, split_focused, remove_focused, next_focus, split_fault}
use Rattle.terminal_model.specs.Writing as written
use Rattle.session_model.specs.declared.event.Reason.TheVariants as reason
use Rattle.session_model.specs.declared.refusal.Refusal.TheVariants.{NoWindow, Acl, Windows, Regions}
use Rattle.windows_model.specs.declared.rows.WindowsFault.TheVariants as fault
use Rattle.session_model.specs.declared.refusal.Verdict.{Verdict}
use Rattle.session_model.specs.Tables.{Window, Client, Tables, window_at, client_at, with_window, known_users}
use Rattle.session_model.specs.Rights.{leaders_in, add_acts_in, group_fault_in}
use Rattle.session_model.specs.Naming.{with_number, window_named, window_after, window_before, is_title, names_of}
use Rattle.session_model.specs.Naming.{objects_of, every_window, every_command, new_leader_of, entries_of}
use Rattle.session_model.specs.Texts.{windows_text, clients_text, group_text}
use Rattle.session_model.specs.Lines.{Caller}
use Rattle.session_model.specs.Checks.{checks, verdicts, first_fault}
use Rattle.session_model.specs.Deeds.{Answer, changing, acting, listing, both, unless, refused_if, given, changes}
use Rattle.session_model.specs.Deeds.{parts, is_of, removes, closes, arranges, enters, showing, selects, former_of}
use Rattle.session_model.specs.Deeds.{shown_in_focus, focused_box, writes, fits, input_of, tells}

-- ---- what commands act on

abbrev pub caller_client : Tables → Caller → Option Client
caller_client t k = option_and_then (client_at t) k.client

-- the answer of a command that acts on the client, and of one that acts on the window
abbrev pub on_client : Tables → Caller → (Client → Answer) → Answer
on_client t k f = given (caller_client t k) NoWindow f

abbrev pub on_window : Tables → Caller → (Window → Answer) → Answer
on_window t k f = given k.window NoWindow f

-- the window in focus of the client that gives the command
abbrev pub focus_of : Caller → Option ℕ
focus_of k = option_and_then (λ client. option_map (λ (w : Window). w.serial) k.window) k.client

-- ---- words

abbrev pub changing_bits : Tables → List (Option UserId) → List BitChange → List Object → List Act
changing_bits t names bits objects = change_acts (known_users t) names bits objects

abbrev pub leaders_named : Tables → List ℕ → List ℕ
leaders_named t word = option_map_or (λ u. group_text u (leaders_in t u)) (named_by word) []

abbrev pub known_fault : Tables → List ℕ → Option AclFault
known_fault t word = known_name_fault t.owner (known_users t) (named_by word)

abbrev pub mask_entries : Tables → List Mask → List MaskEntry
mask_entries t masks = flat_map (entries_of t) masks

-- whether another window has the number
abbrev pub is_taken : Tables → Window → ℕ → Bool
is_taken t w n =
    option_map_or (λ (v : Window). not (v.serial == w.serial)) (with_number t.windows n) false

abbrev pub way_of : Bool → Way
way_of true = Right
way_of false = Below

abbrev pub coding_of : Coding → charsets.Coding
coding_of coding.Utf8 = units.Utf8
coding_of coding.Ecma35 = units.Ecma35

-- ---- the rows
abbrev pub does : Tables → Caller → Command → Answer
-- users and their rights
does t k (command.Acladd names) =
    changes t (names_of t names) (Some (every_window t ++ every_command))
    (add_acts_in t (names_of t names))
does t k (command.Aclchg names bits list) =
    changes t (names_of t names) (objects_of t list) (changing_bits t (names_of t names) bits)
does t k (command.Acldel word) = unless Acl (known_fault t word) (removes (named_by word) t)
does t k (command.Aclgrp word None) =
    unless Acl (known_fault t word) (listing t (leaders_named t word))
does t k (command.Aclgrp word (Some leader)) =
    unless Acl (group_fault_in t (named_by word) (new_leader_of leader))
    (acting t (group_acts (named_by word) (new_leader_of leader)))
does t k (command.Aclumask masks) =
    unless Acl (mask_fault t.owner (known_users t) (mask_entries t masks))
    (acting t (mask_acts k.user (mask_entries t masks)))
does t k (command.Multiuser true) = Ok (changing (record t { is_multiuser = true }))
does t k (command.Multiuser false) =
    Ok (parts (λ c. not (is_of t.owner c)) reason.SingleUser (record t { is_multiuser = false }))
-- write locks
does t k (command.Writelock mode) =
    on_window t k (λ w. Ok (acting t (act.Mode k.user w.serial mode ∷ [])))
does t k (command.Defwritelock mode) = Ok (acting t (act.Default mode ∷ []))
-- messages and lists
does t k (command.Wall bytes) = Ok (tells (name_of k.user ++ (codes ": " ++ bytes)) t)
does t k command.Screen = Ok (listing t (codes "windows are opened by mux window"))
does t k command.Windows = Ok (listing t (windows_text t k.user (focus_of k)))
does t k command.Displays = Ok (listing t (clients_text t))
-- which window is shown
does t k (command.Select word) = on_client t k (λ c.
    given (window_named t.windows word) (Windows fault.NoSuchWindow) (λ w. Ok (selects t c w)))
does t k command.Next =
    on_client t k (λ c. given (window_after t.windows k.window) NoWindow (λ w. Ok (selects t c w)))
does t k command.Prev =
    on_client t k (λ c. given (window_before t.windows k.window) NoWindow (λ w. Ok (selects t c w)))
does t k command.Other = on_client t k (λ c.
    given (option_and_then (window_at t) (former_of c)) NoWindow (λ w. Ok (selects t c w)))
-- regions
does t k (command.Split vertical) = on_client t k (λ c.
    unless Regions (split_fault (way_of vertical) c.layout c.rows c.columns)
    (arranges t c (split_focused (way_of vertical) c.layout)))
does t k command.Focus =
    on_client t k (λ c. Ok (enters t c (record c.layout { focus = next_focus c.layout })))
does t k command.Remove = on_client t k (λ c.
    refused_if (length c.layout.shown == 1) (Regions LastRegion)
    (enters t c (remove_focused c.layout)))
does t k command.Only = on_client t k (λ c. Ok (arranges t c (kept_alone c.layout)))
does t k (command.Scrollview n) =
    on_client t k (λ c. Ok (arranges t c (showing c (record (shown_in_focus c) { back = n }))))
does t k command.Fit =
    on_client t k (λ c. on_window t k (λ w. given (focused_box c) NoWindow (fits t w)))
-- a window's title, its number and what is written to it
does t k (command.Title bytes) = on_window t k (λ w.
    refused_if (not (is_title bytes)) (Windows fault.BadTitle)
    (changing (with_window t (record w { title = bytes }))))
does t k (command.Number n) = on_window t k (λ w.
    refused_if (is_taken t w n) (Windows fault.NumberTaken)
    (changing (with_window t (record w { number = n }))))
does t k command.Clear = on_window t k (λ w. Ok (writes t w written.Clear))
does t k command.Reset = on_window t k (λ w. Ok (writes t w written.Reset))
does t k (command.Encoding coding) =
    on_window t k (λ w. Ok (writes t w (written.Encoding (coding_of coding))))
does t k (command.Stuff bytes) =
    on_window t k (λ w. Ok (record (changing t) { effects = input_of w.serial bytes }))
-- clients and windows that go
does t k command.Detach =
    on_client t k (λ c. Ok (parts (λ d. d.serial == c.serial) reason.Detached t))
does t k command.Kill = on_window t k (λ w. Ok (closes (λ v. v.serial == w.serial) reason.Killed t))
does t k command.Quit =
    Ok (both (closes (λ w. true) reason.Quit t) (parts (λ c. true) reason.Quit))

-- ---- a command that is given

-- what is ruled of a command: its verdicts, and its deed or its refusal
pub record Ruling : Type 0 where
  pub verdicts : List Verdict
  pub answer : Answer

abbrev pub ruling : Tables → Caller → Command → Ruling
ruling t k c = record {
  verdicts = verdicts t (checks t k c);
  answer = elim (first_fault t (checks t k c)) [ Some r ↦ Err r | None ↦ does t k c ];
}
