-- What each event does, event by event.
use Rattle.std.specs.Prelude.{ℕ, ◌==◌, [], ◌∷◌, Some, None, if◌then◌else◌, take}
use Rattle.session_model.specs.declared.refusal.Check.TheVariants.{Must as must}
use Rattle.session_model.specs.declared.event.Reason.TheVariants as reason
use Rattle.session_model.specs.declared.refusal.Refusal.TheVariants.{UnknownUser, NoWindow, BadSize}
use Rattle.session_model.specs.Trace.{EventValue, Attach, Detach, Keys, Command, Resize, Open, Output, Closed, Draw}
use Rattle.session_model.specs.Tables.{Window, Client, Tables, window_at, client_at, with_client, is_known}
use Rattle.session_model.specs.Lines.{read_line, line_caller}
use Rattle.session_model.specs.Deeds.{changing, parts, closes}
use Rattle.session_model.specs.Keying.{taken}
use Rattle.session_model.specs.Outcomes.{Outcome, reply_of, done, finished, refused, where_passed}
use Rattle.session_model.specs.Comings.{is_client_size, attach_checks, new_client, attaches}
use Rattle.session_model.specs.Comings.{open_checks, new_window, opens, resized, outputs}
use Rattle.session_model.specs.Answering.{line_ruling, commanded, keys_outcome}

abbrev pub with_client_of : Tables → ℕ → (Client → Outcome) → Outcome
with_client_of t client f =
    elim (client_at t client) [ None ↦ refused t [] NoWindow | Some c ↦ f c ]

abbrev pub with_window_of : Tables → ℕ → (Window → Outcome) → Outcome
with_window_of t window f =
    elim (window_at t window) [ None ↦ refused t [] NoWindow | Some w ↦ f w ]

-- the outcome of an event; what a Draw delivers isn't part of it, since the run says it
abbrev pub outcome : Tables → EventValue → Outcome
outcome t (Attach user rows columns) =
    where_passed t (attach_checks t user rows columns) (reply_of 0 t.next_client 0 None)
    (attaches t (new_client t user rows columns))
outcome t (Detach client) = with_client_of t client (λ c.
    finished t [] done (parts (λ d. d.serial == client) reason.Detached t))
outcome t (Keys client bytes) =
    with_client_of t client (λ c. keys_outcome t c (take (taken c.keys bytes) bytes))
outcome t (Command user number bytes) =
    if is_known t user
    then commanded t (line_ruling t (line_caller t user number) (read_line bytes))
    else refused t [] UnknownUser
outcome t (Resize client rows columns) = with_client_of t client (λ c.
    where_passed t (must (is_client_size rows columns) BadSize ∷ []) done
    (changing (with_client t (resized rows columns c))))
outcome t (Open user rows columns keep title) =
    let w : Window = new_window t rows columns keep title in
    where_passed t (open_checks t user rows columns keep title)
    (reply_of 0 w.serial w.number None) (opens t user w)
outcome t (Output window bytes) =
    with_window_of t window (λ w. finished t [] done (outputs t w bytes))
outcome t (Closed window) = with_window_of t window (λ w.
    finished t [] done (closes (λ v. v.serial == window) reason.Detached t))
outcome t (Draw client) = with_client_of t client (λ c. finished t [] done (changing t))
