-- A text for the last line of a client's terminal, and the client's help.
use Rattle.std.specs.Prelude.{◌≡◌, ◌⊎◌, ℕ, ◌+◌, ◌-◌, ◌≤◌, ◌==◌, ◌&&◌, ◌||◌, nat_le, Bool, true, false, MatchBool}
use Rattle.std.specs.Prelude.{if◌then◌else◌, List, [], ◌∷◌, ◌++◌, take, codes, decimal}
use Rattle.std.specs.List.{starts_with}
use Rattle.client_words.specs.Visible.{visible}
use Rattle.client_notice.specs.declared.notice.Notice.{Notice}
use Rattle.client_notice.specs.declared.notice.NoticeStage.{NoticeStage}
use Rattle.client_notice.specs.declared.notice.NoticeStage.TheVariants as stage
use Rattle.client_notice.specs.declared.notice.NoticeTask.{NoticeTask}
use Rattle.client_notice.specs.declared.notice.NoticeTask.TheVariants as task

-- a text for the last line, of which no character controls the terminal
abbrev pub noted : List ℕ → List ℕ
noted text = codes "mux: " ++ visible text

-- the text is to be shown soon
abbrev pub IsNew : List ℕ → Notice → Type 0
IsNew text n = (n.text.items ≡ noted text) × (n.stage ≡ stage.New)

-- the same of a text with its meaning, if it has one
abbrev pub TellsMore : List ℕ → Notice → Type 0
TellsMore text n = (meaning : List ℕ) × IsNew (text ++ meaning) n

-- a text of the server, which no status line has
abbrev pub is_of_server : List ℕ → Bool
is_of_server text =
    starts_with ◌==◌ text (codes "keys were dropped") || starts_with ◌==◌ text (codes "the server")

-- A text that comes after the client was let in. The status line has those of the session, so only those of the server
-- are shown; a client with texts of its own shows others, too, if it knows what they mean.
abbrev pub HearsLater : Bool → List ℕ → Notice → Notice → Type 0
HearsLater false text old new = MatchBool (is_of_server text) (IsNew text new) (new ≡ old)
HearsLater true text old new =
    MatchBool (is_of_server text) (TellsMore text new) ((new ≡ old) ⊎ TellsMore text new)

-- how many lines the view was moved back, and how to come back
abbrev pub scrolled : ℕ → List ℕ
scrolled back = decimal back ++ codes " lines back; Shift-PgDn or Alt-PgDn: forward, other keys: to the end"

-- a text is still to come
abbrev pub IsToShow : NoticeStage → Type 0
IsToShow stage.New = Unit {0}
IsToShow (stage.Due since) = Unit {0}
IsToShow other = ⊥

-- A text is shown 60 ms after it was seen first, as soon as the terminal is free for it. The first key that is typed a
-- second later takes it away.
abbrev pub turned : NoticeStage → ℕ → Bool → Bool → NoticeStage × NoticeTask
turned stage.Nothing now has_typed is_free = (stage.Nothing, task.Nothing)
turned stage.New now has_typed is_free = (stage.Due now, task.Nothing)
turned (stage.Due since) now has_typed is_free =
    if is_free && nat_le 60 (now - since) then (stage.Shown now, task.Show)
    else (stage.Due since, task.Nothing)
turned (stage.Shown since) now has_typed is_free =
    if has_typed && nat_le 1000 (now - since) then (stage.Nothing, task.TakeAway)
    else (stage.Shown since, task.Nothing)

-- The beginning of a text that has room in so many bytes: all of it, or at most three bytes less than there is room
-- for.
abbrev pub IsBeginning : List ℕ → ℕ → List ℕ → Type 0
IsBeginning text most beginning =
    (count : ℕ) × (beginning ≡ take count text) × (count ≤ most) × (most ≤ count + 3)

-- It stands in reverse at the bottom. The cursor's place and rendition are saved before it and restored after it.
abbrev pub notice_line : ℕ → List ℕ → List ℕ
notice_line rows text =
    0x1B ∷ 0x37 ∷ 0x1B ∷ 0x5B ∷ decimal rows ++ (codes ";1H" ++ (0x1B ∷ codes "[0;7m" ++ (text
    ++ (0x1B ∷ codes "[m" ++ (0x1B ∷ codes "[K" ++ 0x1B ∷ codes "8")))))

-- The line has the text, or as much of it as fits: the last column stays free.
abbrev pub PutsLine : List ℕ → ℕ → ℕ → List ℕ → List ℕ → Type 0
PutsLine text rows columns old new =
    (shown : List ℕ) × IsBeginning text (columns - 1) shown × (new ≡ old ++ notice_line rows shown)

-- each row but the first one begins after NEL
abbrev pub next_row : ℕ → List ℕ
next_row row = if row == 0 then [] else 0x1B ∷ codes "E"

-- So many rows from the top have a text each, or as much of it as fits, and are erased after it.
pub data IsHelp (columns : ℕ) : ℕ → List ℕ → Type 0 where
  none : IsHelp columns 0 (0x1B ∷ codes "[m" ++ 0x1B ∷ codes "[H")
  row : {row : ℕ} {page : List ℕ} (text line : List ℕ) → IsBeginning text (columns - 1) line → IsHelp columns row page
      → IsHelp columns (row + 1) (((page ++ next_row row) ++ line) ++ 0x1B ∷ codes "[K")
