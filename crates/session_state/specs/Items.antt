-- Items of lists, and lists that grow by an item.
use Rattle.std.specs.Prelude.{◌≡◌, ℕ, Bool, true, false, List, [], ◌∷◌, ◌++◌, Option, Some, None}
use Rattle.std.specs.Prelude.{if◌then◌else◌, codes, decimal}
use Rattle.std.specs.Option.{option_map}
use Rattle.std.proofs.Common.{refl, ap, ◌∙◌, sym, append_assoc, append-nil}
use Rattle.acl.specs.declared.user_id.UserId.{UserId}
use Rattle.acl.specs.declared.bits.Bit.TheVariants as bit
use Rattle.acl.specs.declared.act.Object.TheVariants as object
use Rattle.acl.specs.Names.{name_of}
use Rattle.session_model.specs.Tables.{Window, Client, Tables, is_window, focused}
use Rattle.session_model.specs.Rights.{may_in}
use Rattle.session_model.specs.Texts.{behind, separated, window_item, number_text, focus_text, client_item}

-- a window's number, whether it is in focus, and its title, if it may be read
abbrev pub window_line : ℕ → Bool → Bool → List ℕ → List ℕ
window_line number is_in_focus is_readable title =
    decimal number
    ++ ((if is_in_focus then codes "* " else codes " ")
    ++ (if is_readable then title else codes "?"))

-- it is the window's item
pub window_line_is : (t : Tables) (user : UserId) (focus : Option ℕ) (w : Window)
    → window_line w.number (is_window w.serial focus)
    (may_in t user bit.Read (object.Window w.serial)) w.title
    ≡ window_item t user focus w
window_line_is t user focus w = refl

-- a number, or `-`
abbrev pub number_or_dash : Option ℕ → List ℕ
number_or_dash None = codes "-"
number_or_dash (Some n) = decimal n

-- a client's serial, its user, and the number of the window in focus
abbrev pub client_line : ℕ → UserId → Option ℕ → List ℕ
client_line serial user focus =
    decimal serial ++ (codes " " ++ (name_of user ++ (codes " " ++ number_or_dash focus)))

-- the number of an open window
pub number_of_window : (w : Option Window)
    → number_or_dash (option_map (λ (v : Window). v.number) w) ≡ number_text w
number_of_window None = refl
number_of_window (Some w) = refl

-- it is the client's item
pub client_line_is : (t : Tables) (c : Client) (focus : Option ℕ)
    → number_or_dash focus ≡ focus_text t (focused c)
    → client_line c.serial c.user focus ≡ client_item t c
client_line_is t c focus same =
    ap (λ (x : List ℕ). decimal c.serial ++ (codes " " ++ (name_of c.user ++ (codes " " ++ x))))
    same

-- ---- lists that grow

-- what stands before an item: nothing before the first one
abbrev pub separator : Bool → List ℕ
separator is_first = if is_first then [] else codes "  "

abbrev pub has_none : {A : Type 0} → List A → Bool
has_none [] = true
has_none (x ∷ xs) = false

behind_more : (sep : List ℕ) (items : List (List ℕ)) (item : List ℕ)
    → behind sep (items ++ item ∷ []) ≡ behind sep items ++ (sep ++ item)
behind_more sep [] item = ap (λ (x : List ℕ). sep ++ x) (append-nil item)
behind_more sep (i ∷ items) item =
    ap (λ (x : List ℕ). sep ++ (i ++ x)) (behind_more sep items item)
    ∙ ap (λ (x : List ℕ). sep ++ x) (sym (append_assoc i (behind sep items) (sep ++ item)))
    ∙ sym (append_assoc sep (i ++ behind sep items) (sep ++ item))

-- one more item, after the separator unless it is the first
pub separated_more : (items : List (List ℕ)) (item : List ℕ)
    → separated (codes "  ") (items ++ item ∷ [])
    ≡ separated (codes "  ") items ++ (separator (has_none items) ++ item)
separated_more [] item = append-nil item
separated_more (i ∷ items) item =
    ap (λ (x : List ℕ). i ++ x) (behind_more (codes "  ") items item)
    ∙ sym (append_assoc i (behind (codes "  ") items) (codes "  " ++ item))
