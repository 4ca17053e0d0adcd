-- Clients that the code finds alike are granted to see the same.
use Rattle.session_view.proofs.Vocabulary.{◌≡◌, ℕ, ◌+◌, List, [], ◌∷◌, Some, None, refl, ap, sym, ◌∙◌, subst, map, take}
use Rattle.session_view.proofs.Vocabulary.{length, UserId, Read, Shown, box_of, status_of, Tables, window_at, may_in}
use Rattle.session_view.proofs.Vocabulary.{part_shown, layout_of, message_text, status_text, SeesAlso, AreKnownAlike}
use Rattle.std.proofs.Common.{◌↔◌, ◌<◌, zero, suc, Bool, true, false, Option, get_or, arith}
use Prim.Native.Char.{code}
use mathlib.Core.Bool.{beq}
use Rattle.acl.specs.declared.act.Object.TheVariants as object
use Rattle.regions.specs.Layouts.{Arrangement}
use Rattle.regions.specs.Shapes.{boxes, separators}
use Rattle.view.specs.Granted as view
use Rattle.session_model.specs.declared.event.StatusMessage.{StatusMessage}
use Rattle.session_model.specs.declared.event.StatusMessage.TheVariants as message
use Rattle.session_model.specs.Tables as model
use Rattle.session_view.specs.Sameness.{is_for_all}
use Rattle.session_view.proofs.Panes.{readable, hidden}

-- ---- views

abbrev page_of : Arrangement → ℕ → ℕ → view.Layout
page_of l rows columns = record {
  boxes = boxes l.shape (box_of rows columns);
  separators = separators l.shape (box_of rows columns);
  focus = l.focus;
  status = status_of rows columns;
}

abbrev said : Tables → model.Client → Option (List ℕ) → List ℕ
said t m o = elim o [ Some line ↦ code ":" ∷ line | None ↦ message_text t m m.message ]

said_to_all : (t : Tables) (m n : model.Client) (x : StatusMessage) → is_for_all x ≡ true
    → message_text t m x ≡ message_text t n x
said_to_all t m n message.Silence all = refl
said_to_all t m n (message.Text bytes) all = refl
said_to_all t m n message.AllWindows all = absurd (cc (all))
said_to_all t m n message.AllClients all = refl

pub see_alike : (t : Tables) (m n : model.Client) → AreKnownAlike t m n → SeesAlso t m n
see_alike t m n k =
    let layout : layout_of m ≡ layout_of n =
    ap (λ l. page_of l m.rows m.columns) k.layout
    ∙ (ap (λ r. page_of n.layout r m.columns) k.rows
    ∙ ap (λ c. page_of n.layout n.rows c) k.columns) in
    let parts : map (part_shown t m.user) m.layout.shown ≡ map (part_shown t n.user) n.layout.shown =
    k.shown ∙ ap (λ (l : Arrangement). map (part_shown t n.user) l.shown) k.layout in
    let status : status_text t m ≡ status_text t n =
    ap (said t m) k.closed
    ∙ (said_to_all t m n m.message k.messages.1
    ∙ (ap (message_text t n) k.messages.0
    ∙ sym (ap (said t n) k.others_closed))) in record {
      granted =
          ap (λ l. view.view_in l (map (part_shown t m.user) m.layout.shown) (status_text t m)) layout
          ∙ (ap (λ ps. view.view_in (layout_of n) ps (status_text t m)) parts
          ∙ ap (view.view_in (layout_of n) (map (part_shown t n.user) n.layout.shown)) status);
      rows = k.rows;
      columns = k.columns;
    }

-- ---- regions

-- a window's region shows two users the same if both may read the window, or neither may
pub by_rights : (t : Tables) (user other : UserId) (shown : Shown) (serial : ℕ) (w : model.Window)
    → shown.window ≡ Some serial → window_at t serial ≡ Some w → (p q : Bool)
    → p ≡ may_in t user Read (object.Window serial) → q ≡ may_in t other Read (object.Window serial)
    → (beq p q ≡ true) ↔ (part_shown t user shown ≡ part_shown t other shown)
by_rights t user other shown serial w at here true true may also = (
  (λ same. readable t user shown serial w at here (sym may)
      ∙ sym (readable t other shown serial w at here (sym also))),
  (λ same. refl),
)
by_rights t user other shown serial w at here false false may also = (
  (λ same. hidden t user shown serial w at here (sym may) ∙ sym (hidden t other shown serial w at here (sym also))),
  (λ same. refl),
)
by_rights t user other shown serial w at here true false may also = (
  (λ same. absurd (cc (same))),
  (λ same. absurd
      (cc
      (sym (readable t user shown serial w at here (sym may))
      ∙ (same ∙ hidden t other shown serial w at here (sym also))))),
)
by_rights t user other shown serial w at here false true may also = (
  (λ same. absurd (cc (same))),
  (λ same. absurd
      (cc
      (sym (hidden t user shown serial w at here (sym may))
      ∙ (same ∙ readable t other shown serial w at here (sym also))))),
)

-- regions, one after another
pub alike_more : {A B : Type 0} (f g : A → B) (xs : List A) (i : ℕ) (x d : A) → i < length xs → x ≡ get_or xs i d
    → f x ≡ g x
    → map f (take i xs) ≡ map g (take i xs) → map f (take (i + 1) xs) ≡ map g (take (i + 1) xs)
alike_more f g [] i x d lt at same before = absurd (omega arith)
alike_more f g (y ∷ ys) zero x d lt at same before = ap (λ z. z ∷ []) (sym (ap f at) ∙ (same ∙ ap g at))
alike_more f g (y ∷ ys) (suc i) x d lt at same before =
    let first : f y ≡ g y = cc (before) in
    let rest : map f (take i ys) ≡ map g (take i ys) = cc (before) in
    let more = alike_more f g ys i x d (omega arith) at same rest in
    let n : suc i + 1 ≡ suc (i + 1) = omega arith in
    subst (λ k. map f (take k (y ∷ ys)) ≡ map g (take k (y ∷ ys))) (sym n)
    (ap (λ z. z ∷ map f (take (i + 1) ys)) first ∙ ap (λ zs. g y ∷ zs) more)

pub alike_each : {A B : Type 0} (f g : A → B) (xs : List A) (i : ℕ) (x d : A) → i < length xs → x ≡ get_or xs i d
    → map f xs ≡ map g xs → f x ≡ g x
alike_each f g [] i x d lt at all = absurd (omega arith)
alike_each f g (y ∷ ys) zero x d lt at all = let first : f y ≡ g y = cc (all) in ap f at ∙ (first ∙ sym (ap g at))
alike_each f g (y ∷ ys) (suc i) x d lt at all = let rest : map f ys ≡ map g ys = cc (all) in alike_each f g ys i x d
    (omega arith) at rest
