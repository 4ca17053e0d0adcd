-- Bytes that are added for a browser.
use Rattle.std.proofs.Common.{◌≡◌, ℕ, List, [], ◌++◌, Option, None, Some, Result, Ok, Err, OnOk, sym, ap, ◌∙◌}
use Rattle.std.proofs.Common.{append_assoc, append-nil, inl, inr, length, ◌||◌, subst}
use Rattle.std.specs.Int.{w64, to_be_bytes}
use Rattle.terminal_model.specs.Reading.{Terminal}
use Rattle.emulator.specs.Standing.{StandsFor}
use Rattle.web_page.specs.Laying.{Shown, page_of}
use Rattle.websocket.specs.declared.error.Error.{Error}
use Rattle.websocket.specs.declared.protocol.config.Role.{Role}
use Rattle.websocket.specs.declared.protocol.frame.coding.OpCode.TheVariants as code
use Rattle.websocket.specs.declared.protocol.frame.coding.Data.TheVariants.{Text}
use Rattle.websocket.specs.declared.protocol.frame.coding.Control.TheVariants.{Ping}
use Rattle.websocket.specs.Connection.{Connection, Effect, Outgoing, Sends}
use Rattle.websocket.specs.View.{Leaves}
use Rattle.web_client.specs.declared.wire.SentPage.{SentPage}
use Rattle.web_client.specs.declared.wire.Wire.{Wire}
use Rattle.web_page.specs.Hearing.{WebDisplay}
use Rattle.web_page.specs.Updates.{spelled}
use Rattle.attach_proto.specs.declared.why.Told.{Told}
use Rattle.attach_proto.specs.declared.why.Why.{Why}
use Rattle.web_client.specs.Rows.{SendsText, Asks, Adds, IsAsFar, IsUpToDate, SendsPage, Shows, counted}
use Rattle.web_client.specs.Rows.{MaySendRows, Welcomes, Explains, Ends, TellsLast, SendsAll, gone}

-- what a reply adds
pub adds : (role : Role) (reply : Option Outgoing) (old new : List ℕ) → Sends role reply old new
    → (more : List ℕ) × (new ≡ old ++ more)
adds role None old new h = ([], h ∙ sym (append-nil old))
adds role (Some frame) old new h = (_, h.2)

pub leaves_adds : (r : Result Effect Error) (conn : Connection) (old new : List ℕ) → Leaves r conn old new
    → (more : List ℕ) × (new ≡ old ++ more)
leaves_adds (Err e) conn old new h = absurd h
leaves_adds (Ok effect) conn old new h = adds conn.role effect.reply old new h.1

pub text_adds : (text : List ℕ) (old new : Wire) → SendsText text old new → Adds old new
text_adds text old new h =
    adds old.context.role (Some (record { opcode = code.Data Text; payload = text })) old.output.items
    new.output.items h.frame

pub same_adds : (old new : Wire) → new ≡ old → Adds old new
same_adds old new e = ([], ap (λ (w : Wire). w.output.items) e ∙ sym (append-nil old.output.items))

pub both_add : (a b c : Wire) → Adds a b → Adds b c → Adds a c
both_add a b c h k = (
  h.0 ++ k.0,
  k.1 ∙ ap (λ (l : List ℕ). l ++ k.0) h.1 ∙ append_assoc a.output.items h.0 k.0,
)

-- rows that were sent between other bytes
pub shows : {A E : Type 0} (result : Result A E) (old : WebDisplay) (since : ℕ) (before v w : Wire) (new : WebDisplay)
    (later : ℕ) (after : Wire) → Adds before v → OnOk result (Adds w after)
    → ((t : Terminal) (b : Shown) → StandsFor old.sheet.terminal t → IsAsFar since old.sheet b
    → SendsPage t b v w × StandsFor new.sheet.terminal t × IsUpToDate later new.sheet (page_of t.screen))
    → OnOk result (Shows old since before new later after)
shows (Ok x) old since before v w new later after h k f = λ t b s a.
    let sent = f t b s a in (v, w, h, sent.0, k, sent.1, sent.2)
shows (Err e) old since before v w new later after h k f = tt

pub then_adds : {A E : Type 0} (r : Result A E) (a b c : Wire) → Adds a b → OnOk r (Adds b c) → OnOk r (Adds a c)
then_adds (Ok u) a b c h k = both_add a b c h k
then_adds (Err e) a b c h k = tt

asks_add : (n : ℕ) (old new : Wire) → Asks (counted n old) new → Adds old new
asks_add n old new h =
    adds old.context.role
    (Some (record { opcode = code.Control Ping; payload = to_be_bytes w64 (counted n old).sent })) old.output.items
    new.output.items h.frame

pub rows_add : (old new : Wire) → MaySendRows old new → Adds old new
rows_add old new h =
    elim h [
      | inl e ↦ same_adds old new e
      | inr s ↦ both_add old s.1 new (text_adds (spelled s.0) old s.1 s.2) (asks_add (length (spelled s.0)) s.1 new s.3)
    ]

-- that it is let in, rows, and the end, one after another
pub then_all : {A E : Type 0} (r : Result A E) (told : Told) (before after : SentPage) (old v w new : Wire)
    → Welcomes told.is_welcome before.is_welcomed old v
    → after.is_welcomed ≡ (told.is_welcome || before.is_welcomed) → MaySendRows v w
    → OnOk r (Ends told.refusal told.gone w new) → OnOk r (SendsAll told before after old new)
then_all (Ok u) told before after old v w new h o k e =
    record { let_in = v; welcomes = h; once = o; shown = w; shows = k; ends = e }
then_all (Err u) told before after old v w new h o k e = tt

pub on_ok : {A E : Type 0} (r : Result A E) (P : Type 0) → P → OnOk r P
on_ok (Ok u) P h = h
on_ok (Err e) P h = tt

pub then_same : {A E : Type 0} (r : Result A E) (a b c : ℕ) → b ≡ a → c ≡ b → OnOk r (c ≡ a)
then_same (Ok u) a b c h k = k ∙ h
then_same (Err e) a b c h k = tt

pub ends : {A E : Type 0} (r : Result A E) (refusal : Option (List ℕ)) (told : Option Why) (why : Why)
    (old v new : Wire) → told ≡ Some why → Explains refusal old v → OnOk r (TellsLast (gone why) v new)
    → OnOk r (Ends refusal told old new)
ends (Ok u) refusal told why old v new e h k =
    subst (λ (g : Option Why). Ends refusal g old new) (sym e) (v, h, k)
ends (Err u) refusal told why old v new e h k = tt

-- a text of five pieces
pub five : (a b c d e v w x y z : List ℕ) → v ≡ a → w ≡ v ++ b → x ≡ w ++ c → y ≡ x ++ d → z ≡ y ++ e
    → z ≡ a ++ b ++ c ++ d ++ e
five a b c d e v w x y z p q r s t =
    let two : w ≡ a ++ b = q ∙ ap (λ (l : List ℕ). l ++ b) p in
    let three : x ≡ a ++ b ++ c = r ∙ ap (λ (l : List ℕ). l ++ c) two in
    let four : y ≡ a ++ b ++ c ++ d = s ∙ ap (λ (l : List ℕ). l ++ d) three in
    t ∙ ap (λ (l : List ℕ). l ++ e) four
