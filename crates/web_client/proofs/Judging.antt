-- Why a client fails, and so why a message is refused.
use Rattle.std.proofs.Common.{◌≡◌, ℕ, ◌≤◌, Bool, true, false, ◌&&◌, ◌==◌, if◌then◌else◌, List, length, drop, Some, None}
use Rattle.std.proofs.Common.{Err, arith, length-drop, length-append, refl, sym, subst}
use Rattle.std.specs.List.{list_all}
use Rattle.attach_proto.specs.declared.message.Message.TheVariants.{Attach}
use Rattle.attach_proto.specs.Spelling.{IsSpellable}
use Rattle.attach_proto.specs.Texts.{token_of, is_token, is_digit, IsToken, IsText}
use Rattle.web_page.specs.declared.display.ClientFault.{ClientFault}
use Rattle.web_page.specs.declared.display.ClientFault.TheVariants as client
use Rattle.web_client.specs.Judging.{FailsFor, IsJudged, fault_of}

pub weaker : (P Q : Type 0) (e : ClientFault) → (Q → P) → FailsFor P e → FailsFor Q e
weaker P Q client.NoMemory f h = tt
weaker P Q client.Unspellable f h = λ q. h (f q)
weaker P Q client.BadFrame f h = h

-- of a message that is allowed, and that a frame spells, only memory can be refused
pub judged : (A : Type 0) (Said Allowed : Type 0) (e : ClientFault) → Said → Allowed → FailsFor Said e
    → IsJudged {A = A} Allowed (Err (fault_of e))
judged A Said Allowed client.NoMemory s a h = a
judged A Said Allowed client.Unspellable s a h = absurd (h s)
judged A Said Allowed client.BadFrame s a h = absurd h

first : (a b : Bool) → (a && b) ≡ true → a ≡ true
first true b e = refl
first false b e = cc

-- a token has 64 digits
pub token_length : (token : List ℕ) → IsToken token → length token ≡ 64
token_length token e =
    let is : (length token == 64) ≡ true = first (length token == 64) (list_all is_digit token) e in
    grind arith

pub attach_fails : (rows columns : ℕ) (token text name : List ℕ) (e : ClientFault) → IsToken token → IsText text
    → text ≡ name → FailsFor (IsSpellable (Attach rows columns token text)) e
    → FailsFor (length name ≤ 8124) e
attach_fails rows columns token text name e d u n h =
    weaker (IsSpellable (Attach rows columns token text)) (length name ≤ 8124) e
    (λ l. record {
      fields = (d, u);
      short =
          let k = token_length token d in
          let m : length text ≤ 8124 = subst (λ (t : List ℕ). length t ≤ 8124) (sym n) l in
          omega (arith, k, m, length-append token text);
    }) h

chosen : (is : Bool) (bytes token : List ℕ) → Some token ≡ (if is then Some bytes else None) → is ≡ true
chosen true bytes token e = refl
chosen false bytes token e = cc

-- what a token is read from is one
pub digits : (bytes token : List ℕ) → Some token ≡ token_of bytes → IsToken bytes
digits bytes token e = chosen (is_token bytes) bytes token e

-- what comes after a size and a token is short
pub name_fits : (payload name : List ℕ) → name ≡ drop 68 payload → length payload ≤ 8192 → length name ≤ 8124
name_fits payload name e l =
    subst (λ (t : List ℕ). length t ≤ 8124) (sym e) (omega (arith, l, length-drop 68 payload))
