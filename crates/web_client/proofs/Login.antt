-- The client of a browser that says who it is.
use Rattle.std.proofs.Common.{◌≡◌, ℕ, ◌-◌, Bool, true, false, if◌then◌else◌, List, length, take, drop, Some, None}
use Rattle.std.proofs.Common.{arith, length-drop, ap, ◌∙◌, subst}
use Rattle.std.proofs.lemmas.List.{take_all}
use Rattle.attach_proto.specs.declared.message.Message.TheVariants.{Attach}
use Rattle.attach_proto.specs.Spelling.{spelling}
use Rattle.attach_proto.specs.Texts.{token_of, is_token}
use Rattle.web_client.specs.declared.client.WebClient.{WebClient}
use Rattle.web_page.specs.Hearing.{IsBlank}
use Rattle.web_client.specs.Asking.{lines_in, columns_in, IsLogin}

chosen : (is : Bool) (bytes token : List ℕ) → Some token ≡ (if is then Some bytes else None) → token ≡ bytes
chosen true bytes token e = cc
chosen false bytes token e = cc

-- all bytes from a place on
pub rest_is : (n : ℕ) (l : List ℕ) → take (length l - n) (drop n l) ≡ drop n l
rest_is n l = take_all (length l - n) (drop n l) (omega (arith, length-drop n l))

-- a token that was read is its digits
pub read_token : (bytes token : List ℕ) → Some token ≡ token_of bytes → token ≡ bytes
read_token bytes token e = chosen (is_token bytes) bytes token e

pub login : (payload : List ℕ) (rows columns : ℕ) (token name : List ℕ) (c : WebClient) → rows ≡ lines_in payload
    → columns ≡ columns_in payload → token ≡ take 64 (drop 4 payload) → name ≡ drop 68 payload
    → c.outgoing ≡ spelling (Attach rows columns token name) → IsBlank rows columns name c.display
    → IsLogin payload c
login payload rows columns token name c r k t n e h = record {
  asked =
      e
      ∙ ap (λ (x : ℕ). spelling (Attach x columns token name)) r
      ∙ ap (λ (x : ℕ). spelling (Attach (lines_in payload) x token name)) k
      ∙ ap (λ (x : List ℕ). spelling (Attach (lines_in payload) (columns_in payload) x name)) t
      ∙ ap (λ (x : List ℕ). spelling (Attach (lines_in payload) (columns_in payload) (take 64 (drop 4 payload)) x)) n;
  shown =
      subst (λ (x : List ℕ). IsBlank (lines_in payload) (columns_in payload) x c.display) n
      (subst (λ (x : ℕ). IsBlank (lines_in payload) x name c.display) k
      (subst (λ (x : ℕ). IsBlank x columns name c.display) r h));
}
