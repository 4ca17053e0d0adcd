-- The effects made client by client are those of the model's table.
use Rattle.session_state.proofs.Vocabulary.{◌≡◌, ℕ, ◌+◌, ◌<◌, ◌≤◌, List, [], ◌∷◌, ◌++◌, length, map, take, get_or, ap}
use Rattle.session_state.proofs.Vocabulary.{sym, ◌∙◌, map_more, take_all, mapped_match, Client, said, ClientStands}
use Rattle.session_state.proofs.Vocabulary.{AreClients}
use Rattle.session_model.specs.declared.event.Effect.{Effect}
use Rattle.session_model.specs.declared.event.Effect.TheVariants.{Say}
use Rattle.session_model.specs.Tables as model

pub said_more : (text bytes : List ℕ) (cs : List Client) (i : ℕ) (c : Client)
    (made new : List Effect) → i < length cs → c ≡ get_or cs i c → bytes ≡ text
    → made ≡ map (said text) (take i cs) → new ≡ made ++ Say c.serial bytes ∷ []
    → new ≡ map (said text) (take (i + 1) cs)
said_more text bytes cs i c made new inside here is before now =
    now
    ∙ (ap (λ (xs : List Effect). xs ++ Say c.serial bytes ∷ []) before
    ∙ (ap (λ (bs : List ℕ). map (said text) (take i cs) ++ Say c.serial bs ∷ []) is
    ∙ (ap (λ (d : Client). map (said text) (take i cs) ++ said text d ∷ []) here
    ∙ sym (map_more (said text) cs i c inside))))

pub said_all : (text : List ℕ) (rows : List model.Client) (clients items : List Client)
    (made : List Effect) (i : ℕ) → AreClients rows clients → items ≡ clients → length items ≤ i
    → made ≡ map (said text) (take i items)
    → made ≡ map (λ (m : model.Client). Say m.serial text) rows
said_all text rows clients items made i are same past is =
    is
    ∙ (ap (map (said text)) (take_all i items past ∙ same)
    ∙ mapped_match ClientStands (λ (m : model.Client). Say m.serial text) (said text)
    (λ m c st. ap (λ n. Say n text) st.serial_is) rows clients are)
