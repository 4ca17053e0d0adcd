-- What is sent of the input, and what has read it.
use Rattle.std.proofs.Common.{◌≡◌, ◌==◌, ◌↔◌, ℕ, Bool, true, false, IsTrue, if◌then◌else◌, List, [], ◌∷◌, ◌++◌, Result}
use Rattle.std.proofs.Common.{Ok, Err, Some, refl, sym, ap, ◌∙◌, subst, append-nil, arith, suc}
use Rattle.std.specs.Prelude.{OnOk}
use Rattle.std.proofs.lemmas.Bool.{false_from_ne_true, eqb-true, eq-eqb, ne_eqb}
use Rattle.keys.specs.Grammar.{Rest, nothing, command_key, prompt, Item, typed, rest_step, key_items, line_items}
use Rattle.keys.specs.Grammar.{stays, line_after_key, colon}
use Rattle.client_typing.specs.Fitting.{awaits_key}
use Rattle.client_words.specs.declared.leaving.InputStage.{InputStage}
use Rattle.client_words.specs.declared.leaving.InputStage.TheVariants.{Reading, Waiting, Left}
use Rattle.client_words.specs.declared.leaving.LeaveReader.{LeaveReader}
use Rattle.client_words.specs.Leaving.{sent, stage}
use Rattle.client_words.specs.Stands.{HasRead}
use Rattle.client_typing.specs.Following.{LetsThrough}

pub let-through : {T E : Type 0} (r : Result T E) (reader after : LeaveReader) (input out new : List ℕ) → out ≡ []
    → ((before : List ℕ) → HasRead reader before → OnOk r (HasRead after (before ++ input)))
    → ((before gone : List ℕ) → HasRead reader before → gone ++ out ≡ sent reader.byte before
    → OnOk r (gone ++ new ≡ sent reader.byte (before ++ input)))
    → OnOk r (LetsThrough (Some reader) input new (Some after))
let-through (Ok x) reader after input out new none stands sends = λ before h.
    let front : List ℕ = sent reader.byte before in
    (stands before h, sym (sends before front h (ap (λ (l : List ℕ). front ++ l) none ∙ append-nil front)))
let-through (Err e) reader after input out new none stands sends = tt

stage-none : (byte : ℕ) → stage byte [] ≡ Reading
unfolding stage
stage-none byte = refl

stage-one : (byte : ℕ) → stage byte (byte ∷ []) ≡ Waiting
unfolding stage
stage-one byte = ap (λ (b : Bool). if b then Waiting else Reading) (eq-eqb byte byte refl)

stage-two : (byte : ℕ) → stage byte (byte ∷ suc byte ∷ []) ≡ Left
unfolding stage
stage-two byte =
    ap (λ (b : Bool). if b then (if suc byte == byte then stage byte [] else Left) else stage byte (suc byte ∷ []))
    (eq-eqb byte byte refl)
    ∙ ap (λ (b : Bool). if b then stage byte [] else Left) (ne_eqb (suc byte) byte (λ e. omega (arith, e)))

-- what is the stage after whatever a reader may have read is its own
pub stage-is : (r : LeaveReader) (s : InputStage)
    → ((bytes : List ℕ) → HasRead r bytes → s ≡ stage r.byte bytes) → s ≡ r.stage
stage-is r s h = go r.stage refl
  where
    go : (x : InputStage) → r.stage ≡ x → s ≡ x
    go Reading e = h [] (record { stage = e ∙ sym (stage-none r.byte) }) ∙ stage-none r.byte
    go Waiting e = h (r.byte ∷ []) (record { stage = e ∙ sym (stage-one r.byte) }) ∙ stage-one r.byte
    go Left e = h (r.byte ∷ suc r.byte ∷ []) (record { stage = e ∙ sym (stage-two r.byte) }) ∙ stage-two r.byte

-- ---- the command key, and the key after it

pub after-second : (k : ℕ) → awaits_key (rest_step command_key k).1 ≡ false
after-second k =
    let s : Bool → List Item × Rest = λ v. if v then ([], prompt []) else (key_items k, nothing) in
    elim (k == colon) as (λ v. awaits_key (s v).1 ≡ false) [ true ↦ refl | false ↦ refl ]

pub within : (bytes : List ℕ) (k : ℕ) → awaits_key (rest_step (prompt bytes) k).1 ≡ false
within bytes k =
    let s : Bool → List Item × Rest =
    λ v. if v then ([], prompt (line_after_key bytes k)) else (line_items bytes k, nothing) in
    elim (stays k) as (λ v. awaits_key (s v).1 ≡ false) [ true ↦ refl | false ↦ refl ]

pub awaits-other : (r : Rest) (k : ℕ) → (k ≡ 1 → ⊥) → awaits_key (rest_step r k).1 ≡ false
awaits-other nothing k other =
    let s : Bool → List Item × Rest = λ v. if v then ([], command_key) else (typed k ∷ [], nothing) in
    ap (λ (v : Bool). awaits_key (s v).1) (false_from_ne_true (k == 1) (λ t. other (eqb-true k 1 t)))
awaits-other command_key k other = after-second k
awaits-other (prompt bytes) k other = within bytes k

second : (r : Rest) (rests : Bool) → IsTrue rests ↔ (r ≡ nothing) → rests ≡ awaits_key (rest_step r 1).1
second nothing rests h = h.1 refl
second command_key rests h =
    false_from_ne_true rests (λ t. let e : command_key ≡ nothing = h.0 t in cc)
second (prompt bytes) rests h =
    false_from_ne_true rests (λ t. let e : prompt bytes ≡ nothing = h.0 t in cc) ∙ sym (within bytes 1)

pub awaits-second : (r : Rest) (k : ℕ) (rests : Bool) → k ≡ 1 → IsTrue rests ↔ (r ≡ nothing)
    → rests ≡ awaits_key (rest_step r k).1
awaits-second r k rests is h =
    subst (λ (n : ℕ). rests ≡ awaits_key (rest_step r n).1) (sym is) (second r rests h)
