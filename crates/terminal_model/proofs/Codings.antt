-- Which functions print nothing and leave the coding as it is.
use Rattle.terminal_model.proofs.Vocabulary.{◌≡◌, ℕ, Bool, true, false, List, [], ◌∷◌, Option, refl, arith, ◌==◌}
use Rattle.terminal_model.proofs.Vocabulary.{list_all, Utf8, Func, Action, Screen, actions_of, plain_sequence}
use Rattle.terminal_model.proofs.Vocabulary.{private_sequence, each, rendered, private_mode_set, acted_from, acted}
use Rattle.terminal_model.proofs.Vocabulary.{all_acted, effect}
use Rattle.control_parser.specs.declared.parser.Func.TheVariants as funcs
use Rattle.terminal_model.specs.declared.action.Action.TheVariants as acts
use Rattle.terminal_model.specs.Functions.{intermediate_action, sequence_actions, alone, mode_set}

-- an action that neither prints nor sets the coding
abbrev pub is_ordinary : Action → Bool
is_ordinary (acts.Print u) = false
is_ordinary (acts.SetCoding coding) = false
is_ordinary _ = true

abbrev pub are_ordinary : List Action → Bool
are_ordinary = list_all is_ordinary

acted-coding : (x : Screen) (a : Action) → is_ordinary a ≡ true → (acted x a).state.coding ≡ x.state.coding
unfolding acted_from
acted-coding x a h = grind arith

all_acted-coding : (x : Screen) (actions : List Action) → are_ordinary actions ≡ true
    → (all_acted x actions).state.coding ≡ x.state.coding
all_acted-coding x [] h = refl
all_acted-coding x (a ∷ later) h = grind (arith, acted-coding x a, all_acted-coding (acted x a) later)

-- the actions of functions

each-ordinary : (meaning : ℕ → Option Action) → ((n : ℕ) → are_ordinary (alone (meaning n)) ≡ true) → (values : List ℕ)
    → are_ordinary (each meaning values) ≡ true
each-ordinary meaning h [] = refl
each-ordinary meaning h (v ∷ values) = grind (arith, h v, each-ordinary meaning h values)

each-rendered : (values : List ℕ) → are_ordinary (each rendered values) ≡ true
each-rendered = each-ordinary rendered (λ n. grind arith)

each-mode : (on : Bool) (values : List ℕ) → are_ordinary (each (mode_set on) values) ≡ true
each-mode on = each-ordinary (mode_set on) (λ n. grind arith)

each-private : (on : Bool) (values : List ℕ) → are_ordinary (each (private_mode_set on) values) ≡ true
each-private on = each-ordinary (private_mode_set on) (λ n. grind arith)

sequence-ordinary : (mark : Option ℕ) (params intermediates : List ℕ) (last : ℕ)
    → are_ordinary (sequence_actions mark params intermediates last) ≡ true
unfolding plain_sequence private_sequence
sequence-ordinary mark params intermediates last = grind (arith, each-rendered, each-mode, each-private)

-- with ESC, one intermediate and a final byte, only ESC % G and ESC % @ set the coding
pub between-ordinary : (i last : ℕ) → (i == 0x25) ≡ false → are_ordinary (alone (intermediate_action i last)) ≡ true
between-ordinary i last h = grind arith

-- only a function that prints, or an escape sequence with one intermediate, can do anything else
abbrev pub is_designating : Func → Bool
is_designating (funcs.Esc (i ∷ []) last) = true
is_designating f = false

abbrev pub is_printing : Func → Bool
is_printing (funcs.Print c) = true
is_printing (funcs.High b) = true
is_printing f = false

pub func-ordinary : (f : Func) → is_designating f ≡ false → is_printing f ≡ false → are_ordinary (actions_of f) ≡ true
func-ordinary f h k = grind (arith, sequence-ordinary)

printed-coding : (x : Screen) (f : Func) → is_printing f ≡ true → (effect x f).state.coding ≡ x.state.coding
unfolding acted_from
printed-coding x f h = grind arith

pub effect-coding : (x : Screen) (f : Func) → is_designating f ≡ false → (effect x f).state.coding ≡ x.state.coding
effect-coding x f h = grind (arith, printed-coding, all_acted-coding, func-ordinary)

pub escape-coding : (x : Screen) (i last : ℕ) → (i == 0x25) ≡ false
    → (effect x (funcs.Esc (i ∷ []) last)).state.coding ≡ x.state.coding
escape-coding x i last h = grind (arith, all_acted-coding, between-ordinary)

pub other-coding : (x : Screen) (last : ℕ) → (last == 0x47) ≡ false → (last == 0x40) ≡ false
    → (effect x (funcs.Esc (0x25 ∷ []) last)).state.coding ≡ x.state.coding
other-coding x last h k = grind arith

pub utf8-coding : (x : Screen) → (effect x (funcs.Esc (0x25 ∷ []) 0x47)).state.coding ≡ Utf8
unfolding acted_from
utf8-coding x = refl
