-- A line is spelled by one name and one token.
use Rattle.std.proofs.Common.{◌≡◌, ℕ, Bool, true, false, ◌&&◌, ◌==◌, List, [], ◌∷◌, ◌++◌, length, take, drop, refl}
use Rattle.std.proofs.Common.{sym, ◌∙◌, ap, arith, append_assoc, length-append}
use Rattle.std.specs.List.{list_all}
use Rattle.std.proofs.lemmas.Bool.{eqb-true}
use Rattle.std.proofs.lemmas.List.{drop_at, take_at}
use Rattle.attach_proto.specs.Texts.{is_digit}
use Rattle.server_users.specs.Entries.{Entry, IsUser, spelled}

-- equal lists whose ends have the same length are cut at the same place
cut_same : (xs ys zs ws : List ℕ) → xs ++ ys ≡ zs ++ ws → length ys ≡ length ws
    → (xs ≡ zs) × (ys ≡ ws)
cut_same xs ys zs ws e n =
    let m : length xs ≡ length zs = omega
    (arith, length-append xs ys, length-append zs ws, ap length e) in (
      sym (take_at xs ys (length xs) refl) ∙ (ap (take (length xs)) e
          ∙ take_at zs ws (length xs) (sym m)),
      sym (drop_at xs ys (length xs) refl) ∙ (ap (drop (length xs)) e
          ∙ drop_at zs ws (length xs) (sym m)),
    )

left_true : (a b : Bool) → (a && b) ≡ true → a ≡ true
left_true true b e = refl
left_true false b e = e

digits_of : (u : Entry) → IsUser u → length u.token ≡ 64
digits_of u is = eqb-true (length u.token) 64 (left_true (length u.token == 64)
    (list_all is_digit u.token) is.token)

pub parts : (u : Entry) (front digits name : List ℕ) (b : ℕ) → IsUser u
    → spelled u ≡ front ++ digits → length digits ≡ 64 → front ≡ name ++ b ∷ []
    → (u.name ≡ name) × (u.token ≡ digits)
parts u front digits name b is e n f =
    let w : (u.name ++ 0x20 ∷ []) ++ u.token ≡ front ++ digits = append_assoc u.name
    (0x20 ∷ []) u.token ∙ e in
    let both : ((u.name ++ 0x20 ∷ []) ≡ front) × (u.token ≡ digits) = cut_same
    (u.name ++ 0x20 ∷ []) u.token front digits w (digits_of u is ∙ sym n) in
    ((cut_same u.name (0x20 ∷ []) name (b ∷ []) (both.0 ∙ f) refl).0, both.1)

pub one_name : (u v : Entry) → IsUser u → IsUser v → spelled u ≡ spelled v → u.name ≡ v.name
one_name u v is too e = (parts u (v.name ++ 0x20 ∷ []) v.token v.name 0x20 is (e
    ∙ sym (append_assoc v.name (0x20 ∷ []) v.token)) (digits_of v too) refl).0
