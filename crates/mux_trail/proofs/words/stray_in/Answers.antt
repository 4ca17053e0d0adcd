use Rattle.std.proofs.Common.{◌≡◌, ◌&&◌, ◌∙◌, ◌∷◌, [], ℕ, Bool, List, None, Option, Some, ap, lit<, refl, rules, sym}
use Rattle.std.proofs.Common.{tests, true}
use Rattle.std.proofs.lemmas.Iterator.Search.{find_from_yields_List}
use Rattle.std.proofs.lemmas.Iterator.Splits.{YieldsList-from_str_split}
use Rattle.std.specs.List.{list_all}
use Rattle.std.specs.Prelude.{find, if◌then◌else◌, is_none, is_some, option_map}
use Rattle.acl.specs.Names.{named_by}
use Rattle.acl.specs.declared.user_id.UserId.{UserId}
use Rattle.line_fields.specs.Cutting.{words}
use Rattle.line_fields.specs.Parts.{comma}
use Rattle.mux_trail.proofs.words.stray_in.Goals as goal

one_named : (o : Option UserId) (name : List ℕ) (stray : Option (List ℕ)) (all : Bool)
    → (if is_none o then Some name else stray) ≡ None → (stray ≡ None → all ≡ true) → (is_some o && all) ≡ true
one_named None name stray all none more = cc
one_named (Some u) name stray all none more = more none

-- if none is found that names no user, each names one
all_named : (names : List (List ℕ)) → find (λ k. is_none (named_by k)) names ≡ None
    → list_all (λ k. is_some (named_by k)) names ≡ true
all_named [] none = refl
all_named (name ∷ names) none =
    one_named (named_by name) name (find (λ k. is_none (named_by k)) names) _ none (all_named names)

pub returns : goal.returns
returns c = λ none.
    let found = find_from_yields_List (λ k. is_none (named_by k)) _ _ c.find.result c.find.ensures.ran
    (YieldsList-from_str_split comma c.args.names.now (lit< tt) c.split.ensures.text c.split.ensures.has_more
    c.split.ensures.pattern) (λ x b q k. search (rules, tests)) in
    all_named (words comma c.args.names.now) (sym found ∙ ap (option_map (λ x. x.now)) none)
