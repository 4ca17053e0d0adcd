use Rattle.trail_rights.proofs.Vocabulary.{◌≡◌, ◌∙◌, ◌++◌, [], List, Result, Ok, Err, ap, append_assoc, map, subst, sym}
use Rattle.trail_rights.proofs.Vocabulary.{UserId, RightsSetting, AllByRecursion, flat_map, HasSettled, masks_of}
use Rattle.trail_rights.proofs.Vocabulary.{setting_by}
use Rattle.trail_rights.proofs.Settled.{first_settled, first_sought}
use Rattle.std.specs.Prelude.{IfOk}
use Rattle.acl.specs.declared.act.PresetKind.TheVariants as kind
use Rattle.trail_rights.specs.Masking.{presets_of, settings_of}
use Rattle.trail_rights.specs.declared.settler.RightsSetting.TheVariants as setting
use Rattle.trail_rights.proofs.masks.settings_of.Goals as goal

if_so : {T E : Type 0} {P Q : T → Type 0} (r : Result T E) → IfOk r P → ((x : T) → P x → Q x) → IfOk r Q
if_so (Ok x) is then = then x is
if_so (Err e) is then = tt

gathered : (users : List UserId) (a b c d e : List RightsSetting) → a ≡ [] → b ≡ a ++ map setting.Listed users
    → c ≡ b ++ flat_map (masks_of users) users → d ≡ c ++ presets_of kind.Windows → e ≡ d ++ presets_of kind.Commands
    → e ≡ settings_of users
gathered users a b c d e none first second third fourth =
    let known = map setting.Listed users in
    let masks = flat_map (masks_of users) users in
    let windows = presets_of kind.Windows in
    let commands = presets_of kind.Commands in
    fourth ∙ (ap (λ l. l ++ commands)
    (third ∙ ap (λ l. l ++ windows) (second ∙ ap (λ l. l ++ masks) (first ∙ ap (λ l. l ++ known) none)))
    ∙ (append_assoc (known ++ masks) windows commands ∙ append_assoc known masks (windows ++ commands)))

pub returns-clause-sought : goal.returns-clause-sought
returns-clause-sought c =
    let all : c.as_slice.result.now ≡ settings_of c.args.users.now = c.as_slice.ensures.value
    ∙ gathered c.args.users.now _ _ _ _ _ c.new-settings.ensures.items c.in_ok-push_listed.ensures
    c.in_ok-push_each_masks.ensures c.in_ok-push_presets.ensures c.in_ok-push_presets-2.ensures in
    if_so c.settlers_of.result c.settlers_of.ensures
    (λ settlers are. ap (map setting_by) are ∙ (first_sought c.as_slice.result.now ∙ all))

pub returns-clause-settled : goal.returns-clause-settled
returns-clause-settled c = if_so c.settlers_of.result c.settlers_of.ensures
    (λ settlers are. subst (AllByRecursion (HasSettled [])) (sym are) (first_settled c.as_slice.result.now))
